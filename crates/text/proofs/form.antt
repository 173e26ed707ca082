-- Laws of the loop that fills a form in.
pub mod Filled
