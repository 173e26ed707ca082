-- Laws of writing to a page.
pub mod Written
