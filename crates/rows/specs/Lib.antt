-- What a row of the document says, and the rows.
pub mod Claim
pub mod Rows
