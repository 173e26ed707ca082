-- What a record of the stored sample says, and what of it is counted.
pub mod Bytes
pub mod Record
pub mod Front
pub mod Notes
