-- What the core answers to a record, what the record says of it, and how that is counted.
pub mod AsTold
pub mod Window
pub mod Told
pub mod Replay
