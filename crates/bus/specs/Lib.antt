-- What the bus states: the code's memory and what an access leaves, the bytes that interrupts stand in, and what a part of the code leads to.
pub mod World
pub mod Requests
pub mod Leads
