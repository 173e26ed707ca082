-- What executing an instruction states: the code's own shape as accesses, which rows can be run, and the structs that it answers in.
pub mod Mirror
pub mod Runnable
pub mod Worked
pub mod Unless
