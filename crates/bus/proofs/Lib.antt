-- Laws of the bus: one access, the interrupt that is taken, bytes, the parts that accesses make, how parts are put together, and every memory that the code's follows.
pub mod Accesses
pub mod Taking
pub mod Bytes
pub mod Leading
pub mod Parts
pub mod Following
