-- Laws of a marked window: the scan.
pub mod Scanning
