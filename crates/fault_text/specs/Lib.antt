pub mod SetFaults
pub mod FaultText
pub mod Faulting
