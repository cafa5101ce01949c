pub mod FaultNames
