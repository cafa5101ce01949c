-- What a set that is ready asks.
pub mod Loads
-- Sets that are taken, and losses, are read one by one.
pub mod TakenSets
-- What the receiver stands for once a set was taken.
pub mod Takes
-- What was taken from the receiver, as it is read.
pub mod PastLaws
