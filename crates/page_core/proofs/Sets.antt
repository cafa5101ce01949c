-- The segments of a set in their order, the tests of a set, and a set that is taken up to its objects.
pub mod Defining
pub mod Fronts
pub mod Orders
pub mod QuietSteps
pub mod Scanning
pub mod NextContents
pub mod SetLaws
pub mod TestsInOrder
pub mod SetOrder
pub mod DisplaySteps
pub mod SetsTaken
