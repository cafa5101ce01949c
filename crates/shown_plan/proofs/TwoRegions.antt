-- Two receivers of the sets of a plan that differ in a region that the page does not list.
pub mod Example
pub mod ExamplePlan
pub mod ExampleSets
pub mod ExampleDiffers
