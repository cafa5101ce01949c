-- Runs of planned sets: the picture that is shown is the authored one, and the page memory holds the script.
pub mod Painted
pub mod ColourRows
pub mod SentColours
pub mod Runs
pub mod StillPictures
pub mod Holds
pub mod Colours
pub mod Pictures
pub mod InTime
