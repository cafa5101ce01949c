-- What the two pictures show with one more set or loss.
pub mod Turns
-- What is shown before the time of the set that is ready.
pub mod Views
-- What the picture of the last kept set shows, drawn or not, with one more set or loss.
pub mod Lasts
-- What a receiver that draws what it is asked for stands for.
pub mod Asks
