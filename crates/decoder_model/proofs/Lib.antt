pub mod Lists
mod UsualEncoder
pub mod Searches
pub mod TakenLaws
pub mod TakenSets
pub mod IdleSegments
pub mod Epochs
pub mod SameEpochs
pub mod MovedSets
pub mod NoFaults
pub mod DrawnLines
pub mod DrawnPictures
pub mod Depths
pub mod Planes
pub mod Views
pub mod SoleCue
pub mod ServicePages
pub mod SentUnits
pub mod Lifts
pub mod NearTimes
pub mod AfterLoss
mod OpenSet
mod Examples
pub mod Later
pub mod Growth
pub mod ReceivedSegments
pub mod OnePacket
