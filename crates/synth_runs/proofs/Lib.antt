mod Examples
pub mod CopyJudged
pub mod CopyPlaced
pub mod CopyRead
pub mod DocumentLengths
pub mod DocumentsRead
pub mod Ending
pub mod Following
pub mod InnerBuilt
pub mod InnerMade
pub mod NeverRefused
pub mod OuterWalked
pub mod Parts
pub mod Passing
pub mod Reaching
pub mod Standing
pub mod Tallying
pub mod TilesRead
