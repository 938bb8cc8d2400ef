mod Alone
mod Asks
pub mod Blocks
pub mod Canvases
mod Columns
mod Counting
mod Covers
mod Filled
mod Fills
mod Growth
mod Indexed
mod Keys
mod Mosaics
mod Merged
pub mod Painted
mod Shown
mod Sources
mod Service
mod Windows
mod Naming
mod Pixels
mod Ranges
mod Spread
mod Skips
mod Needed
