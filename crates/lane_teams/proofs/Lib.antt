mod Answered
mod Examples
mod FirstRefusals
mod Groups
pub mod Lanes
mod Refusals
mod Windows
