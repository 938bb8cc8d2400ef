pub mod Numbers
pub mod Fits
pub mod Tables
pub mod Runs
mod Examples
pub mod Following
mod Beside
mod Computes
pub mod Passing
pub mod Held
pub mod Listed
pub mod Indexes
pub mod OfLines
pub mod Skipped
