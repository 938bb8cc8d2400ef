-- What public clauses and laws speak of: to be read and trusted.
pub mod Dataset
pub mod Drivers
pub mod Nodata
pub mod Heads
pub mod Mosaics
pub mod Places
pub mod Blocks
pub mod Pixels
pub mod Links
pub mod Walk
pub mod Readings
pub mod Outcomes
-- What private clauses, views and proofs speak of.
pub mod Gathered
pub mod Linked
pub mod Listed
pub mod OwnFiles
pub mod Scanned
pub mod Walking
