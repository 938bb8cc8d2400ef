-- What public clauses and laws speak of: to be read and trusted.
pub mod Run
pub mod Work
pub mod Location
pub mod Faults
-- What private clauses, views and proofs speak of.
pub mod Input
pub mod Jobs
pub mod Lanes
pub mod Pixels
pub mod Published
pub mod Untold
