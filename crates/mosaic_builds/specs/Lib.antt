-- What public clauses and laws speak of: to be read and trusted.
pub mod Inputs
pub mod Walks
pub mod Built
pub mod Steps
pub mod Ends
-- What private clauses, views and proofs speak of.
pub mod Faults
pub mod Feeds
