-- What public clauses and laws speak of: to be read and trusted.
pub mod Runs
pub mod Ends
-- What private clauses, views and proofs speak of.
pub mod Tallied
