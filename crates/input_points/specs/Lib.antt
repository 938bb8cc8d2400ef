-- What public clauses and laws speak of: to be read and trusted.
pub mod Lines
pub mod Points
pub mod Entries
pub mod Reading
-- What private clauses, views and proofs speak of.
pub mod Cuts
