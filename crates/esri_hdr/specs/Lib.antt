-- What public clauses and laws speak of: to be read and trusted.
pub mod Keys
pub mod Faults
pub mod Lines
pub mod Values
pub mod Head
pub mod Text
-- What private clauses, views and proofs speak of.
pub mod Steps
