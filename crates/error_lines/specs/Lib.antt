-- What public clauses and laws speak of: to be read and trusted.
pub mod Faults
pub mod Progress
pub mod Steps
pub mod Texts
