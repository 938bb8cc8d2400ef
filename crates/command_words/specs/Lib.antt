-- What public clauses and laws speak of: to be read and trusted.
pub mod Options
pub mod Values
pub mod Said
pub mod Uses
pub mod Words
pub mod Jobs
-- What private clauses, views and proofs speak of.
pub mod Gathered
