-- What public clauses and laws speak of: to be read and trusted.
pub mod Pixels
pub mod Axes
pub mod Rows
-- What private clauses, views and proofs speak of.
pub mod Stretches
