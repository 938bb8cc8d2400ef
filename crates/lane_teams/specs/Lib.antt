-- What public clauses and laws speak of: to be read and trusted.
pub mod Parts
pub mod Ready
pub mod Refusals
pub mod Workers
-- What private clauses, views and proofs speak of.
pub mod Turns
