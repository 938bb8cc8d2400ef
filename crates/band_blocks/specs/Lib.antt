-- What public clauses and laws speak of: to be read and trusted.
pub mod Keys
pub mod Blocks
pub mod Contents
pub mod Cuts
pub mod Samples
pub mod Open
pub mod Spread
-- What private clauses, views and proofs speak of.
pub mod Loaded
pub mod Views
