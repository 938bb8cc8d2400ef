-- What public clauses and laws speak of: to be read and trusted.
pub mod Items
pub mod Forest
pub mod Tree
pub mod Faults
pub mod Views
pub mod Kept
pub mod Hashes
-- What private clauses, views and proofs speak of.
pub mod Keys
pub mod Attributes
pub mod Fronts
