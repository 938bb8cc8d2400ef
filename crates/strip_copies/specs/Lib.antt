-- What public clauses and laws speak of: to be read and trusted.
pub mod Copies
pub mod Columns
pub mod Heights
pub mod Pieces
pub mod Portions
-- What private clauses, views and proofs speak of.
pub mod Rows
