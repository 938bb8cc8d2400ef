-- What public clauses and laws speak of: to be read and trusted.
pub mod Texts
pub mod Spelled
pub mod Reread
-- What private clauses, views and proofs speak of.
pub mod Appended
