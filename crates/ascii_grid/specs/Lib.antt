-- What public clauses and laws speak of: to be read and trusted.
pub mod Tokens
pub mod Values
pub mod Keys
pub mod Grid
pub mod Faults
pub mod Text
pub mod Scan
pub mod Row
-- What private clauses, views and proofs speak of.
pub mod Scanning
