-- What public clauses and laws speak of: to be read and trusted.
pub mod Location
pub mod Covering
