-- What public clauses and laws speak of: to be read and trusted.
pub mod Documents
pub mod Names
