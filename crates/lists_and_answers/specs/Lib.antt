-- What public clauses and laws speak of: to be read and trusted.
pub mod Answers
pub mod Bytes
pub mod Growth
pub mod Lists
pub mod Options
pub mod Places
pub mod Texts
