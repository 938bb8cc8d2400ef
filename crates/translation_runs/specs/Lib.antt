-- What public clauses and laws speak of: to be read and trusted.
pub mod Ends
pub mod Judged
pub mod Published
