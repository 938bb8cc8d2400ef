-- What public clauses and laws speak of: to be read and trusted.
pub mod Names
pub mod Outer
pub mod Tally
pub mod Tiles
