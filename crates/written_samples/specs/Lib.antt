-- What public laws speak of: to be read and trusted.
pub mod Put
pub mod Grids
