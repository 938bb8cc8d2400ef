mod Examples
pub mod Lines
pub mod Named
pub mod Tallied
