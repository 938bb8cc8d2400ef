pub mod Appended
pub mod Kept
pub mod Named
pub mod Same
