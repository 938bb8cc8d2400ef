pub mod Appended
pub mod Transforms
mod Examples
