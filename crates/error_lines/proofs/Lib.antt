pub mod Owned
mod Said
pub mod Silent
pub mod Warned
