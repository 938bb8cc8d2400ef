pub mod Examples
mod Listed
mod Short
mod Told
mod Tables
