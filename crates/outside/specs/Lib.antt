-- What public clauses and laws speak of: to be read and trusted.
pub mod Names
pub mod Paths
pub mod Outside
pub mod Reading
pub mod Streams
pub mod Causes
pub mod Memory
pub mod Disks
pub mod Schedules
pub mod Counting
-- What private clauses, views and proofs speak of.
pub mod Held
pub mod Histories
pub mod Plain
pub mod Stored
pub mod Temporary
