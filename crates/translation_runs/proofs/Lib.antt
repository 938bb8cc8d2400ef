pub mod Bound
pub mod Ended
pub mod Reached
pub mod Silent
pub mod Translated
pub mod Unread
