pub mod Last
pub mod Rules
pub mod Again
pub mod ValuesAgain
pub mod HeadAgain
pub mod Writes
pub mod Placed
pub mod Heads
