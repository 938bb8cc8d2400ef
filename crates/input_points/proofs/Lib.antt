pub mod Lines
pub mod PieceCalls
