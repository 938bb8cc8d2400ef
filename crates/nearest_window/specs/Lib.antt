-- What public clauses and laws speak of: to be read and trusted.
pub mod Lanes
pub mod Right
pub mod Windows
-- What private clauses, views and proofs speak of.
pub mod BlockKeys
pub mod Canvases
pub mod Heights
pub mod HeldBlocks
pub mod Indexes
pub mod Painted
pub mod Pictures
pub mod Serving
pub mod Shown
pub mod Taken
pub mod Wanted
