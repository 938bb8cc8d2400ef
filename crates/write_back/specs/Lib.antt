-- What public clauses and laws speak of: to be read and trusted.
pub mod Plans
pub mod Files
pub mod Forms
pub mod Columns
pub mod Grids
pub mod Reading
pub mod View
pub mod Overlay
pub mod Packed
pub mod Windows
pub mod State
pub mod Pieces
-- What private clauses, views and proofs speak of.
pub mod Drafts
pub mod Seen
pub mod Served
pub mod Spots
pub mod Stores
pub mod Turned
pub mod Unwritten
