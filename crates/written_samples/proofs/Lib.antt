pub mod Put
pub mod RawRuns
pub mod TileRows
pub mod CellHeads
pub mod CellRecords
pub mod TokenCuts
pub mod HeadFronts
pub mod GridRows
mod Examples
