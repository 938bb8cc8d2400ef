mod Pieces
mod Listed
pub mod Reread
mod Places
mod Tags
mod Figures
mod Relisted
mod Openings
mod Taken
mod Sources
mod Bands
mod Bytes
mod Valid
mod Documents
mod Whole
mod Texts
