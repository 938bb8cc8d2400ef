pub mod Alike
mod Beside
pub mod Changes
mod Columned
pub mod Copied
pub mod Ends
pub mod Fronts
pub mod Goes
pub mod Handed
pub mod Hands
mod Kept
mod Numbered
pub mod Packs
pub mod Puts
pub mod Told
pub mod Whole
pub mod Written
