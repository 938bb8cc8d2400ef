pub mod Shorter
pub mod StartTags
pub mod Names
mod Numbers
pub mod Next
pub mod EndTags
mod Bare
mod Behind
pub mod Reading
mod Fronts
mod Windows
mod Entities
mod Rising
mod Lent
mod Ordered
pub mod Utf8
pub mod Outside
mod Computes
