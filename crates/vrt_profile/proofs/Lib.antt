mod Rules
pub mod Tables
pub mod KeptTexts
mod Counts
mod Once
mod Answered
mod Computes
mod Related
mod Built
mod DigitRuns
mod ShortNumbers
mod ZeroFronts
