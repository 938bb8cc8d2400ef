-- What public clauses and laws speak of: to be read and trusted.
pub mod Values
pub mod Numbers
pub mod Fields
pub mod Means
pub mod Scaling
pub mod Document
pub mod Resolve
pub mod Cover
pub mod Value
pub mod Built
-- What private clauses, views and proofs speak of.
pub mod Fronts
pub mod NumberViews
pub mod Parts
pub mod Seen
pub mod PairViews
pub mod ScalingViews
pub mod SourceViews
