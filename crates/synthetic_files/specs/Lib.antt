-- What private clauses, views and proofs speak of.
pub mod Publishing
