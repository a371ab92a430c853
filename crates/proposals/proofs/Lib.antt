pub mod Counts
pub mod Memory
pub mod Rows
pub mod Named
pub mod Verdicts
pub mod Laws
