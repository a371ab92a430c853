pub mod Counting
pub mod Tables
pub mod DueForm
pub mod Laws
pub mod Model
