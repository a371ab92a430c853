pub mod Numbering
pub mod Table
pub mod Members
pub mod Words
pub mod Lists
