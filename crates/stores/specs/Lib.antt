pub mod Stack
pub mod Meaning
pub mod Laws
