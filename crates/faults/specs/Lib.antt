pub mod Places
pub mod Refusals
