pub mod Lies
pub mod Promise
pub mod Worked
