pub mod Stack
pub mod Turns
pub mod Opened
pub mod Owning
pub mod Noting
pub mod Visits
pub mod Laws
