pub mod Operations
pub mod Machine
pub mod Calls
pub mod Open
pub mod Laws
pub mod Worked
