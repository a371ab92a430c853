pub mod Stacks
pub mod Bindings
pub mod Calls
pub mod Laws
