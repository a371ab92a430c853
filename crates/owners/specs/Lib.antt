pub mod Owners
pub mod Laws
pub mod Scoping
pub mod Model
pub mod Walking
