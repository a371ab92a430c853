pub mod Lengths
pub mod Unwinds
pub mod Trails
