pub mod Variables
pub mod Steady
pub mod Rows
pub mod Steps
pub mod Worked
pub mod Opening
