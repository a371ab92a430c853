pub mod Firsts
pub mod Listing
pub mod Scan
pub mod Rising
