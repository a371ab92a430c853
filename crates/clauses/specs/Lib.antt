pub mod Clauses
pub mod Verdict
pub mod Acceptance
pub mod Numbers
pub mod Marks
pub mod Worked
