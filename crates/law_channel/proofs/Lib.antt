pub mod Sides
pub mod Marks
pub mod Linked
pub mod Runs
pub mod Histories
pub mod Short
