pub mod Left
pub mod Scripts
pub mod Runs
pub mod Turns
pub mod Takes
pub mod Reports
pub mod Ends
pub mod Programs
