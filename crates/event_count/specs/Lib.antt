pub mod Cursors
pub mod Looks
pub mod Sleep
