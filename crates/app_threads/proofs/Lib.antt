pub mod Works
pub mod EndWorks
