pub mod Asked
pub mod Playing
pub mod Draining
pub mod Transcribing
pub mod Taking
pub mod Reporting
pub mod Running
