mod Watching
pub mod Going
mod Running
pub mod Apart
pub mod LeadsThrough
