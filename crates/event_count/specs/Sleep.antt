pub mod Steps
pub mod World
pub mod Laws
pub mod Examples
pub mod Seats
pub mod Lists
pub mod ListLaws
pub mod Views
