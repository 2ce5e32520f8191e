pub mod Web
pub mod Laid
pub mod Seats
pub mod Words
pub mod Links
pub mod Lent
