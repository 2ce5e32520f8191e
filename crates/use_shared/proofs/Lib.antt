pub mod WorkShifts
pub mod Moving
pub mod Shifts
pub mod Places
