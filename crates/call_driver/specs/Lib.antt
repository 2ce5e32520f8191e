pub mod Leads
pub mod OnWay
pub mod Apart
pub mod EndsIn
pub mod Own
pub mod Laws
