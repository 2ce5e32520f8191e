pub mod Sleep
