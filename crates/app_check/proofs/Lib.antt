pub mod ReadEvents
