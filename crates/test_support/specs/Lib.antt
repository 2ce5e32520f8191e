pub mod ClosingRule
