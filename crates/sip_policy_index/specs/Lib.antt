pub mod Code
pub mod Places
pub mod RuleQuestion
pub mod Index
