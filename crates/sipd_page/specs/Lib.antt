pub mod Days
pub mod History
pub mod Page
