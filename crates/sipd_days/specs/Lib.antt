pub mod Choosing
pub mod Days
pub mod Standing
pub mod DayAt
pub mod Printed
pub mod PrintedSources
