pub mod Exits
pub mod Hops
pub mod NextRecords
pub mod Printing
pub mod Reloads
pub mod Statuses
pub mod Turns
