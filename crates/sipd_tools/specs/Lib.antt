pub mod Ends
pub mod Against
pub mod Clocks
pub mod Checks
pub mod Reporting
pub mod Deciding
pub mod Tables
pub mod UserTables
