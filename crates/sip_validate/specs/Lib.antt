pub mod UncheckedRequest
pub mod Faults
pub mod Refusal
pub mod Checked
pub mod Examples
pub mod Refused
