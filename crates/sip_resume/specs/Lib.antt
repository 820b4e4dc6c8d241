pub mod Errors
pub mod Outputs
pub mod RecordErrors
pub mod Resumes
pub mod Stops
pub mod Takes
pub mod Whole
pub mod Parts
pub use Rattle.sip_run.specs as run
