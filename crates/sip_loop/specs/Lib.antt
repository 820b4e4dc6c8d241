pub mod Counts
pub mod Courses
pub mod Printing
pub mod Replays
pub mod ServeErrors
pub mod Serving
pub use Rattle.sip_run.specs as run
