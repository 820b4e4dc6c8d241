pub mod Address
pub mod Last
pub mod Left
pub mod Kept
pub mod Front
pub mod PlainRoutes
pub use Rattle.sip_header.proofs as of_header
