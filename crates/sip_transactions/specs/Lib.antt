pub mod ClientAction
pub mod ClientInvite
pub mod ClientOther
pub mod ServerAction
pub mod ServerInvite
pub mod ServerOther
