pub mod ClientInviteTimers
pub mod ClientOtherTimers
pub mod ServerInviteTimers
pub mod ServerOtherTimers
pub mod SingleFinal
