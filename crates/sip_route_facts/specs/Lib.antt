pub mod RouteFacts
pub mod ContactHostPorts
