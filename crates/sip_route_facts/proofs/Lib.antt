pub mod LastRoute
pub mod KeptRoutes
pub mod Unparted
pub mod PlainPlaces
