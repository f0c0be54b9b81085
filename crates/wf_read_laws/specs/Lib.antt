pub mod Examples
pub mod NamedPlaces
pub mod PlaceLaws
pub mod Places
pub mod ReadPackages
pub mod TypePlaceLaws
