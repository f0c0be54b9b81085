pub mod BoundsLaws
pub mod BoundsRules
pub mod TypedPlaces
