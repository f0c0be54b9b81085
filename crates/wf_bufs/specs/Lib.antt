pub mod EngineLaw
pub mod HostViews
pub mod HostSeen
pub mod Lending
pub mod SurfaceViews
pub mod ZeroAnswers
pub mod ActionViews
