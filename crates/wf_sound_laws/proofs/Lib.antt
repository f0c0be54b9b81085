pub mod ShortArrays
pub mod SliceValues
pub mod SoundPackages
pub mod WellMade
