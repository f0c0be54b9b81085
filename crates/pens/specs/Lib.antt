pub mod PenLaws
pub mod Pens
