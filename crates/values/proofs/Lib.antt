pub mod Clear
pub mod Cutting
pub mod Glue
pub mod Pins
pub mod Same
pub mod Times
