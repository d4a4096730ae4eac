pub mod Button
pub mod Inner
pub mod Laws
pub mod Modes
pub mod Relations
