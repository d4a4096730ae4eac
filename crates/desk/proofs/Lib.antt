pub mod Held
pub mod Hex
pub mod Lent
pub mod Pasting
pub mod Pastings
pub mod Running
pub mod Serving
