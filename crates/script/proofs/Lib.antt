pub mod Growth
pub mod Lengths
pub mod Pairs
pub mod Same
