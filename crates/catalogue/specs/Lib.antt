pub mod Catalogue
pub mod Gate
pub mod Stop
pub mod Members
pub mod Dispatch
