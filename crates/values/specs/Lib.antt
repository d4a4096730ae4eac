pub mod Cut
pub mod Parsed
pub mod Written
