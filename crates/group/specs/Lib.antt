pub mod Group
pub mod Laws
pub mod Members
pub mod Steps
