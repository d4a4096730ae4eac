pub mod Answers
pub mod Calls
pub mod Desks
pub mod Pasts
pub mod Replies
pub mod Runs
pub mod Sizes
