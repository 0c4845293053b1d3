pub mod Progress
pub mod Shows
pub mod Recorded
pub mod ShowsLaws
pub mod Parts
pub mod May
pub mod Answers
pub mod Within
