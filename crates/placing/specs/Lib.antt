pub mod Sites
pub mod Puts
pub mod PutLaws
pub mod PlacedAs
pub mod PlacedLaws
pub mod CallLaws
