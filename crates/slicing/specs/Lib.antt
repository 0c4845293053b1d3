pub mod Sliced
pub mod Begun
pub mod LaidLaws
pub mod BegunLaws
pub mod BeginsLaws
pub mod WrittenLaws
