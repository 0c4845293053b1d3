pub mod Measures
pub mod Overlaps
pub mod Lengths
pub mod HeldLaws
