-- What the three demands speak of (Terms), and the laws that they rest on: one concept a file, each file resting on those above it. The demands
-- themselves, and the laws that rest on a statement which an edit must break, are in proofs/.
pub mod Reach
pub mod LegalReach
pub mod ClumpReach
pub mod Steps
pub mod Runs
pub mod Positions
pub mod Shortest
pub mod Full
pub mod Bounds
pub mod Carried
pub mod Balance
pub mod Terms
pub mod Faults
pub mod Formed
pub mod Slices
pub mod Measured
pub mod ShutOut
