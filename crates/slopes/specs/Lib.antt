-- The laws of slope changes, best intervals, clumps, runs and benches that the engine's proofs and the theorems cite, one concept a file, each
-- file resting on those above it.
pub mod Tally
pub mod Slope
pub mod Sizes
pub mod Cheapest
pub mod Turn
pub mod Best
pub mod Reach
pub mod Alike
pub mod Stretches
pub mod Joined
pub mod Frame
pub mod Runs
pub mod Forgotten
pub mod Apart
