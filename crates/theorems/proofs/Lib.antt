-- The three demands as theorems (Demands, in the words of specs/Terms.antt), what they rest on, and what they shut out.
pub mod BoundsLaws
pub mod CarriedLaws
pub mod FormedLaws
pub mod SlicesLaws
pub mod ShortestLaws
pub mod BalanceLaws
pub mod Ending
pub mod Outcomes
pub mod Calls
pub mod Demands
pub mod ShutOut
