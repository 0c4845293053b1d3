-- Laws that the proofs of this crate's functions cite: a heap in a stretch of the keys, changes put into it, keys popped from it, a heap for another
-- cap or in another place, a walk down, and two heaps made one.
pub mod StretchLaws
pub mod PutLaws
pub mod ThinLaws
pub mod CapLaws
pub mod WalkLaws
pub mod JoinLaws
