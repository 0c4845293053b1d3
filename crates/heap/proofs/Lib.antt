-- Laws that the proofs of this crate's functions cite: sums and heaps with one place out of order, and lists with a hole.
pub mod SiftLaws
pub mod HoleLaws
