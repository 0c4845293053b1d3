-- Definitions that the contracts of this crate cite, and beside them the laws that callers reason with.
pub mod Heaps
pub mod HeapLaws
