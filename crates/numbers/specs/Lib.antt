-- What bytes, signed numbers and the logarithm mean: each definition in a file of
-- its own, and beside it the file of its laws.
pub mod Bytes
pub mod BytesLaws
pub mod Signed
pub mod SignedLaws
pub mod Log
pub mod LogLaws
pub mod Sums
