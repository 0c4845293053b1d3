-- The changes of each cell by what is kept of the nets, where in one list of all changes each cell's stand, and the laws of both.
pub mod Columns
pub mod ColumnLaws
pub mod Kept
pub mod Shared
pub mod Laid
pub mod KeptLaws
pub mod SharedLaws
pub mod LaidLaws
pub mod NetLaws
pub mod RowLaws
