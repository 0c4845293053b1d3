-- Columns: the numbers of all clumps. Fills: what a heap holds of the changes of a stretch. Steps: what each function makes of it. FillLaws: what
-- callers reason with.
pub mod Columns
pub mod ColumnLaws
pub mod Fills
pub mod Steps
pub mod FillLaws
