-- Laid: how a row lies in the lists. Stands: the invariant. Taken: what each step does. Ready: what a step, a run and a slice ask and leave.
pub mod Laid
pub mod Stands
pub mod Taken
pub mod Ready
