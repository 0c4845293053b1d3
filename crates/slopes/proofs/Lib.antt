-- The laws that rest on a statement which an edit must break: where the slope turns, best intervals, and benches along a run.
pub mod TurnLaws
pub mod BestLaws
pub mod ReachLaws
pub mod AlikeLaws
pub mod FrameLaws
pub mod ForgottenLaws
pub mod ApartLaws
