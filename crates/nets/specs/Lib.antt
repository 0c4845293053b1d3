-- What is kept of a net, and what one pin more changes in it (Summary, Turns); its span and netlength by that (Span).
-- The other files are laws: of one pin more (Counted, Lists, TurnLaws), of spans (Sides, Apart, Members, SpanLaws, LengthLaws),
-- and of placements in which cells overlap (OverlapLaws).
pub mod Summary
pub mod Turns
pub mod Counted
pub mod Lists
pub mod TurnLaws
pub mod Span
pub mod Sides
pub mod Apart
pub mod Members
pub mod SpanLaws
pub mod LengthLaws
pub mod OverlapLaws
