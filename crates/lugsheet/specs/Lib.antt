pub mod Answers
pub mod RowLaws
pub mod CallLaws
pub mod RoomLaws
