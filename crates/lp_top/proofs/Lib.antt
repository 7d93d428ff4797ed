pub mod DesignLaws
pub mod InsertingLaws
pub mod ReadingLaws
pub mod RunningLaws
pub mod WordsLaws
