pub mod Frame
pub mod Checks
pub mod Building
pub mod Judging
pub mod Records
pub mod RecordLaws
