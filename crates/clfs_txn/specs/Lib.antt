pub mod Kept
pub mod Calls
pub mod Reading
pub mod Loading
pub mod Crashes
pub mod UnderWay
