pub mod Line
pub mod Forms
pub mod Command
pub mod Share
pub mod Door
