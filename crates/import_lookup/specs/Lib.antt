pub mod Import
pub mod LoadPath
pub mod Loading
