pub mod Clash
pub mod ClashLaws
pub mod Row
pub mod RowLaws
pub mod Sections
pub mod Tables
pub mod Versions
