pub mod Consulted
pub mod ListedTables
pub mod Merged
pub mod MergedLaws
pub mod SaidRow
