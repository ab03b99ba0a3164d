pub mod Divisions
pub mod StepTable
pub mod Keys
pub mod Finding
pub mod Walking
pub mod Entering
pub mod Texts
