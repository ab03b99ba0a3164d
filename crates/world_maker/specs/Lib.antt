pub mod Draws
pub mod Texts
pub mod Tables
pub mod Drawn
pub mod World
pub mod Laid
