pub mod Answers
pub mod Catalogued
pub mod Consulted
pub mod Laws
pub mod Named
pub mod SaidCatalog
pub mod Selected
pub mod Trees
