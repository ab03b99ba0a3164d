pub mod ExtensionLines
pub mod Home
pub mod StanzaPlaces
pub mod StatusDue
pub mod VerifyDue
pub mod VerifySteps
