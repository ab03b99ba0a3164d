pub mod WhichDue
pub mod Due
pub mod Left
pub mod Placing
pub mod PlaceViews
