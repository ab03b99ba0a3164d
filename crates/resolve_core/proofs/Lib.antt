mod Bounds
mod Faults
mod Classes
