mod Closed
mod Pruned
mod Refuted
