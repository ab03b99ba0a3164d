mod Keyed
mod Nests
mod Placed
mod Said
