mod Cuts
mod Numbers
mod NodeLines
mod Nodes
mod BadLines
mod Readings
