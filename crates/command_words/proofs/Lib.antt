mod Digits
mod Rows
mod Rules
