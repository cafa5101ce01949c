mod Bytes
mod PaintedColumns
pub mod Laying
pub mod Written
mod Fields
mod Places
mod Codes
mod Strings
mod Halves
mod Pairs
