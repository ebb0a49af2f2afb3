pub mod Histories
mod Samples
