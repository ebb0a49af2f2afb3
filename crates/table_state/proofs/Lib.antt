mod Late
mod Ahead
mod Keeping
mod Least
mod Ascending
mod Fronts
mod Runs
mod Counting
mod Stood
mod Distinct
pub mod Columns
