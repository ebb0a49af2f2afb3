pub mod Stewards
