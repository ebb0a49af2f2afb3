mod Closed
pub mod Moments
pub mod Standing
pub mod Laying
pub mod Reckoned
pub mod Fitting
pub mod Imaging
pub mod Large
