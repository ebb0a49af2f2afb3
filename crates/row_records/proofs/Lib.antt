pub mod Loop
pub mod Texts
pub mod Records
pub mod Growing
pub mod Pended
pub mod Front
pub mod Once
pub mod Behind
