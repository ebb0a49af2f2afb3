pub mod Parts
pub mod Next
pub mod Spelled
pub mod Laid
mod Lent
pub mod Offsets
pub mod Distinct
pub mod JoinedTexts
pub mod Reading
pub mod Greatest
pub mod Named
pub mod SetCoding
pub mod SetBytes
