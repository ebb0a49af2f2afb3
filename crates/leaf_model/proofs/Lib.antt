pub mod Distinct
pub mod KeyOrder
mod Samples
pub mod Fields
pub mod TextSets
pub mod ReadCells
pub mod ReadRows
pub mod LentLaws
pub mod PackedLaws
pub mod PackedBytes
pub mod SeenLaws
pub mod LiveLaws
