pub mod Left
pub mod Base
pub mod Watched
pub mod Told
pub mod Laws
