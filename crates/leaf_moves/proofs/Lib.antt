pub mod NoteLines
pub mod Modes
pub mod Drains
