pub mod Tokens
pub mod Roles
pub mod Reading
pub mod Printing
pub mod Grammar
