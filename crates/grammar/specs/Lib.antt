pub mod Terminals
pub mod Lexical
pub mod Grammar
pub mod Counting
pub mod Notation
pub mod Examples
