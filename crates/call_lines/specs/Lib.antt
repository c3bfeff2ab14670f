pub mod CallLine
pub mod Reading
pub mod Lending
pub mod Answering
