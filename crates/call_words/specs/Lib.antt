pub mod Words
pub mod Laying
pub mod Answered
pub mod Exported
pub mod Warned
pub mod Apart
pub mod Texts
