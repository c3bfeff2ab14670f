pub mod Texts
pub mod Verdicts
pub mod FewWarnings
pub mod WarningNames
pub mod Warnings
