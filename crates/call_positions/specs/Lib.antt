pub mod Position
pub mod Cases
pub mod Apart
