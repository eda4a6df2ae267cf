pub mod Emits
pub mod Cases
pub mod Lines
pub mod Left
pub mod Shapes
pub mod Asking
pub mod Program
pub mod Emission
