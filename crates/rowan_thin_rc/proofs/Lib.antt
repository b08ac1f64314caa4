pub mod CountSteps
pub mod Named
pub mod Walks
pub mod Rooms
pub mod Lodging
pub mod Fitting
pub mod Keeping
