pub mod Settings
pub mod History
pub mod Issues
pub mod Usage
