pub mod World
pub mod Parts
pub mod Agreement
pub mod Sound
