pub mod CallRow
pub mod Tables
pub mod RowWrites
pub mod Selected
pub mod CallWrite
