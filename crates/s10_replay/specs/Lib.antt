pub mod Ascending
pub mod RightRows
pub mod CheckedTables
pub mod ReadRows
pub mod FaultNames
