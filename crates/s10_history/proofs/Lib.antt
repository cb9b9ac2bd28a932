pub mod Numbering
pub mod Issued
pub mod Earliest
pub mod Push
pub mod Voided
pub mod Walking
pub mod After
pub mod Counting
