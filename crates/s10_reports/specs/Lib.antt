pub mod Filters
pub mod States
pub mod Records
pub mod Reports
pub mod Info
pub mod ReportFault
