mod LineReading
mod HexReading
mod WalkedLines
mod ReplayedLines
mod PrintedLines
mod EndedReports
mod Turning
mod Looping
pub mod NotesRecords
