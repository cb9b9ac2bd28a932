mod Auditing
mod MemoryLedger
mod Leaving
mod Opening
mod Ending
mod Answering
mod NotesEnding
mod Looking
