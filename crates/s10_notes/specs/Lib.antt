pub mod Notes
pub mod CheckValue
pub mod Text
pub mod Notebook
pub mod Lives
pub mod Folder
pub mod HostFolder
pub mod NotesFile
