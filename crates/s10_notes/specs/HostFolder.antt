-- The folder of notes in the system's files.
use Rattle.std.specs.Prelude.{ℕ, List}
use Rattle.s10_notes.specs.Folder.{FolderCalls}

-- The path of the notes, and the calls that were made.
pub record HostFolderState : Type 0 where
  pub path : List ℕ
  pub calls : FolderCalls
