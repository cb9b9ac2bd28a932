use Rattle.s10_notes.proofs.Changed.{changed}
use Rattle.s10_notes.proofs.laws.one_changed_byte_is_seen.Goals as goal

pub returns : goal.returns
returns c = changed
