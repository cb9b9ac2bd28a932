use Rattle.std.proofs.Common.{◌++◌, append_assoc}
use Rattle.std.specs.Prelude.{codes}
use Rattle.s10_lines.proofs.Writing.{Appends-then}
use Rattle.s10_notes.specs.CheckValue.{check_digits}
use Rattle.s10_notes.specs.Text.{check_end}
use Rattle.s10_notes.proofs.Written.{last_written, same_written}
use Rattle.s10_notes.proofs.writing.write_check_end.Goals as goal

pub returns : goal.returns
returns g c =
    let members = c.args.members.now in
    let name = codes ", \"check\": \"" in
    let digits = check_digits members in
    same_written _ _ ((name ++ digits) ++ codes "\"}\n") (check_end members) c.write_text-3.result
    (append_assoc name digits (codes "\"}\n"))
    (last_written _ _ _ (name ++ digits) (codes "\"}\n") c.write_text-3.result
    (Appends-then _ _ _ name digits c.in_ok-write_text.ensures
    (rw c.check_digits.ensures at c.in_ok-write_text-2.ensures))
    c.write_text-3.ensures)
