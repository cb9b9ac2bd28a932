use Rattle.std.proofs.Common.{◌≡◌, ◌++◌, ◌∙◌, ℕ, List, ap, inl, refl}
use Rattle.s10_notes.specs.Text.{check_end, members_text}
use Rattle.s10_notes.proofs.Written.{last_written, on_ok}
use Rattle.s10_notes.proofs.writing.write_notes.Goals as goal

pub returns-clause-written : goal.returns-clause-written
returns-clause-written g c =
    let text : List ℕ = members_text c.args.notes.now in
    let is : c.write_members.new.out.items ≡ text = c.in_ok-write_members.ensures.written
    ∙ ap (λ start. start ++ text) c.new-members.ensures in
    last_written _ _ _ text (check_end text) c.write_check_end.result
    (rw (c.as_slice.ensures.value, is) at c.in_ok-write_text.ensures)
    (rw (c.as_slice-2.ensures.value, is) at c.write_check_end.ensures)

pub returns-clause-spelled : goal.returns-clause-spelled
returns-clause-spelled g c = on_ok _ c.write_check_end.result
    record { in_range = c.in_ok-write_members.ensures.in_range; spelled = inl refl }
