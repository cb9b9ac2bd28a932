use Rattle.std.proofs.Common.{◌≡◌, ◌<◌, ◌^◌, Option, Some, None, true, ap, subst, sym, ◌∙◌}
use Rattle.std.specs.Prelude.{IfSome, SomeIff}
use Rattle.s10_wire.specs.Datagrams.{IsRequest}
use Rattle.s10_notes.specs.Notes.{AreNotes, NotesState, notes_of}
use Rattle.s10_notes.specs.Text.{AreInRange, IsEndOf, SpellsNotes, members_text}
use Rattle.s10_notes.proofs.Ends.{ended, front, spelled}
use Rattle.s10_notes.proofs.reading.read_notes.Goals as goal

-- The numbers fit notes.
abbrev Fit : NotesState → Type 0
Fit n = (n.customer < 2 ^ 32) × (n.last < 2 ^ 32) × AreNotes n

some_of : {T : Type 0} → (r : Option T) (P : Type 0) (v : T) → SomeIff r P v → P → r ≡ Some v
some_of (Some x) P v is holds = ap Some is.1
some_of None P v is holds = absurd (is holds)

-- What follows from a condition holds of the value that it brings.
kept : {T : Type 0} → (r : Option T) (P : Type 0) (v : T) (Q : T → Type 0) → SomeIff r P v
    → (P → Q v) → IfSome r Q
kept (Some x) P v Q is holds = subst Q (sym is.1) (holds is.0)
kept None P v Q is holds = tt

in_range : (n : NotesState) → Fit n → IfSome n.request IsRequest → AreInRange n
in_range n fit asks = record { customer = fit.0; last = fit.1; numbered = fit.2; request = asks }

pub returns-then-is_end_of-clause-spelled : goal.returns-then-is_end_of-clause-spelled
returns-then-is_end_of-clause-spelled c =
    let text = c.args.text.now in
    let end = c.in-Some.end.now in
    let n = notes_of c.in-Some.customer c.in-Some.next c.in-Some.last c.in-Some.request in
    let is = c.in-Some.ensures.spelled in
    let ends = subst (λ m. IsEndOf m end) (front text (members_text n) end is.1)
    (c.is_end_of.ensures.0 c.if-is_end_of.true) in
    kept c.restore.result (Fit n) n (SpellsNotes text) c.restore.ensures
    (λ fit. spelled text end n (in_range n fit is.0) is.1 ends)

pub returns-then-is_end_of-clause-read : goal.returns-then-is_end_of-clause-read
returns-then-is_end_of-clause-read c = λ n spells.
    let e = ended c.args.text.now n spells in
    let r = c.in-Some.ensures.read n e.end spells.in_range e.is in
    let read = notes_of c.in-Some.customer c.in-Some.next c.in-Some.last c.in-Some.request in
    let ok = spells.in_range in
    some_of c.restore.result (Fit read) read c.restore.ensures
    (subst (λ (m : NotesState). (m.customer < 2 ^ 32) × (m.last < 2 ^ 32) × AreNotes m) (sym r.0)
    (ok.customer, ok.last, ok.numbered))
    ∙ ap (λ (m : NotesState). Some m) r.0

pub returns-else-is_end_of-clause-read : goal.returns-else-is_end_of-clause-read
returns-else-is_end_of-clause-read c = λ n spells.
    let text = c.args.text.now in
    let end = c.in-Some.end.now in
    let read = notes_of c.in-Some.customer c.in-Some.next c.in-Some.last c.in-Some.request in
    let e = ended text n spells in
    let r = c.in-Some.ensures.read n e.end spells.in_range e.is in
    let here = subst (λ x. IsEndOf (members_text n) x) (sym r.1) e.ends in
    let there = subst (λ (m : NotesState). IsEndOf (members_text m) end) (sym r.0) here in
    let members = front text (members_text read) end c.in-Some.ensures.spelled.1 in
    let yes : c.is_end_of.result ≡ true = c.is_end_of.ensures.1
    (subst (λ m. IsEndOf m end) (sym members) there) in
    let no = c.if-is_end_of.false in
    absurd cc

pub returns-in-None-clause-read : goal.returns-in-None-clause-read
returns-in-None-clause-read c = λ n spells.
    let e = ended c.args.text.now n spells in
    absurd (c.in-None.ensures.read n e.end spells.in_range e.is)
