-- The rows of calls that were executed again.
use Rattle.std.proofs.Common.{◌≡◌, ℕ, ℤ, suc, ◌+◌, ◌^◌, ◌<◌, List, [], ◌∷◌, ◌++◌, length}
use Rattle.std.proofs.Common.{get_or, take, length-take, Option, Some, sym, ap, ◌∙◌, inl}
use Rattle.std.proofs.Common.{inr, arith, pos, subst}
use Rattle.std.specs.Prelude.{None, IfSome, IfNone, slice_get}
use Rattle.std.proofs.lemmas.Option.{none-some, slice_get-get_or}
use Rattle.std.proofs.lemmas.List.{map-append, length-map, length-append}
use Rattle.std.proofs.Math.Seq.{take-append_seam, get_or-append_seam}
use Rattle.s10_history.specs.declared.entry.Entry.{Entry}
use Rattle.s10_history.specs.Settings.{Terms, AreTerms}
use Rattle.s10_book.specs.Rules.{MayFollow}
use Rattle.s10_rows.specs.CallRow.{StoredCall}
use Rattle.s10_replay.specs.ReadRows.{IsCallOf}
use Rattle.s10_rows.specs.declared.head_row.HeadRow.{HeadRow}
use Rattle.s10_rows.specs.declared.open_fault.OpenFault.{OpenFault}
use Rattle.s10_rows.specs.declared.open_fault.OpenFault.TheVariants.{NotALedger, Schema, Damaged}
use Rattle.s10_rows.specs.declared.open_fault.OpenFault.TheVariants.{NotEmpty, Memory, Store}
use Rattle.s10_rows.specs.Tables.{Tables, head_row}
use Rattle.s10_replay.specs.RightRows.{IsRightRow, AreRight, HasReplayed, kept_of, entry_of}
use Rattle.s10_replay.specs.FaultNames.{IsRowFault}
use Rattle.s10_rows.specs.Selected.{IsCall}
use Rattle.s10_replay.specs.CheckedTables.{IsHead, IsFirstWrong, IsRefusal}
use Rattle.s10_wire.specs.Datagrams.{Replies}
use Rattle.s10_book.proofs.Push.{place_cases}

-- A row that does not hold settings is not that of head.
pub no_head : (rows : List HeadRow) (d : HeadRow) → ((s : ℤ) (u : Terms) → AreTerms u
    → ¬ (get_or rows 0 d ≡ record (head_row u) { schema = s }))
    → (schema : ℤ) (t : Terms) → ¬ IsHead rows schema t
no_head rows d none schema t head = none schema t head.in_limits (ap (λ l. get_or l 0 d) head.row)

-- A row that does not read as a call is not right.
pub unread_is_wrong : (row : StoredCall) (t : Terms) (before : List Entry)
    → ((e : Entry) → IsCall e → Replies row.reply e.request e.outcome → ¬ (row.day ≡ pos e.day))
    → ¬ IsRightRow t before row
unread_is_wrong row t before none right =
    let r = right.replies in
    none (entry_of row) (record {
      request = r.0;
      outcome = r.1;
      fitting = r.2;
      day = right.day_fits;
    }) r right.day

-- A row that reads as a call which may follow is right.
pub right_row : (row : StoredCall) (e : Entry) (t : Terms) (before : List Entry) → IsCallOf row e
    → row.arrival ≡ pos (length before + 1) → row.customer ≡ pos e.request.customer
    → row.number ≡ pos e.request.number → MayFollow before t e → (e ≡ entry_of row) × IsCall e
    × IsRightRow t before row
right_row row e t before read arrival customer number follows =
    let same : e ≡ entry_of row = read.entry in
    let right : Entry → Type 0 = λ d. Replies row.reply d.request d.outcome
    × (row.customer ≡ pos d.request.customer) × (row.number ≡ pos d.request.number)
    × (row.day ≡ pos d.day) × (d.day < 2 ^ 32) × MayFollow before t d in
    let r = subst right same (read.replies, customer, number, read.day, read.call.day, follows) in (
      same,
      read.call,
      record {
        arrival = arrival;
        replies = r.0;
        customer = r.1;
        number = r.2;
        day = r.3;
        day_fits = r.4;
        follows = r.5;
      },
    )

right_push : (t : Terms) (xs : List StoredCall) (a : StoredCall) → AreRight t xs
    → IsRightRow t (kept_of xs) a → AreRight t (xs ++ a ∷ [])
right_push t xs a right here k row is =
    elim (place_cases xs a k row is) [
      | inl w ↦ rw w.1 (right k row w.0)
      | inr w ↦ rw (w.1, w.0) here
    ]

pub right_none : (t : Terms) → AreRight t []
right_none t k row is = absurd (none-some row is)

pub some_there : {A : Type 0} (P : A → Type 0) (o : Option A) (x : A) → IfSome o P → o ≡ Some x
    → P x
some_there P o x h is = subst (λ p. IfSome p P) is h

pub none_there : {A : Type 0} (P : Type 0) (o : Option A) → IfNone o P → o ≡ None → P
none_there P o h is = subst (λ p. IfNone p P) is h

-- A row that is right after a history is right after an equal one.
pub right_again : (s t : Terms) (g h : List Entry) (row : StoredCall) → s ≡ t → g ≡ h
    → IsRightRow s g row → IsRightRow t h row
right_again s t g h row e f right =
    subst (λ u. IsRightRow u h row) e (subst (λ l. IsRightRow s l row) f right)

pub kept_length : (rows : List StoredCall) (i : ℕ) → i < length rows
    → length (kept_of (take i rows)) ≡ i
kept_length rows i within = length-map (take i rows) entry_of ∙ omega (arith, length-take i rows)

pub replayed_none : (t : Terms) (kept : List Entry) → kept ≡ [] → HasReplayed t [] kept
replayed_none t kept none = record { right = right_none t; history = none }

-- The book with one more call keeps the calls of one more row.
pub replayed_more : (t : Terms) (rows : List StoredCall) (row : StoredCall) (old new : List Entry)
    → HasReplayed t rows old → IsRightRow t old row → new ≡ old ++ entry_of row ∷ []
    → HasReplayed t (rows ++ row ∷ []) new
replayed_more t rows row old new so_far right more = record {
  right = right_push t rows row so_far.right (subst (λ l. IsRightRow t l row) so_far.history right);
  history = more ∙ ap (λ l. l ++ entry_of row ∷ []) so_far.history
      ∙ sym (map-append entry_of rows (row ∷ []));
}

there_after : (rows : List StoredCall) (row : StoredCall) (rest : List StoredCall)
    → slice_get (rows ++ row ∷ rest) (length rows) ≡ Some row
there_after rows row rest = slice_get-get_or (rows ++ row ∷ rest) (length rows) row
    (omega (arith, length-append rows (row ∷ rest)))
    ∙ ap Some (get_or-append_seam rows row rest row)

-- The row after the right ones is the first wrong one.
first_wrong : (t : Terms) (rows rest : List StoredCall) (row : StoredCall) (kept : List Entry)
    → HasReplayed t rows kept → ¬ IsRightRow t kept row
    → IsFirstWrong t (rows ++ row ∷ rest) (length kept)
first_wrong t rows rest row kept so_far wrong =
    let long : length kept ≡ length rows = ap length so_far.history ∙ length-map rows entry_of in
    let before : take (length kept) (rows ++ row ∷ rest) ≡ rows =
    ap (λ n. take n (rows ++ row ∷ rest)) long ∙ take-append_seam rows (row ∷ rest) in
    record {
      right = subst (AreRight t) (sym before) so_far.right;
      row = row;
      there = ap (slice_get (rows ++ row ∷ rest)) long ∙ there_after rows row rest;
      wrong = λ right. wrong (subst (λ l. IsRightRow t l row)
          (ap kept_of before ∙ sym so_far.history) right);
    }

-- A fault of the row after the right ones is a refusal of all tables that have these rows first.
pub refused_row : (t : Terms) (rows rest : List StoredCall) (row : StoredCall) (kept : List Entry)
    (fault : OpenFault) (tables : Tables) → HasReplayed t rows kept → IsRowFault t kept row fault
    → tables.calls ≡ rows ++ row ∷ rest → IsHead tables.heads (pos 1) t → IsRefusal tables fault
refused_row t rows rest row kept NotALedger tables so_far is same head = absurd is
refused_row t rows rest row kept (Schema n) tables so_far is same head = absurd is
refused_row t rows rest row kept (Damaged k) tables so_far is same head =
    let count : suc (length kept) ≡ k = omega (arith, is.0) in
    subst (λ m. IsRefusal tables (Damaged m)) count (
      t,
      head,
      subst (λ l. IsFirstWrong t l (length kept)) (sym same)
          (first_wrong t rows rest row kept so_far is.1),
    )
refused_row t rows rest row kept NotEmpty tables so_far is same head = absurd is
refused_row t rows rest row kept Memory tables so_far is same head = tt
refused_row t rows rest row kept Store tables so_far is same head = tt
