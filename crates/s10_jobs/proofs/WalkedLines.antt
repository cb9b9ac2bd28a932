-- Lemmas about the lines of an input that were read, and those that remain.
use Rattle.std.proofs.Common.{◌≡◌, ◌≢◌, ℕ, zero, suc, ◌+◌, ◌-◌, ◌<◌, ◌≤◌, List, [], ◌∷◌, ◌++◌}
use Rattle.std.proofs.Common.{length, take, drop, Option, Some, None, refl, sym, ap, subst, ◌∙◌}
use Rattle.std.proofs.Common.{append_assoc, append-nil, arith, Bool}
use Rattle.std.proofs.lemmas.Bool.{le-leb}
use Rattle.std.specs.Prelude.{if◌then◌else◌, slice_get}
use Rattle.std.specs.Io.KnownBytes.{Consumes, Keeps}
use Rattle.std.proofs.Math.Seq.{take-append_seam, drop-append_seam}
use Rattle.std.proofs.lemmas.Option.{none-some, same_Some}
use Rattle.std.proofs.lemmas.List.Elements.{All-nil}
use Rattle.std.proofs.lemmas.Grind.{common_steps}
use Rattle.s10_jobs.specs.InputLines.{lines_of, NoneRefused}
use Rattle.s10_jobs.specs.LineReader.{ReadsByte, ReadsLine, ReadsNoFurther, BeginsLine, after_line}
use Rattle.s10_jobs.specs.Stops.{StopsBy, most_of}
use Rattle.s10_jobs.specs.declared.line_reader.NextLine.TheVariants.{End, Whole, Long}
use Rattle.s10_jobs.specs.declared.input_fault.InputFault.TheVariants.{Line, Read}
use Rattle.s10_jobs.proofs.LineReading.{pieces_some, no_pieces, after_byte}

-- A property of each element and its index holds with one more element.
pub each_push : (P : List ℕ → ℕ → Type 0) (xs : List (List ℕ)) (x : List ℕ)
    → ((k : ℕ) (y : List ℕ) → slice_get xs k ≡ Some y → P y k) → P x (length xs)
    → (k : ℕ) (y : List ℕ) → slice_get (xs ++ x ∷ []) k ≡ Some y → P y k
each_push P [] x all here zero y at = subst (λ z. P z 0) (same_Some x y at) here
each_push P [] x all here (suc k) y at = absurd (none-some y at)
each_push P (z ∷ zs) x all here zero y at = all zero y at
each_push P (z ∷ zs) x all here (suc k) y at = each_push (λ w n. P w (suc n)) zs x
    (λ j w is. all (suc j) w is) here k y at

-- After n lines of which none is refused: the lines that remain.
pub record Walk (Refuses : List ℕ → ℕ → Type 0) (bytes rest : List ℕ) (done : ℕ) : Type 0 where
  pub read : List ℕ
  pub parts : bytes ≡ read ++ rest
  pub before : List (List ℕ)
  pub lines : lines_of bytes ≡ before ++ lines_of rest
  pub done_is : done ≡ length before
  pub none_refused : NoneRefused Refuses before

abbrev pub Walk-start : (Refuses : List ℕ → ℕ → Type 0) (bytes : List ℕ) → Walk Refuses bytes bytes 0
Walk-start Refuses bytes = record {
  read = [];
  parts = refl;
  before = [];
  lines = refl;
  done_is = refl;
  none_refused = λ k line at. absurd (none-some line at);
}

pub one_longer : (before : List (List ℕ)) (line : List ℕ) (done : ℕ) → done ≡ length before
    → done + 1 ≡ length (before ++ line ∷ [])
one_longer before line done is = grind (arith, common_steps, is)

-- One more line.
abbrev pub Walk-push : (Refuses : List ℕ → ℕ → Type 0) (bytes left rest line taken : List ℕ) (done : ℕ)
    → Walk Refuses bytes left done → left ≡ taken ++ rest → lines_of left ≡ line ∷ lines_of rest
    → ¬ Refuses line (done + 1) → Walk Refuses bytes rest (done + 1)
Walk-push Refuses bytes left rest line taken done walk read next fits = record {
  read = walk.read ++ taken;
  parts = walk.parts ∙ ap (λ l. walk.read ++ l) read ∙ sym (append_assoc walk.read taken rest);
  before = walk.before ++ line ∷ [];
  lines = walk.lines ∙ ap (λ l. walk.before ++ l) next
      ∙ sym (append_assoc walk.before (line ∷ []) (lines_of rest));
  done_is = one_longer walk.before line done walk.done_is;
  none_refused = each_push (λ l n. ¬ Refuses l (n + 1)) walk.before line walk.none_refused
      (subst (λ n. ¬ Refuses line (n + 1)) walk.done_is fits);
}

-- All lines are read.
pub Walk-all : (Refuses : List ℕ → ℕ → Type 0) (bytes left : List ℕ) (done : ℕ)
    (walk : Walk Refuses bytes left done) → left ≡ [] → walk.before ≡ lines_of bytes
Walk-all Refuses bytes left done walk end =
    sym (walk.lines ∙ ap (λ l. walk.before ++ l) (ap lines_of end ∙ no_pieces)
    ∙ append-nil walk.before)

walk_left : (Refuses : List ℕ → ℕ → Type 0) (bytes left : List ℕ) (done : ℕ)
    → Walk Refuses bytes left done → lines_of left ≡ drop done (lines_of bytes)
walk_left Refuses bytes left done walk =
    sym (ap (λ n. drop n (lines_of bytes)) walk.done_is ∙ ap (λ l. drop (length walk.before) l)
    walk.lines ∙ drop-append_seam walk.before (lines_of left))

walk_taken : (Refuses : List ℕ → ℕ → Type 0) (bytes left : List ℕ) (done : ℕ)
    (walk : Walk Refuses bytes left done) → take done (lines_of bytes) ≡ walk.before
walk_taken Refuses bytes left done walk =
    ap (λ n. take n (lines_of bytes)) walk.done_is ∙ ap (λ l. take (length walk.before) l)
    walk.lines ∙ take-append_seam walk.before (lines_of left)

place : (before more : List (List ℕ)) (line : List ℕ)
    → slice_get (before ++ line ∷ more) (length before) ≡ Some line
place [] more line = refl
place (x ∷ xs) more line = place xs more line

-- The next line is refused.
pub Walk-refused : (Refuses : List ℕ → ℕ → Type 0) (Shows : List (List ℕ) → Type 0)
    (bytes left line : List ℕ) (new : Option (List ℕ)) (more : List (List ℕ)) (done : ℕ)
    (walk : Walk Refuses bytes left done) → Shows walk.before → lines_of left ≡ line ∷ more
    → Refuses line (done + 1) → new ≡ Some (after_line (most_of (done + 1)) left)
    → StopsBy Refuses Shows bytes new (Line (done + 1))
Walk-refused Refuses Shows bytes left line new more done walk shows next refused stopped =
    let same : done + 1 - 1 ≡ done = omega arith in
    let taken : take (done + 1 - 1) (lines_of bytes) ≡ walk.before =
    ap (λ n. take n (lines_of bytes)) same ∙ walk_taken Refuses bytes left done walk in
    let there : slice_get (lines_of bytes) (done + 1 - 1) ≡ Some line =
    ap (λ n. slice_get (lines_of bytes) n) (same ∙ walk.done_is)
    ∙ ap (λ l. slice_get l (length walk.before)) (walk.lines ∙ ap (λ l. walk.before ++ l)
    next) ∙ place walk.before more line in (
      record {
        line = line;
        there = there;
        counted = omega arith;
        refused = refused;
        none_before = subst (NoneRefused Refuses) (sym taken) walk.none_refused;
      },
      subst Shows (sym taken) shows,
      record {
        read = walk.read;
        rest = left;
        parts = walk.parts;
        unread_lines = walk_left Refuses bytes left done walk
            ∙ ap (λ n. drop n (lines_of bytes)) (sym same);
        stopped = stopped;
      },
    )

-- The input cannot be read further.
pub Walk-stopped : (Refuses : List ℕ → ℕ → Type 0) (Shows : List (List ℕ) → Type 0)
    (bytes left : List ℕ) (new : Option (List ℕ)) (done : ℕ) (walk : Walk Refuses bytes left done)
    → Shows walk.before → BeginsLine (Some left) new → (1000000 ≤ done → new ≡ Some left)
    → StopsBy Refuses Shows bytes new Read
Walk-stopped Refuses Shows bytes left new done walk shows stopped counted =
    let taken = sym (walk_taken Refuses bytes left done walk) in (
      done,
      subst Shows taken shows,
      record {
        read = walk.read;
        rest = left;
        parts = walk.parts;
        unread_lines = walk_left Refuses bytes left done walk;
        none_refused = subst (NoneRefused Refuses) taken walk.none_refused;
        stopped = stopped;
        counted = counted;
      },
    )

-- Some bytes were read.
abbrev pub Takes : Option (List ℕ) → Option (List ℕ) → Type 0
Takes old new = (bytes : List ℕ) × Consumes old new bytes

-- What a read says of the remaining bytes, if these are known.
pub no_line : (left rest : Option (List ℕ)) (buffer l : List ℕ) → left ≡ Some l
    → ReadsLine left rest buffer End → (l ≡ []) × (rest ≡ Some [])
no_line None rest buffer l is read = absurd (none-some l is)
no_line (Some x) None buffer l is read = absurd read
no_line (Some x) (Some r) buffer l is read = (sym (same_Some x l is) ∙ read.0, ap Some read.1)

abbrev pub LineOf : List ℕ → List ℕ → Type 0
LineOf l line = (more : List (List ℕ)) × (lines_of l ≡ line ∷ more)

pub whole_line : (left rest : Option (List ℕ)) (buffer l : List ℕ) (n : ℕ) → left ≡ Some l
    → ReadsLine left rest buffer (Whole n) → LineOf l (take n buffer)
whole_line None rest buffer l n is read = absurd (none-some l is)
whole_line (Some x) None buffer l n is read = absurd read
whole_line (Some x) (Some r) buffer l n is read = (
  lines_of r,
  ap lines_of (sym (same_Some x l is))
      ∙ read,
)

pub long_line : (left rest : Option (List ℕ)) (buffer l : List ℕ) → left ≡ Some l
    → ReadsLine left rest buffer Long → (line : List ℕ) × LineOf l line × (1036 < length line)
long_line None rest buffer l is read = absurd (none-some l is)
long_line (Some x) None buffer l is read = absurd read
long_line (Some x) (Some r) buffer l is read =
    (read.0, (read.1, ap lines_of (sym (same_Some x l is)) ∙ read.2), read.3)

-- Of a line that is no more than the last one allowed, 1,037 bytes are read.
most_few : (number : ℕ) → number ≤ 1000000 → most_of number ≡ 1037
most_few number few = ap (λ (b : Bool). if b then 1037 else 1) (le-leb number 1000000 few)

pub no_further : (left rest : Option (List ℕ)) (l : List ℕ) (number : ℕ) → left ≡ Some l
    → ReadsNoFurther left rest → number ≤ 1000000 → rest ≡ Some (after_line (most_of number) l)
no_further None rest l number is read few = absurd (none-some l is)
no_further (Some x) None l number is read few = absurd read
no_further (Some x) (Some r) l number is read few =
    ap Some (read ∙ ap (after_line 1037) (same_Some x l is)
    ∙ ap (λ n. after_line n l) (sym (most_few number few)))

pub at_end : (left rest : Option (List ℕ)) (l : List ℕ) → left ≡ Some l → ReadsByte left rest None
    → (l ≡ []) × (rest ≡ Some [])
at_end None y l is read = absurd (none-some l is)
at_end (Some x) None l is read = absurd read.1
at_end (Some x) (Some y) l is read = (sym (same_Some x l is) ∙ read.0, ap Some (sym read.1 ∙ read.0))

pub kept : (left rest : Option (List ℕ)) (l : List ℕ) → left ≡ Some l → Keeps left rest
    → rest ≡ Some l
kept None y l is read = absurd (none-some l is)
kept (Some x) None l is read = absurd read
kept (Some x) (Some y) l is read = ap Some read ∙ is

-- Nothing of the next line was read.
pub begins : (rest : Option (List ℕ)) (l : List ℕ) → rest ≡ Some l → BeginsLine (Some l) rest
begins rest l is = record {
  begun = [];
  taken = subst (λ o. Consumes (Some l) o []) (sym is) refl;
  unbroken = All-nil (λ b. b ≢ 10);
  short = omega arith;
}

-- One byte was read after the last line allowed.
pub after_first : (left rest : Option (List ℕ)) (byte done : ℕ) (l : List ℕ) → done ≡ 1000000
    → left ≡ Some l → ReadsByte left rest (Some byte) → rest ≡ Some (after_line (most_of (done + 1)) l)
after_first None y byte done l many is read = absurd (none-some l is)
after_first (Some x) None byte done l many is read = absurd read
after_first (Some x) (Some r) byte done l many is read =
    let one : most_of (done + 1) ≡ 1 = ap (λ k. most_of (k + 1)) many in
    ap Some (sym (ap (λ n. after_line n l) one ∙ ap (after_line 1) (sym (same_Some x l is)
    ∙ read) ∙ after_byte byte r))

pub some_line : (left rest : Option (List ℕ)) (byte : ℕ) (l : List ℕ) → left ≡ Some l
    → ReadsByte left rest (Some byte) → (line : List ℕ) × LineOf l line
some_line None y byte l is read = absurd (none-some l is)
some_line (Some x) None byte l is read = absurd read
some_line (Some x) (Some r) byte l is read = let some = pieces_some byte r in
    (some.0, (some.1, ap lines_of (sym (same_Some x l is) ∙ read) ∙ some.2))
