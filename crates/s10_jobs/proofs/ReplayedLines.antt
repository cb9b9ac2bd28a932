-- Lemmas about a replay, line by line.
use Rattle.std.proofs.Common.{◌≡◌, ◌≢◌, ℕ, ◌+◌, ◌<◌, ◌≤◌, List, [], ◌∷◌, ◌++◌, length, take, Option}
use Rattle.std.proofs.Common.{Some, None, Result, Ok, Err, refl, sym, ap, subst, ◌∙◌, inl, inr}
use Rattle.std.proofs.Common.{append-nil, arith, Bool, true, false}
use Rattle.std.proofs.lemmas.Bool.{eqb-true}
use Rattle.std.specs.Prelude.{⊤, ◌==◌, IfSome}
use Rattle.std.specs.List.{cons_option}
use Rattle.std.specs.Io.KnownBytes.{Appends, Keeps}
use Rattle.std.proofs.lemmas.Option.{none-some}
use Rattle.std.proofs.lemmas.List.{flat_map_more}
use Rattle.std.proofs.lemmas.List.Elements.{filter_map-append}
use Rattle.std.proofs.lemmas.Grind.{common_steps}
use Rattle.s10_history.specs.declared.entry.Entry.{Entry}
use Rattle.s10_history.specs.Settings.{Terms}
use Rattle.s10_ends.specs.declared.answer.Answer.{Answer}
use Rattle.s10_ends.specs.Served.{Dated, Served}
use Rattle.s10_ends.proofs.Whole.{Served-push, Served-nil}
use Rattle.s10_jobs.specs.InputLines.{lines_of, without_return, delivery_in, deliveries_in}
use Rattle.s10_jobs.specs.InputLines.{IsNoDelivery, NoneRefused}
use Rattle.s10_jobs.specs.LineReader.{ReadsByte, ReadsLine, ReadsNoFurther, BeginsLine, after_line}
use Rattle.s10_jobs.specs.AnswerLines.{answer_line}
use Rattle.s10_jobs.specs.Stops.{most_of}
use Rattle.s10_jobs.specs.Replay.{Shows, Ends, Replayed}
use Rattle.s10_jobs.specs.declared.line_reader.NextLine.TheVariants.{End, Whole, Long}
use Rattle.s10_jobs.specs.declared.input_fault.InputFault.{InputFault}
use Rattle.s10_jobs.specs.declared.input_fault.InputFault.TheVariants.{Line, Read, Write}
use Rattle.s10_jobs.proofs.WalkedLines.{Walk, Walk-start, Walk-push, Walk-all, Walk-refused}
use Rattle.s10_jobs.proofs.WalkedLines.{Walk-stopped, Takes, no_line, whole_line, long_line}
use Rattle.s10_jobs.proofs.WalkedLines.{no_further, at_end, kept, begins, after_first, some_line}

is_delivery : (line : List ℕ) (n : ℕ) (d : Dated) → length line ≤ 1036 → n ≤ 1000000
    → delivery_in line ≡ Some d → ¬ IsNoDelivery line n
is_delivery line n d short few is refused =
    elim refused [
      | inl past ↦ elim past [ inl long ↦ omega arith | inr many ↦ omega arith ]
      | inr w ↦ none-some d (sym w.1 ∙ is)
    ]

is_empty : (line : List ℕ) (n : ℕ) → length line ≤ 1036 → n ≤ 1000000 → without_return line
    ≡ [] → ¬ IsNoDelivery line n
is_empty line n short few is refused =
    elim refused [
      | inl past ↦ elim past [ inl long ↦ omega arith | inr many ↦ omega arith ]
      | inr w ↦ w.0 is
    ]

deliveries_push : (lines : List (List ℕ)) (line : List ℕ) (d : Dated) → delivery_in line ≡ Some d
    → deliveries_in (lines ++ line ∷ []) ≡ deliveries_in lines ++ d ∷ []
deliveries_push lines line d is = filter_map-append delivery_in lines (line ∷ [])
    ∙ ap (λ l. deliveries_in lines ++ l) (one_delivery (delivery_in line) d is)
  where
    one_delivery : (o : Option Dated) (e : Dated) → o ≡ Some e → cons_option o [] ≡ e ∷ []
    one_delivery o e same = ap (λ (x : Option Dated). cons_option x []) same

deliveries_same : (lines : List (List ℕ)) (line : List ℕ) → delivery_in line ≡ None
    → deliveries_in (lines ++ line ∷ []) ≡ deliveries_in lines
deliveries_same lines line is =
    filter_map-append delivery_in lines (line ∷ []) ∙ ap (λ (o : Option Dated). deliveries_in lines
    ++ cons_option o []) is ∙ append-nil (deliveries_in lines)

-- After n lines of which none is refused: the answers that are shown, and the lines that remain.
pub record Front (h : List Entry) (t : Terms) (bytes rest held now : List ℕ) (done count : ℕ)
    (h' : List Entry) : Type 0 where
  pub walk : Walk IsNoDelivery bytes rest done
  pub shows : Shows h t walk.before held now h'
  pub count_is : count ≡ length shows.answers

pub Front-start : (h : List Entry) (t : Terms) (bytes held : List ℕ)
    → Front h t bytes bytes held held 0 0 h
Front-start h t bytes held = record {
  walk = Walk-start IsNoDelivery bytes;
  shows = record { answers = []; served = Served-nil h t; written = sym (append-nil held) };
  count_is = refl;
}

pub Front-answer : (h h1 h2 : List Entry) (t : Terms) (bytes left rest held now after line taken :
    List ℕ) (done count : ℕ) (d : Dated) (a : Answer)
    → Front h t bytes left held now done count h1 → left ≡ taken ++ rest
    → lines_of left ≡ line ∷ lines_of rest → length line ≤ 1036 → done < 1000000
    → delivery_in line ≡ Some d
    → Served h1 t (d ∷ []) (a ∷ []) h2 → after ≡ now ++ answer_line a
    → Front h t bytes rest held after (done + 1) (count + 1) h2
Front-answer h h1 h2 t bytes left rest held now after line taken done count d a front read next
    short few is served out = record {
      walk = Walk-push IsNoDelivery bytes left rest line taken done front.walk read next
          (is_delivery line (done + 1) d short (omega arith) is);
      shows = record {
        answers = front.shows.answers ++ a ∷ [];
        served = let P : List Dated → Type 0 = λ l. Served h t l (front.shows.answers ++ a ∷ [])
            h2 in
            subst P (sym (deliveries_push front.walk.before line d is))
            (Served-push h h1 h2 t (deliveries_in front.walk.before) front.shows.answers d a
            front.shows.served served);
        written = out ∙ ap (λ l. l ++ answer_line a) front.shows.written ∙ flat_map_more answer_line
            held front.shows.answers a;
      };
      count_is = grind (arith, common_steps, front.count_is);
    }

pub Front-empty : (h h1 : List Entry) (t : Terms) (bytes left rest held now line taken : List ℕ)
    (done count : ℕ)
    → Front h t bytes left held now done count h1 → left ≡ taken ++ rest
    → lines_of left ≡ line ∷ lines_of rest → length line ≤ 1036 → done < 1000000
    → delivery_in line ≡ None
    → without_return line ≡ [] → Front h t bytes rest held now (done + 1) count h1
Front-empty h h1 t bytes left rest held now line taken done count front read next short few is
    empty = record {
      walk = Walk-push IsNoDelivery bytes left rest line taken done front.walk read next
          (is_empty line (done + 1) short (omega arith) empty);
      shows = record {
        answers = front.shows.answers;
        served = let P : List Dated → Type 0 = λ l. Served h t l front.shows.answers h1 in
            subst P (sym (deliveries_same front.walk.before line is)) front.shows.served;
        written = front.shows.written;
      };
      count_is = front.count_is;
    }

-- All lines are done.
pub Front-end : (h h' : List Entry) (t : Terms) (bytes left held now : List ℕ)
    (new : Option (List ℕ)) (done count : ℕ) → Front h t bytes left held now done count h'
    → left ≡ [] → new ≡ Some []
    → Ends h t bytes new held now (Ok count) h'
Front-end h h' t bytes left held now new done count front end over =
    let P : List (List ℕ) → Type 0 = λ l. (shows : Shows h t l held now h')
    × NoneRefused IsNoDelivery l × (count ≡ length shows.answers) × (new ≡ Some []) in
    subst P (Walk-all IsNoDelivery bytes left done front.walk end)
    (front.shows, front.walk.none_refused, front.count_is, over)

-- The next line is refused.
Front-refused : (h h' : List Entry) (t : Terms) (bytes left held now line : List ℕ)
    (new : Option (List ℕ)) (more : List (List ℕ)) (done count : ℕ)
    → Front h t bytes left held now done count h' → lines_of left ≡ line ∷ more
    → IsNoDelivery line (done + 1) → new ≡ Some (after_line (most_of (done + 1)) left)
    → Ends h t bytes new held now (Err (Line (done + 1))) h'
Front-refused h h' t bytes left held now line new more done count front next refused stopped =
    Walk-refused IsNoDelivery (λ lines. Shows h t lines held now h') bytes left line new more done
    front.walk front.shows next refused stopped

-- The input cannot be read further.
Front-stopped : (h h' : List Entry) (t : Terms) (bytes left held now : List ℕ)
    (new : Option (List ℕ)) (done count : ℕ) → Front h t bytes left held now done count h'
    → BeginsLine (Some left) new → (1000000 ≤ done → new ≡ Some left)
    → Ends h t bytes new held now (Err Read) h'
Front-stopped h h' t bytes left held now new done count front stopped counted =
    Walk-stopped IsNoDelivery (λ lines. Shows h t lines held now h') bytes left new done front.walk
    front.shows stopped counted

-- The same if the bytes and the output are known.
abbrev pub HasReplayed : List Entry → Terms → Option (List ℕ) → Option (List ℕ) → Option (List ℕ)
    → Option (List ℕ) → ℕ → ℕ → List Entry → Type 0
HasReplayed h t None left held now done count h' = ⊤
HasReplayed h t (Some bytes) left None now done count h' = ⊤
HasReplayed h t (Some bytes) None (Some held) now done count h' = ⊥
HasReplayed h t (Some bytes) (Some left) (Some held) None done count h' = ⊥
HasReplayed h t (Some bytes) (Some left) (Some held) (Some now) done count h' =
    Front h t bytes left held now done count h'

pub at_start : (h : List Entry) (t : Terms) (bytes held : Option (List ℕ))
    → HasReplayed h t bytes bytes held held 0 0 h
at_start h t None held = tt
at_start h t (Some bytes) None = tt
at_start h t (Some bytes) (Some held) = Front-start h t bytes held

-- The next answer.
pub one_more : (h h1 h2 : List Entry) (t : Terms) (bytes left rest held now after : Option (List ℕ))
    (buffer : List ℕ) (n done count : ℕ) (d : Dated) (a : Answer)
    → HasReplayed h t bytes left held now done count h1 → ReadsLine left rest buffer (Whole n)
    → Takes left rest → n ≤ 1036 → done < 1000000 → delivery_in (take n buffer) ≡ Some d
    → Served h1 t (d ∷ []) (a ∷ []) h2 → Appends now after (answer_line a)
    → HasReplayed h t bytes rest held after (done + 1) (count + 1) h2
one_more h h1 h2 t None left rest held now after buffer n done count d a front line read short few
    is served out = tt
one_more h h1 h2 t (Some bytes) left rest None now after buffer n done count d a front line read
    short few is served out = tt
one_more h h1 h2 t (Some bytes) None rest (Some held) now after buffer n done count d a front line
    read short few is served out = absurd front
one_more h h1 h2 t (Some bytes) (Some left) None (Some held) now after buffer n done count d a front
    line read short few is served out = absurd line
one_more h h1 h2 t (Some bytes) (Some left) (Some rest) (Some held) None after buffer n done count d
    a front line read short few is served out = absurd front
one_more h h1 h2 t (Some bytes) (Some left) (Some rest) (Some held) (Some now) None buffer n done
    count d a front line read short few is served out = absurd out
one_more h h1 h2 t (Some bytes) (Some left) (Some rest) (Some held) (Some now) (Some after) buffer n
    done count d a front line read short few is served out =
    let fits : length (take n buffer) ≤ 1036 = grind (arith, common_steps) in
    Front-answer h h1 h2 t bytes left rest held now after (take n buffer) read.0 done count d a
    front read.1 line fits few is served out

-- The next empty line.
pub one_empty : (h h1 : List Entry) (t : Terms) (bytes left rest held now : Option (List ℕ))
    (buffer : List ℕ) (n done count : ℕ)
    → HasReplayed h t bytes left held now done count h1 → ReadsLine left rest buffer (Whole n)
    → Takes left rest → n ≤ 1036 → done < 1000000 → delivery_in (take n buffer) ≡ None
    → without_return (take n buffer) ≡ [] → HasReplayed h t bytes rest held now (done + 1) count h1
one_empty h h1 t None left rest held now buffer n done count front line read short few is empty = tt
one_empty h h1 t (Some bytes) left rest None now buffer n done count front line read short few is
    empty = tt
one_empty h h1 t (Some bytes) None rest (Some held) now buffer n done count front line read short
    few is empty = absurd front
one_empty h h1 t (Some bytes) (Some left) None (Some held) now buffer n done count front line read
    short few is empty = absurd line
one_empty h h1 t (Some bytes) (Some left) (Some rest) (Some held) None buffer n done count front
    line read short few is empty = absurd front
one_empty h h1 t (Some bytes) (Some left) (Some rest) (Some held) (Some now) buffer n done count
    front line read short few is empty =
    let fits : length (take n buffer) ≤ 1036 = grind (arith, common_steps) in
    Front-empty h h1 t bytes left rest held now (take n buffer) read.0 done count front read.1 line
    fits few is empty

-- How a replay ends, if the bytes and the output are known.
abbrev pub EndsSo : List Entry → Terms → Option (List ℕ) → Option (List ℕ) → Option (List ℕ)
    → Option (List ℕ) → Result ℕ InputFault → List Entry → Type 0
EndsSo h t bytes new held now result h' =
    IfSome bytes (λ b. IfSome held (λ w. Replayed h t b new w now result h'))

ends : (h h' : List Entry) (t : Terms) (bytes left new held now : Option (List ℕ)) (done count : ℕ)
    (result : Result ℕ InputFault) → HasReplayed h t bytes left held now done count h'
    → ((b l w n : List ℕ) → left ≡ Some l → Front h t b l w n done count h'
    → Ends h t b new w n result h') → EndsSo h t bytes new held now result h'
ends h h' t None left new held now done count result front finish = tt
ends h h' t (Some b) left new None now done count result front finish = tt
ends h h' t (Some b) None new (Some w) now done count result front finish = absurd front
ends h h' t (Some b) (Some l) new (Some w) None done count result front finish = absurd front
ends h h' t (Some b) (Some l) new (Some w) (Some n) done count result front finish =
    finish b l w n refl front

pub ends_at_end : (h h' : List Entry) (t : Terms) (bytes left rest held now : Option (List ℕ))
    (buffer : List ℕ) (done count : ℕ) → HasReplayed h t bytes left held now done count h'
    → ReadsLine left rest buffer End
    → EndsSo h t bytes rest held now (Ok count) h'
ends_at_end h h' t bytes left rest held now buffer done count front read =
    ends h h' t bytes left rest held now done count (Ok count) front
    (λ b l w n is at. let over = no_line left rest buffer l is read in
    Front-end h h' t b l w n rest done count at over.0 over.1)

pub ends_too_long : (h h' : List Entry) (t : Terms) (bytes left rest held now : Option (List ℕ))
    (buffer : List ℕ) (done count : ℕ) → HasReplayed h t bytes left held now done count h'
    → ReadsLine left rest buffer Long → ReadsNoFurther left rest → done < 1000000
    → EndsSo h t bytes rest held now (Err (Line (done + 1))) h'
ends_too_long h h' t bytes left rest held now buffer done count front read stopped few =
    ends h h' t bytes left rest held now done count (Err (Line (done + 1))) front
    (λ b l w n is at. let long = long_line left rest buffer l is read in
    Front-refused h h' t b l w n long.0 rest long.1.0 done count at long.1.1 (inl (inl long.2))
    (no_further left rest l (done + 1) is stopped (omega arith)))

pub ends_refused : (h h' : List Entry) (t : Terms) (bytes left rest held now : Option (List ℕ))
    (buffer : List ℕ) (n done count : ℕ) → HasReplayed h t bytes left held now done count h'
    → ReadsLine left rest buffer (Whole n) → ReadsNoFurther left rest → done < 1000000
    → delivery_in (take n buffer) ≡ None → without_return (take n buffer) ≢ []
    → EndsSo h t bytes rest held now (Err (Line (done + 1))) h'
ends_refused h h' t bytes left rest held now buffer k done count front read stopped few is full =
    ends h h' t bytes left rest held now done count (Err (Line (done + 1))) front
    (λ b l w n same at. let line = whole_line left rest buffer l k same read in
    Front-refused h h' t b l w n (take k buffer) rest line.0 done count at line.1
    (inr (full, is)) (no_further left rest l (done + 1) same stopped (omega arith)))

pub ends_stopped : (h h' : List Entry) (t : Terms) (bytes left rest held now : Option (List ℕ))
    (done count : ℕ) → HasReplayed h t bytes left held now done count h' → BeginsLine left rest
    → done < 1000000
    → EndsSo h t bytes rest held now (Err Read) h'
ends_stopped h h' t bytes left rest held now done count front stopped few =
    ends h h' t bytes left rest held now done count (Err Read) front
    (λ b l w n is at. let P : Option (List ℕ) → Type 0 = λ o. BeginsLine o rest in
    Front-stopped h h' t b l w n rest done count at (subst P is stopped)
    (λ many. absurd (omega arith)))

pub ends_unwritten : (h h' : List Entry) (t : Terms) (bytes rest held now : Option (List ℕ))
    → EndsSo h t bytes rest held now (Err Write) h'
ends_unwritten h h' t None rest held now = tt
ends_unwritten h h' t (Some b) rest None now = tt
ends_unwritten h h' t (Some b) rest (Some w) None = tt
ends_unwritten h h' t (Some b) rest (Some w) (Some n) = tt

-- The input is at its end after the last line allowed.
pub ends_last : (h h' : List Entry) (t : Terms) (bytes left rest held now : Option (List ℕ))
    (done count : ℕ) → HasReplayed h t bytes left held now done count h' → ReadsByte left rest None
    → EndsSo h t bytes rest held now (Ok count) h'
ends_last h h' t bytes left rest held now done count front read =
    ends h h' t bytes left rest held now done count (Ok count) front
    (λ b l w n is at. let over = at_end left rest l is read in
    Front-end h h' t b l w n rest done count at over.0 over.1)

pub ends_unread : (h h' : List Entry) (t : Terms) (bytes left rest held now : Option (List ℕ))
    (done count : ℕ) → HasReplayed h t bytes left held now done count h' → Keeps left rest
    → EndsSo h t bytes rest held now (Err Read) h'
ends_unread h h' t bytes left rest held now done count front read =
    ends h h' t bytes left rest held now done count (Err Read) front
    (λ b l w n is at. let same = kept left rest l is read in
    Front-stopped h h' t b l w n rest done count at (begins rest l same) (λ many. same))

pub ends_one_too_many : (h h' : List Entry) (t : Terms) (bytes left rest held now : Option (List ℕ))
    (byte done count : ℕ) → HasReplayed h t bytes left held now done count h'
    → ReadsByte left rest (Some byte) → done ≡ 1000000
    → EndsSo h t bytes rest held now (Err (Line 1000001)) h'
ends_one_too_many h h' t bytes left rest held now byte done count front read many =
    let P : ℕ → Type 0 = λ k. EndsSo h t bytes rest held now (Err (Line (k + 1))) h' in
    subst P many (ends h h' t bytes left rest held now done count (Err (Line (done + 1))) front
    (λ b l w n is at. let line = some_line left rest byte l is read in
    Front-refused h h' t b l w n line.0 rest line.1.0 done count at line.1.1
    (inl (inr (omega arith))) (after_first left rest byte done l many is read)))

-- Lemmas about a test for an empty text.
pub not_empty : (text line : List ℕ) (b : Bool) → text ≡ line → b ≡ (length text == 0) → b ≡ false
    → line ≢ []
not_empty text line b same is no' empty = let yes' : (length text == 0) ≡ true =
    ap (λ (l : List ℕ). length l == 0) (same ∙ empty) in absurd cc

pub is_nothing : (text line : List ℕ) (b : Bool) → text ≡ line → b ≡ (length text == 0) → b ≡ true
    → line ≡ []
is_nothing [] line b same is yes' = sym same
is_nothing (x ∷ xs) line b same is yes' = let none : length (x ∷ xs) ≡ 0 =
    eqb-true (length (x ∷ xs)) 0 (sym is ∙ yes') in absurd (omega (arith, none))
