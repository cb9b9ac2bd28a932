-- Lemmas about lines that are read one byte at a time.
use Rattle.std.proofs.Common.{◌≡◌, ◌≢◌, ℕ, zero, suc, ◌+◌, ◌-◌, ◌<◌, ◌≤◌, List, [], ◌∷◌, ◌++◌, length, take, refl}
use Rattle.std.proofs.Common.{ap, sym, ◌∙◌, arith, Option, Some, None, append_assoc, Bool, true}
use Rattle.std.proofs.Common.{false}
use Rattle.std.specs.Prelude.{◌==◌}
use Rattle.std.specs.List.{AllByRecursion}
use Rattle.std.specs.Io.KnownBytes.{Consumes, Keeps}
use Rattle.std.proofs.lemmas.Bool.{false_from_ne_true, eqb-true, eqb-false}
use Rattle.std.proofs.lemmas.List.{append-nil}
use Rattle.std.proofs.lemmas.Grind.{common_steps}
use Rattle.s10_jobs.specs.InputLines.{pieces, last_piece, lines_of}
use Rattle.s10_jobs.specs.LineReader.{ReadsByte, ReadsLine, ReadsNoFurther, after_line}
use Rattle.s10_jobs.specs.declared.line_reader.NextLine.TheVariants.{End, Whole, Long}

-- The bytes contain no line feed.
abbrev pub IsUnbroken : List ℕ → Type 0
IsUnbroken bytes = AllByRecursion (λ b. b ≢ 10) bytes

-- One read after another.
pub Consumes-append : (a b c : Option (List ℕ)) (xs ys : List ℕ) → Consumes a b xs → Consumes b c ys
    → Consumes a c (xs ++ ys)
Consumes-append None b c xs ys h k = tt
Consumes-append (Some a) None c xs ys h k = absurd h
Consumes-append (Some a) (Some b) None xs ys h k = absurd k
Consumes-append (Some a) (Some b) (Some c) xs ys h k = h ∙ ap (λ l. xs ++ l) k
    ∙ sym (append_assoc xs ys c)

-- A read that failed after another read.
pub Consumes-kept : (a b c : Option (List ℕ)) (xs : List ℕ) → Consumes a b xs → Keeps b c
    → Consumes a c xs
Consumes-kept None b c xs h k = tt
Consumes-kept (Some a) None c xs h k = absurd h
Consumes-kept (Some a) (Some b) None xs h k = absurd k
Consumes-kept (Some a) (Some b) (Some c) xs h k = h ∙ ap (λ l. xs ++ l) (sym k)

is_no_break : (b : ℕ) → b ≢ 10 → (b == 10) ≡ false
is_no_break b h = false_from_ne_true _ (λ e. h (eqb-true b 10 e))

-- A byte that is no line feed is added to the piece before it.
pub pieces_step : (front bytes : List ℕ) (b : ℕ) → b ≢ 10 → pieces front (b ∷ bytes)
    ≡ pieces (front ++ b ∷ []) bytes
unfolding pieces
pieces_step front bytes b h = rw (is_no_break b h) refl

-- The same for several bytes.
pub pieces_walk : (front content rest : List ℕ) → IsUnbroken content
    → pieces front (content ++ rest) ≡ pieces (front ++ content) rest
pieces_walk front [] rest h = ap (λ f. pieces f rest) (sym (append-nil front))
pieces_walk front (b ∷ content) rest h =
    pieces_step front (content ++ rest) b h.0
    ∙ pieces_walk (front ++ b ∷ []) content rest h.1
    ∙ ap (λ f. pieces f rest) (append_assoc front (b ∷ []) content)

pub pieces_break : (front rest : List ℕ) → pieces front (10 ∷ rest) ≡ front ∷ pieces [] rest
unfolding pieces
pieces_break front rest = refl

pub pieces_end : (front : List ℕ) → pieces front [] ≡ last_piece front
unfolding pieces
pieces_end front = refl

pieces_long_at : (front bytes : List ℕ) (b : ℕ) (t : Bool) → (b == 10) ≡ t → (line : List ℕ)
    × (more : List (List ℕ)) × (pieces (front ++ b ∷ []) bytes ≡ line ∷ more)
    × (length (front ++ b ∷ []) ≤ length line)
    → (line : List ℕ) × (more : List (List ℕ)) × (pieces front (b ∷ bytes) ≡ line ∷ more)
    × (length front ≤ length line)
pieces_long_at front bytes b true e rest =
    let ten : b ≡ 10 = eqb-true b 10 e in (
      front,
      pieces [] bytes,
      ap (λ c. pieces front (c ∷ bytes)) ten ∙ pieces_break front bytes,
      omega arith,
    )
pieces_long_at front bytes b false e rest =
    let other : b ≢ 10 = eqb-false b 10 e in
    let grown : length (front ++ b ∷ []) ≡ length front + 1 = grind (arith, common_steps) in
    (rest.0, rest.1, pieces_step front bytes b other ∙ rest.2, omega (arith, rest.3))

-- A first piece has at least the bytes that precede it.
pub pieces_long : (front bytes : List ℕ) → 0 < length front → (line : List ℕ)
    × (more : List (List ℕ)) × (pieces front bytes ≡ line ∷ more) × (length front ≤ length line)
pieces_long [] [] h = let bad : ⊥ = omega arith in absurd bad
pieces_long (f ∷ fs) [] h = (f ∷ fs, [], pieces_end (f ∷ fs), omega arith)
pieces_long front (b ∷ bytes) h =
    let grown : length (front ++ b ∷ []) ≡ length front + 1 = grind (arith, common_steps) in
    pieces_long_at front bytes b (b == 10) refl (pieces_long (front ++ b ∷ []) bytes (omega arith))

pub whole_last : (content : List ℕ) → 0 < length content → last_piece content ≡ content ∷ []
whole_last [] h = let bad : ⊥ = omega arith in absurd bad
whole_last (b ∷ bytes) h = refl

-- The line at the end of the input.
pub line_at_end : (a b c : Option (List ℕ)) (content buffer : List ℕ) (n : ℕ) → Consumes a b content
    → IsUnbroken content → ReadsByte b c None → take n buffer ≡ content → 0 < length content
    → ReadsLine a c buffer (Whole n)
line_at_end None b c content buffer n h free k e long = tt
line_at_end (Some a) None c content buffer n h free k e long = absurd h
line_at_end (Some a) (Some b) None content buffer n h free k e long = absurd k.1
line_at_end (Some a) (Some b) (Some c) content buffer n h free k e long =
    ap lines_of (h ∙ ap (λ l. content ++ l) k.0)
    ∙ pieces_walk [] content [] free ∙ pieces_end content ∙ whole_last content long
    ∙ ap (λ l. content ∷ l) (sym (pieces_end []) ∙ ap lines_of (sym (sym k.1 ∙ k.0)))
    ∙ ap (λ l. l ∷ lines_of c) (sym e)

pub nothing_at_end : (a b c : Option (List ℕ)) (buffer : List ℕ) → Consumes a b []
    → ReadsByte b c None → ReadsLine a c buffer End
nothing_at_end None b c buffer h k = tt
nothing_at_end (Some a) None c buffer h k = absurd h
nothing_at_end (Some a) (Some b) None buffer h k = absurd k.1
nothing_at_end (Some a) (Some b) (Some c) buffer h k = (h ∙ k.0, sym (sym k.0 ∙ k.1))

-- The line that ends at a line feed.
pub line_at_break : (a b c : Option (List ℕ)) (content buffer : List ℕ) (n : ℕ)
    → Consumes a b content → IsUnbroken content → ReadsByte b c (Some 10) → take n buffer ≡ content
    → ReadsLine a c buffer (Whole n)
line_at_break None b c content buffer n h free k e = tt
line_at_break (Some a) None c content buffer n h free k e = absurd h
line_at_break (Some a) (Some b) None content buffer n h free k e = absurd k
line_at_break (Some a) (Some b) (Some c) content buffer n h free k e =
    ap lines_of (h ∙ ap (λ l. content ++ l) k) ∙ pieces_walk [] content (10 ∷ c) free
    ∙ pieces_break content c ∙ ap (λ l. l ∷ lines_of c) (sym e)

-- A line that is longer than the limit.
pub line_too_long : (a b c : Option (List ℕ)) (content buffer : List ℕ) (x : ℕ)
    → Consumes a b content → IsUnbroken content → ReadsByte b c (Some x) → x ≢ 10
    → 1036 ≤ length content → ReadsLine a c buffer Long
line_too_long None b c content buffer x h free k ne e = tt
line_too_long (Some a) None c content buffer x h free k ne e = absurd h
line_too_long (Some a) (Some b) None content buffer x h free k ne e = absurd k
line_too_long (Some a) (Some b) (Some c) content buffer x h free k ne e =
    let grown : length (content ++ x ∷ []) ≡ length content + 1 = grind (arith, common_steps) in
    let rest = pieces_long (content ++ x ∷ []) c (omega arith) in (
      rest.0,
      rest.1,
      ap lines_of (h ∙ ap (λ l. content ++ l) k) ∙ pieces_walk [] content (x ∷ c) free
          ∙ pieces_step content c x ne ∙ rest.2,
      omega (arith, rest.3),
    )

-- The bytes after a line, by the bytes that it begins with.
pub after_step : (most b : ℕ) (bytes : List ℕ) → b ≢ 10 → after_line (suc most) (b ∷ bytes)
    ≡ after_line most bytes
unfolding after_line
after_step most b bytes h = rw (is_no_break b h) refl

pub after_break : (most : ℕ) (rest : List ℕ) → 0 < most → after_line most (10 ∷ rest) ≡ rest
unfolding after_line
after_break zero rest h = let bad : ⊥ = omega arith in absurd bad
after_break (suc most) rest h = refl

pub after_none : (most : ℕ) → after_line most [] ≡ []
unfolding after_line
after_none most = refl

pub after_zero : (bytes : List ℕ) → after_line 0 bytes ≡ bytes
unfolding after_line
after_zero [] = refl
after_zero (b ∷ bytes) = refl

pub after_walk : (content rest : List ℕ) (most less : ℕ) → IsUnbroken content
    → most ≡ length content + less → after_line most (content ++ rest) ≡ after_line less rest
after_walk [] rest most less h is =
    let same : most ≡ less = grind (arith, common_steps, is) in ap (λ n. after_line n rest) same
after_walk (b ∷ content) rest zero less h is =
    let bad : ⊥ = grind (arith, common_steps, is) in absurd bad
after_walk (b ∷ content) rest (suc most) less h is =
    let shorter : most ≡ length content + less = grind (arith, common_steps, is) in
    after_step most b (content ++ rest) h.0
    ∙ after_walk content rest most less h.1 shorter

after_byte_at : (b : ℕ) (bytes : List ℕ) (t : Bool) → (b == 10) ≡ t → after_line 1 (b ∷ bytes)
    ≡ bytes
after_byte_at b bytes true e =
    let ten : b ≡ 10 = eqb-true b 10 e in
    ap (λ c. after_line 1 (c ∷ bytes)) ten ∙ after_break 1 bytes (omega arith)
after_byte_at b bytes false e = after_step 0 b bytes (eqb-false b 10 e) ∙ after_zero bytes

pub after_byte : (b : ℕ) (bytes : List ℕ) → after_line 1 (b ∷ bytes) ≡ bytes
after_byte b bytes = after_byte_at b bytes (b == 10) refl

-- What is left after a line that ends at a line feed, at the end of the input, or not in time.
pub no_further_break : (a b c : Option (List ℕ)) (content : List ℕ) → Consumes a b content
    → IsUnbroken content → ReadsByte b c (Some 10) → length content < 1037 → ReadsNoFurther a c
no_further_break None b c content h free k few = tt
no_further_break (Some a) None c content h free k few = absurd h
no_further_break (Some a) (Some b) None content h free k few = absurd k
no_further_break (Some a) (Some b) (Some c) content h free k few =
    let less = 1037 - length content in
    let some : 0 < less = omega arith in
    sym (ap (after_line 1037) (h ∙ ap (λ l. content ++ l) k)
    ∙ after_walk content (10 ∷ c) 1037 less free (omega arith) ∙ after_break less c some)

pub no_further_end : (a b c : Option (List ℕ)) (content : List ℕ) → Consumes a b content
    → IsUnbroken content → ReadsByte b c None → length content ≤ 1037 → ReadsNoFurther a c
no_further_end None b c content h free k few = tt
no_further_end (Some a) None c content h free k few = absurd h
no_further_end (Some a) (Some b) None content h free k few = absurd k.1
no_further_end (Some a) (Some b) (Some c) content h free k few =
    let less = 1037 - length content in
    sym k.1 ∙ k.0 ∙ sym (ap (after_line 1037) (h ∙ ap (λ l. content ++ l) k.0)
    ∙ after_walk content [] 1037 less free (omega arith) ∙ after_none less)

pub no_further_long : (a b c : Option (List ℕ)) (content : List ℕ) (x : ℕ) → Consumes a b content
    → IsUnbroken content → ReadsByte b c (Some x) → length content ≡ 1036 → ReadsNoFurther a c
no_further_long None b c content x h free k full = tt
no_further_long (Some a) None c content x h free k full = absurd h
no_further_long (Some a) (Some b) None content x h free k full = absurd k
no_further_long (Some a) (Some b) (Some c) content x h free k full =
    sym (ap (after_line 1037) (h ∙ ap (λ l. content ++ l) k)
    ∙ after_walk content (x ∷ c) 1037 1 free (omega (arith, full)) ∙ after_byte x c)

-- Some bytes have a first line, and no bytes have none.
pub no_pieces : lines_of [] ≡ []
no_pieces = pieces_end []

some_at : (b : ℕ) (bytes : List ℕ) (t : Bool) → (b == 10) ≡ t → (line : List ℕ)
    × (more : List (List ℕ)) × (lines_of (b ∷ bytes) ≡ line ∷ more)
some_at b bytes true e =
    let ten : b ≡ 10 = eqb-true b 10 e in
    ([], pieces [] bytes, ap (λ c. pieces [] (c ∷ bytes)) ten ∙ pieces_break [] bytes)
some_at b bytes false e =
    let other : b ≢ 10 = eqb-false b 10 e in
    let rest = pieces_long (b ∷ []) bytes (omega arith) in
    (rest.0, rest.1, pieces_step [] bytes b other ∙ rest.2)

pub pieces_some : (b : ℕ) (bytes : List ℕ) → (line : List ℕ) × (more : List (List ℕ))
    × (lines_of (b ∷ bytes) ≡ line ∷ more)
pieces_some b bytes = some_at b bytes (b == 10) refl
