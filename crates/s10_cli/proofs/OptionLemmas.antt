-- Lemmas about the values that the getters of the matches read from the rows.
use Rattle.std.proofs.Common.{◌≡◌, ◌∙◌, sym, ap, subst, refl, arith, ℕ, Bool, true, false, List}
use Rattle.std.proofs.Common.{Option, Some, None, Result, Ok, Err}
use Rattle.std.specs.Prelude.{◌≢◌, ◌<◌, ◌≤◌, ◌^◌, SomeIff, codes, option_map, [], ◌∷◌, length, map}
use Rattle.std.proofs.Common.{slice_index_or}
use Rattle.std.specs.Borrow.{Bor}
use Rattle.std.specs.Io.KnownBytes.{append_known, prepend_known}
use Rattle.std.specs.Io.Buffered.{reader_buffer, reader_capacity, reader_inner, reader_remaining}
use Rattle.std.specs.Io.Buffered.{writer_buffer, writer_contents, writer_inner}
use Rattle.std.specs.declared.io.buffered.BufReader.{BufReader}
use Rattle.std.specs.declared.io.buffered.BufWriter.{BufWriter}
use Rattle.std.proofs.lemmas.List.{append-nil}
use Rattle.std.proofs.lemmas.Option.{same_Some}
use Rattle.std.specs.Str.Parse.{IsNumeral, ParsesUnsigned, digits_value, without_leading_plus}
use Rattle.clap.specs.Words.{Row, ReadsOne, all_of, first_value, matched_of, one_text, raw_values}
use Rattle.clap.specs.Words.{rows_of}
use Rattle.clap.specs.declared.parser.matches.Found.{Found}
use Rattle.clap.proofs.WalkLemmas.{first_value-rows, one_text-rows, raw_values-rows}
use Rattle.s10_core.specs.declared.id.Id.{Id}
use Rattle.s10_core.specs.Id.{SpellsLoosely}
use Rattle.s10_core.specs.Serial.{IsSerial}
use Rattle.s10_wire.specs.Ids.{IsCount}
use Rattle.s10_history.specs.Settings.{Terms, AreTerms}
use Rattle.s10_cli.specs.CommandLine.{RunsLine}
use Rattle.s10_cli.specs.Options.{Finds, HasCount, HasNumber, HasParts, HasSerial, HasSettings}
use Rattle.s10_cli.specs.Options.{HasIdentifier, HasText, HasTries, IsFlag}
use Rattle.s10_cli.specs.declared.parts.Parts.{Parts}

pub number_unique : (rows : List Row) (name : List ℕ) (a b : ℕ) → HasNumber rows name a
    → HasNumber rows name b → a ≡ b
unfolding HasNumber
number_unique rows name a b p q =
    let same : p.0 ≡ q.0 = cc (p.1, q.1) in
    sym p.2.1 ∙ ap (λ (t : List ℕ). digits_value 10 (without_leading_plus t)) same ∙ q.2.1

pub finds_text : (f : Found) (name : List ℕ) (o : Option (List ℕ)) → o ≡ first_value f name
    → Finds (HasText (rows_of f) name) o
unfolding HasText
finds_text f name None e = λ text has. let rows = first_value-rows f name in cc
finds_text f name (Some text) e = sym (e ∙ first_value-rows f name)

pub is_flag : (f : Found) (name : List ℕ) (given : Bool) → (one_text f name ≡ None → given ≡ false)
    → (one_text f name ≡ Some (codes "true") → given ≡ true)
    → (one_text f name ≡ Some (codes "false") → given ≡ false) → IsFlag (rows_of f) name given
unfolding IsFlag
is_flag f name given none up down =
    let rows = one_text-rows f name in
    (λ h. up (rows ∙ h), λ h. down (rows ∙ h), λ h. none (rows ∙ h))

not_there : (f : Found) (name : List ℕ) → one_text f name ≡ None → (n : ℕ)
    → ¬ HasNumber (rows_of f) name n
unfolding HasNumber
not_there f name e n has = let rows = one_text-rows f name in cc (has.1)

not_number : (f : Found) (name text : List ℕ) → one_text f name ≡ Some text
    → ¬ (IsNumeral 10 (without_leading_plus text) × (digits_value 10 (without_leading_plus text)
    < 2 ^ 32)) → (n : ℕ) → ¬ HasNumber (rows_of f) name n
unfolding HasNumber
not_number f name text e refused n has =
    let rows = one_text-rows f name in
    let same : has.0 ≡ text = cc (has.1) in
    refused (rw (← same) (has.2.0, rw has.2.1 has.2.2))

is_number : (f : Found) (name text : List ℕ) (n : ℕ) → one_text f name ≡ Some text
    → (IsNumeral 10 (without_leading_plus text) × (digits_value 10 (without_leading_plus text)
    < 2 ^ 32)) × (n ≡ digits_value 10 (without_leading_plus text))
    → HasNumber (rows_of f) name n
unfolding HasNumber
is_number f name text n e p = (text, sym (one_text-rows f name) ∙ e, (p.0.0, sym p.1, rw p.1 p.0.1))

pub finds_number : {E : Type 0} (gives : List ℕ → Result ℕ E → Type 0)
    → ((t : List ℕ) (r : Result ℕ E) → gives t r → ParsesUnsigned 32 10 t r)
    → (f : Found) (name : List ℕ) (o : Option ℕ) → (one_text f name ≡ None → o ≡ None)
    → ((t : List ℕ) → one_text f name ≡ Some t → ReadsOne gives t o)
    → Finds (HasNumber (rows_of f) name) o
finds_number {E} gives parses f name o none value = go (one_text f name) refl o none value
  where
    go : (read : Option (List ℕ)) → one_text f name ≡ read → (o : Option ℕ)
        → (one_text f name ≡ None → o ≡ None)
        → ((t : List ℕ) → one_text f name ≡ Some t → ReadsOne gives t o)
        → Finds (HasNumber (rows_of f) name) o
    go None e None none value = not_there f name e
    go None e (Some n) none value = let bad = none e in cc
    go (Some text) e None none value = let failed = value text e in
        not_number f name text e (parses text (Err failed.0) failed.1)
    go (Some text) e (Some n) none value =
        is_number f name text n e (parses text (Ok n) (value text e))

-- A text that spells no identifier gives none.
pub no_identifier : (rows : List Row) (name text : List ℕ) → HasText rows name text
    → ((id : Id) → ¬ SpellsLoosely text id) → (id : Option Id) → ¬ HasIdentifier rows name id
unfolding HasText
no_identifier rows name text has none None given = given text has
no_identifier rows name text has none (Some id) given =
    let same : given.0 ≡ text = same_Some _ _ (sym given.1 ∙ has) in
    none id (subst (λ (t : List ℕ). SpellsLoosely t id) same given.2)

-- A list of three.
pub three_are : (xs : List (Bor (List ℕ))) (d : Bor (List ℕ)) → length xs ≡ 3 → map (λ v. v.now) xs
    ≡ (slice_index_or xs 0 d).now ∷ (slice_index_or xs 1 d).now ∷ (slice_index_or xs 2 d).now ∷ []
three_are [] d e = absurd (omega (arith, e))
three_are (x ∷ []) d e = absurd (omega (arith, e))
three_are (x ∷ y ∷ []) d e = absurd (omega (arith, e))
three_are (x ∷ y ∷ z ∷ []) d e = refl
three_are (x ∷ y ∷ z ∷ w ∷ more) d e = absurd (omega (arith, e))

-- The values of `parts` are these, or there are none.
all_is : (f : Found) (values : Option (List (List ℕ)))
    → values ≡ option_map raw_values (matched_of f (codes "parts"))
    → values ≡ all_of (codes "parts") (rows_of f)
all_is f values e = e ∙ raw_values-rows f (codes "parts")

pub has_parts : (f : Found) (values : List (List ℕ)) (parts : Parts)
    → Some values ≡ option_map raw_values (matched_of f (codes "parts"))
    → values ≡ parts.service.now ∷ parts.serial.now ∷ parts.country.now ∷ []
    → HasParts (rows_of f) parts
unfolding HasParts
has_parts f values parts e are = sym (all_is f (Some values) e) ∙ ap Some are

pub not_three : (f : Found) (values : List (List ℕ)) (parts : Parts)
    → Some values ≡ option_map raw_values (matched_of f (codes "parts"))
    → length values ≢ 3 → ¬ HasParts (rows_of f) parts
unfolding HasParts
not_three f values parts e other has =
    let three : Some values ≡ Some (parts.service.now ∷ parts.serial.now ∷ parts.country.now ∷ []) =
    all_is f (Some values) e ∙ has in
    other (ap length (same_Some _ _ three))

pub no_parts : (f : Found) (parts : Parts)
    → None ≡ option_map raw_values (matched_of f (codes "parts")) → ¬ HasParts (rows_of f) parts
unfolding HasParts
no_parts f parts e has =
    let none : None ≡ Some (parts.service.now ∷ parts.serial.now ∷ parts.country.now ∷ []) =
    all_is f None e ∙ has in cc

-- A new buffer adds nothing to what is written or read.
pub no_more : (known : Option (List ℕ)) → append_known known [] ≡ known
no_more None = refl
no_more (Some held) = ap (λ (bytes : List ℕ). Some bytes) (append-nil held)

pub finds_settings : (rows : List Row) (interval limit : ℕ) (o : Option Terms)
    → HasNumber rows (codes "interval") interval → HasNumber rows (codes "limit") limit
    → SomeIff o (AreTerms (record { interval = interval; limit = limit }))
    (record { interval = interval; limit = limit }) → Finds (HasSettings rows) o
finds_settings rows interval limit None hi hl refused = λ t has.
    let i : t.interval ≡ interval = number_unique rows _ _ _ has.0 hi in
    let l : t.limit ≡ limit = number_unique rows _ _ _ has.1 hl in
    refused (subst (λ (x : ℕ). AreTerms (record { interval = x; limit = limit })) i
    (subst (λ (y : ℕ). AreTerms (record { interval = t.interval; limit = y })) l has.2))
finds_settings rows interval limit (Some s) hi hl are =
    subst (λ (t : Terms). HasSettings rows t) (sym are.1) (hi, hl, are.0)

pub finds_tries : (rows : List Row) (n : ℕ) (o : Option ℕ) → HasNumber rows (codes "tries") n
    → SomeIff o ((1 ≤ n) × (n ≤ 100)) n → Finds (HasTries rows) o
finds_tries rows n None h refused = λ t has. let e : t ≡ n = number_unique rows _ _ _ has.0 h in
    refused (rw (← e) (has.1, has.2))
finds_tries rows n (Some t) h are = subst (λ (x : ℕ). HasTries rows x) (sym are.1) (
  h,
  are.0.0,
  are.0.1,
)

pub finds_count : (rows : List Row) (n : ℕ) (o : Option ℕ) → HasNumber rows (codes "count") n
    → SomeIff o (IsCount n) n → Finds (HasCount rows) o
finds_count rows n None h refused = λ c has. let e : c ≡ n = number_unique rows _ _ _ has.0 h in
    refused (rw (← e) has.1)
finds_count rows n (Some c) h are = subst (λ (x : ℕ). HasCount rows x) (sym are.1) (h, are.0)

pub finds_serial : (rows : List Row) (name : List ℕ) (n : ℕ) (o : Option ℕ) → HasNumber rows name n
    → SomeIff o (IsSerial n) n → Finds (HasSerial rows name) o
finds_serial rows name n None h refused = λ s has. let e : s ≡ n =
    number_unique rows _ _ _ has.0 h in refused (rw (← e) has.1)
finds_serial rows name n (Some s) h are = subst (λ (x : ℕ). HasSerial rows name x) (sym are.1) (
  h,
  are.0,
)

pub no_count : (rows : List Row) (n : ℕ) → HasNumber rows (codes "count") n → ¬ (n < 2 ^ 8)
    → (c : ℕ) → ¬ HasCount rows c
no_count rows n h large c has =
    let e : c ≡ n = number_unique rows _ _ _ has.0 h in
    let least = has.1.0 in
    let most = has.1.1 in
    large (omega (arith, e, most))

pub new_reader : {T A : Type 0} (remaining : T → Option (List ℕ)) (reader : BufReader T A)
    (inner : T) → reader_inner reader ≡ inner → reader_buffer reader ≡ []
    → reader_capacity reader ≡ 8192 → reader_remaining remaining reader ≡ remaining inner
new_reader remaining reader inner is empty capacity =
    rw (capacity, empty, is) (go (remaining inner))
  where
    go : (known : Option (List ℕ)) → prepend_known [] known ≡ known
    go None = refl
    go (Some bytes) = refl

pub new_writer : {T A : Type 0} (contents : T → Option (List ℕ)) (writer : BufWriter T A)
    (inner : T) → writer_inner writer ≡ inner → writer_buffer writer ≡ []
    → writer_contents contents writer ≡ contents inner
new_writer contents writer inner is empty = rw (empty, is) (no_more (contents inner))

pub runs_from : (words : List (List ℕ)) (a input rest b old printed : Option (List ℕ))
    (status : Option ℕ) → a ≡ input → b ≡ old
    → RunsLine words a rest b printed status → RunsLine words input rest old printed status
runs_from words a input rest b old printed status i o runs =
    subst (λ (x : Option (List ℕ)). RunsLine words x rest old printed status) i
    (subst (λ (y : Option (List ℕ)). RunsLine words a rest y printed status) o runs)
