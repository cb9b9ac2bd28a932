-- Lemmas about the turns of a server, one more batch at a time.
use Rattle.std.proofs.Common.{◌≡◌, ℕ, ◌+◌, ◌<◌, ◌≤◌, Bool, true, false, List, [], ◌∷◌, ◌++◌, length}
use Rattle.std.proofs.Common.{Option, Some, None, Result, Ok, Err, refl, sym, ap, subst, ◌∙◌, arith}
use Rattle.std.proofs.Common.{◌≢◌, length-append, map, inl, inr}
use Rattle.std.proofs.lemmas.List.{map-append}
use Rattle.std.proofs.lemmas.List.Elements.{All-nil, All-push}
use Rattle.std.specs.Prelude.{IfOk, IsErrAnd, IsSome, All, codes}
use Rattle.std.specs.List.{flat_map}
use Rattle.std.specs.Io.KnownBytes.{Appends}
use Rattle.std.proofs.KnownBytes.{Appends-nil, Appends-trans}
use Rattle.std.proofs.lemmas.List.{flat_map_more}
use Rattle.std.proofs.lemmas.Grind.{flat_map-append}
use Rattle.std.proofs.lemmas.Option.{none-some, same_Some}
use Rattle.s10_lines.specs.declared.write_fault.WriteFault.{WriteFault}
use Rattle.s10_link.specs.declared.trace.Trace.{Trace}
use Rattle.s10_history.specs.declared.entry.Entry.{Entry}
use Rattle.s10_history.specs.Settings.{Terms}
use Rattle.s10_book.specs.declared.faults.Faults.{Faults}
use Rattle.s10_book.specs.Rules.{IsLegal}
use Rattle.s10_jobs.specs.declared.job_status.JobStatus.{JobStatus}
use Rattle.s10_jobs.specs.declared.job_status.JobStatus.TheVariants.{Done, Refused, CommandLine, Failed}
use Rattle.s10_jobs.specs.TurnLines.{turn_line}
use Rattle.s10_ends.specs.Composed.{DatedBatch, BatchesLead, IsBatch, turns_in, days_of}
use Rattle.s10_book.specs.Book.{Grows}
use Rattle.s10_ends.proofs.Carrying.{batches_carry}
use Rattle.s10_ends.proofs.Composing.{all_composed}
use Rattle.s10_ends.proofs.Stops.{survived}
use Rattle.s10_jobs.specs.declared.turn_options.TurnOptions.{TurnOptions}
use Rattle.s10_jobs.specs.Days.{Gives, IsNoDay, IsTaken, AreTaken}
use Rattle.s10_jobs.specs.DayGuard.{guard_of, IsNextDay, IsRefusedDay, IsServedDay}
use Rattle.s10_jobs.specs.Ending.{noes, AreEnded}
use Rattle.s10_jobs.specs.Serving.{DaysFit, Serves, ServesLink, ServesTurns}

lead_more : {S : Type 0} (IsStep : S → DatedBatch → S → Type 0) (old : S)
    (batches : List DatedBatch) (mid new : S) (batch : DatedBatch)
    → BatchesLead IsStep old batches mid → IsStep mid batch new
    → BatchesLead IsStep old (batches ++ batch ∷ []) new
unfolding BatchesLead
lead_more IsStep old [] mid new batch same step = (
  new,
  subst (λ s. IsStep s batch new) same step,
  refl,
)
lead_more IsStep old (first ∷ batches) mid new batch (next, begun, rest) step =
    (next, begun, lead_more IsStep next batches mid new batch rest step)

-- One more batch whose day fits.
fit_more : {S : Type 0} (IsStep : S → DatedBatch → S → Type 0) (Fits : S → ℕ → Type 0) (old : S)
    (batches : List DatedBatch) (mid new : S) (batch : DatedBatch)
    (lead : BatchesLead IsStep old batches mid) (step : IsStep mid batch new)
    → DaysFit IsStep Fits old mid batches lead → Fits mid batch.day
    → DaysFit IsStep Fits old new (batches ++ batch ∷ [])
    (lead_more IsStep old batches mid new batch lead step)
unfolding BatchesLead DaysFit lead_more
fit_more IsStep Fits old [] mid new batch same step all fits =
    (subst (λ s. Fits s batch.day) same fits, tt)
fit_more IsStep Fits old (first ∷ batches) mid new batch (next, begun, rest) step (one, others) fits =
    (one, fit_more IsStep Fits next batches mid new batch rest step others fits)

none_fit : {S : Type 0} (IsStep : S → DatedBatch → S → Type 0) (Fits : S → ℕ → Type 0) (s : S)
    (lead : BatchesLead IsStep s [] s) → DaysFit IsStep Fits s s [] lead
unfolding DaysFit
none_fit IsStep Fits s lead = tt

turns_more : (batches : List DatedBatch) (batch : DatedBatch) → turns_in (batches ++ batch ∷ [])
    ≡ turns_in batches ++ batch.turns
turns_more batches batch = sym (flat_map_more (λ (r : DatedBatch). r.turns) [] batches batch)

module _ {D A : Type 0} (gives : D → A → D → Type 0) where
  -- A source that gave some answers gave one more.
  gives_more : (old : D) (answers : List A) (mid new : D) (answer : A)
      → Gives gives old answers mid → gives mid answer new
      → Gives gives old (answers ++ answer ∷ []) new
  unfolding Gives
  gives_more old [] mid new answer same step = (
    new,
    subst (λ s. gives s answer new) same step,
    refl,
  )
  gives_more old (first ∷ answers) mid new answer (next, begun, rest) step =
      (next, begun, gives_more next answers mid new answer rest step)

  gives_none : (source : D) → Gives gives source [] source
  unfolding Gives
  gives_none source = refl

module _ {E : Type 0} (says : E → Bool → E → Type 0) where
  -- The source of ends said no before each batch so far.
  abbrev pub GoesOn : List DatedBatch → E → E → Type 0
  GoesOn batches old new = Gives says old (noes batches) new

  goes_on : (batches : List DatedBatch) (batch : DatedBatch) (old mid new : E)
      → GoesOn batches old mid → says mid false new → GoesOn (batches ++ batch ∷ []) old new
  goes_on batches batch old mid new sofar onward =
      subst (λ (l : List Bool). Gives says old l new)
      (sym (map-append (λ (b : DatedBatch). false) batches (batch ∷ [])))
      (gives_more says old (noes batches) mid new false sofar onward)

module _ {D : Type 0} (gives : D → Option ℕ → D → Type 0) where
  -- The days of batches so far.
  abbrev pub SoFar : Option ℕ → List ℕ → D → D → Type 0
  SoFar given days old new = AreTaken gives (λ day. ⊥) given days (Ok Done) old new

  pub none_taken : (given : Option ℕ) (source : D) → SoFar given [] source source
  none_taken (Some day) source = (All-nil (λ (d : ℕ). d ≡ day), refl)
  none_taken None source = ([], gives_none gives source, refl)

  days_more : (given : Option ℕ) (batches : List DatedBatch) (batch : DatedBatch) (old mid new : D)
      → SoFar given (days_of batches) old mid → IsTaken gives given (Some batch.day) mid new
      → SoFar given (days_of (batches ++ batch ∷ [])) old new
  days_more (Some day) batches batch old mid new sofar taken = (
    subst (λ (l : List ℕ). All (λ (d : ℕ). d ≡ day) l)
        (sym (map-append (λ (b : DatedBatch). b.day) batches (batch ∷ [])))
        (All-push (λ (d : ℕ). d ≡ day) (days_of batches) batch.day sofar.0
        (same_Some batch.day day taken.0)),
    taken.1 ∙ sofar.1,
  )
  days_more None batches batch old mid new (answers, gave, are) taken = (
    answers ++ Some batch.day ∷ [],
    gives_more gives old answers mid new (Some batch.day) gave taken,
    ap (λ (l : List (Option ℕ)). l ++ Some batch.day ∷ []) are
        ∙ sym (ap (λ (l : List ℕ). map (λ (d : ℕ). Some d) l)
        (map-append (λ (b : DatedBatch). b.day) batches (batch ∷ []))
        ∙ map-append (λ (d : ℕ). Some d) (days_of batches) (batch.day ∷ [])),
  )

  -- Days that were taken, whichever are refused.
  days_done : (IsRefused : ℕ → Type 0) (given : Option ℕ) (days : List ℕ) (old new : D)
      → SoFar given days old new → AreTaken gives IsRefused given days (Ok Done) old new
  days_done IsRefused (Some day) days old new sofar = sofar
  days_done IsRefused None days old new sofar = sofar

  -- Days that were taken, if the last lines were not written.
  days_unprinted : (IsRefused : ℕ → Type 0) (given : Option ℕ) (days : List ℕ) (old new : D)
      (fault : WriteFault) → SoFar given days old new
      → AreTaken gives IsRefused given days (Err fault) old new
  days_unprinted IsRefused (Some day) days old new fault sofar = sofar
  days_unprinted IsRefused None days old new fault (answers, gave, are) = (answers, gave, inl are)

  -- The source gave no day after these, or one that is refused.
  days_end : (IsRefused : ℕ → Type 0) (given answer : Option ℕ) (days : List ℕ) (old mid new : D)
      (result : Result JobStatus WriteFault) → ¬ (given ≢ None)
      → SoFar given days old mid → IsTaken gives given answer mid new → IsNoDay IsRefused answer
      → IfOk result (λ status. status ≡ Failed) → AreTaken gives IsRefused given days result old new
  days_end IsRefused (Some day) answer days old mid new result read sofar taken none failed =
      absurd (read (λ is. none-some day (sym is)))
  days_end IsRefused None answer days old mid new (Ok Failed) read (answers, gave, are) taken none
      failed = (
        answers ++ answer ∷ [],
        gives_more gives old answers mid new answer gave taken,
        (answer, none, ap (λ (l : List (Option ℕ)). l ++ answer ∷ []) are),
      )
  days_end IsRefused None answer days old mid new (Ok Done) read sofar taken none failed = absurd cc
  days_end IsRefused None answer days old mid new (Ok Refused) read sofar taken none failed =
      absurd cc
  days_end IsRefused None answer days old mid new (Ok CommandLine) read sofar taken none failed =
      absurd cc
  days_end IsRefused None answer days old mid new (Err fault) read (answers, gave, are) taken none
      failed = (
        answers ++ answer ∷ [],
        gives_more gives old answers mid new answer gave taken,
        inr (answer, none, ap (λ (l : List (Option ℕ)). l ++ answer ∷ []) are),
      )

pub none_is_none : (r : Option ℕ) → r ≡ None → ¬ IsSome r
none_is_none r is some = let wrong : false ≡ true = subst (λ (x : Option ℕ). IsSome x) is some in cc

-- The next day, over a book and for an answer that equal these.
pub next_as : {D B : Type 0} (honest : B → Type 0) (history : B → List Entry)
    (gives : D → Option ℕ → D → Type 0) (options : TurnOptions) (b book : B) (r answer : Option ℕ)
    (old new : D) → b ≡ book → r ≡ answer → IsNextDay honest history gives options b r old new
    → IsNextDay honest history gives options book answer old new
next_as honest history gives options b book r answer old new same is next =
    subst (λ x. IsNextDay honest history gives options x answer old new) same
    (subst (λ x. IsNextDay honest history gives options b x old new) is next)

-- n turns were served, and their lines written.
pub record HasServed {S D E : Type 0} (IsStep : S → DatedBatch → S → Type 0)
    (Fits : S → ℕ → Type 0) (gives : D → Option ℕ → D → Type 0) (given : Option ℕ) (says : E → Bool → E → Type 0)
    (old new : S) (first last : D) (begun ended : E) (senders : Bool) (held now : Option (List ℕ))
    (done : ℕ) :
    Type 0 where
  pub batches : List DatedBatch
  pub lead : BatchesLead IsStep old batches new
  pub fit : DaysFit IsStep Fits old new batches lead
  pub days : SoFar gives given (days_of batches) first last
  pub asked : GoesOn says batches begun ended
  pub many : length (turns_in batches) ≡ done
  pub written : Appends held now (flat_map (turn_line senders) (turns_in batches))

-- Turns that were served, with the days that they took and how they ended.
pub record ServesOn {S D E : Type 0} (IsStep : S → DatedBatch → S → Type 0)
    (Fits Refuses : S → ℕ → Type 0) (gives : D → Option ℕ → D → Type 0) (given : Option ℕ) (says : E → Bool → E → Type 0)
    (old new : S) (first last : D) (begun ended : E) (senders : Bool) (held now : Option (List ℕ))
    (count : ℕ) (result : Result JobStatus WriteFault) : Type 0 where
  pub serves : Serves IsStep old new senders held now count result
  pub days : AreTaken gives (Refuses new) given (days_of serves.batches) result first last
  pub fit : DaysFit IsStep Fits old new serves.batches serves.lead
  pub ends : AreEnded says serves.batches count result begun ended

pub none_served : {S D E : Type 0} (IsStep : S → DatedBatch → S → Type 0)
    (Fits : S → ℕ → Type 0) (gives : D → Option ℕ → D → Type 0) (given : Option ℕ) (says : E → Bool → E → Type 0) (s : S)
    (first : D) (begun : E) (senders : Bool) (held : Option (List ℕ))
    → HasServed IsStep Fits gives given says s s first first begun begun senders held held 0
unfolding BatchesLead
none_served IsStep Fits gives given says s first begun senders held = record {
  batches = [];
  lead = refl;
  fit = none_fit IsStep Fits s refl;
  days = none_taken gives given first;
  asked = gives_none says begun;
  many = refl;
  written = Appends-nil held;
}

module _ {S D E : Type 0} (IsStep : S → DatedBatch → S → Type 0)
    (Fits Refuses : S → ℕ → Type 0) (gives : D → Option ℕ → D → Type 0) (given : Option ℕ) (says : E → Bool → E → Type 0)
    (old mid new : S) (first then last : D) (begun at ended : E)
    (senders : Bool) (held before now : Option (List ℕ)) (done count : ℕ)
    (served : HasServed IsStep Fits gives given says old mid first then begun at senders held before done) where
  -- One more batch, whose lines were written.
  pub batch_served : (batch : DatedBatch) → says at false ended → IsStep mid batch new
      → IsTaken gives given (Some batch.day) then last → Fits mid batch.day
      → Appends before now (flat_map (turn_line senders) batch.turns)
      → HasServed IsStep Fits gives given says old new first last begun ended senders held now
      (done + length batch.turns)
  batch_served batch onward step taken fits lines = record {
    batches = served.batches ++ batch ∷ [];
    lead = lead_more IsStep old served.batches mid new batch served.lead step;
    fit = fit_more IsStep Fits old served.batches mid new batch served.lead step served.fit fits;
    days = days_more gives given served.batches batch first then last served.days taken;
    asked = goes_on says served.batches batch begun at ended served.asked onward;
    many = ap length (turns_more served.batches batch)
        ∙ omega (arith, length-append (turns_in served.batches) batch.turns, served.many);
    written = subst (λ l. Appends held now l)
        (sym (ap (flat_map (turn_line senders)) (turns_more served.batches batch) ∙ flat_map-append (turn_line senders)
        (turns_in served.batches) batch.turns))
        (Appends-trans held before now (flat_map (turn_line senders) (turns_in served.batches))
        (flat_map (turn_line senders) batch.turns) served.written lines);
  }

  -- One more batch, whose lines were not written.
  pub batch_unprinted : (batch : DatedBatch) (result : Result JobStatus WriteFault)
      (IsFault : WriteFault → Type 0) → IsErrAnd result IsFault → says at false ended
      → IsStep mid batch new
      → IsTaken gives given (Some batch.day) then last → Fits mid batch.day
      → done + length batch.turns ≤ count
      → ServesOn IsStep Fits Refuses gives given says old new first last begun ended senders held now count result
  batch_unprinted batch (Err fault) IsFault failed onward step taken fits room =
      record {
        serves = record {
          batches = served.batches ++ batch ∷ [];
          lead = lead_more IsStep old served.batches mid new batch served.lead step;
          few = omega (
            arith,
            ap length (turns_more served.batches batch),
            length-append (turns_in served.batches) batch.turns,
            served.many,
            room,
          );
          shows = tt;
        };
        days = days_unprinted gives (Refuses new) given (days_of (served.batches ++ batch ∷ [])) first
            last fault (days_more gives given served.batches batch first then last served.days taken);
        fit = fit_more IsStep Fits old served.batches mid new batch served.lead step served.fit fits;
        ends = (
          noes (served.batches ++ batch ∷ []),
          goes_on says served.batches batch begun at ended served.asked onward,
          inl refl,
        );
      }
  batch_unprinted batch (Ok status) IsFault failed onward step taken fits room = absurd failed

  pub all_served : done ≡ count
      → ServesOn IsStep Fits Refuses gives given says old mid first then begun at senders held before count (Ok Done)
  all_served same = record {
    serves = record {
      batches = served.batches;
      lead = served.lead;
      few = omega (arith, served.many, same);
      shows = served.written;
    };
    days = days_done gives (Refuses mid) given (days_of served.batches) first then served.days;
    fit = served.fit;
    ends = (noes served.batches, served.asked, inl (served.many ∙ same, refl));
  }

  -- The source of ends said that the turns end before their count.
  pub served_to_end : done < count → says at true ended
      → ServesOn IsStep Fits Refuses gives given says old mid first then begun ended senders held before count (Ok Done)
  served_to_end few due = record {
    serves = record {
      batches = served.batches;
      lead = served.lead;
      few = omega (arith, served.many, few);
      shows = served.written;
    };
    days = days_done gives (Refuses mid) given (days_of served.batches) first then served.days;
    fit = served.fit;
    ends = (
      noes served.batches ++ true ∷ [],
      gives_more says begun (noes served.batches) at ended true served.asked due,
      inr (omega (arith, served.many, few), refl),
    );
  }

  -- The source gave no day, or one that is refused.
  pub served_to_no_day : (result : Result JobStatus WriteFault) → done < count
      → says at false ended → ¬ (given ≢ None)
      → (answer : Option ℕ) × IsTaken gives given answer then last × IsNoDay (Refuses mid) answer
      → IfOk result (λ status. (status ≡ Failed) × Appends before now (codes "clock\n"))
      → ServesOn IsStep Fits Refuses gives given says old mid first last begun ended senders held now count result
  served_to_no_day (Ok Failed) few onward read (answer, taken, none) (is, line) = record {
    serves = record {
      batches = served.batches;
      lead = served.lead;
      few = omega (arith, served.many, few);
      shows = (
        omega (arith, served.many, few),
        Appends-trans held before now (flat_map (turn_line senders) (turns_in served.batches))
            (codes "clock\n")
            served.written line,
      );
    };
    days = days_end gives (Refuses mid) given answer (days_of served.batches) first then last
        (Ok Failed) read served.days taken none is;
    fit = served.fit;
    ends = (
      noes served.batches ++ false ∷ [],
      gives_more says begun (noes served.batches) at ended false served.asked onward,
      refl,
    );
  }
  served_to_no_day (Ok Done) few onward read asked (is, line) = absurd cc
  served_to_no_day (Ok status) few onward read asked (is, line) = absurd cc
  served_to_no_day (Err fault) few onward read (answer, taken, none) unsaid = record {
    serves = record {
      batches = served.batches;
      lead = served.lead;
      few = omega (arith, served.many, few);
      shows = tt;
    };
    days = days_end gives (Refuses mid) given answer (days_of served.batches) first then last
        (Err fault) read served.days taken none tt;
    fit = served.fit;
    ends = (
      noes served.batches ++ false ∷ [],
      gives_more says begun (noes served.batches) at ended false served.asked onward,
      inr refl,
    );
  }

-- Batches one after another give what one run gives, and survive a stop.
pub as_one : {B D E : Type 0} (faults : B → Faults) (honest : B → Type 0) (terms : B → Terms)
    (history committed : B → List Entry) (clean : B → Type 0)
    (may_find : B → Option (List Entry) → Type 0)
    → ((book : B) → honest book → IsLegal (history book) (terms book))
    → ((book : B) → honest book → Grows (committed book) (history book))
    → ((book : B) → honest book → (found : Option (List Entry)) → may_find book found
    → found ≡ Some (committed book))
    → (gives : D → Option ℕ → D → Type 0) (options : TurnOptions) (says : E → Bool → E → Type 0)
    (old new : Trace × B) (first last : D) (begun ended : E) (held now : Option (List ℕ))
    (result : Result JobStatus WriteFault)
    → ServesOn (IsBatch faults honest terms history committed clean may_find)
    (λ (s : Trace × B) day. IsServedDay honest history (guard_of options) s.1 day)
    (λ (s : Trace × B) day. IsRefusedDay honest history (guard_of options) s.1 day) gives options.day
    says old new first last begun ended options.senders held now options.count result
    → ServesTurns faults honest terms history committed clean may_find gives options says old new
    first last begun ended held now result
as_one faults honest terms history committed clean may_find legal first_law found gives options says
    old new first last begun ended held now result on = record {
      serves = on.serves;
      days = on.days;
      guarded = on.fit;
      ends = on.ends;
      survives = survived faults honest terms history committed clean may_find legal first_law found
          old new;
    }

-- What the batches of turns give together.
pub served_link : {B D E : Type 0} (faults : B → Faults) (honest : B → Type 0) (terms : B → Terms)
    (history committed : B → List Entry) (clean : B → Type 0)
    (may_find : B → Option (List Entry) → Type 0)
    → ((book : B) → honest book → IsLegal (history book) (terms book))
    → (gives : D → Option ℕ → D → Type 0) (options : TurnOptions) (says : E → Bool → E → Type 0)
    (old new : Trace × B) (first last : D) (begun ended : E) (held now : Option (List ℕ))
    (result : Result JobStatus WriteFault)
    → ServesTurns faults honest terms history committed clean may_find gives options says old new
    first last begun ended held now result → ServesLink honest terms history committed old new
served_link faults honest terms history committed clean may_find legal gives options says old new
    first last begun ended held now result turns = record {
      batches = turns.serves.batches;
      carries = batches_carry faults honest terms history committed clean may_find old new
          turns.serves.batches turns.serves.lead;
      composed = all_composed faults honest terms history committed clean may_find legal old new
          turns.serves.batches turns.serves.lead;
    }
