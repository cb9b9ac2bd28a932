-- The request in the words of a command line, or the text that is refused.
use Rattle.std.specs.Prelude.{◌≡◌, ℕ, List, [], ◌∷◌, codes}
use Rattle.s10_core.specs.Letters.{letters_of}
use Rattle.s10_core.specs.Id.{SpellsLoosely, normalized}
use Rattle.s10_core.specs.TextFault.{IsFirstRefusal}
use Rattle.s10_wire.specs.declared.body.Body.{Body}
use Rattle.s10_wire.specs.declared.body.Body.TheVariants as asked
use Rattle.s10_link.specs.declared.peer.Peer.{Peer}
use Rattle.s10_link.specs.Peer.{SpellsPeer}
use Rattle.s10_jobs.specs.declared.refusal.Refusal.{Refusal}
use Rattle.s10_jobs.specs.declared.refusal.Refusal.TheVariants as refused
use Rattle.s10_jobs.specs.declared.body_words.BodyWords.{BodyWords}
use Rattle.s10_jobs.specs.declared.body_words.BodyWords.TheVariants.{Grant, Draw, DrawMany}
use Rattle.s10_jobs.specs.declared.body_words.BodyWords.TheVariants.{Withdraw, Void, Query}
use Rattle.s10_jobs.specs.Words.{text_fault_words}
use Rattle.s10_jobs.specs.Lines.{AreTwoCapitals}

-- The words of a refusal.
abbrev pub refusal_words : Refusal → List (List ℕ)
refusal_words refused.Peer = codes "peer" ∷ []
refusal_words refused.Service = codes "service" ∷ []
refusal_words refused.Country = codes "country" ∷ []
refusal_words (refused.Text fault) = text_fault_words fault

-- The body asks what the words say.
abbrev pub WordsAsk : BodyWords → Body → Type 0
WordsAsk (Grant holder service country first last) (asked.Grant h s c f l) =
    (h ≡ holder) × (letters_of s ≡ service.now) × (letters_of c ≡ country.now) × (f ≡ first)
    × (l ≡ last)
WordsAsk (Draw service country) (asked.Draw s c) = (letters_of s ≡ service.now)
    × (letters_of c ≡ country.now)
WordsAsk (DrawMany service country count) (asked.DrawMany s c n) = (letters_of s ≡ service.now)
    × (letters_of c ≡ country.now) × (n ≡ count)
WordsAsk (Withdraw range) (asked.Withdraw num) = num ≡ range
WordsAsk (Void id) (asked.Void x) = SpellsLoosely id.now x
WordsAsk (Query id) (asked.Query x) = SpellsLoosely id.now x
WordsAsk words body = ⊥

-- The service is read before the country.
abbrev pub IsPairRefusal : List ℕ → List ℕ → Refusal → Type 0
IsPairRefusal service country refused.Peer = ⊥
IsPairRefusal service country refused.Service = ¬ AreTwoCapitals service
IsPairRefusal service country refused.Country = AreTwoCapitals service × ¬ AreTwoCapitals country
IsPairRefusal service country (refused.Text fault) = ⊥

-- An identifier is refused with its first fault, read as on a label.
abbrev pub IsIdRefusal : List ℕ → Refusal → Type 0
IsIdRefusal id refused.Peer = ⊥
IsIdRefusal id refused.Service = ⊥
IsIdRefusal id refused.Country = ⊥
IsIdRefusal id (refused.Text fault) = IsFirstRefusal (normalized id) fault

-- The refusal of the first text of the body that cannot be read. A withdrawal has no text.
abbrev pub IsBodyRefusal : BodyWords → Refusal → Type 0
IsBodyRefusal (Grant holder service country first last) refusal =
    IsPairRefusal service.now country.now refusal
IsBodyRefusal (Draw service country) refusal = IsPairRefusal service.now country.now refusal
IsBodyRefusal (DrawMany service country count) refusal = IsPairRefusal service.now country.now
    refusal
IsBodyRefusal (Withdraw range) refusal = ⊥
IsBodyRefusal (Void id) refusal = IsIdRefusal id.now refusal
IsBodyRefusal (Query id) refusal = IsIdRefusal id.now refusal

-- The text is an address.
abbrev pub IsPeerText : List ℕ → Type 0
IsPeerText text = (p : Peer) × SpellsPeer text p

-- The address of the server is read before the body.
abbrev pub IsQuestionRefusal : List ℕ → BodyWords → Refusal → Type 0
IsQuestionRefusal to words refused.Peer = ¬ IsPeerText to
IsQuestionRefusal to words refused.Service = IsPeerText to × IsBodyRefusal words refused.Service
IsQuestionRefusal to words refused.Country = IsPeerText to × IsBodyRefusal words refused.Country
IsQuestionRefusal to words (refused.Text fault) = IsPeerText to
    × IsBodyRefusal words (refused.Text fault)
