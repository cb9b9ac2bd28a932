use Rattle.std.proofs.Common.{ℕ, List, [], ◌∷◌, Option, subst, sym, append-nil}
use Rattle.std.specs.Prelude.{codes}
use Rattle.std.specs.Io.KnownBytes.{Appends}
use Rattle.s10_link.specs.Peer.{peer_text}
use Rattle.s10_lines.specs.Lines.{spaced}
use Rattle.s10_lines.proofs.Writing.{Appends-then}
use Rattle.s10_jobs.proofs.sender_words.write_peer.Goals as goal

-- A space and a text are a word.
spaced_word : (u v w : Option (List ℕ)) (text : List ℕ) → Appends u v (codes " ")
    → Appends v w text → Appends u w (spaced (text ∷ []))
unfolding spaced
spaced_word u v w text space word =
    let P : List ℕ → Type 0 = λ t. Appends u w (32 ∷ t) in
    subst P (sym (append-nil text)) (Appends-then u v w (codes " ") text space word)

pub returns : goal.returns
returns g c =
    spaced_word _ _ _ (peer_text c.args.peer) c.in_ok-write_text.ensures c.in-Ok.ensures.bytes
