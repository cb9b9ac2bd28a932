use Rattle.std.proofs.Common.{◌≡◌, ℕ, Bool, true, false, List, [], ◌∷◌, Option, Result}
use Rattle.std.specs.Prelude.{OnOk, codes}
use Rattle.std.specs.Io.KnownBytes.{Appends}
use Rattle.s10_link.specs.declared.peer.Peer.{Peer}
use Rattle.s10_link.specs.Peer.{peer_text}
use Rattle.s10_lines.specs.Lines.{spaced}
use Rattle.s10_lines.proofs.Writing.{Appends-nothing, words_follow}
use Rattle.s10_jobs.specs.TurnLines.{sender_words}
use Rattle.s10_jobs.proofs.sender_words.write_sender.Goals as goal

named : {T E : Type 0} (u v w : Option (List ℕ)) (senders : Bool) (peer : Peer) (r : Result T E)
    → senders ≡ true → Appends u v (spaced (codes "from" ∷ []))
    → OnOk r (Appends v w (spaced (peer_text peer ∷ [])))
    → OnOk r (Appends u w (spaced (sender_words senders peer)))
named u v w true peer r is word text =
    words_follow u v w (codes "from" ∷ []) (peer_text peer ∷ []) r word text
named u v w false peer r is word text = absurd (let wrong : false ≡ true = is in cc)

unnamed : (u : Option (List ℕ)) (senders : Bool) (peer : Peer) → senders ≡ false
    → Appends u u (spaced (sender_words senders peer))
unnamed u false peer is = Appends-nothing u
unnamed u true peer is = absurd (let wrong : true ≡ false = is in cc)

pub returns-then-senders : goal.returns-then-senders
returns-then-senders g c =
    named _ _ _ c.args.senders c.args.peer c.write_peer.result c.if-senders.true
    c.in_ok-write_word.ensures c.write_peer.ensures

pub returns : goal.returns
returns g c = unnamed _ c.args.senders c.args.peer c.if-senders.false
