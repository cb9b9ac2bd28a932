use Rattle.std.proofs.Common.{◌≡◌, ◌∷◌, [], ℕ, length, get_or, sym, ap, arith, Some}
use Rattle.s10_link.specs.declared.peer.Peer.{Peer}
use Rattle.s10_link.proofs.Numerals.{list_of_four}
use Rattle.std.proofs.lemmas.Option.{same_Some, none-some}
use Rattle.s10_link.proofs.peer.Peer.read.Goals as goal

-- An address is the one whose numbers were read.
same_peer : (p : Peer) (a b d e port : ℕ) → length p.ip ≡ 4 → a ≡ get_or p.ip 0 0
    → b ≡ get_or p.ip 1 0 → d ≡ get_or p.ip 2 0 → e ≡ get_or p.ip 3 0
    → port ≡ p.port → Some (record { ip = a ∷ b ∷ d ∷ e ∷ []; port = port }) ≡ Some p
same_peer p a b d e port size ea eb ed ee eport =
    let ip : a ∷ b ∷ d ∷ e ∷ [] ≡ p.ip = rw (ea, eb, ed, ee) (sym (list_of_four p.ip size)) in
    let whole : record { ip = a ∷ b ∷ d ∷ e ∷ []; port = port } ≡ p =
    λ i. record { ip = ip i; port = eport i } in
    ap (λ (x : Peer). Some x) whole

pub octet_before-requires : goal.octet_before-requires
octet_before-requires c = λ digit. omega arith

pub octet_before-requires-2 : goal.octet_before-requires-2
octet_before-requires-2 c = λ digit. omega arith

pub octet_before-requires-3 : goal.octet_before-requires-3
octet_before-requires-3 c = λ digit. omega arith

pub octet_before-requires-4 : goal.octet_before-requires-4
octet_before-requires-4 c = λ digit. omega arith

pub read_number-requires : goal.read_number-requires
read_number-requires c = tt

pub returns-in_err-a-clause-read : goal.returns-in_err-a-clause-read
returns-in_err-a-clause-read c = λ p spells.
    let size = spells.0.four in
    absurd (c.in_err-a.ensures.read (get_or p.ip 0 0) _ (spells.0.bytes 0 0 (omega arith)) spells.1)

pub returns-in_err-b-clause-read : goal.returns-in_err-b-clause-read
returns-in_err-b-clause-read c = λ p spells.
    let size = spells.0.four in
    let a = c.in_ok-a.ensures.read (get_or p.ip 0 0) _ (spells.0.bytes 0 0 (omega arith))
    spells.1 in
    absurd (c.in_err-b.ensures.read (get_or p.ip 1 0) _ (spells.0.bytes 1 0 (omega arith)) a.1)

pub returns-in_err-c-clause-read : goal.returns-in_err-c-clause-read
returns-in_err-c-clause-read c = λ p spells.
    let size = spells.0.four in
    let a = c.in_ok-a.ensures.read (get_or p.ip 0 0) _ (spells.0.bytes 0 0 (omega arith))
    spells.1 in
    let b = c.in_ok-b.ensures.read (get_or p.ip 1 0) _ (spells.0.bytes 1 0 (omega arith)) a.1 in
    absurd (c.in_err-c.ensures.read (get_or p.ip 2 0) _ (spells.0.bytes 2 0 (omega arith)) b.1)

pub returns-in_err-d-clause-read : goal.returns-in_err-d-clause-read
returns-in_err-d-clause-read c = λ p spells.
    let size = spells.0.four in
    let a = c.in_ok-a.ensures.read (get_or p.ip 0 0) _ (spells.0.bytes 0 0 (omega arith))
    spells.1 in
    let b = c.in_ok-b.ensures.read (get_or p.ip 1 0) _ (spells.0.bytes 1 0 (omega arith)) a.1 in
    let d = c.in_ok-c.ensures.read (get_or p.ip 2 0) _ (spells.0.bytes 2 0 (omega arith)) b.1 in
    absurd (c.in_err-d.ensures.read (get_or p.ip 3 0) _ (spells.0.bytes 3 0 (omega arith)) d.1)

pub returns-in_err-port-clause-read : goal.returns-in_err-port-clause-read
returns-in_err-port-clause-read c = λ p spells.
    let size = spells.0.four in
    let a = c.in_ok-a.ensures.read (get_or p.ip 0 0) _ (spells.0.bytes 0 0 (omega arith))
    spells.1 in
    let b = c.in_ok-b.ensures.read (get_or p.ip 1 0) _ (spells.0.bytes 1 0 (omega arith)) a.1 in
    let d = c.in_ok-c.ensures.read (get_or p.ip 2 0) _ (spells.0.bytes 2 0 (omega arith)) b.1 in
    let e = c.in_ok-d.ensures.read (get_or p.ip 3 0) _ (spells.0.bytes 3 0 (omega arith)) d.1 in
    absurd (none-some p.port (c.in_err-port.ensures.read p.port spells.0.port e.1))

pub returns-clause-read : goal.returns-clause-read
returns-clause-read c = λ p spells.
    let size = spells.0.four in
    let a = c.in_ok-a.ensures.read (get_or p.ip 0 0) _ (spells.0.bytes 0 0 (omega arith))
    spells.1 in
    let b = c.in_ok-b.ensures.read (get_or p.ip 1 0) _ (spells.0.bytes 1 0 (omega arith)) a.1 in
    let d = c.in_ok-c.ensures.read (get_or p.ip 2 0) _ (spells.0.bytes 2 0 (omega arith)) b.1 in
    let e = c.in_ok-d.ensures.read (get_or p.ip 3 0) _ (spells.0.bytes 3 0 (omega arith)) d.1 in
    let port = c.in_ok-port.ensures.read p.port spells.0.port e.1 in
    same_peer p _ _ _ _ _ size a.0 b.0 d.0 e.0 (same_Some _ _ port)
