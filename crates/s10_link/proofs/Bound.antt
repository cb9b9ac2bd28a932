-- Links over sockets that stay bound where they are.
use Rattle.std.proofs.Common.{◌≡◌, ◌∙◌, refl, sym, subst}
use Rattle.s10_link.specs.declared.peer.Peer.{Peer}
use Rattle.s10_link.specs.Link.{LeadsTo}
use Rattle.s10_link.specs.Link.LeadsTo.{none, more}
use Rattle.s10_link.specs.UdpLink.{BoundLink, IsBoundAt}

-- Calls of a link leave it at its address.
pub at_stays : (old new : BoundLink)
    → LeadsTo (λ (a b : BoundLink). b.at ≡ a.at) old new → new.at ≡ old.at
at_stays old _ none = refl
at_stays old new (more {between = between} led step) = step ∙ at_stays old between led

pub still_bound : (asked : Peer) (old new : BoundLink)
    → LeadsTo (λ (a b : BoundLink). b.at ≡ a.at) old new → IsBoundAt asked old.at
    → IsBoundAt asked new.at
still_bound asked old new led bound =
    subst (λ (p : Peer). IsBoundAt asked p) (sym (at_stays old new led)) bound
