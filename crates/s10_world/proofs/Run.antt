-- Steps of two lists of events, one after the other.
use Rattle.std.proofs.Common.{List, [], ◌∷◌, ◌++◌, refl, subst}
use Rattle.s10_history.specs.Settings.{Terms}
use Rattle.s10_world.specs.declared.event.Event.{Event}
use Rattle.s10_world.specs.World.{WorldState, Step, Steps}

pub Steps-push : (t : Terms) (w between w' : WorldState) (es : List Event) (e : Event)
    → Steps t w es between → Step t between e w' → Steps t w (es ++ e ∷ []) w'
Steps-push t w between w' [] e first second =
    (w', subst (λ (v : WorldState). Step t v e w') first second, refl)
Steps-push t w between w' (x ∷ xs) e first second =
    (first.0, first.1, Steps-push t first.0 between w' xs e first.2 second)
