-- Links that calls lead to.
use Rattle.s10_link.specs.Link.{LeadsTo}
use Rattle.s10_link.specs.Link.LeadsTo.{none, more}

-- One call leads to its new link.
pub led_once : {L : Type 0} {Step : L → L → Type 0} {old new : L} → Step old new
    → LeadsTo Step old new
led_once step = more none step

-- Calls after other calls lead on.
pub led_on : {L : Type 0} {Step : L → L → Type 0} {old between new : L} → LeadsTo Step old between
    → LeadsTo Step between new → LeadsTo Step old new
led_on led none = led
led_on led (more others step) = more (led_on led others) step
