use Rattle.s10_book.proofs.Spaced.{spaced}
use Rattle.s10_world.proofs.Kept.{steps_sound}
use Rattle.s10_world.proofs.Told.{agrees, once}
use Rattle.s10_world.proofs.Unshared.{unshared}
use Rattle.s10_world.proofs.Clients.{steps_own}
use Rattle.s10_world.proofs.Reached.{start_sound, steps_legal}
use Rattle.s10_ends.proofs.Runs.{KeepsPromises-legal}
use Rattle.s10_world.proofs.laws.reachable_worlds.Goals as goal

pub returns : goal.returns
returns c = record {
  kept = λ t w w' es start legal steps. KeepsPromises-legal w'.history t (steps_legal t w w' es steps legal);
  agree = λ t w w' es start steps. agrees w' (steps_sound t w w' es steps (start_sound w start));
  once = λ t w w' es start legal steps. once w' t (steps_legal t w w' es steps legal)
      (steps_sound t w w' es steps (start_sound w start));
  unshared = λ t w w' es start legal steps own. unshared w' t.interval
      (spaced w'.history t (steps_legal t w w' es steps legal))
      (steps_sound t w w' es steps (start_sound w start)) (steps_own t w w' es steps own);
}
