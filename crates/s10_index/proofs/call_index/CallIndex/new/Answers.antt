use Rattle.std.proofs.Common.{[], refl}
use Rattle.std.proofs.lemmas.List.Elements.{All-nil}
use Rattle.s10_core.specs.Id.{IsId}
use Rattle.s10_history.specs.declared.issuance.Issuance.{Issuance}
use Rattle.s10_index.specs.Positions.{HasOwnKey}
use Rattle.s10_index.proofs.call_index.CallIndex.new.Goals as goal

pub returns-clause-none : goal.returns-clause-none
returns-clause-none c = record {
  calls = c.new.ensures;
  ranges = c.new-2.ensures.none;
  rests = c.new-3.ensures;
  positions = record { hashes = c.new-4.ensures; keys = All-nil (HasOwnKey []) };
  issues = c.new-5.ensures c.args.seed;
  ids = All-nil (λ (i : Issuance). IsId i.id);
}

pub returns-clause-seeded : goal.returns-clause-seeded
returns-clause-seeded c = record { chains = refl; closed = c.new-2.ensures.seeded }
