use Rattle.std.proofs.Common.{◌∙◌, ◌++◌, ◌∷◌, [], ℕ, List, sym, ap₂}
use Rattle.std.proofs.lemmas.List.{map_push}
use Rattle.s10_index.proofs.Keyed.{hash_of_entry, keys_push}
use Rattle.s10_index.proofs.positions.record_position.Goals as goal

pub returns : goal.returns
returns c h has new =
    let seed = c.args.seed.now in
    let e = c.args.entry.now in
    record {
      hashes = c.push_reserved.ensures.hashes
          ∙ ap₂ (λ (l : List ℕ) (n : ℕ). l ++ n ∷ []) has.hashes c.hash_of_call.ensures
          ∙ sym (map_push (hash_of_entry seed) h e);
      keys = keys_push h e new has.keys;
    }
