use Rattle.std.proofs.Common.{◌∙◌, ◌-◌, ◌<◌, length, get_or, sym, subst, arith}
use Rattle.std.proofs.Common.{inl, inr}
use Rattle.std.proofs.lemmas.Bool.{cases_Bool, eqb-true, eq-eqb}
use Rattle.s10_index.proofs.LastPlaces.{number_at}
use Rattle.s10_index.proofs.Chained.{has_hash, Follows, begins, continues, ends_with, ends_without}
use Rattle.s10_index.proofs.hash_chains.find_hash.Goals as goal

pub loop-next-init : goal.loop-next-init
loop-next-init c = record {
  within = c.requires.from;
  follows = λ buckets n linked is. begins c.args.hashes.now.items buckets c.args.hash n c.args.from
      is;
}

pub returns-then-at-hash : goal.returns-then-at-hash
returns-then-at-hash c buckets n linked is =
    let place = c.loop-next.next - 1 in
    let lt : place < length c.args.hashes.now.items =
    omega (arith, c.loop-next-test.true, c.loop-next.invariant.within) in
    ends_with c.args.hashes.now.items buckets c.args.hash n c.loop-next.next place
    (c.loop-next.invariant.follows buckets n linked is) (omega (arith, c.loop-next-test.true)) lt
    (eq-eqb (get_or c.args.hashes.now.items place 0) c.args.hash
    (sym (number_at c.args.hashes.now.items place c.at.result c.at.ensures) ∙ c.if-at-hash.true))

pub loop-next-preserved : goal.loop-next-preserved
loop-next-preserved c =
    let hashes = c.args.hashes.now.items in
    let earlier = c.args.earlier.now.items in
    let place = c.loop-next.next - 1 in
    let lt : place < length hashes =
    omega (arith, c.loop-next-test.true, c.loop-next.invariant.within) in
    let link = number_at earlier place c.at-next.result c.at-next.ensures in
    let hash = number_at hashes place c.at.result c.at.ensures in
    record {
      within = omega (
        arith,
        lt,
        link,
        c.requires.earlier place (omega (arith, lt, c.requires.lengths)),
      );
      follows = λ buckets n linked is.
          subst (Follows hashes buckets c.args.hash n) (sym link)
          (continues hashes earlier buckets c.args.hash n c.loop-next.next place linked
          (c.loop-next.invariant.follows buckets n linked is)
          (omega (arith, c.loop-next-test.true)) lt
          (elim (cases_Bool (has_hash c.args.hash (get_or hashes place 0))) [
            | inl same ↦ absurd (c.if-at-hash.false
                (hash ∙ eqb-true (get_or hashes place 0) c.args.hash same))
            | inr other ↦ other
          ]));
    }

pub returns : goal.returns
returns c buckets n linked is =
    ends_without c.args.hashes.now.items buckets c.args.hash n c.loop-next.next
    (c.loop-next.invariant.follows buckets n linked is) (omega (arith, c.loop-next-test.false))
