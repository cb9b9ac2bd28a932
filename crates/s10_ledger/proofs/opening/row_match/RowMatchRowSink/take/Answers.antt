use Rattle.std.proofs.Common.{refl, sym, subst, arith}
use Rattle.std.specs.Prelude.{Contains}
use Rattle.std.proofs.lemmas.Bool.{both_ways}
use Rattle.s10_index.specs.declared.indexed_book.IndexedBook.{IndexedBook}
use Rattle.s10_ledger.proofs.RowMatchLemmas.{taken_more, next_match, no_match, one_value}
use Rattle.s10_ledger.proofs.opening.row_match.RowMatchRowSink.take.Goals as goal

pub returns-then-is_next : goal.returns-then-is_next
returns-then-is_next g c = λ start rows was.
    let self = c.args.self.now in
    let row = c.args.row in
    let rows_of = g.R.DerivedRow.rows_of in
    let cmp = g.R.DerivedRow.cmp in
    let next = c.is_next.ensures.0 c.if-is_next.true in
    taken_more rows_of cmp start self _ rows row was refl
    (λ book is so_far.
    let same = one_value self.made.now c.in-Ok.book book c.in-Ok.is is in
    next_match cmp g.met.R.DerivedRow.total (rows_of book.index.entries.items) rows row self _
    so_far next.0 next.1 next.2
    (subst (λ (b : IndexedBook). Contains (rows_of b.index.entries.items) row) same next.3)
    refl (omega (arith, next.1)) refl)

pub returns-else-is_next : goal.returns-else-is_next
returns-else-is_next g c = λ start rows was.
    let self = c.args.self.now in
    let row = c.args.row in
    let rows_of = g.R.DerivedRow.rows_of in
    let cmp = g.R.DerivedRow.cmp in
    taken_more rows_of cmp start self _ rows row was refl
    (λ book is so_far.
    let same = one_value self.made.now c.in-Ok.book book c.in-Ok.is is in
    no_match cmp g.met.R.DerivedRow.total (rows_of book.index.entries.items) rows row self _ so_far
    (λ all. both_ways c.is_next.result c.if-is_next.false (c.is_next.ensures.1 (
      all.0,
      all.1,
      all.2,
      subst (λ (b : IndexedBook). Contains (rows_of b.index.entries.items) row) (sym same) all.3,
    ))) refl)
