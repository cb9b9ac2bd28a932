-- Proves that an opening finds the committed calls of an honest ledger.
use Rattle.std.specs.Prelude.{◌≡◌, ℕ, IsTrue, List, Option, Some, None}
use Rattle.std.proofs.Common.{refl, sym, ap, subst, ◌∙◌}
use Rattle.std.proofs.Math.Logic.{∥∥₁_map}
use Rattle.sqlite_trees.specs.Tree.{Trees}
use Rattle.sqlite_trees.specs.declared.store.Store.{Ghosts}
use Rattle.sqlite.specs.Effect.{Database}
use Rattle.sqlite.specs.Held.{state}
use Rattle.s10_history.specs.declared.entry.Entry.{Entry}
use Rattle.s10_history.specs.Settings.{Terms}
use Rattle.s10_statements.proofs.MakeLemmas.{is_ledger}
use Rattle.s10_ledger.specs.Ledger.{Ledger, IsLedger, IsHonest, HoldsCalls, IsFoundInTrees, MayFind}
use Rattle.s10_ledger.specs.Ledger.{history_in, committed_of}

-- The trees of a ledger hold its calls.
pub ledger_holds : (db : Database) (t : Terms) (len day : ℕ) → IsLedger db t len day
    → HoldsCalls db.trees t (history_in db)
unfolding history_in
ledger_holds db t len day it = record {
  history = refl;
  ledger = record {
    legal = it.legal;
    held = ∥∥₁_map it.held (λ h. record {
      tables = record {
        schema = is_ledger;
        heads = h.tables.heads;
        calls = h.tables.calls;
        ranges = h.tables.ranges;
        serials = h.tables.serials;
        numbered = h.tables.numbered;
        closed = h.tables.closed;
      };
      calls = h.calls;
      len_is = refl;
      day_is = refl;
    });
  };
}

-- Nothing else is found in trees that hold these calls.
pub one_found : (db : Trees) (t : Terms) (calls : List Entry) (found : Option (List Entry))
    → HoldsCalls db t calls → IsFoundInTrees db t found → found ≡ Some calls
one_found db t calls (Some others) it is = ap Some (sym is.history ∙ it.history)
one_found db t calls None it none = absurd (none calls it)

-- An opening finds the committed calls of an honest ledger: a stop of an open store leaves what is
-- committed in it.
pub finds_committed : {S : Type 0} (g : Ghosts S)
    → ((s : S) (db : Trees) → IsTrue (g.view s).is_open → g.recovers s db
    → db ≡ (g.view s).committed) → (l : Ledger S) → IsHonest g l → (found : Option (List Entry))
    → MayFind g l found → found ≡ Some (committed_of g l)
finds_committed g settled l honest found may =
    one_found (state g l.conn).now.trees l.terms (committed_of g l) found
    (ledger_holds (state g l.conn).now l.terms l.len l.day honest.ledger)
    (subst (λ (db : Trees). IsFoundInTrees db l.terms found)
    (settled l.conn.store may.0 honest.is_open may.1
    ∙ ap (λ (d : Database). d.trees) honest.committed) may.2)
