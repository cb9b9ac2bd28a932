-- The tables of a new ledger stand for no call.
use Rattle.std.proofs.Common.{◌≡◌, [], refl}
use Rattle.std.proofs.lemmas.List.Elements.{All-nil}
use Rattle.sqlite.specs.Effect.{Database}
use Rattle.s10_history.specs.Settings.{Terms}
use Rattle.s10_book.proofs.Push.{IsLegal-nil}
use Rattle.s10_ledger.specs.Ledger.{IsLedger, history_in}
use Rattle.s10_rows.specs.Selected.{IsCall}
use Rattle.s10_statements.specs.Shown.{StandsFor}
use Rattle.s10_ledger.proofs.HistoryLemmas.{history_is}

pub no_history : (db : Database) (t : Terms) → StandsFor db [] t → history_in db ≡ []
no_history db t stands = history_is db [] t (All-nil IsCall) stands

pub new_ledger : (db : Database) (t : Terms) → StandsFor db [] t → IsLedger db t 0 0
new_ledger db t stands = record {
  legal = rw (no_history db t stands) (IsLegal-nil t);
  held = ∣ record {
    tables = rw (no_history db t stands) stands;
    calls = rw (no_history db t stands)
        (All-nil IsCall);
    len_is = rw (no_history db t stands) refl;
    day_is =
        rw (no_history db t stands) refl;
  } ∣₁;
}
