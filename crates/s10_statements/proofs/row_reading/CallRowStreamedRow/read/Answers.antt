use Rattle.std.proofs.Common.{rules, ◌≡◌, ◌∙◌, ◌∷◌, []}
use Rattle.sqlite_value.specs.declared.value.Value.TheVariants.{Int, Blob}
use Rattle.s10_statements.specs.Shown.{shown_call}
use Rattle.s10_statements.proofs.RowLemmas.{columns_5}
use Rattle.s10_statements.proofs.row_reading.CallRowStreamedRow.read.Goals as goal

pub returns : goal.returns
returns c =
    let made : shown_call c.new.result
    ≡ (Int c.in_ok-arrival.arrival ∷ Int c.in_ok-customer.customer ∷ Int c.in_ok-number.number
    ∷ Int c.in_ok-day.day ∷ Blob c.in_ok-reply.reply.items ∷ []) = search rules in
    made ∙ columns_5 _ _ _ _ _ _ c.in_ok-check_width.ensures c.in_ok-arrival.ensures.ok.1
    c.in_ok-customer.ensures.ok.1 c.in_ok-number.ensures.ok.1 c.in_ok-day.ensures.ok.1
    c.in_ok-reply.ensures.ok.1
