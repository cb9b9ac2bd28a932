use Rattle.std.proofs.Common.{◌≡◌, ◌++◌, ◌∷◌, [], ◌∙◌, List, sym, ap}
use Rattle.std.proofs.lemmas.Result.{on_ok_weaker}
use Rattle.s10_ranges.specs.declared.mark.Mark.{Mark}
use Rattle.s10_rows.specs.declared.serial_write.SerialWrite.{SerialWrite}
use Rattle.s10_index.proofs.IssueLemmas.{covering, never_issued}
use Rattle.s10_index.proofs.issue_writes.add_issue_writes.Goals as goal

pub returns-clause-answer : goal.returns-clause-answer
returns-clause-answer c h t e place legal follows calls call at move before =
    let was = c.args.made.now in
    let y = c.args.issuance.now in
    let found = covering h y.id move.range move.found in
    let more = c.issue_writes-mark.ensures h t e place move.range was.ranges.items was.serials.items
    legal follows calls call at found.0 found.1 move.num (ap (λ (k : Mark). k.serial) move.mark)
    (λ never. never_issued h t e place y move.range legal follows at found.0 found.1 (sym move.lap
    ∙ c.prior_issue_in-issued.ensures never)) before in
    let row = c.issue_writes-mark.result.1 in
    on_ok_weaker c.add_serial.result
    (λ (serials : c.add_serial.new.self.serials.items ≡ c.add_range.new.self.serials.items ++ row ∷ []). rw (c.add_serial.ensures.ranges ∙ c.in_ok-add_range.ensures.ranges, serials ∙ ap (λ (l : List SerialWrite). l ++ row ∷ []) c.add_range.ensures.serials) more)
    c.add_serial.ensures.serials
