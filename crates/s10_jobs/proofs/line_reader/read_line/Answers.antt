use Rattle.std.proofs.Common.{◌≡◌, ◌≢◌, ◌<◌, ◌≤◌, [], length, take, refl, ap, arith, Some, None}
use Rattle.std.specs.Io.KnownBytes.{Consumes}
use Rattle.std.proofs.lemmas.List.Elements.{recursion_from_All, All-push}
use Rattle.std.proofs.lemmas.List.{take_more_set}
use Rattle.std.proofs.lemmas.Grind.{common_steps}
use Rattle.std.proofs.lemmas.Result.{err_from_is_err_and}
use Rattle.s10_jobs.specs.LineReader.{ReadsByte}
use Rattle.s10_jobs.proofs.LineReading.{Consumes-append, Consumes-kept, line_at_end, nothing_at_end}
use Rattle.s10_jobs.proofs.LineReading.{line_at_break, line_too_long, no_further_break}
use Rattle.s10_jobs.proofs.LineReading.{no_further_end, no_further_long}
use Rattle.s10_jobs.specs.declared.line_reader.TheConstants.{MAX_LINE}
use Rattle.s10_jobs.proofs.line_reader.read_line.Goals as goal

pub returns-then-at-eq0-clause-line : goal.returns-then-at-eq0-clause-line
returns-then-at-eq0-clause-line g c =
    let read : Consumes (g.R.Read.remaining c.args.input.now) (g.R.Read.remaining c.loop-at.input)
    [] = rw c.if-at-eq0.true at c.loop-at.invariant.read in
    nothing_at_end _ _ _ _ read (rw c.in-None.is at c.in_ok-next_byte.ensures.read)

pub returns-else-at-eq0-clause-line : goal.returns-else-at-eq0-clause-line
returns-else-at-eq0-clause-line g c =
    let long : 0 < length (take c.loop-at.at c.loop-at.buffer) = grind (arith, common_steps) in
    line_at_end _ _ _ _ _ _ c.loop-at.invariant.read
    (recursion_from_All _ _ c.loop-at.invariant.unbroken)
    (rw c.in-None.is at c.in_ok-next_byte.ensures.read) refl long

pub returns-in-Some-eq10-clause-line : goal.returns-in-Some-eq10-clause-line
returns-in-Some-eq10-clause-line g c =
    let ten : ReadsByte (g.R.Read.remaining c.loop-at.input)
    (g.R.Read.remaining c.next_byte.new.input) (Some 10) =
    rw (c.in-Some-eq10.is, c.in-Some-eq10.field-0-test) at c.in_ok-next_byte.ensures.read in
    line_at_break _ _ _ _ _ _ c.loop-at.invariant.read
    (recursion_from_All _ _ c.loop-at.invariant.unbroken) ten refl

pub loop-at-preserved : goal.loop-at-preserved
loop-at-preserved g c =
    let byte : ReadsByte (g.R.Read.remaining c.loop-at.input)
    (g.R.Read.remaining c.next_byte.new.input) (Some c.in-Some.byte) =
    rw c.in-Some.is at c.in_ok-next_byte.ensures.read in
    let inside : c.loop-at.at < length c.loop-at.buffer = omega arith in
    record {
      read = rw (take_more_set c.loop-at.buffer c.loop-at.at c.in-Some.byte inside)
          (Consumes-append _ _ _ _ _ c.loop-at.invariant.read byte);
      unbroken = rw (take_more_set c.loop-at.buffer c.loop-at.at c.in-Some.byte inside)
          (All-push (λ b. b ≢ 10) _ _ c.loop-at.invariant.unbroken c.in-Some.byte-test.1);
      room = grind (arith, common_steps);
    }

pub returns-in-Some-2-clause-line : goal.returns-in-Some-2-clause-line
returns-in-Some-2-clause-line g c =
    let byte : ReadsByte (g.R.Read.remaining c.loop-at.input)
    (g.R.Read.remaining c.next_byte-2.new.input) (Some c.in-Some-2._byte) =
    rw c.in-Some-2.is at c.in_ok-next_byte-2.ensures.read in
    let full : 1036 ≤ length (take c.loop-at.at c.loop-at.buffer) = grind (arith, common_steps) in
    line_too_long _ _ _ _ _ _ c.loop-at.invariant.read
    (recursion_from_All _ _ c.loop-at.invariant.unbroken) byte c.in-Some-2._byte-test.1 full

pub returns-in-None-2-clause-line : goal.returns-in-None-2-clause-line
returns-in-None-2-clause-line g c =
    let at : MAX_LINE ≡ c.loop-at.at = omega arith in
    let full : 0 < length (take c.loop-at.at c.loop-at.buffer) = grind (arith, common_steps) in
    line_at_end _ _ _ _ _ _ c.loop-at.invariant.read
    (recursion_from_All _ _ c.loop-at.invariant.unbroken)
    (rw c.in-None-2.is at c.in_ok-next_byte-2.ensures.read)
    (ap (λ n. take n c.loop-at.buffer) at) full

pub returns-in-Some-eq10-2-clause-line : goal.returns-in-Some-eq10-2-clause-line
returns-in-Some-eq10-2-clause-line g c =
    let at : MAX_LINE ≡ c.loop-at.at = omega arith in
    let ten : ReadsByte (g.R.Read.remaining c.loop-at.input)
    (g.R.Read.remaining c.next_byte-2.new.input) (Some 10) =
    rw (c.in-Some-eq10-2.is, c.in-Some-eq10-2.field-0-test)
    at c.in_ok-next_byte-2.ensures.read in
    line_at_break _ _ _ _ _ _ c.loop-at.invariant.read
    (recursion_from_All _ _ c.loop-at.invariant.unbroken) ten
    (ap (λ n. take n c.loop-at.buffer) at)

pub returns-then-at-eq0-clause-left : goal.returns-then-at-eq0-clause-left
returns-then-at-eq0-clause-left g c =
    let short : length (take c.loop-at.at c.loop-at.buffer) ≤ 1037 = grind (arith, common_steps) in
    no_further_end _ _ _ _ c.loop-at.invariant.read
    (recursion_from_All _ _ c.loop-at.invariant.unbroken)
    (rw c.in-None.is at c.in_ok-next_byte.ensures.read) short

pub returns-else-at-eq0-clause-left : goal.returns-else-at-eq0-clause-left
returns-else-at-eq0-clause-left g c =
    let short : length (take c.loop-at.at c.loop-at.buffer) ≤ 1037 = grind (arith, common_steps) in
    no_further_end _ _ _ _ c.loop-at.invariant.read
    (recursion_from_All _ _ c.loop-at.invariant.unbroken)
    (rw c.in-None.is at c.in_ok-next_byte.ensures.read) short

pub returns-in-Some-eq10-clause-left : goal.returns-in-Some-eq10-clause-left
returns-in-Some-eq10-clause-left g c =
    let ten : ReadsByte (g.R.Read.remaining c.loop-at.input)
    (g.R.Read.remaining c.next_byte.new.input) (Some 10) =
    rw (c.in-Some-eq10.is, c.in-Some-eq10.field-0-test) at c.in_ok-next_byte.ensures.read in
    let short : length (take c.loop-at.at c.loop-at.buffer) < 1037 = grind (arith, common_steps) in
    no_further_break _ _ _ _ c.loop-at.invariant.read
    (recursion_from_All _ _ c.loop-at.invariant.unbroken) ten short

pub returns-in-Some-2-clause-left : goal.returns-in-Some-2-clause-left
returns-in-Some-2-clause-left g c =
    let byte : ReadsByte (g.R.Read.remaining c.loop-at.input)
    (g.R.Read.remaining c.next_byte-2.new.input) (Some c.in-Some-2._byte) =
    rw c.in-Some-2.is at c.in_ok-next_byte-2.ensures.read in
    let full : length (take c.loop-at.at c.loop-at.buffer) ≡ 1036 = grind (arith, common_steps) in
    no_further_long _ _ _ _ _ c.loop-at.invariant.read
    (recursion_from_All _ _ c.loop-at.invariant.unbroken) byte full

pub returns-in-None-2-clause-left : goal.returns-in-None-2-clause-left
returns-in-None-2-clause-left g c =
    let short : length (take c.loop-at.at c.loop-at.buffer) ≤ 1037 = grind (arith, common_steps) in
    no_further_end _ _ _ _ c.loop-at.invariant.read
    (recursion_from_All _ _ c.loop-at.invariant.unbroken)
    (rw c.in-None-2.is at c.in_ok-next_byte-2.ensures.read) short

pub returns-in-Some-eq10-2-clause-left : goal.returns-in-Some-eq10-2-clause-left
returns-in-Some-eq10-2-clause-left g c =
    let ten : ReadsByte (g.R.Read.remaining c.loop-at.input)
    (g.R.Read.remaining c.next_byte-2.new.input) (Some 10) =
    rw (c.in-Some-eq10-2.is, c.in-Some-eq10-2.field-0-test)
    at c.in_ok-next_byte-2.ensures.read in
    let short : length (take c.loop-at.at c.loop-at.buffer) < 1037 = grind (arith, common_steps) in
    no_further_break _ _ _ _ c.loop-at.invariant.read
    (recursion_from_All _ _ c.loop-at.invariant.unbroken) ten short

pub returns-in-Some-eq10-clause-taken : goal.returns-in-Some-eq10-clause-taken
returns-in-Some-eq10-clause-taken g c =
    let ten : ReadsByte (g.R.Read.remaining c.loop-at.input)
    (g.R.Read.remaining c.next_byte.new.input) (Some 10) =
    rw (c.in-Some-eq10.is, c.in-Some-eq10.field-0-test) at c.in_ok-next_byte.ensures.read in
    (_, Consumes-append _ _ _ _ _ c.loop-at.invariant.read ten)

pub returns-in-Some-2-clause-taken : goal.returns-in-Some-2-clause-taken
returns-in-Some-2-clause-taken g c =
    let byte : ReadsByte (g.R.Read.remaining c.loop-at.input)
    (g.R.Read.remaining c.next_byte-2.new.input) (Some c.in-Some-2._byte) =
    rw c.in-Some-2.is at c.in_ok-next_byte-2.ensures.read in
    (_, Consumes-append _ _ _ _ _ c.loop-at.invariant.read byte)

pub returns-in-Some-eq10-2-clause-taken : goal.returns-in-Some-eq10-2-clause-taken
returns-in-Some-eq10-2-clause-taken g c =
    let ten : ReadsByte (g.R.Read.remaining c.loop-at.input)
    (g.R.Read.remaining c.next_byte-2.new.input) (Some 10) =
    rw (c.in-Some-eq10-2.is, c.in-Some-eq10-2.field-0-test)
    at c.in_ok-next_byte-2.ensures.read in
    (_, Consumes-append _ _ _ _ _ c.loop-at.invariant.read ten)

pub returns-then-at-eq0-clause-taken : goal.returns-then-at-eq0-clause-taken
returns-then-at-eq0-clause-taken g c =
    let none : ReadsByte (g.R.Read.remaining c.loop-at.input)
    (g.R.Read.remaining c.next_byte.new.input) None =
    rw c.in-None.is at c.in_ok-next_byte.ensures.read in
    (_, Consumes-append _ _ _ _ _ c.loop-at.invariant.read none.1)

pub returns-else-at-eq0-clause-taken : goal.returns-else-at-eq0-clause-taken
returns-else-at-eq0-clause-taken g c =
    let none : ReadsByte (g.R.Read.remaining c.loop-at.input)
    (g.R.Read.remaining c.next_byte.new.input) None =
    rw c.in-None.is at c.in_ok-next_byte.ensures.read in
    (_, Consumes-append _ _ _ _ _ c.loop-at.invariant.read none.1)

pub returns-in-None-2-clause-taken : goal.returns-in-None-2-clause-taken
returns-in-None-2-clause-taken g c =
    let none : ReadsByte (g.R.Read.remaining c.loop-at.input)
    (g.R.Read.remaining c.next_byte-2.new.input) None =
    rw c.in-None-2.is at c.in_ok-next_byte-2.ensures.read in
    (_, Consumes-append _ _ _ _ _ c.loop-at.invariant.read none.1)

pub returns-in_err-next_byte-clause-line : goal.returns-in_err-next_byte-clause-line
returns-in_err-next_byte-clause-line g c =
    let p = err_from_is_err_and c.from_residual.result c.from_residual.ensures.1 in
    rw p.1 tt

pub returns-in_err-next_byte-clause-left : goal.returns-in_err-next_byte-clause-left
returns-in_err-next_byte-clause-left g c =
    let p = err_from_is_err_and c.from_residual.result c.from_residual.ensures.1 in
    rw p.1 tt

pub returns-in_err-next_byte-clause-taken : goal.returns-in_err-next_byte-clause-taken
returns-in_err-next_byte-clause-taken g c =
    (_, Consumes-kept _ _ _ _ c.loop-at.invariant.read c.in_err-next_byte.ensures.kept)

pub returns-in_err-next_byte-clause-stopped : goal.returns-in_err-next_byte-clause-stopped
returns-in_err-next_byte-clause-stopped g c =
    let p = err_from_is_err_and c.from_residual.result c.from_residual.ensures.1 in
    let short : length (take c.loop-at.at c.loop-at.buffer) ≤ MAX_LINE =
    grind (arith, common_steps) in
    rw p.1 (record {
      begun = _;
      taken = Consumes-kept _ _ _ _ c.loop-at.invariant.read c.in_err-next_byte.ensures.kept;
      unbroken = c.loop-at.invariant.unbroken;
      short = short;
    })

pub returns-in_err-next_byte-2-clause-line : goal.returns-in_err-next_byte-2-clause-line
returns-in_err-next_byte-2-clause-line g c =
    let p = err_from_is_err_and c.from_residual-in_err-next_byte-2.result
    c.from_residual-in_err-next_byte-2.ensures.1 in
    rw p.1 tt

pub returns-in_err-next_byte-2-clause-left : goal.returns-in_err-next_byte-2-clause-left
returns-in_err-next_byte-2-clause-left g c =
    let p = err_from_is_err_and c.from_residual-in_err-next_byte-2.result
    c.from_residual-in_err-next_byte-2.ensures.1 in
    rw p.1 tt

pub returns-in_err-next_byte-2-clause-taken : goal.returns-in_err-next_byte-2-clause-taken
returns-in_err-next_byte-2-clause-taken g c =
    (_, Consumes-kept _ _ _ _ c.loop-at.invariant.read c.in_err-next_byte-2.ensures.kept)

pub returns-in_err-next_byte-2-clause-stopped : goal.returns-in_err-next_byte-2-clause-stopped
returns-in_err-next_byte-2-clause-stopped g c =
    let p = err_from_is_err_and c.from_residual-in_err-next_byte-2.result
    c.from_residual-in_err-next_byte-2.ensures.1 in
    let short : length (take c.loop-at.at c.loop-at.buffer) ≤ MAX_LINE =
    grind (arith, common_steps) in
    rw p.1 (record {
      begun = _;
      taken = Consumes-kept _ _ _ _ c.loop-at.invariant.read c.in_err-next_byte-2.ensures.kept;
      unbroken = c.loop-at.invariant.unbroken;
      short = short;
    })
