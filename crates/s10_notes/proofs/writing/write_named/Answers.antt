use Rattle.std.specs.Prelude.{decimal}
use Rattle.s10_notes.proofs.Written.{last_written}
use Rattle.s10_notes.proofs.writing.write_named.Goals as goal

pub returns : goal.returns
returns g c =
    last_written _ _ _ c.args.name.now (decimal c.args.number) c.write_text-2.result
    c.in_ok-write_text.ensures
    (rw (c.as_bytes.ensures.value, c.format.ensures.text) at c.write_text-2.ensures)
