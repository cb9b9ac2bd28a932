use Rattle.std.proofs.Common.{◌≡◌, ◌++◌, ℕ, List, ap, ◌∙◌}
use Rattle.std.specs.Prelude.{codes}
use Rattle.hex.specs.Hex.{encode_lower}
use Rattle.s10_wire.specs.Datagrams.{datagram}
use Rattle.s10_lines.proofs.Writing.{Appends-then}
use Rattle.s10_notes.proofs.Written.{last_written}
use Rattle.s10_notes.proofs.writing.write_digits.Goals as goal

pub returns-clause-written : goal.returns-clause-written
returns-clause-written g c =
    let digits : List ℕ = encode_lower (datagram 0 c.args.request.now) in
    let is : c.encode_to_slice.new.output ≡ digits = c.in-Ok.ensures.written
    ∙ ap encode_lower (c.bytes-2.ensures.bytes ∙ c.encode_request-frame.ensures.1) in
    last_written _ _ _ (codes "\"" ++ digits) (codes "\"") c.write_text-3.result
    (Appends-then _ _ _ (codes "\"") digits c.in_ok-write_text.ensures
    (rw is at c.in_ok-write_text-2.ensures))
    c.write_text-3.ensures
