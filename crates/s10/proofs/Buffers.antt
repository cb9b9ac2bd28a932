-- Lemmas about a writer with a new buffer.
use Rattle.std.proofs.Common.{◌≡◌, ap, refl, ℕ, List, [], Option, Some, None}
use Rattle.std.specs.Io.KnownBytes.{append_known}
use Rattle.std.specs.Io.Buffered.{writer_buffer, writer_contents, writer_inner}
use Rattle.std.specs.declared.io.buffered.BufWriter.{BufWriter}
use Rattle.std.proofs.lemmas.List.{append-nil}

no_more : (known : Option (List ℕ)) → append_known known [] ≡ known
no_more None = refl
no_more (Some held) = ap (λ (bytes : List ℕ). Some bytes) (append-nil held)

-- A new buffer is empty, so its contents are those of the writer.
pub new_writer : {T A : Type 0} (contents : T → Option (List ℕ)) (writer : BufWriter T A)
    (inner : T) → writer_inner writer ≡ inner → writer_buffer writer ≡ []
    → writer_contents contents writer ≡ contents inner
new_writer contents writer inner is empty = rw (empty, is) (no_more (contents inner))
