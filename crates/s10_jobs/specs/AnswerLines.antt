-- The output lines of answers.
use Rattle.std.specs.Prelude.{ℕ, List, ◌++◌, codes}
use Rattle.std.specs.List.{flat_map}
use Rattle.hex.specs.Hex.{encode_lower}
use Rattle.s10_ends.specs.declared.answer.Answer.{Answer}
use Rattle.s10_ends.specs.declared.answer.Answer.TheVariants.{Reply, Dropped, Faulted}
use Rattle.s10_lines.specs.Lines.{line_of}
use Rattle.s10_jobs.specs.Words.{wire_fault_words, book_fault_words}

-- The line of an answer: the reply in hex, or the fault.
abbrev pub answer_line : Answer → List ℕ
answer_line (Reply frame) = encode_lower frame ++ codes "\n"
answer_line (Dropped fault) = line_of (codes "dropped") (wire_fault_words fault)
answer_line (Faulted fault) = line_of (codes "faulted") (book_fault_words fault)

-- The lines of answers, in order.
abbrev pub shown : List Answer → List ℕ
shown answers = flat_map answer_line answers
