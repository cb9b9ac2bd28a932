use Rattle.std.proofs.Common.{◌≡◌, ◌++◌, ℕ, List, append_assoc}
use Rattle.std.specs.Prelude.{codes, decimal}
use Rattle.s10_notes.specs.Text.{request_text, members_text}
use Rattle.s10_lines.proofs.Writing.{Appends-then}
use Rattle.s10_notes.proofs.Written.{last_written, same_written}
use Rattle.s10_notes.proofs.writing.write_members.Goals as goal

-- The texts of the members, one after another.
regrouped : (k1 x1 k2 x2 k3 x3 k4 r : List ℕ)
    → ((((k1 ++ x1) ++ (k2 ++ x2)) ++ (k3 ++ x3)) ++ k4) ++ r
    ≡ k1 ++ (x1 ++ (k2 ++ (x2 ++ (k3 ++ (x3 ++ (k4 ++ r))))))
regrouped k1 x1 k2 x2 k3 x3 k4 r = simp append_assoc

pub returns-clause-written : goal.returns-clause-written
returns-clause-written g c =
    let n = c.args.notes.now in
    let k1 : List ℕ = codes "{\"customer\": " in
    let k2 : List ℕ = codes ", \"next\": " in
    let k3 : List ℕ = codes ", \"last\": " in
    let k4 : List ℕ = codes ", \"request\": " in
    let a = k1 ++ decimal n.customer in
    let b = k2 ++ decimal n.next in
    let d = k3 ++ decimal n.last in
    let r = request_text n.request in
    same_written _ _ _ (members_text n) c.write_open_request.result
    (regrouped k1 (decimal n.customer) k2 (decimal n.next) k3 (decimal n.last) k4 r)
    (last_written _ _ _ (((a ++ b) ++ d) ++ k4) r c.write_open_request.result
    (Appends-then _ _ _ ((a ++ b) ++ d) k4
    (Appends-then _ _ _ (a ++ b) d
    (Appends-then _ _ _ a b
    (rw c.customer.ensures at c.in_ok-write_named.ensures)
    (rw c.next.ensures.next at c.in_ok-write_named-2.ensures))
    (rw c.last.ensures at c.in_ok-write_named-3.ensures))
    c.in_ok-write_text.ensures)
    (rw c.request.ensures at c.write_open_request.ensures.written))
