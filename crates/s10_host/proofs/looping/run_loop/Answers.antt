use Rattle.std.proofs.Common.{rules, ◌≡◌, List, [], ◌++◌, append-nil, subst, sym, ap, ◌∙◌}
use Rattle.sqlite_trees.specs.declared.memory.MemStore.{MemStore}
use Rattle.sqlite.specs.Steps.{over_memory}
use Rattle.s10_history.specs.declared.entry.Entry.{Entry}
use Rattle.s10_ledger.specs.Ledger.{Ledger, IsHonest, history_of, committed_of}
use Rattle.s10_ends.specs.Server.{book_of}
use Rattle.s10_link.specs.UdpLink.{BoundLink, IsBoundAt}
use Rattle.std.specs.Prelude.{IfOk}
use Rattle.s10_jobs.specs.Shown.{Prints}
use Rattle.s10_jobs.specs.LoopCalls.{loop_calls, AreMadeInTurn}
use Rattle.s10_host.specs.LoopRun.{LoopLink, IsNewLoop, loop_terms, localhost}
use Rattle.s10_host.proofs.Leaving.{looped_over, none_left}
use Rattle.s10_host.proofs.MemoryLedger.{is_honest}
use Rattle.s10_host.proofs.looping.run_loop.Goals as goal

pub returns-clause-asked : goal.returns-clause-asked
returns-clause-asked g c =
    let (begun, new, over, ended, back, far, near, led, asked) = c.loop_over-asked.ensures in
    let settings : c.in-Some.settings ≡ loop_terms = search rules in
    let fresh : IsNewLoop c.args.day begun =
    record {
      on_day = ap (λ (l : LoopLink). l.day) new;
      far = ap (λ (l : LoopLink). l.far.trace) new ∙ c.in-Ok.ensures.ok.0;
      near = ap (λ (l : LoopLink). l.near.trace) new ∙ c.in-Ok.ensures.ok.1;
      terms = ap (λ (b : Ledger MemStore). b.terms) over ∙ c.in-Ok-in_memory.ensures.new.0
          ∙ settings;
      empty = ap (λ (b : Ledger MemStore). history_of over_memory b) over
          ∙ ap (λ (p : List Entry). committed_of over_memory c.in-Ok-in_memory.book ++ p)
          c.in-Ok-in_memory.ensures.none_pending ∙ append-nil _ ∙ c.in-Ok-in_memory.ensures.empty;
    } in
    let honest : IsHonest over_memory (book_of ended.server) =
    subst (IsHonest over_memory) back (is_honest c.loop_over-asked.result.1
    c.close-connection.result.connection c.close-connection.ensures.honest) in
    let none : c.loop_over-asked.result.1.pending ≡ [] =
    ap (λ (b : Ledger MemStore). b.pending) back ∙ none_left c.args.day begun ended fresh led honest
    in
    looped_over c.args.day begun ended (record {
      connection = c.close-connection.result.connection;
      far = c.loop_over-asked.result.2;
      near = c.loop_over-asked.result.3;
    })
    (g.W.Write.contents c.args.out.now) (g.W.Write.contents c.loop_over-asked.new.out)
    c.loop_over-asked.result.0 c.in-Ok.links.1.trace fresh led (record {
      honest = honest;
      closed = c.close-connection.ensures.same none ∙ ap (λ (b : Ledger MemStore). b.conn) back;
      far = far;
      near = near;
    }) c.in-Ok.ensures.ok.1
    (subst (λ (l : BoundLink). IsBoundAt localhost l.at)
    (sym (ap (λ (l : LoopLink). l.far) new)) c.in-Ok.ensures.at)
    (subst (λ (l : BoundLink). IfOk c.loop_over-asked.result.0 (λ status. Prints
    (g.W.Write.contents c.args.out.now) (g.W.Write.contents c.loop_over-asked.new.out)
    (AreMadeInTurn l.at loop_calls c.in-Ok.links.1.trace c.loop_over-asked.result.3.trace status)))
    (sym (ap (λ (l : LoopLink). l.far) new)) asked)
