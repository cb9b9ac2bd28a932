use Rattle.std.proofs.Common.{refl, subst, inr}
use Rattle.std.specs.Prelude.{is_some}
use Rattle.sqlite_wal.specs.Files.{image_at}
use Rattle.s10_link.specs.Peer.{SpellsPeer}
use Rattle.s10_host.proofs.Ending.{no_peer, until_there, named_as, not_served, unopened, no_files, no_link}
use Rattle.s10_host.proofs.serve.run_serve.Goals as goal

pub returns-in_default : goal.returns-in_default
returns-in_default g c =
    rw c.none.ensures
    (no_peer _ (image_at g.S.Start) g.D.Days.gives c.args.bind.now c.as_bytes.result.now c.args.options _ _
    (is_some c.args.until) (g.W.Write.contents c.args.out.now)
    (g.W.Write.contents c.refuse.new.out)
    c.refuse.result c.refuse.result _ _
    c.read.result c.in_default.is c.read.ensures.read c.as_bytes.ensures.value c.refuse.ensures
    refl refl refl)

pub returns-then-is_there : goal.returns-then-is_there
returns-then-is_there g c =
    rw c.none-then-is_there.ensures
    (until_there _ (image_at g.S.Start) g.D.Days.gives c.args.bind.now c.in-Some.at c.args.options _ _
    (is_some c.args.until) (g.W.Write.contents c.args.out.now)
    (g.W.Write.contents c.refuse-then-is_there.new.out) c.refuse-then-is_there.result _ _
    (subst (λ text. SpellsPeer text c.in-Some.at) c.as_bytes.ensures.value
    c.in-Some.ensures.spelled) (c.is_there.ensures c.if-is_there.true) c.refuse-then-is_there.ensures
    refl refl)

pub returns-in-Err : goal.returns-in-Err
returns-in-Err g c =
    let failed = c.not_connected in
    let ended = failed.result in
    not_served _ (image_at g.S.Start) g.D.Days.gives c.args.bind.now c.in-Some.at c.args.options _ _
    (is_some c.args.until) (g.W.Write.contents c.args.out.now) (g.W.Write.contents failed.new.out)
    ended.done ended.resources.files ended.resources.link
    (subst (λ text. SpellsPeer text c.in-Some.at) c.as_bytes.ensures.value
    c.in-Some.ensures.spelled)
    (unopened _ (image_at g.S.Start) c.in-Err.fault _ _ ended.done ended.resources.files
    (inr (inr c.in-Err.ensures.err.0)) failed.ensures.done (no_files _ failed.ensures.nothing))
    (no_link _ failed.ensures.nothing)

pub returns-in-Ok-connect_to_ledger : goal.returns-in-Ok-connect_to_ledger
returns-in-Ok-connect_to_ledger g c =
    let ended = c.serve_on_disk.result in
    named_as _ (image_at g.S.Start) g.D.Days.gives c.args.bind.now c.args.options _ _
    c.new-ends.result (is_some c.args.until) (g.W.Write.contents c.args.out.now)
    (g.W.Write.contents c.serve_on_disk.new.out) ended.done ended.resources.files
    ended.resources.link c.new-ends.ensures
    (c.serve_on_disk.ensures (image_at g.S.Start) c.in-Ok-connect_to_ledger.ensures.found
    c.args.bind.now (subst (λ text. SpellsPeer text c.in-Some.at) c.as_bytes.ensures.value
    c.in-Some.ensures.spelled))

pub returns : goal.returns
returns g c =
    let failed = c.not_connected-in-Err-connect_to_ledger in
    let ended = failed.result in
    not_served _ (image_at g.S.Start) g.D.Days.gives c.args.bind.now c.in-Some.at c.args.options _ _
    (is_some c.args.until) (g.W.Write.contents c.args.out.now) (g.W.Write.contents failed.new.out)
    ended.done ended.resources.files ended.resources.link
    (subst (λ text. SpellsPeer text c.in-Some.at) c.as_bytes.ensures.value
    c.in-Some.ensures.spelled)
    (unopened _ (image_at g.S.Start) c.in-Err-connect_to_ledger.fault _ _ ended.done
    ended.resources.files c.in-Err-connect_to_ledger.ensures.refused failed.ensures.done
    (no_files _ failed.ensures.nothing)) (no_link _ failed.ensures.nothing)
