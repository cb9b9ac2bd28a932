use Rattle.std.proofs.Common.{◌∙◌, ap, refl}
use Rattle.s10_ends.specs.NearEnds.{NearEnds}
use Rattle.s10_link.specs.UdpLink.{BoundLink}
use Rattle.s10_ends.specs.Server.{book_of}
use Rattle.s10_host.proofs.looping.loop_over.Goals as goal

pub returns : goal.returns
returns g c =
    let ended = c.make_calls-asked.new.link in (
      record { server = c.new.result; far = c.args.far; near = c.args.near; day = c.args.day },
      refl,
      c.new.ensures,
      ended,
      c.into_book.ensures ∙ ap (λ (l : NearEnds g.row.B.Denot BoundLink BoundLink). book_of
          l.server) c.link.view_is,
      ap (λ (l : NearEnds g.row.B.Denot BoundLink BoundLink). l.far) c.link.view_is,
      ap (λ (l : NearEnds g.row.B.Denot BoundLink BoundLink). l.near) c.link.view_is,
      c.make_calls-asked.ensures.led,
      rw (
        ap (λ (l : NearEnds g.row.B.Denot BoundLink BoundLink). l.near) c.link.view_is,
        ← c.local-to.ensures,
      ) c.make_calls-asked.ensures.asked,
    )
