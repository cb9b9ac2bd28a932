use Rattle.std.proofs.Common.{◌≡◌, length, take, sym, ap, ◌∙◌, arith, length-take-le}
use Rattle.s10_book.proofs.picks.Picks.len.Goals as goal

pub returns : goal.returns
returns c =
    let room = c.self.inside.room in
    let e : length (take c.self.inside.len c.self.inside.room) ≡ c.self.inside.len =
    length-take-le c.self.inside.len c.self.inside.room
    (omega (arith, c.self.invariant.0, c.self.invariant.1)) in
    sym e ∙ ap length c.self.view_is
