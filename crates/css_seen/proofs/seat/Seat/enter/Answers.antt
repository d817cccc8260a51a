use Rattle.css_seen.proofs.Lasting.{others_add}
use Rattle.css_seen.proofs.seat.Seat.enter.Goals as goal

pub returns-clause-others : goal.returns-clause-others
returns-clause-others g c =
    let pass = c.self.inside.pass in
    rw (← c.self.view_is) (others_add g.T.Told.maker pass.number pass.seen (g.T.Told.history c.enter-value.result) pass.made c.enter-value.ensures.prefix c.self.invariant.own c.enter-value.ensures.own)
