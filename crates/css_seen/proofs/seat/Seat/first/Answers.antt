use Rattle.std.proofs.Common.{rules, ap, sym, subst, ◌∙◌}
use Rattle.css_seen.proofs.seat.Seat.first.Goals as goal

pub invariant_of-result : goal.invariant_of-result
invariant_of-result g c =
    let is = c.in-Ok.ensures.first in
    record {
      lock_is = search rules;
      own = search rules;
      fixed = g.T.Told.fixed c.args.value;
      fixed_is = search rules;
      legal_is = subst (g.T.Lawful.legal (g.T.Told.fixed c.args.value)) (c.requires.empty ∙ sym (ap (λ u. u.seen) is)) c.is_legal.ensures;
    }
