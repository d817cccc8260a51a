use Rattle.std.proofs.Common.{sym}
use Rattle.css_judged.proofs.NearObjects.{row_met}
use Rattle.css_judged.proofs.objects.Pending.meets.Goals as goal

pub returns : goal.returns
returns c =
    let p = c.args.self.now in
    rw (c.max-first.ensures, c.min-end.ensures, c.from-base.ensures, c.from-from.ensures, c.from.ensures, c.from-2.ensures) (sym (row_met p.base p.width c.args.address c.args.count))
