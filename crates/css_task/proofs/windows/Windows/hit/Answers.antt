use Rattle.std.proofs.Common.{length, refl, arith}
use Rattle.std.proofs.lemmas.Option.{slice_get_read}
use Rattle.css_task.proofs.Hits.{is_hit, fits_first, in_some}
use Rattle.css_task.proofs.windows.Windows.hit.Goals as goal

pub offset-requires-clause-window : goal.offset-requires-clause-window
offset-requires-clause-window c =
    let all = c.args.self.now.all.items in
    let p = c.index-placed.result.now in
    let at = slice_get_read all (length all) c.args.number p refl c.requires.within c.index-placed.ensures in
    c.requires.placed.windows c.args.number p at

pub overflow_add-result : goal.overflow_add-result
overflow_add-result c =
    let all = c.args.self.now.all.items in
    let p = c.index-placed.result.now in
    let at = slice_get_read all (length all) c.args.number p refl c.requires.within c.index-placed.ensures in
    omega (arith, fits_first all c.requires.placed c.args.number p at c.args.address c.args.count c.in-Some.offset c.in-Some.ensures.is c.requires.some)

pub returns-in-Some-clause-any : goal.returns-in-Some-clause-any
returns-in-Some-clause-any c = λ some.
    let all = c.args.self.now.all.items in
    let p = c.index-placed.result.now in
    let at = slice_get_read all (length all) c.args.number p refl c.requires.within c.index-placed.ensures in
    in_some all c.args.number p at c.args.address c.args.count c.in-Some.ensures.has

pub returns-in-Some-clause-is : goal.returns-in-Some-clause-is
returns-in-Some-clause-is c =
    let all = c.args.self.now.all.items in
    let p = c.index-placed.result.now in
    let at = slice_get_read all (length all) c.args.number p refl c.requires.within c.index-placed.ensures in
    is_hit all c.requires.placed c.args.number p at c.args.address c.args.count c.in-Some.offset c.in-Some.ensures.is
