use Rattle.std.proofs.Common.{◌<◌, get_or, length, ap, ◌∙◌, arith}
use Rattle.std.proofs.lemmas.Result.{err_from_is_err_and}
use Rattle.css_semantics.specs.Units.{with_units, metered, spending}
use Rattle.css_isa.specs.declared.space.Width.TheVariants as widths
use Rattle.css_machine.proofs.Entries.{drop_next, stores_more, stores_stop, stores_all}
use Rattle.css_machine.proofs.entry.store_arguments.Goals as goal

pub returns-in_err-store-clause-stops : goal.returns-in_err-store-clause-stops
returns-in_err-store-clause-stops g c =
    let params = c.args.params.now in
    let arguments = c.args.arguments.now in
    let i = c.loop-i.i in
    let here : i < length params = omega arith in
    let there : i < length arguments = omega arith in
    let exit = err_from_is_err_and c.from_residual.result c.from_residual.ensures.1 in
    rw exit.1
    (λ units. stores_stop (metered g.S.Space.reply) (spending g.S.Space.learn) c.args.base params arguments (with_units c.args.space.now units) i (with_units c.loop-i.space units) (c.loop-i.invariant.so_far units)
    c.loop-i.address (get_or arguments i 0) (get_or params i widths.W8) c.loop-i.invariant.address (drop_next params i widths.W8 here) (drop_next arguments i 0 there) exit.0 (rw exit.2 c.in_err-store.ensures.refuses))

pub loop-i-preserved : goal.loop-i-preserved
loop-i-preserved g c =
    let params = c.args.params.now in
    let arguments = c.args.arguments.now in
    let i = c.loop-i.i in
    let here : i < length params = omega arith in
    let there : i < length arguments = omega arith in
    let stored = c.in_ok-store.ensures in
    record {
      address = omega (arith, c.loop-i.invariant.address);
      so_far = λ units.
          rw stored.learns
          (stores_more (metered g.S.Space.reply) (spending g.S.Space.learn) c.args.base params arguments (with_units c.args.space.now units) i (with_units c.loop-i.space units) (c.loop-i.invariant.so_far units)
          c.loop-i.address (get_or arguments i 0) (get_or params i widths.W8) c.loop-i.invariant.address (drop_next params i widths.W8 here) (drop_next arguments i 0 there) stored.says.0 stored.says.1);
      place = ap g.S.Space.place stored.learns ∙ g.S.Space.place_moves.stores c.loop-i.space _ _ ∙ c.loop-i.invariant.place;
    }

pub returns-clause-stores : goal.returns-clause-stores
returns-clause-stores g c = λ units.
    let m = with_units c.args.space.now units in
    stores_all (metered g.S.Space.reply) (spending g.S.Space.learn) c.args.base c.args.params.now c.args.arguments.now m c.loop-i.i (with_units c.loop-i.space units) (omega arith) (c.loop-i.invariant.so_far units)
