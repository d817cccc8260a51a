use Rattle.std.proofs.Common.{length, not, ap, refl, ◌∙◌, arith}
use Rattle.std.proofs.lemmas.Option.{slice_get_read}
use Rattle.css_arguments.specs.Arguments.{is_unfit}
use Rattle.css_arguments.proofs.Looking.{any_begin, any_next, any_over, fit_of}
use Rattle.css_arguments.proofs.judging.any_unfit.Goals as goal

pub loop-argument-init : goal.loop-argument-init
loop-argument-init c = any_begin is_unfit c.args.arguments.now 0

pub window-requires : goal.window-requires
window-requires c =
    c.requires c.loop-argument.argument-index c.argument-item.result
    (slice_get_read c.args.arguments.now (length c.args.arguments.now) c.loop-argument.argument-index c.argument-item.result refl c.loop-argument-test.true c.argument-item.is)

pub loop-argument-preserved : goal.loop-argument-preserved
loop-argument-preserved c =
    any_next is_unfit c.args.arguments.now 0 c.loop-argument.argument-index c.argument-item.result c.loop-argument.invariant
    (slice_get_read c.args.arguments.now (length c.args.arguments.now) c.loop-argument.argument-index c.argument-item.result refl c.loop-argument-test.true c.argument-item.is)
    (fit_of c.argument-item.result c.window.result c.window.ensures (c.is_none.ensures ∙ ap not c.if-is_none.false))

pub returns : goal.returns
returns c = any_over is_unfit c.args.arguments.now 0 c.loop-argument.argument-index c.loop-argument.invariant (omega arith)
