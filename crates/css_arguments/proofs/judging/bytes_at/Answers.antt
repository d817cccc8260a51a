use Rattle.std.proofs.Common.{arith}
use Rattle.css_record.specs.Windows.{window}
use Rattle.css_record.proofs.Windows.{length_in_span}
use Rattle.css_arguments.proofs.Looking.{within}
use Rattle.css_arguments.proofs.judging.bytes_at.Goals as goal

pub length-requires : goal.length-requires
length-requires c =
    let a = within c.args.arguments.now c.args.place c.requires.place in
    (c.window_at-window.ensures.value a.0 a.1).is_window

pub returns-clause-small : goal.returns-clause-small
returns-clause-small c =
    let a = within c.args.arguments.now c.args.place c.requires.place in
    omega (arith, c.rounded.ensures.small, c.length.ensures, length_in_span (window c.window_at-window.result) (c.window_at-window.ensures.value a.0 a.1).is_window)
