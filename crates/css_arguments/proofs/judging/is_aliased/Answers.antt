use Rattle.std.proofs.Common.{map, ◌&&◌, ◌||◌, sym, ◌∙◌, arith}
use Rattle.std.proofs.lemmas.List.{length-map}
use Rattle.css_semantics.specs.Dialogue.{Argument}
use Rattle.css_semantics.specs.Tasks as tasks
use Rattle.css_record.specs.Windows.{window}
use Rattle.css_arguments.specs.Arguments.{given}
use Rattle.css_arguments.proofs.Lists.{place_map}
use Rattle.css_arguments.proofs.Looking.{within, any_begin, any_found, any_next, any_over}
use Rattle.css_arguments.proofs.judging.is_aliased.Goals as goal

pub loop-place-init : goal.loop-place-init
loop-place-init c =
    any_begin (λ (b : Argument). tasks.is_same_window (window c.args.window.now) (tasks.window b) && (c.args.written || tasks.writes b.direction)) (map given c.args.arguments.now) c.args.from

pub returns-then-is_same_written : goal.returns-then-is_same_written
returns-then-is_same_written c =
    let a = within c.args.arguments.now c.loop-place.place c.loop-place-test.true in
    any_found (λ (b : Argument). tasks.is_same_window (window c.args.window.now) (tasks.window b) && (c.args.written || tasks.writes b.direction)) (map given c.args.arguments.now) c.args.from c.loop-place.place (given a.0) c.loop-place.invariant
    (place_map given c.args.arguments.now c.loop-place.place a.0 a.1) (sym (c.is_same_written.ensures a.0 a.1) ∙ c.if-is_same_written.true)

pub loop-place-preserved : goal.loop-place-preserved
loop-place-preserved c =
    let a = within c.args.arguments.now c.loop-place.place c.loop-place-test.true in
    any_next (λ (b : Argument). tasks.is_same_window (window c.args.window.now) (tasks.window b) && (c.args.written || tasks.writes b.direction)) (map given c.args.arguments.now) c.args.from c.loop-place.place (given a.0) c.loop-place.invariant
    (place_map given c.args.arguments.now c.loop-place.place a.0 a.1) (sym (c.is_same_written.ensures a.0 a.1) ∙ c.if-is_same_written.false)

pub returns : goal.returns
returns c =
    any_over (λ (b : Argument). tasks.is_same_window (window c.args.window.now) (tasks.window b) && (c.args.written || tasks.writes b.direction)) (map given c.args.arguments.now) c.args.from c.loop-place.place c.loop-place.invariant
    (omega (arith, length-map c.args.arguments.now given))
