use Rattle.std.proofs.Common.{map, not, sym, ap, ◌∙◌, arith}
use Rattle.std.proofs.lemmas.List.{length-map}
use Rattle.css_semantics.specs.Dialogue.{Argument}
use Rattle.css_semantics.specs.Tasks as tasks
use Rattle.css_semantics.specs.Rules.{all_of_window}
use Rattle.css_arguments.specs.Arguments.{given}
use Rattle.css_arguments.specs.Layouts.{is_live_at}
use Rattle.css_arguments.proofs.Lists.{place_map}
use Rattle.css_arguments.proofs.Looking.{within, any_begin, any_found, any_next, any_over}
use Rattle.css_arguments.proofs.judging.any_dead.Goals as goal

pub loop-place-init : goal.loop-place-init
loop-place-init c = any_begin (λ (a : Argument). not (all_of_window (is_live_at c.args.layout.now) (tasks.window a))) (map given c.args.arguments.now) 0

pub is_live-requires-clause-is_window : goal.is_live-requires-clause-is_window
is_live-requires-clause-is_window c =
    let a = within c.args.arguments.now c.loop-place.place c.loop-place-test.true in
    (c.window_at.ensures.value a.0 a.1).is_window

pub returns-then-not-is_live : goal.returns-then-not-is_live
returns-then-not-is_live c =
    let a = within c.args.arguments.now c.loop-place.place c.loop-place-test.true in
    any_found (λ (x : Argument). not (all_of_window (is_live_at c.args.layout.now) (tasks.window x))) (map given c.args.arguments.now) 0 c.loop-place.place (given a.0) c.loop-place.invariant
    (place_map given c.args.arguments.now c.loop-place.place a.0 a.1)
    (ap not (ap (all_of_window (is_live_at c.args.layout.now)) (sym (c.window_at.ensures.value a.0 a.1).is) ∙ sym c.is_live.ensures ∙ c.if-not-is_live.true))

pub loop-place-preserved : goal.loop-place-preserved
loop-place-preserved c =
    let a = within c.args.arguments.now c.loop-place.place c.loop-place-test.true in
    any_next (λ (x : Argument). not (all_of_window (is_live_at c.args.layout.now) (tasks.window x))) (map given c.args.arguments.now) 0 c.loop-place.place (given a.0) c.loop-place.invariant
    (place_map given c.args.arguments.now c.loop-place.place a.0 a.1)
    (ap not (ap (all_of_window (is_live_at c.args.layout.now)) (sym (c.window_at.ensures.value a.0 a.1).is) ∙ sym c.is_live.ensures ∙ c.if-not-is_live.false))

pub returns : goal.returns
returns c =
    any_over (λ (a : Argument). not (all_of_window (is_live_at c.args.layout.now) (tasks.window a))) (map given c.args.arguments.now) 0 c.loop-place.place c.loop-place.invariant
    (omega (arith, length-map c.args.arguments.now given))
