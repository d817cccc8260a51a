use Rattle.std.proofs.Common.{map, sym, ap, ◌∙◌, arith}
use Rattle.std.proofs.lemmas.List.{length-map}
use Rattle.css_semantics.specs.Dialogue.{Argument}
use Rattle.css_semantics.specs.Tasks as tasks
use Rattle.css_semantics.specs.Rules.{overlap}
use Rattle.css_record.specs.Windows.{window}
use Rattle.css_arguments.specs.Arguments.{given}
use Rattle.css_arguments.proofs.Lists.{place_map}
use Rattle.css_arguments.proofs.Looking.{within, any_begin, any_found, any_next, any_over}
use Rattle.css_arguments.proofs.judging.overlaps_given.Goals as goal

pub loop-place-init : goal.loop-place-init
loop-place-init c = any_begin (λ (b : Argument). overlap (window c.args.window.now) (tasks.window b)) (map given c.args.arguments.now) 0

pub overlaps-requires-clause-second : goal.overlaps-requires-clause-second
overlaps-requires-clause-second c =
    let a = within c.args.arguments.now c.loop-place.place c.loop-place-test.true in
    (c.window_at.ensures.value a.0 a.1).is_window

pub returns-then-overlaps : goal.returns-then-overlaps
returns-then-overlaps c =
    let a = within c.args.arguments.now c.loop-place.place c.loop-place-test.true in
    any_found (λ (b : Argument). overlap (window c.args.window.now) (tasks.window b)) (map given c.args.arguments.now) 0 c.loop-place.place (given a.0) c.loop-place.invariant
    (place_map given c.args.arguments.now c.loop-place.place a.0 a.1)
    (ap (overlap (window c.args.window.now)) (sym (c.window_at.ensures.value a.0 a.1).is) ∙ sym c.overlaps.ensures ∙ c.if-overlaps.true)

pub loop-place-preserved : goal.loop-place-preserved
loop-place-preserved c =
    let a = within c.args.arguments.now c.loop-place.place c.loop-place-test.true in
    any_next (λ (b : Argument). overlap (window c.args.window.now) (tasks.window b)) (map given c.args.arguments.now) 0 c.loop-place.place (given a.0) c.loop-place.invariant
    (place_map given c.args.arguments.now c.loop-place.place a.0 a.1)
    (ap (overlap (window c.args.window.now)) (sym (c.window_at.ensures.value a.0 a.1).is) ∙ sym c.overlaps.ensures ∙ c.if-overlaps.false)

pub returns : goal.returns
returns c =
    any_over (λ (b : Argument). overlap (window c.args.window.now) (tasks.window b)) (map given c.args.arguments.now) 0 c.loop-place.place c.loop-place.invariant
    (omega (arith, length-map c.args.arguments.now given))
