use Rattle.std.proofs.Common.{◌+◌, Some, map, length, sym, ap, ◌∙◌, arith}
use Rattle.std.proofs.lemmas.List.{length-map}
use Rattle.css_semantics.specs.Tasks as tasks
use Rattle.css_semantics.specs.Rules.{overlaps_partly}
use Rattle.css_record.specs.Windows.{window}
use Rattle.css_arguments.specs.Arguments.{given}
use Rattle.css_objects.specs.Table.{objects}
use Rattle.css_arguments.proofs.Lists.{place_map}
use Rattle.css_arguments.proofs.Looking.{within, any_begin, any_found, any_next, any_over}
use Rattle.css_objects.proofs.Judges.{steps_begin, steps_next, steps_end, by_object, by_given, by_neither}
use Rattle.css_objects.proofs.table.ObjectTable.overlaps_partly.Goals as goal

pub loop-place-init : goal.loop-place-init
loop-place-init g c = record {
  left = any_begin (overlaps_partly (objects c.args.self.now) (map given c.args.arguments.now)) (map given c.args.arguments.now) 0;
  cost = steps_begin (length c.args.self.now.rows) (length c.args.self.now.blocks) (map tasks.window (map given c.args.arguments.now)) c.args.steps.now;
}

pub overlaps-requires : goal.overlaps-requires
overlaps-requires g c =
    let a = within c.args.arguments.now c.loop-place.place c.loop-place-test.true in
    (c.window_at-window.ensures.value a.0 a.1).is_window

pub returns-then-overlaps-clause-answer : goal.returns-then-overlaps-clause-answer
returns-then-overlaps-clause-answer g c =
    let a = within c.args.arguments.now c.loop-place.place c.loop-place-test.true in
    any_found (overlaps_partly (objects c.args.self.now) (map given c.args.arguments.now)) (map given c.args.arguments.now) 0 c.loop-place.place (given a.0) c.loop-place.invariant.left
    (place_map given c.args.arguments.now c.loop-place.place a.0 a.1)
    (by_object (objects c.args.self.now) (map given c.args.arguments.now) (given a.0) (window c.window_at-window.result) (c.window_at-window.ensures.value a.0 a.1).is (sym c.overlaps.ensures.answer ∙ c.if-overlaps.true))

pub returns-then-overlaps-clause-cost : goal.returns-then-overlaps-clause-cost
returns-then-overlaps-clause-cost g c =
    let a = within c.args.arguments.now c.loop-place.place c.loop-place-test.true in
    let of = c.window_at-window.ensures.value a.0 a.1 in
    steps_end (length c.args.self.now.rows) (length c.args.self.now.blocks) (map tasks.window (map given c.args.arguments.now)) (c.loop-place.place + 1) c.args.steps.now c.overlaps.new.steps
    (steps_next (length c.args.self.now.rows) (length c.args.self.now.blocks) (map tasks.window (map given c.args.arguments.now)) c.loop-place.place c.args.steps.now c.loop-place.steps c.overlaps.new.steps (window c.window_at-window.result)
    c.loop-place.invariant.cost
    (place_map tasks.window (map given c.args.arguments.now) c.loop-place.place (given a.0) (place_map given c.args.arguments.now c.loop-place.place a.0 a.1) ∙ ap Some (sym of.is)) c.overlaps.ensures.cost)

pub overlaps_given-requires-clause-is_window : goal.overlaps_given-requires-clause-is_window
overlaps_given-requires-clause-is_window g c =
    let a = within c.args.arguments.now c.loop-place.place c.loop-place-test.true in
    (c.window_at-window.ensures.value a.0 a.1).is_window

pub returns-then-overlaps_given-clause-answer : goal.returns-then-overlaps_given-clause-answer
returns-then-overlaps_given-clause-answer g c =
    let a = within c.args.arguments.now c.loop-place.place c.loop-place-test.true in
    any_found (overlaps_partly (objects c.args.self.now) (map given c.args.arguments.now)) (map given c.args.arguments.now) 0 c.loop-place.place (given a.0) c.loop-place.invariant.left
    (place_map given c.args.arguments.now c.loop-place.place a.0 a.1)
    (by_given (objects c.args.self.now) (map given c.args.arguments.now) (given a.0) (window c.window_at-window.result) (c.window_at-window.ensures.value a.0 a.1).is (sym c.overlaps_given.ensures ∙ c.if-overlaps_given.true))

pub returns-then-overlaps_given-clause-cost : goal.returns-then-overlaps_given-clause-cost
returns-then-overlaps_given-clause-cost g c =
    let a = within c.args.arguments.now c.loop-place.place c.loop-place-test.true in
    let of = c.window_at-window.ensures.value a.0 a.1 in
    steps_end (length c.args.self.now.rows) (length c.args.self.now.blocks) (map tasks.window (map given c.args.arguments.now)) (c.loop-place.place + 1) c.args.steps.now c.overlaps.new.steps
    (steps_next (length c.args.self.now.rows) (length c.args.self.now.blocks) (map tasks.window (map given c.args.arguments.now)) c.loop-place.place c.args.steps.now c.loop-place.steps c.overlaps.new.steps (window c.window_at-window.result)
    c.loop-place.invariant.cost
    (place_map tasks.window (map given c.args.arguments.now) c.loop-place.place (given a.0) (place_map given c.args.arguments.now c.loop-place.place a.0 a.1) ∙ ap Some (sym of.is)) c.overlaps.ensures.cost)

pub loop-place-preserved : goal.loop-place-preserved
loop-place-preserved g c =
    let a = within c.args.arguments.now c.loop-place.place c.loop-place-test.true in
    let of = c.window_at-window.ensures.value a.0 a.1 in
    record {
      left =
          any_next (overlaps_partly (objects c.args.self.now) (map given c.args.arguments.now)) (map given c.args.arguments.now) 0 c.loop-place.place (given a.0) c.loop-place.invariant.left
          (place_map given c.args.arguments.now c.loop-place.place a.0 a.1)
          (by_neither (objects c.args.self.now) (map given c.args.arguments.now) (given a.0) (window c.window_at-window.result) of.is
          (sym c.overlaps.ensures.answer ∙ c.if-overlaps.false) (sym c.overlaps_given.ensures ∙ c.if-overlaps_given.false));
      cost =
          steps_next (length c.args.self.now.rows) (length c.args.self.now.blocks) (map tasks.window (map given c.args.arguments.now)) c.loop-place.place c.args.steps.now c.loop-place.steps c.overlaps.new.steps (window c.window_at-window.result)
          c.loop-place.invariant.cost
          (place_map tasks.window (map given c.args.arguments.now) c.loop-place.place (given a.0) (place_map given c.args.arguments.now c.loop-place.place a.0 a.1) ∙ ap Some (sym of.is)) c.overlaps.ensures.cost;
    }

pub returns-clause-answer : goal.returns-clause-answer
returns-clause-answer g c =
    any_over (overlaps_partly (objects c.args.self.now) (map given c.args.arguments.now)) (map given c.args.arguments.now) 0 c.loop-place.place c.loop-place.invariant.left
    (omega (arith, length-map c.args.arguments.now given))

pub returns-clause-cost : goal.returns-clause-cost
returns-clause-cost g c =
    steps_end (length c.args.self.now.rows) (length c.args.self.now.blocks) (map tasks.window (map given c.args.arguments.now)) c.loop-place.place c.args.steps.now c.loop-place.steps c.loop-place.invariant.cost
