use Rattle.std.proofs.Common.{◌&&◌, sym, ◌∙◌, arith}
use Rattle.css_record.specs.Windows.{window}
use Rattle.css_semantics.specs.WindowRanges.{window_meets}
use Rattle.css_objects.specs.Table.{Entry, is_written}
use Rattle.css_arguments.proofs.Lists.{map_place, any_one}
use Rattle.css_objects.proofs.Tables.{met_begin, met_more, met_end}
use Rattle.css_objects.proofs.part.Part.has_written.Goals as goal

pub loop-place-init : goal.loop-place-init
loop-place-init g c = record {
  none = met_begin c.args.self.now c.args.from c.args.to;
  cost = omega arith;
}

pub is_met-requires-clause-is_window : goal.is_met-requires-clause-is_window
is_met-requires-clause-is_window g c = (c.requires.are_windows c.loop-place.place c.read-window.result c.read-window.ensures.value).is_window

pub returns-then-is_met-clause-answer : goal.returns-then-is_met-clause-answer
returns-then-is_met-clause-answer g c =
    let found = map_place (λ (e : Entry). e.window) c.args.self.now c.loop-place.place c.read-window.result c.read-window.ensures.value in
    sym (any_one (λ e. is_written e && window_meets (window e.window) c.args.from c.args.to) c.args.self.now c.loop-place.place found.0 found.1
    (sym (c.is_met.ensures found.0 found.1) ∙ c.if-is_met.true))

pub loop-place-preserved : goal.loop-place-preserved
loop-place-preserved g c = record {
  none = met_more c.args.self.now c.args.from c.args.to c.loop-place.place c.loop-place.invariant.none (λ e at. sym (c.is_met.ensures e at) ∙ c.if-is_met.false);
  cost = omega (arith, c.loop-place.invariant.cost, c.read-window.ensures.step);
}

pub returns-clause-answer : goal.returns-clause-answer
returns-clause-answer g c = sym (met_end c.args.self.now c.args.from c.args.to c.loop-place.place (omega arith) c.loop-place.invariant.none)
