-- Under the rules main and each task have units of their own.
use Rattle.std.proofs.Common.{◌≡◌, ℕ, ◌+◌, ◌-◌, ◌≤◌, false, Option, Some, None, ◌∷◌, refl, sym, ap, ◌∙◌, arith}
use Rattle.std.proofs.lemmas.Bool.{leb-false}
use Rattle.css_base.specs.declared.limits.Limits.{Limits}
use Rattle.css_base.specs.declared.rule.Rule.{Rule}
use Rattle.css_semantics.specs.Dialogue.{Action, Enter, Turn, Item, Tape, Reply, Says}
use Rattle.css_semantics.specs.Memory.{Memory, memory_after}
use Rattle.css_semantics.specs.Flat.{FlatState, in_memory}
use Rattle.css_semantics.specs.Tasks.{Body, unit_of, body, main_units}
use Rattle.css_semantics.specs.Rules.{wants_unit, checks_of_main, checks_of_task, first_broken, hit, judged_reply}
use Rattle.css_semantics.specs.Verdict.{judged_in}
use Rattle.css_semantics.proofs.Checks.{are_kept}
use Rattle.css_semantics.specs.Actions.{is_of_calls}
use Rattle.css_core.specs.Meters.{SpendsApart}
use Rattle.css_core.proofs.UnitsTaken.{used, main_takes, main_keeps, task_takes}
use Rattle.css_core.proofs.StaysInside.{outside_none, inside_some}

-- ---- what the rules allow

allowed : (broken : Option Rule) (reply : Reply) (value : ℕ) → judged_reply broken reply ≡ Says value → broken ≡ None
allowed None reply value e = refl
allowed (Some rule) reply value e = cc

left_for : (limit used : ℕ) (action : Action) → wants_unit limit used action ≡ false → unit_of action ≤ limit - used
left_for limit used (Enter size) h = let less = leb-false limit used h in omega (arith, less)
left_for limit used Turn h = let less = leb-false limit used h in omega (arith, less)
left_for limit used action h = omega arith

module _ (start : Memory) (limits : Limits) (tape : Tape) where
  pub rule_of_main : (action : Action) → body tape ≡ None → hit start limits tape action ≡ first_broken (checks_of_main (memory_after start tape) limits tape action)
  rule_of_main action is =
      ap (λ (o : Option Body). elim o [
        | None ↦ first_broken (checks_of_main (memory_after start tape) limits tape action)
        | Some b ↦ first_broken (checks_of_task limits b action)
      ]) is

  rule_of_task : (b : Body) (action : Action) → body tape ≡ Some b → hit start limits tape action ≡ first_broken (checks_of_task limits b action)
  rule_of_task b action is =
      ap (λ (o : Option Body). elim o [
        | None ↦ first_broken (checks_of_main (memory_after start tape) limits tape action)
        | Some b ↦ first_broken (checks_of_task limits b action)
      ]) is

  main_spends : (i : Item) → body tape ≡ None → hit start limits tape i.action ≡ None → (limits.main_units - main_units (i ∷ tape)) + unit_of i.action ≤ limits.main_units - main_units tape
  main_spends i is clear =
      let checks = checks_of_main (memory_after start tape) limits tape i.action in
      main_takes limits.main_units tape i is (left_for limits.main_units (main_units tape) i.action (are_kept checks (sym (rule_of_main i.action is) ∙ clear)).1.1.1.1.1.1.1.1.1.0)

  task_spends : (i : Item) (b : Body) → is_of_calls i.action ≡ false → body tape ≡ Some b → hit start limits tape i.action ≡ None
      → (limits.task_units - used (body (i ∷ tape))) + unit_of i.action ≤ limits.task_units - used (body tape)
  task_spends i b plain is clear =
      task_takes limits.task_units tape i b plain is (left_for limits.task_units b.units i.action (are_kept (checks_of_task limits b i.action) (sym (rule_of_task b i.action is) ∙ clear)).1.1.1.1.1.0)

-- ---- the judged world

module _ (limits : Limits) (start : FlatState) where
  abbrev pub main_left : Tape → ℕ
  main_left tape = limits.main_units - main_units tape

  abbrev pub task_left : Tape → ℕ
  task_left tape = limits.task_units - used (body tape)

  none_hit : (i : Item) (tape : Tape) (value : ℕ) → judged_in limits start tape i ≡ Says value → hit start.memory limits tape i.action ≡ None
  none_hit i tape value e = allowed (hit start.memory limits tape i.action) (in_memory start tape i) value e

  pub judged_spends : SpendsApart (judged_in limits start) main_left task_left limits.task_units
  judged_spends = record {
    asks = λ i tape value outside e. main_spends start.memory limits tape i (outside_none tape outside) (none_hit i tape value e);
    begins = λ i tape value outside inside e. omega arith;
    asks_inside = λ i tape value plain inside e.
        let runs = inside_some tape inside in
        task_spends start.memory limits tape i runs.0 plain runs.1 (none_hit i tape value e);
    keeps_inside = λ i tape value inside e.
        let runs = inside_some tape inside in
        main_keeps limits.main_units tape i runs.0 runs.1;
  }
