-- What holds of tapes on which no rule is broken.
use Rattle.std.proofs.Common.{◌≡◌, ℕ, ◌+◌, ◌≤◌, true, false, [], ◌∷◌, Option, Some, None, is_none, IfSome, arith, if◌then◌else◌}
use Rattle.std.proofs.lemmas.Bool.Decides.{nat_tests}
use Rattle.css_base.specs.declared.limits.Limits.{Limits}
use Rattle.css_base.specs.declared.rule.Rule.{Rule}
use Rattle.css_semantics.specs.Dialogue.{Action, Enter, Turn, Store, Calls, Returns, Finish, Barrier, Wait, End, Tape}
use Rattle.css_semantics.specs.Memory.{Memory, memory_after}
use Rattle.css_semantics.specs.Tasks.{Body, unit_of, body, body_after, main_units}
use Rattle.css_semantics.specs.Pending.{pending_after, pending}
use Rattle.css_semantics.specs.Rules.{checks_of_main, checks_of_task, first_broken, wants_unit}
use Rattle.css_semantics.specs.Clear.{IsClear, AreApart}
use Rattle.css_semantics.proofs.Apart.{filter-apart, call-apart}
use Rattle.css_semantics.proofs.Checks.{are_kept}

-- the first rule that an action breaks where this is the task that runs
abbrev hit_in : Memory → Limits → Tape → Action → Option Body → Option Rule
hit_in m limits tape action o =
    elim o [
      | None ↦ first_broken (checks_of_main m limits tape action)
      | Some b ↦ first_broken (checks_of_task limits b action)
    ]

module _ (m : Memory) (limits : Limits) (tape : Tape) where
  -- ---- pending objects

  apart_behind_main : (action : Action) → hit_in m limits tape action None ≡ None → AreApart (pending tape) → AreApart (pending_after true (pending tape) action)
  apart_behind_main (Calls call) clear apart =
      call-apart (pending tape) call.arguments apart (are_kept (checks_of_main m limits tape (Calls call)) clear).1.1.1.1.1.0
  apart_behind_main (Store address bytes) clear apart = filter-apart _ (pending tape) apart
  apart_behind_main (Wait address) clear apart = filter-apart _ (pending tape) apart
  apart_behind_main Barrier clear apart = tt
  apart_behind_main Finish clear apart = tt
  apart_behind_main (End result) clear apart = tt
  apart_behind_main _ clear apart = apart

  apart_behind_task : (action : Action) → AreApart (pending tape) → AreApart (pending_after false (pending tape) action)
  apart_behind_task (Wait address) apart = filter-apart _ (pending tape) apart
  apart_behind_task Barrier apart = tt
  apart_behind_task Finish apart = tt
  apart_behind_task (End result) apart = tt
  apart_behind_task _ apart = apart

  apart_behind : (o : Option Body) (action : Action) → hit_in m limits tape action o ≡ None → AreApart (pending tape) → AreApart (pending_after (is_none o) (pending tape) action)
  apart_behind None action clear apart = apart_behind_main action clear apart
  apart_behind (Some b) action clear apart = apart_behind_task action apart

  -- ---- units

  one_unit : (action : Action) → unit_of action ≤ 1
  one_unit (Enter size) = omega arith
  one_unit Turn = omega arith
  one_unit _ = omega arith

  unit_fits : (limit used : ℕ) (action : Action) → wants_unit limit used action ≡ false → used ≤ limit → used + unit_of action ≤ limit
  unit_fits limit used action fits within =
      let most = one_unit action in
      grind (arith, nat_tests)

  main_within : (o : Option Body) (action : Action) → hit_in m limits tape action o ≡ None → main_units tape ≤ limits.main_units → (if is_none o then main_units tape + unit_of action else main_units tape) ≤ limits.main_units
  main_within None action clear within =
      unit_fits limits.main_units (main_units tape) action (are_kept (checks_of_main m limits tape action) clear).1.1.1.1.1.1.1.1.1.0 within
  main_within (Some b) action clear within = within

  task_within : (o : Option Body) (action : Action) → hit_in m limits tape action o ≡ None → IfSome o (λ b. b.units ≤ limits.task_units) → IfSome (body_after o action) (λ b. b.units ≤ limits.task_units)
  task_within o (Calls call) clear within = omega arith
  task_within o Returns clear within = tt
  task_within None action clear within = tt
  task_within (Some b) action clear within =
      unit_fits limits.task_units b.units action (are_kept (checks_of_task limits b action) clear).1.1.1.1.1.0 within

-- pending objects share no byte
pub pending_apart : (start : Memory) (limits : Limits) (tape : Tape) → IsClear start limits tape → AreApart (pending tape)
pending_apart start limits [] clear = tt
pending_apart start limits (i ∷ tape) clear =
    apart_behind (memory_after start tape) limits tape (body tape) i.action clear.0 (pending_apart start limits tape clear.1)

-- main's units are at most its limit
pub main_units_within : (start : Memory) (limits : Limits) (tape : Tape) → IsClear start limits tape → main_units tape ≤ limits.main_units
main_units_within start limits [] clear = omega arith
main_units_within start limits (i ∷ tape) clear =
    main_within (memory_after start tape) limits tape (body tape) i.action clear.0 (main_units_within start limits tape clear.1)

-- and those of the task that runs
pub task_units_within : (start : Memory) (limits : Limits) (tape : Tape) → IsClear start limits tape → IfSome (body tape) (λ b. b.units ≤ limits.task_units)
task_units_within start limits [] clear = tt
task_units_within start limits (i ∷ tape) clear =
    task_within (memory_after start tape) limits tape (body tape) i.action clear.0 (task_units_within start limits tape clear.1)
