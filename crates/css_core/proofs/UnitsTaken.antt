-- What main has taken, and what a task has, behind one item more.
use Rattle.std.proofs.Common.{◌≡◌, ℕ, ◌+◌, ◌-◌, ◌≤◌, false, if◌then◌else◌, Option, Some, None, is_none, ◌∷◌, refl, sym, subst, arith}
use Rattle.css_semantics.specs.Dialogue.{Action, Calls, Returns, Item, Tape}
use Rattle.css_semantics.specs.Tasks.{Body, unit_of, body_after, body, main_units}
use Rattle.css_semantics.specs.Actions.{is_of_calls}

-- the units that a task has taken, 0 where none runs
abbrev pub used : Option Body → ℕ
used None = 0
used (Some b) = b.units

-- a task's body goes on
goes_on : (b : Body) (action : Action) → is_of_calls action ≡ false → used (body_after (Some b) action) ≡ b.units + unit_of action
goes_on b (Calls call) h = cc
goes_on b Returns h = cc
goes_on b action h = refl

module _ (limit : ℕ) (tape : Tape) (i : Item) where
  pub main_takes : body tape ≡ None → unit_of i.action ≤ limit - main_units tape → (limit - main_units (i ∷ tape)) + unit_of i.action ≤ limit - main_units tape
  main_takes is left =
      subst (λ o. (limit - (if is_none o then main_units tape + unit_of i.action else main_units tape)) + unit_of i.action ≤ limit - main_units tape) (sym is) (omega (arith, left))

  pub main_keeps : (b : Body) → body tape ≡ Some b → limit - main_units (i ∷ tape) ≤ limit - main_units tape
  main_keeps b is = subst (λ o. limit - (if is_none o then main_units tape + unit_of i.action else main_units tape) ≤ limit - main_units tape) (sym is) (omega arith)

  pub task_takes : (b : Body) → is_of_calls i.action ≡ false → body tape ≡ Some b → unit_of i.action ≤ limit - b.units → (limit - used (body (i ∷ tape))) + unit_of i.action ≤ limit - used (body tape)
  task_takes b plain is left =
      let more = goes_on b i.action plain in
      subst (λ o. (limit - used (body_after o i.action)) + unit_of i.action ≤ limit - used o) (sym is) (omega (arith, left, more))
