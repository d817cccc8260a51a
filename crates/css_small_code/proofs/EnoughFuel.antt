-- In the flat world each turn and each entry takes a unit, so a fuel of one more than there are units is never spent.
use Rattle.std.proofs.Common.{◌≡◌, ℕ, zero, suc, ◌+◌, ◌<◌, ◌≤◌, ◌&&◌, Some, [], ◌∷◌, length, sym, subst, arith}
use Rattle.css_semantics.specs.Dialogue.{Action, Enter, Turn, Calls, Returns, item, Reply, Says, Fails, Refuses, World, Tape, Stops, Tired, then_do, ask}
use Rattle.css_semantics.specs.Worlds.{state_after}
use Rattle.css_semantics.specs.Units.{Metered, with_units, within, spending}
use Rattle.css_semantics.specs.Flat.{FlatState, reply_in, flat_after, flat}
use Rattle.css_semantics.specs.Tasks.{is_started}
use Rattle.css_small.specs.Tree.{Function, Program}
use Rattle.css_small.specs.Numbers.{IsNumbered, HasNumbers}
use Rattle.css_small_code.specs.Meaning.{Calling, applied, left, plain_call, task_call_of, task_body, called, calls, frame_of, source}
use Rattle.css_small_code.proofs.Places.{scope_of, item_at, holds_at}
use Rattle.css_small_code.proofs.Spending.{TakesUnit, Ends, Takes, ends_reply, takes_reply, ends_then, ends_if, Spends, CallsEnd, ends_applied, ends_left, ends_plain_call, ends_source, not_tired}

-- no action gives units
none_given : (m : Metered FlatState) (action : Action) → (spending flat_after m action).units ≤ m.units
none_given m (Enter size) = omega arith
none_given m Turn = omega arith
none_given m action = omega arith

-- where none is left, what takes one isn't replied to by a value
one_left : (units : ℕ) (reply : Reply) (value : ℕ) → within units reply ≡ Says value → 0 < units
one_left zero (Says v) value e = cc
one_left zero Fails value e = cc
one_left zero (Refuses rule) value e = cc
one_left (suc units) reply value e = omega arith

module _ (start : FlatState) (units : ℕ) where
  abbrev w : World
  w = flat start units

  -- the memory and the units behind a tape
  abbrev state : Tape → Metered FlatState
  state tape = state_after (spending flat_after) (with_units start units) tape

  abbrev units_at : Tape → ℕ
  units_at tape = (state tape).units

  -- every tape
  abbrev IsIn : Tape → Type 0
  IsIn tape = Unit {0}

  asks : (action : Action) (line : ℕ) (tape : Tape) → Ends IsIn units_at tape (ask w action line tape)
  asks action line tape = ends_reply IsIn units_at (w tape (item action line)) (item action line) tape (λ value e. (tt, none_given (state tape) action))

  takes : (action : Action) (line : ℕ) (tape : Tape) → TakesUnit action → Takes IsIn units_at tape (ask w action line tape)
  takes (Enter size) line tape h =
      let i = item (Enter size) line in
      takes_reply IsIn units_at (w tape i) i tape (λ value e. let left = one_left (units_at tape) (reply_in (state tape).state (Enter size)) value e in (tt, omega (arith, left)))
  takes Turn line tape h =
      let i = item Turn line in
      takes_reply IsIn units_at (w tape i) i tape (λ value e. let left = one_left (units_at tape) (Says 0) value e in (tt, omega (arith, left)))
  takes action line tape h = absurd h

  spends : Spends IsIn units_at w
  spends = record { asks = λ action line tape plain is. asks action line tape; takes = λ action line tape h is. takes action line tape h }

  module _ (p : Program) (numbers : HasNumbers p) where
    -- a function's body calls nothing
    calls_none : (fuel : ℕ) (call : Calling) → CallsEnd IsIn units_at w spends 0 fuel call
    calls_none fuel call f argument base line tape less = absurd (omega arith)

    task_ends : (call : Calling) (fuel : ℕ) (f : Function) → IsNumbered 0 f → (argument line reply : ℕ) (tape : Tape) → units_at tape ≤ fuel → Ends IsIn units_at tape (task_body w call fuel f argument line reply tape)
    task_ends call fuel f numbered argument line zero tape few = asks Returns line tape
    task_ends call fuel f numbered argument line (suc reply) tape few =
        let body = applied w call fuel f (argument ∷ []) line tape in
        ends_then IsIn units_at body _ tape (ends_applied IsIn units_at w spends call (scope_of 0 f) fuel (calls_none fuel call) f numbered.within (argument ∷ []) line tape tt few) (λ exit t is le.
        ends_then IsIn units_at (left w (frame_of f) exit t) (λ r t'. ask w Returns exit.line t') t (ends_left IsIn units_at w spends (frame_of f) exit t is) (λ r t' is le'. asks Returns exit.line t'))

    called_ends : (call : Calling) (fuel number : ℕ) (f : Function) → IsNumbered 0 f → (argument base line : ℕ) (tape : Tape) → units_at tape ≤ fuel → Ends IsIn units_at tape (called w call fuel number (Some f) argument base line tape)
    called_ends call fuel number f numbered argument base line tape few =
        let task = Calls (task_call_of number argument base) in
        let body = task_body w call fuel f argument line in
        ends_if IsIn units_at (f.is_task && is_started tape) (then_do (ask w task line tape) body) (plain_call w call fuel f argument line tape) tape
        (ends_then IsIn units_at (ask w task line tape) body tape (asks task line tape) (λ reply t is le. task_ends call fuel f numbered argument line reply t (omega (arith, few, le))))
        (ends_plain_call IsIn units_at w spends call (scope_of 0 f) fuel (calls_none fuel call) f numbered.within argument line tape tt few)

    calls_end : (fuel : ℕ) → CallsEnd IsIn units_at w spends (length p.functions) fuel (calls w p.functions fuel)
    calls_end zero f argument base line tape less is few = absurd (omega (arith, few))
    calls_end (suc fuel) f argument base line tape less is few =
        let g = item_at p.functions f less in
        let numbered = holds_at (λ f. (f.parameters ≡ 1) × IsNumbered 0 f) p.functions f g.0 numbers.functions g.1 in
        subst (λ o. Ends IsIn units_at tape (called w (calls w p.functions fuel) fuel f o argument base line tape)) (sym g.1)
        (called_ends (calls w p.functions fuel) fuel f g.0 numbered.1 argument base line tape (omega (arith, few)))

    pub never_tired : (tape : Tape) → source w (units + 1) p ≡ Stops Tired tape → ⊥
    never_tired tape e =
        not_tired IsIn units_at (source w (units + 1) p) [] tape (ends_source IsIn units_at w spends p (units + 1) numbers (calls_end (units + 1)) tt (omega arith)) e
