-- Under the rules main and each task take units of their own, so a fuel of more than both may take is never spent.
use Rattle.std.proofs.Common.{◌≡◌, ℕ, zero, suc, ◌+◌, ◌-◌, ◌<◌, ◌≤◌, Bool, true, false, cond, ◌&&◌, Option, Some, None, is_none, if◌then◌else◌, option_map, List, [], ◌∷◌, length, find, refl, sym, ap, ◌∙◌, subst, arith}
use Rattle.std.specs.List.{AllByRecursion}
use Rattle.std.proofs.lemmas.Bool.{leb-false}
use Rattle.css_base.specs.declared.limits.Limits.{Limits}
use Rattle.css_base.specs.declared.rule.Rule.{Rule}
use Rattle.css_semantics.specs.Dialogue.{Action, Enter, Turn, Calls, Returns, item, Reply, Says, Fails, Refuses, World, Tape, Outcome, Goes, Stops, Stopped, Tired, then_do, replied, ask}
use Rattle.css_semantics.specs.Memory.{Memory, memory_after}
use Rattle.css_semantics.specs.Flat.{FlatState, in_memory}
use Rattle.css_semantics.specs.Tasks.{Body, unit_of, body_behind, body_after, body, is_started, main_units}
use Rattle.css_semantics.specs.Rules.{wants_unit, Check, checks_of_main, checks_of_task, first_broken, hit, judged_reply}
use Rattle.css_semantics.specs.Verdict.{judged_in}
use Rattle.css_small.specs.Tree.{Function, Program}
use Rattle.css_small.specs.Numbers.{IsNumbered, HasNumbers}
use Rattle.css_small_code.specs.Meaning.{Calling, applied, left, plain_call, task_call_of, task_body, called, calls, frame_of, source}
use Rattle.css_small_code.proofs.Places.{scope_of, item_at, holds_at}
use Rattle.css_small_code.proofs.Spending.{IsNoMark, TakesUnit, Ends, ends_reply_from, ends_reply, takes_reply, ends_if, Spends, CallsEnd, ends_applied, ends_left, ends_plain_call, ends_source, not_tired}

-- ---- what is done breaks no rule

unbroken : (b : Bool) (c : Check) (o : Option Check) → option_map (λ (x : Check). x.rule) (cond b (Some c) o) ≡ None → (b ≡ false) × (option_map (λ (x : Check). x.rule) o ≡ None)
unbroken true c o h = cc
unbroken false c o h = (refl, h)

none_broken : (checks : List Check) → first_broken checks ≡ None → AllByRecursion (λ c. c.is_broken ≡ false) checks
none_broken [] h = tt
none_broken (c ∷ checks) h =
    let both = unbroken c.is_broken c (find (λ x. x.is_broken) checks) h in
    (both.0, none_broken checks both.1)

-- the rule on units isn't broken only where some are left
unit_left : (limit used : ℕ) (action : Action) → TakesUnit action → wants_unit limit used action ≡ false → used < limit
unit_left limit used (Enter size) takes h = leb-false limit used h
unit_left limit used Turn takes h = leb-false limit used h
unit_left limit used action takes h = absurd takes

one_unit : (action : Action) → TakesUnit action → unit_of action ≡ 1
one_unit (Enter size) takes = refl
one_unit Turn takes = refl
one_unit action takes = absurd takes

takes_plain : (action : Action) → TakesUnit action → IsNoMark action
takes_plain (Calls call) takes = takes
takes_plain Returns takes = takes
takes_plain action takes = tt

allowed : (broken : Option Rule) (reply : Reply) (value : ℕ) → judged_reply broken reply ≡ Says value → broken ≡ None
allowed None reply value e = refl
allowed (Some rule) reply value e = cc

-- ---- main, and a task

none_after : (action : Action) → IsNoMark action → body_after None action ≡ None
none_after (Calls call) plain = absurd plain
none_after action plain = refl

some_after : (b : Body) (action : Action) → IsNoMark action → body_after (Some b) action ≡ Some (body_behind b action)
some_after b (Calls call) plain = absurd plain
some_after b Returns plain = absurd plain
some_after b action plain = refl

-- the units that a task has taken, 0 where none runs
abbrev used : Option Body → ℕ
used None = 0
used (Some b) = b.units

-- main's units grow by its own actions only
counts : (action : Action) (line : ℕ) (tape : Tape) → body tape ≡ None → main_units (item action line ∷ tape) ≡ main_units tape + unit_of action
counts action line tape is = ap (λ b. if is_none b then main_units tape + unit_of action else main_units tape) is

counts_not : (b : Body) (action : Action) (line : ℕ) (tape : Tape) → body tape ≡ Some b → main_units (item action line ∷ tape) ≡ main_units tape
counts_not b action line tape is = ap (λ b. if is_none b then main_units tape + unit_of action else main_units tape) is

module _ (limits : Limits) (from : FlatState) where
  abbrev start : Memory
  start = from.memory

  abbrev w : World
  w = judged_in limits from

  -- main goes on, with so many units left
  abbrev IsMain : Tape → Type 0
  IsMain tape = body tape ≡ None

  abbrev main_left : Tape → ℕ
  main_left tape = limits.main_units - main_units tape

  -- a task runs, and main has taken so many units
  abbrev IsTask : ℕ → Tape → Type 0
  IsTask units tape = (b : Body) × (body tape ≡ Some b) × (main_units tape ≡ units)

  abbrev task_left : Tape → ℕ
  task_left tape = limits.task_units - used (body tape)

  hit_main : (tape : Tape) (action : Action) → body tape ≡ None → hit start limits tape action ≡ first_broken (checks_of_main (memory_after start tape) limits tape action)
  hit_main tape action is =
      ap (λ (o : Option Body). elim o [
        | None ↦ first_broken (checks_of_main (memory_after start tape) limits tape action)
        | Some b ↦ first_broken (checks_of_task limits b action)
      ]) is

  hit_task : (b : Body) (tape : Tape) (action : Action) → body tape ≡ Some b → hit start limits tape action ≡ first_broken (checks_of_task limits b action)
  hit_task b tape action is =
      ap (λ (o : Option Body). elim o [
        | None ↦ first_broken (checks_of_main (memory_after start tape) limits tape action)
        | Some b ↦ first_broken (checks_of_task limits b action)
      ]) is

  main_has : (action : Action) (line : ℕ) (tape : Tape) (value : ℕ) → TakesUnit action → IsMain tape → w tape (item action line) ≡ Says value → main_units tape < limits.main_units
  main_has action line tape value takes is e =
      let none = sym (hit_main tape action is) ∙ allowed (hit start limits tape action) (in_memory from tape (item action line)) value e in
      let all = none_broken (checks_of_main (memory_after start tape) limits tape action) none in
      unit_left limits.main_units (main_units tape) action takes all.1.1.1.1.1.1.1.1.1.0

  task_has : (b : Body) (action : Action) (line : ℕ) (tape : Tape) (value : ℕ) → TakesUnit action → body tape ≡ Some b → w tape (item action line) ≡ Says value → b.units < limits.task_units
  task_has b action line tape value takes is e =
      let none = sym (hit_task b tape action is) ∙ allowed (hit start limits tape action) (in_memory from tape (item action line)) value e in
      let all = none_broken (checks_of_task limits b action) none in
      unit_left limits.task_units b.units action takes all.1.1.1.1.1.0

  main_stays : (action : Action) (line : ℕ) (tape : Tape) → IsNoMark action → IsMain tape → IsMain (item action line ∷ tape)
  main_stays action line tape plain is = ap (λ b. body_after b action) is ∙ none_after action plain

  task_stays : (units : ℕ) (action : Action) (line : ℕ) (tape : Tape) → IsNoMark action → IsTask units tape → IsTask units (item action line ∷ tape)
  task_stays units action line tape plain is =
      (body_behind is.0 action, ap (λ b. body_after b action) is.1 ∙ some_after is.0 action plain, counts_not is.0 action line tape is.1 ∙ is.2)

  -- a task's units grow by its actions
  task_counts : (units : ℕ) (action : Action) (line : ℕ) (tape : Tape) → IsNoMark action → (is : IsTask units tape) → used (body (item action line ∷ tape)) ≡ is.0.units + unit_of action
  task_counts units action line tape plain is = ap used (ap (λ b. body_after b action) is.1 ∙ some_after is.0 action plain)

  main_spends : Spends IsMain main_left w
  main_spends = record {
    asks = λ action line tape plain is.
        ends_reply IsMain main_left (w tape (item action line)) (item action line) tape
        (λ value e. (main_stays action line tape plain is, omega (arith, counts action line tape is)));
    takes = λ action line tape takes is.
        takes_reply IsMain main_left (w tape (item action line)) (item action line) tape
        (λ value e. (main_stays action line tape (takes_plain action takes) is, omega (arith, counts action line tape is, one_unit action takes, main_has action line tape value takes is e)));
  }

  task_spends : (units : ℕ) → Spends (IsTask units) task_left w
  task_spends units = record {
    asks = λ action line tape plain is.
        ends_reply (IsTask units) task_left (w tape (item action line)) (item action line) tape
        (λ value e. (task_stays units action line tape plain is, omega (arith, task_counts units action line tape plain is, ap used is.1)));
    takes = λ action line tape takes is.
        let plain = takes_plain action takes in
        takes_reply (IsTask units) task_left (w tape (item action line)) (item action line) tape
        (λ value e. (task_stays units action line tape plain is, omega (arith, task_counts units action line tape plain is, ap used is.1, one_unit action takes, task_has is.0 action line tape value takes is.1 e)));
  }

  -- ---- calls of tasks

  -- behind a task's part main goes on
  main_behind : {A B : Type 0} (units : ℕ) (o : Outcome A) (go : A → Tape → Outcome B) (mid tape : Tape) → Ends (IsTask units) task_left mid o → ((a : A) (t : Tape) → IsTask units t → Ends IsMain main_left tape (go a t)) → Ends IsMain main_left tape (then_do o go)
  main_behind units (Goes a t) go mid tape h next = next a t h.0
  main_behind units (Stops (Stopped stop line) t) go mid tape h next = tt
  main_behind units (Stops Tired t) go mid tape h next = absurd h

  returns_to : (line : ℕ) (tape mid : Tape) → IsTask (main_units tape) mid → Ends IsMain main_left tape (ask w Returns line mid)
  returns_to line tape mid is =
      ends_reply_from IsMain main_left (w mid (item Returns line)) (item Returns line) mid tape (λ value e. (refl, omega (arith, counts_not is.0 Returns line mid is.1, is.2)))

  -- a function's body calls nothing
  task_calls_none : (units fuel : ℕ) (call : Calling) → CallsEnd (IsTask units) task_left w (task_spends units) 0 fuel call
  task_calls_none units fuel call f argument base line tape less = absurd (omega arith)

  main_calls_none : (fuel : ℕ) (call : Calling) → CallsEnd IsMain main_left w main_spends 0 fuel call
  main_calls_none fuel call f argument base line tape less = absurd (omega arith)

  task_ends : (call : Calling) (fuel : ℕ) (f : Function) → IsNumbered 0 f → limits.task_units ≤ fuel → (argument line reply : ℕ) (tape mid : Tape) → IsTask (main_units tape) mid → Ends IsMain main_left tape (task_body w call fuel f argument line reply mid)
  task_ends call fuel f numbered enough argument line zero tape mid is = returns_to line tape mid is
  task_ends call fuel f numbered enough argument line (suc reply) tape mid is =
      let units = main_units tape in
      let spends = task_spends units in
      let run = applied w call fuel f (argument ∷ []) line mid in
      main_behind units run _ mid tape (ends_applied (IsTask units) task_left w spends call (scope_of 0 f) fuel (task_calls_none units fuel call) f numbered.within (argument ∷ []) line mid is (omega (arith, enough))) (λ exit t is.
      main_behind units (left w (frame_of f) exit t) (λ r t'. ask w Returns exit.line t') t tape (ends_left (IsTask units) task_left w spends (frame_of f) exit t is) (λ r t' is. returns_to exit.line tape t' is))

  call_ends : (call : Calling) (fuel number : ℕ) (f : Function) → IsNumbered 0 f → limits.task_units ≤ fuel → (argument base line : ℕ) (tape : Tape) → IsMain tape → (reply : Reply) →
      Ends IsMain main_left tape (then_do (replied reply (item (Calls (task_call_of number argument base)) line) tape) (task_body w call fuel f argument line))
  call_ends call fuel number f numbered enough argument base line tape is (Says reply) =
      let task = Calls (task_call_of number argument base) in
      task_ends call fuel f numbered enough argument line reply tape (item task line ∷ tape) (_, refl, counts task line tape is ∙ omega arith)
  call_ends call fuel number f numbered enough argument base line tape is Fails = tt
  call_ends call fuel number f numbered enough argument base line tape is (Refuses rule) = tt

  called_ends : (call : Calling) (fuel number : ℕ) (f : Function) → IsNumbered 0 f → limits.task_units ≤ fuel → (argument base line : ℕ) (tape : Tape) → IsMain tape → main_left tape ≤ fuel → Ends IsMain main_left tape (called w call fuel number (Some f) argument base line tape)
  called_ends call fuel number f numbered enough argument base line tape is few =
      let task = Calls (task_call_of number argument base) in
      ends_if IsMain main_left (f.is_task && is_started tape) (then_do (ask w task line tape) (task_body w call fuel f argument line)) (plain_call w call fuel f argument line tape) tape
      (call_ends call fuel number f numbered enough argument base line tape is (w tape (item task line)))
      (ends_plain_call IsMain main_left w main_spends call (scope_of 0 f) fuel (main_calls_none fuel call) f numbered.within argument line tape is few)

  module _ (p : Program) (numbers : HasNumbers p) where
    calls_end : (fuel : ℕ) → limits.task_units < fuel → CallsEnd IsMain main_left w main_spends (length p.functions) fuel (calls w p.functions fuel)
    calls_end zero enough f argument base line tape less is few = absurd (omega (arith, enough))
    calls_end (suc fuel) enough f argument base line tape less is few =
        let g = item_at p.functions f less in
        let numbered = holds_at (λ f. (f.parameters ≡ 1) × IsNumbered 0 f) p.functions f g.0 numbers.functions g.1 in
        subst (λ o. Ends IsMain main_left tape (called w (calls w p.functions fuel) fuel f o argument base line tape)) (sym g.1)
        (called_ends (calls w p.functions fuel) fuel f g.0 numbered.1 (omega (arith, enough)) argument base line tape is (omega (arith, few)))

    pub judged_never_tired : (tape : Tape) → source w (limits.main_units + limits.task_units + 2) p ≡ Stops Tired tape → ⊥
    judged_never_tired tape e =
        let fuel = limits.main_units + limits.task_units + 2 in
        not_tired IsMain main_left (source w fuel p) [] tape (ends_source IsMain main_left w main_spends p fuel numbers (calls_end fuel (omega arith)) refl (omega arith)) e
