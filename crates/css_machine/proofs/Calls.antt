-- Calls, returns, and the entry of the first function.
use Rattle.std.proofs.Common.{◌≡◌, ℕ, ◌+◌, ◌<◌, ◌≤◌, true, false, List, [], ◌∷◌, length, take, drop, reverse, Some, slice_get, nat_le, refl, sym, ap, ◌∙◌, arith, le-leb, inl, inr}
use Rattle.css_base.specs.declared.ending.Stop.{Stop}
use Rattle.css_semantics.specs.Dialogue.{Action, Leave, Reply, Says, Tape, Outcome, Goes, Plain, then_do, ask_in}
use Rattle.css_semantics.specs.Units.{with_units, metered, spending}
use Rattle.css_isa.specs.declared.code.Op.TheVariants as ops
use Rattle.css_isa.specs.Code.{Routine, Code}
use Rattle.css_isa.specs.Spaces.{IsRefusal, IsStackPlace}
use Rattle.css_isa.specs.Steps.{Activation, Caller, State, Begin, At, Enters as Entering, Leaves as Leaving, Halts, Finished, started, inside, waiting, calling, returning, on_function, entered, step_of}
use Rattle.css_isa.specs.Machine.{exec, frame_of}
use Rattle.css_isa.specs.Soundness.{Fits}
use Rattle.css_machine.specs.declared.event.Event.TheVariants as events
use Rattle.css_machine.specs.declared.event.Mode.TheVariants as modes
use Rattle.css_machine.specs.declared.rounds.Round.TheVariants as rounds
use Rattle.css_machine.specs.Events.{mode_of, stops_in, IsStacked, Does}
use Rattle.css_machine.specs.States.{function_of, stack_of, depth, dropped, with_callee, returned}
use Rattle.css_machine.specs.Steps.{IsBefore, ComesOn, Enters, StopsEntering, Comes, ComesRound}
use Rattle.css_machine.proofs.Requests.{stops_then, along_map, along_none, along_says, along_refused}
use Rattle.css_machine.proofs.Inside.{one_more, none_more, leads_at}
use Rattle.css_machine.proofs.Made.{step_here, finds_before}

-- what a return gives
abbrev gives_none : ℕ → Tape → Outcome ℕ
gives_none r t = Goes 0 t

module _ {S : Type 0} (reply : S → Action → Reply) (learn : S → Action → S) (place : S → ℕ) (code : Code) (line : ℕ) where
  -- ---- entries

  -- a step that enters a function
  enters_on : (s : State) (k : ℕ) (g : Routine) (arguments : List ℕ) (callers : List Caller) → step_of code s ≡ Entering k g false arguments line callers → (space : S) (units base : ℕ) (space' : S) (units' : ℕ)
      → Enters (metered reply) (spending learn) g arguments (with_units space units) base (with_units space' units') → units' < units → place space' ≡ base
      → IsStacked code (place space') (inside k false callers base) → ComesRound reply learn place code s space units rounds.Enters (inside k false callers base) space' units'
  enters_on s k g arguments callers is space units base space' units' enters fewer under stacked =
      let st = Entering k g false arguments line callers in
      let new = inside k false callers base in (
        record {
          steps = 1;
          goes = along_map (metered reply) (spending learn) (λ w tape later. entered w g arguments line tape ≡ Goes base later) (ComesOn code s 1 new)
              (λ w tape later e n. one_more code s w n tape st is ∙ ap (λ o. then_do o (λ base t. exec w code n (inside k false callers base) t)) e)
              (enters line);
          falls = λ plans steps sound here.
              let on = leads_at code plans s steps st sound here is base in
              (on.0, on.1, inl fewer);
        },
        stacked,
        fewer,
      )

  enters_stop : (s : State) (k : ℕ) (g : Routine) (arguments : List ℕ) (callers : List Caller) → step_of code s ≡ Entering k g false arguments line callers → (space : S) (units : ℕ) (stop : Stop) (new : State) (space' : S) (units' : ℕ)
      → StopsEntering (metered reply) (spending learn) g arguments (with_units space units) stop → Comes reply learn place code s space units (events.Stopped stop modes.Plain line) new space' units'
  enters_stop s k g arguments callers is space units stop new space' units' stops =
      let st = Entering k g false arguments line callers in
      let stopped = stops line in (
        record {
          end = stopped.0;
          is_left = tt;
          does = along_map (metered reply) (spending learn) (λ w tape later. entered w g arguments line tape ≡ stops_in w Plain stop line later)
              (λ w tape later. Does w code s (events.Stopped stop modes.Plain line) new tape later)
              (λ w tape later e. (
                0,
                λ n.
                    none_more code s w n tape st is ∙ ap (λ o. then_do o (λ base t. exec w code n (inside k false callers base) t)) e
                    ∙ stops_then w Plain stop line later (λ base t. exec w code n (inside k false callers base) t),
              ))
              stopped.1;
        },
        tt,
      )

  -- ---- calls

  call_step : (a : Activation) (callers : List Caller) (at k arity : ℕ) (g : Routine) (stack : List ℕ) → slice_get code.functions k ≡ Some g → arity ≡ length g.parameters → arity ≤ length stack
      → calling code a callers line at k stack ≡ Entering k g false (reverse (take arity stack)) line (waiting code a callers line at (drop arity stack) ∷ callers)
  call_step a callers at k arity g stack there count enough =
      let enough' : length g.parameters ≤ length stack = omega arith in
      let le : nat_le (length g.parameters) (length stack) ≡ true = le-leb _ _ enough' in
      rw (there, le, ← count) refl

  pub round_call : (s : State) (space : S) (units k arity base : ℕ) (g : Routine) (space' : S) (units' : ℕ) → IsBefore code (ops.Call k) line s → IsStacked code (place space) s → slice_get code.functions k ≡ Some g → arity ≡ length g.parameters → arity ≤ length (stack_of s)
      → Enters (metered reply) (spending learn) g (reverse (take arity (stack_of s))) (with_units space units) base (with_units space' units') → units' < units → place space' ≡ base → base + g.frame ≡ place space
      → ComesRound reply learn place code s space units rounds.Enters (with_callee k base (dropped arity s)) space' units'
  round_call (Begin function arguments at) space units k arity base g space' units' before stacked there count enough enters fewer under above = absurd before
  round_call (At a callers at stack) space units k arity base g space' units' before stacked there count enough enters fewer under above =
      enters_on (At a callers at stack) k g (reverse (take arity stack)) (waiting code a callers line at (drop arity stack) ∷ callers)
      (step_here code before.0 a callers at line (ops.Call k) stack before.1 before.2 ∙ call_step a callers at k arity g stack there count enough)
      space units base space' units' enters fewer under
      (sym under, (stacked.0 ∙ sym above ∙ ap (λ o. base + frame_of o) (sym there), stacked.1))

  pub call_stops : (s : State) (space : S) (units k arity : ℕ) (g : Routine) (stop : Stop) (new : State) (space' : S) (units' : ℕ) → IsBefore code (ops.Call k) line s → slice_get code.functions k ≡ Some g → arity ≡ length g.parameters → arity ≤ length (stack_of s)
      → StopsEntering (metered reply) (spending learn) g (reverse (take arity (stack_of s))) (with_units space units) stop → Comes reply learn place code s space units (events.Stopped stop modes.Plain line) new space' units'
  call_stops (Begin function arguments at) space units k arity g stop new space' units' before there count enough stops = absurd before
  call_stops (At a callers at stack) space units k arity g stop new space' units' before there count enough stops =
      enters_stop (At a callers at stack) k g (reverse (take arity stack)) (waiting code a callers line at (drop arity stack) ∷ callers)
      (step_here code before.0 a callers at line (ops.Call k) stack before.1 before.2 ∙ call_step a callers at k arity g stack there count enough)
      space units stop new space' units' stops

  -- ---- returns

  -- the first function returns
  pub comes_end : (s : State) (space : S) (units cell : ℕ) (rest : List ℕ) → IsBefore code ops.Ret line s → IsStacked code (place space) s → depth s ≡ 0 → stack_of s ≡ cell ∷ rest → Comes reply learn place code s space units (events.Ended cell line) s space units
  comes_end (Begin function arguments at) space units cell rest before stacked none top = absurd before
  comes_end (At a (c ∷ callers) at stack) space units cell rest before stacked none top = absurd (omega arith)
  comes_end (At a [] at stack) space units cell rest before stacked none top =
      let s = At a [] at (cell ∷ rest) in
      let st = Halts (Finished cell a.base line) in
      let is : step_of code s ≡ st = step_here code before.0 a [] at line ops.Ret (cell ∷ rest) before.1 before.2 ∙ ap (λ o. on_function o (λ f. returning code a [] line at [] f cell)) before.1 in
      rw top (
        record {
          end = with_units space units;
          is_left = refl;
          does = along_none (metered reply) (spending learn) (with_units space units) (λ w tape later. Does w code s (events.Ended cell line) s tape later) (λ w tape. (0, λ n. none_more code s w n tape st is));
        },
        (tt, stacked),
      )

  return_step : (a : Activation) (c : Caller) (callers : List Caller) (at cell : ℕ) (rest : List ℕ) (g : Routine) → IsBefore code ops.Ret line (At a (c ∷ callers) at (cell ∷ rest)) → slice_get code.functions a.function ≡ Some g
      → step_of code (At a (c ∷ callers) at (cell ∷ rest)) ≡ Leaving a.base g.frame false line (At c.activation callers c.place (cell ∷ c.stack))
  return_step a c callers at cell rest g before is =
      step_here code before.0 a (c ∷ callers) at line ops.Ret (cell ∷ rest) before.1 before.2
      ∙ ap (λ o. on_function o (λ f. returning code a (c ∷ callers) line at (c ∷ callers) f cell)) is
      ∙ rw before.3 refl

  module _ (moves : IsStackPlace reply learn place) where
    pub round_return : (s : State) (space : S) (units cell : ℕ) (rest : List ℕ) (g : Routine) (r : ℕ) → IsBefore code ops.Ret line s → IsStacked code (place space) s → (depth s ≡ 0 → ⊥) → stack_of s ≡ cell ∷ rest → slice_get code.functions (function_of s) ≡ Some g
        → reply space (Leave (place space) g.frame) ≡ Says r → ComesRound reply learn place code s space units rounds.Returns (returned cell s) (learn space (Leave (place space) g.frame)) units
    round_return (Begin function arguments at) space units cell rest g r before stacked some top is says = absurd before
    round_return (At a [] at stack) space units cell rest g r before stacked some top is says = absurd (some refl)
    round_return (At a (c ∷ callers) at stack) space units cell rest g r before stacked some top is says =
        let s = At a (c ∷ callers) at (cell ∷ rest) in
        let new = At c.activation callers c.place (cell ∷ c.stack) in
        let st = Leaving (place space) g.frame false line new in
        let before' : IsBefore code ops.Ret line s = before in
        let step : step_of code s ≡ st = return_step a c callers at cell rest g before' is ∙ ap (λ base. Leaving base g.frame false line new) stacked.0 in
        rw top (
          record {
            steps = 1;
            goes = along_map (metered reply) (spending learn) (λ w tape later. ask_in w Plain (Leave (place space) g.frame) line tape ≡ Goes r later) (ComesOn code s 1 new)
                (λ w tape later said n. one_more code s w n tape st step ∙ ap (λ o. then_do (then_do o gives_none) (λ r t. exec w code n new t)) said)
                (along_says (metered reply) (spending learn) (with_units space units) Plain (Leave (place space) g.frame) line refl r says);
            falls = λ plans steps sound here.
                let near = leads_at code plans s steps st sound here step in
                (near.0, near.2, inr (refl, omega (arith, near.1)));
          },
          (stacked.1.0 ∙ ap (λ o. a.base + frame_of o) is ∙ ap (λ n. n + g.frame) stacked.0 ∙ sym (moves.leaves space g.frame r says), stacked.1.1),
          omega arith,
          omega arith,
        )

  pub return_stops : (s : State) (space : S) (units cell : ℕ) (rest : List ℕ) (g : Routine) (stop : Stop) (new : State) (space' : S) (units' : ℕ) → IsBefore code ops.Ret line s → IsStacked code (place space) s → (depth s ≡ 0 → ⊥) → stack_of s ≡ cell ∷ rest → slice_get code.functions (function_of s) ≡ Some g
      → IsRefusal (reply space (Leave (place space) g.frame)) stop → Comes reply learn place code s space units (events.Stopped stop modes.Plain line) new space' units'
  return_stops (Begin function arguments at) space units cell rest g stop new space' units' before stacked some top is refusal = absurd before
  return_stops (At a [] at stack) space units cell rest g stop new space' units' before stacked some top is refusal = absurd (some refl)
  return_stops (At a (c ∷ callers) at stack) space units cell rest g stop new space' units' before stacked some top is refusal =
      let s = At a (c ∷ callers) at (cell ∷ rest) in
      let there = At c.activation callers c.place (cell ∷ c.stack) in
      let st = Leaving (place space) g.frame false line there in
      let step : step_of code s ≡ st = return_step a c callers at cell rest g before is ∙ ap (λ base. Leaving base g.frame false line there) stacked.0 in
      let refused = along_refused (metered reply) (spending learn) (with_units space units) Plain (Leave (place space) g.frame) line refl stop refusal in
      rw top (
        record {
          end = refused.0;
          is_left = tt;
          does = along_map (metered reply) (spending learn) (λ w tape later. ask_in w Plain (Leave (place space) g.frame) line tape ≡ stops_in w Plain stop line later)
              (λ w tape later. Does w code s (events.Stopped stop modes.Plain line) new tape later)
              (λ w tape later stopped. (
                0,
                λ n.
                    none_more code s w n tape st step
                    ∙ ap (λ o. then_do (then_do o gives_none) (λ r t. exec w code n there t)) stopped
                    ∙ ap (λ o. then_do o (λ r t. exec w code n there t)) (stops_then w Plain stop line later gives_none)
                    ∙ stops_then w Plain stop line later (λ r t. exec w code n there t),
              ))
              refused.1;
        },
        tt,
      )

  -- ---- the entry of the first function

  begin_step : (k : ℕ) (arguments : List ℕ) (g : Routine) → slice_get code.functions k ≡ Some g → step_of code (Begin k arguments line) ≡ Entering k g false arguments line []
  begin_step k arguments g there = ap (λ o. on_function o (λ f. Entering k f false arguments line [])) there

  pub round_begin : (k : ℕ) (arguments : List ℕ) (space : S) (units base : ℕ) (g : Routine) (space' : S) (units' : ℕ) → slice_get code.functions k ≡ Some g → Enters (metered reply) (spending learn) g arguments (with_units space units) base (with_units space' units') → units' < units
      → place space' ≡ base → ComesRound reply learn place code (Begin k arguments line) space units rounds.Enters (At (started k base false) [] 0 []) space' units'
  round_begin k arguments space units base g space' units' there enters fewer under =
      enters_on (Begin k arguments line) k g arguments [] (begin_step k arguments g there) space units base space' units' enters fewer under (sym under, tt)

  pub begin_stops : (k : ℕ) (arguments : List ℕ) (space : S) (units : ℕ) (g : Routine) (stop : Stop) (new : State) (space' : S) (units' : ℕ) → slice_get code.functions k ≡ Some g → StopsEntering (metered reply) (spending learn) g arguments (with_units space units) stop
      → Comes reply learn place code (Begin k arguments line) space units (events.Stopped stop modes.Plain line) new space' units'
  begin_stops k arguments space units g stop new space' units' there stops =
      enters_stop (Begin k arguments line) k g arguments [] (begin_step k arguments g there) space units stop new space' units' stops

-- a call stands in plain mode
pub plain_before : (code : Code) (k line : ℕ) (s : State) → Fits code s → IsBefore code (ops.Call k) line s → mode_of s ≡ Plain
plain_before code k line s fits before = (finds_before code (ops.Call k) line s fits before).2
