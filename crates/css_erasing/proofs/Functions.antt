-- Functions and calls are kept; a task's call is a plain one where directives are erased.
use Rattle.std.proofs.Common.{◌≡◌, ℕ, zero, suc, Bool, true, false, ◌&&◌, Option, Some, None, if◌then◌else◌, option_map, List, [], ◌∷◌, map, refl, sym, ap}
use Rattle.std.specs.Prelude.{slice_get}
use Rattle.std.proofs.lemmas.Option.{slice_get-map}
use Rattle.css_base.specs.declared.limits.Limits.{Limits}
use Rattle.css_semantics.specs.Dialogue.{Enter, Leave, Calls, Returns, Item, item, Says, Fails, World, Tape, Goes, then_do, replied, ask}
use Rattle.css_semantics.specs.Worlds.{state_after}
use Rattle.css_semantics.specs.Flat.{FlatState, is_innermost, flat_after}
use Rattle.css_semantics.specs.Units.{with_units, spending}
use Rattle.css_semantics.specs.Tasks.{is_started}
use Rattle.css_small.specs.Tree.{Function}
use Rattle.css_small_code.specs.Meaning.{Calling, Exit, exit_by, applied, left, plain_call, task_call_of, task_body, called, calls, frame_of}
use Rattle.css_small_code.proofs.Grows.{grows_task_body}
use Rattle.css_erasing.specs.Unmarked.{unmarked_function}
use Rattle.css_erasing.proofs.Kept.{Kept, kept_then, kept_goes, kept_tired, kept_either, kept_as, kept_from}
use Rattle.css_semantics.proofs.Tapes.{then_goes}
use Rattle.css_erasing.proofs.Asked.{w, w', kept_ask, kept_told}
use Rattle.css_erasing.proofs.Expressions.{kept_stores}
use Rattle.css_erasing.proofs.Statements.{AreKept, kept_meanings}

-- a leaving has no value but 0
left_with : (b : Bool) (i : Item) (t : Tape) → then_do (replied (if b then Says 0 else Fails) i t) (λ r. Goes 0) ≡ replied (if b then Says 0 else Fails) i t
left_with true i t = refl
left_with false i t = refl

module _ (limits : Limits) (start : FlatState) (n : ℕ) where
  abbrev judged : World
  judged = w limits start n

  abbrev erased : World
  erased = w' limits start n

  pub kept_left : (frame : ℕ) (exit : Exit) → Kept n (left judged frame exit) (left erased frame exit)
  kept_left frame exit = kept_ask limits start n (Leave exit.base frame) refl exit.line

  left_by : (frame : ℕ) (exit : Exit) (t : Tape) → then_do (left erased frame exit t) (λ r. Goes 0) ≡ left erased frame exit t
  left_by frame exit t = left_with (is_innermost (state_after (spending flat_after) (with_units start n) t).state.memory exit.base frame) (item (Leave exit.base frame) exit.line) t

  -- a task's return is left out
  kept_return : (line : ℕ) → Kept n (ask judged Returns line) (Goes 0)
  kept_return line = kept_from n (ask judged Returns line) (kept_told limits start n Returns refl 0 (λ m. refl) line (λ r t. ([], refl)) (kept_goes n 0)) (λ t. then_goes (ask judged Returns line t))

  kept_returns : (frame : ℕ) (exit : Exit) → Kept n (λ t. then_do (left judged frame exit t) (λ r. ask judged Returns exit.line)) (left erased frame exit)
  kept_returns frame exit = kept_as n (left erased frame exit) (kept_then n (kept_left frame exit) (λ r. kept_return exit.line)) (left_by frame exit)

  module _ (call call' : Calling) (kept_call : AreKept n call call') (fuel : ℕ) where
    pub kept_applied : (f : Function) (arguments : List ℕ) (line : ℕ) → Kept n (applied judged call fuel f arguments line) (applied erased call' fuel (unmarked_function f) arguments line)
    kept_applied f arguments line =
        kept_then n (kept_ask limits start n (Enter (frame_of f)) refl line) (λ base.
        kept_then n (kept_stores limits start n base 0 arguments line) (λ r.
        kept_then n (kept_meanings limits start n call call' kept_call base fuel f.body) (λ flow. kept_goes n (exit_by base f.end flow))))

    kept_plain_call : (f : Function) (argument line : ℕ) → Kept n (plain_call judged call fuel f argument line) (plain_call erased call' fuel (unmarked_function f) argument line)
    kept_plain_call f argument line = kept_then n (kept_applied f (argument ∷ []) line) (kept_left (frame_of f))

    -- a task's body that is run
    kept_body : (f : Function) (argument line : ℕ) → Kept n (task_body judged call fuel f argument line 1) (plain_call erased call' fuel (unmarked_function f) argument line)
    kept_body f argument line = kept_then n (kept_applied f (argument ∷ []) line) (kept_returns (frame_of f))

    kept_task_call : (f : Function) (number argument base line : ℕ) →
        Kept n (λ t. then_do (ask judged (Calls (task_call_of number argument base)) line t) (task_body judged call fuel f argument line)) (plain_call erased call' fuel (unmarked_function f) argument line)
    kept_task_call f number argument base line =
        kept_told limits start n (Calls (task_call_of number argument base)) refl 1 (λ m. refl) line
        (grows_task_body judged call (λ f argument base line. (kept_call f argument base line).grows) fuel f argument line) (kept_body f argument line)

    kept_called : (number : ℕ) (f : Option Function) (argument base line : ℕ) → Kept n (called judged call fuel number f argument base line) (called erased call' fuel number (option_map unmarked_function f) argument base line)
    kept_called number None argument base line = kept_tired n
    kept_called number (Some f) argument base line =
        kept_either n (λ t. f.is_task && is_started t) (kept_task_call f number argument base line) (kept_plain_call f argument line)

  pub kept_calls : (functions : List Function) (fuel : ℕ) → AreKept n (calls judged functions fuel) (calls erased (map unmarked_function functions) fuel)
  kept_calls functions zero f argument base line = kept_tired n
  kept_calls functions (suc fuel) f argument base line =
      let call' = calls erased (map unmarked_function functions) fuel in
      kept_as n (calls erased (map unmarked_function functions) (suc fuel) f argument base line)
      (kept_called (calls judged functions fuel) call' (kept_calls functions fuel) fuel f (slice_get functions f) argument base line)
      (λ t. ap (λ o. called erased call' fuel f o argument base line t) (sym (slice_get-map unmarked_function functions f)))
