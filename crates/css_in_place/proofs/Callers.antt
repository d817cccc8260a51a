-- A machine whose caller waits for a task's body has the dialogue of the body, and then goes on at the caller.
use Rattle.std.proofs.Common.{◌≡◌, ℕ, zero, suc, ◌+◌, ◌%◌, ◌^◌, Bool, true, false, List, [], ◌∷◌, length, take, drop, reverse, Option, Some, None, slice_get, nat_eq, nat_le, refl, sym, ap, ◌∙◌, arith, bit_and, bit_or, bit_xor, if◌then◌else◌}
use Rattle.css_semantics.specs.Dialogue.{Leave, Load, Store, Out, Calls, Returns, Turn, Start, Finish, Barrier, Tape, World, Outcome, Goes, Stops, then_do, ask}
use Rattle.css_semantics.specs.Memory.{big_endian_bytes}
use Rattle.css_semantics.specs.Tasks.{is_started}
use Rattle.css_vm.specs.declared.code.Instr.{Instr}
use Rattle.css_vm.specs.declared.code.Op.{Op}
use Rattle.css_vm.specs.declared.code.Op.TheVariants as ops
use Rattle.css_vm.specs.declared.code.Narrow.TheVariants as narrows
use Rattle.css_vm.specs.declared.code.MarkKind.TheVariants as marks
use Rattle.css_vm.specs.declared.code.Conversion.TheVariants as conversions
use Rattle.css_vm.specs.Code.{Routine, Shape, Code, all_dimensions, call_of}
use Rattle.css_vm.specs.Cells.{cell_of, truth, sum_of, difference_of, product_of, negative_of, complement_of, quotient_of, remainder_of, shifted_left, shifted_right, are_equal, differ, is_below, narrowed}
use Rattle.css_vm.specs.Machine.{Activation, Caller, State, Begin, At, Halt, Finished, Stuck, After, Ended, On, on_one, on_two, on_cell, on_many, on_function, on_task, task_returned, entered, next, one, two, division, calling, called, returning, effect, at_instr, beginning, step, go_on, exec, frame_of, body_ends}
use Rattle.css_in_place.specs.Waits.{ComesBack, WaitsFor}
use Rattle.css_vm.specs.Events.{behind_call}

-- the first function was called as a task
abbrev as_task : List Caller → Activation → Activation
as_task [] a = record { function = a.function; base = a.base; is_task = true }
as_task (c ∷ callers) a = a

-- callers, with further ones below
abbrev above : List Caller → List Caller → List Caller
above [] others = others
above (c ∷ callers) others = record { activation = as_task callers c.activation; place = c.place; stack = c.stack } ∷ above callers others

base_kept : (callers : List Caller) (a : Activation) → (as_task callers a).base ≡ a.base
base_kept [] a = refl
base_kept (c ∷ callers) a = refl

function_kept : (callers : List Caller) (a : Activation) → (as_task callers a).function ≡ a.function
function_kept [] a = refl
function_kept (c ∷ callers) a = refl

module _ (w : World) (code : Code) (c : Caller) (others : List Caller) (k : ℕ) where
  abbrev below : List Caller
  below = c ∷ others

  abbrev lifted_state : State → State
  lifted_state (Begin function arguments line) = Begin function arguments line
  lifted_state (At a callers place stack) = At (as_task callers a) (above callers below) place stack

  -- the return of the first function, which is a task's
  abbrev comes_back : (base line : ℕ) → Tape → Outcome After
  comes_back base line tape =
      then_do (ask w (Leave base (frame_of (slice_get code.functions k))) line tape) (λ r t.
      then_do (ask w Returns line t) (λ r' t'. Goes (On (At c.activation others c.place (0 ∷ c.stack))) t'))

  abbrev lifted_after : After → Tape → Outcome After
  lifted_after (Ended (Finished cell base line)) tape = comes_back base line tape
  lifted_after (Ended Stuck) tape = Goes (Ended Stuck) tape
  lifted_after (On s) tape = Goes (On (lifted_state s)) tape

  abbrev lifted : Outcome After → Outcome After
  lifted o = then_do o lifted_after

  -- the outermost function that runs is the first one
  abbrev IsFirst : Activation → List Caller → Type 0
  IsFirst a [] = a.function ≡ k
  IsFirst a (d ∷ callers) = IsFirst d.activation callers

  abbrev StaysFirst : Outcome After → Type 0
  StaysFirst (Goes (On (At a callers place stack)) t) = IsFirst a callers
  StaysFirst (Goes (On (Begin function arguments line)) t) = ⊥
  StaysFirst _ = Unit {0}

  -- a step with the callers is the step without them
  record Lifts (o o' : Outcome After) : Type 0 where
    is : o ≡ lifted o'
    first : StaysFirst o'

  module _ (a : Activation) (callers : List Caller) (line place : ℕ) (is_first : IsFirst a callers) where
    abbrev a' : Activation
    a' = as_task callers a

    abbrev all : List Caller
    all = above callers below

    next_lifts : (stack : List ℕ) (t : Tape) → Lifts (next w code a' all line place stack t) (next w code a callers line place stack t)
    next_lifts stack t = record { is = refl; first = is_first }

    jump_lifts : (to : ℕ) (stack : List ℕ) (t : Tape) → Lifts (Goes (On (At a' all to stack)) t) (Goes (On (At a callers to stack)) t)
    jump_lifts to stack t = record { is = refl; first = is_first }

    stuck_lifts : (t : Tape) → Lifts (Goes (Ended Stuck) t) (Goes (Ended Stuck) t)
    stuck_lifts t = record { is = refl; first = tt }

    with_one : (stack : List ℕ) (t : Tape) (go go' : ℕ → List ℕ → Outcome After) → ((x : ℕ) (rest : List ℕ) → Lifts (go x rest) (go' x rest)) → Lifts (on_one stack t go) (on_one stack t go')
    with_one [] t go go' each = stuck_lifts t
    with_one (x ∷ rest) t go go' each = each x rest

    with_two : (stack : List ℕ) (t : Tape) (go go' : ℕ → ℕ → List ℕ → Outcome After) → ((x y : ℕ) (rest : List ℕ) → Lifts (go x y rest) (go' x y rest)) → Lifts (on_two stack t go) (on_two stack t go')
    with_two [] t go go' each = stuck_lifts t
    with_two (y ∷ []) t go go' each = stuck_lifts t
    with_two (y ∷ x ∷ rest) t go go' each = each x y rest

    with_cell : (o : Option ℕ) (t : Tape) (go go' : ℕ → Outcome After) → ((x : ℕ) → Lifts (go x) (go' x)) → Lifts (on_cell o t go) (on_cell o t go')
    with_cell None t go go' each = stuck_lifts t
    with_cell (Some x) t go go' each = each x

    with_choice : (b : Bool) (o p o' p' : Outcome After) → Lifts o o' → Lifts p p' → Lifts (if b then o else p) (if b then o' else p')
    with_choice true o p o' p' one other = one
    with_choice false o p o' p' one other = other

    with_many : (n : ℕ) (stack : List ℕ) (t : Tape) (go go' : List ℕ → List ℕ → Outcome After) → ((xs rest : List ℕ) → Lifts (go xs rest) (go' xs rest)) → Lifts (on_many n stack t go) (on_many n stack t go')
    with_many n stack t go go' each =
        with_choice (nat_le n (length stack)) (go (reverse (take n stack)) (drop n stack)) (Goes (Ended Stuck) t) (go' (reverse (take n stack)) (drop n stack)) (Goes (Ended Stuck) t)
        (each (reverse (take n stack)) (drop n stack)) (stuck_lifts t)

    with_function : (o : Option Routine) (t : Tape) (go go' : Routine → Outcome After) → ((f : Routine) → o ≡ Some f → Lifts (go f) (go' f)) → Lifts (on_function o t go) (on_function o t go')
    with_function None t go go' each = stuck_lifts t
    with_function (Some f) t go go' each = each f refl

    with_task : (o : Option Shape) (t : Tape) (go go' : Shape → Outcome After) → ((s : Shape) → Lifts (go s) (go' s)) → Lifts (on_task o t go) (on_task o t go')
    with_task None t go go' each = stuck_lifts t
    with_task (Some s) t go go' each = each s

    -- what follows an outcome in both
    behind_both : {A : Type 0} (o : Outcome A) (go go' : A → Tape → Outcome After) → ((x : A) (t : Tape) → Lifts (go x t) (go' x t)) → Lifts (then_do o go) (then_do o go')
    behind_both (Goes x t) go go' each = each x t
    behind_both (Stops why t) go go' each = record { is = refl; first = tt }

    one_lifts : (g : ℕ → ℕ) (stack : List ℕ) (t : Tape) → Lifts (one w code a' all line place g stack t) (one w code a callers line place g stack t)
    one_lifts g stack t = with_one stack t _ _ (λ x rest. next_lifts (g x ∷ rest) t)

    two_lifts : (g : ℕ → ℕ → ℕ) (stack : List ℕ) (t : Tape) → Lifts (two w code a' all line place g stack t) (two w code a callers line place g stack t)
    two_lifts g stack t = with_two stack t _ _ (λ x y rest. next_lifts (g x y ∷ rest) t)

    division_lifts : (g : ℕ → ℕ → ℕ) (stack : List ℕ) (t : Tape) → Lifts (division w code a' all line place g stack t) (division w code a callers line place g stack t)
    division_lifts g stack t =
        with_two stack t _ _ (λ x y rest. with_choice (nat_eq y 0) _ _ _ _ (record { is = refl; first = tt }) (next_lifts (g x y ∷ rest) t))

    calling_lifts : (function : ℕ) (f : Routine) (is_task : Bool) (arguments rest : List ℕ) (t : Tape) → Lifts (calling w code a' all line place function f is_task arguments rest t) (calling w code a callers line place function f is_task arguments rest t)
    calling_lifts function f is_task arguments rest t =
        behind_both (entered w f arguments line t) _ _ (λ base t'. record { is = refl; first = is_first })

    called_lifts : (function : ℕ) (f : Routine) (arguments rest : List ℕ) (reply : ℕ) (t : Tape) → Lifts (called w code a' all line place function f arguments rest reply t) (called w code a callers line place function f arguments rest reply t)
    called_lifts function f arguments rest zero t = behind_both (ask w Returns line t) _ _ (λ r t'. next_lifts (0 ∷ rest) t')
    called_lifts function f arguments rest (suc reply) t = calling_lifts function f true arguments rest t

  returning_lifts : (a : Activation) (callers : List Caller) (line place : ℕ) → IsFirst a callers → (f : Routine) (cell : ℕ) (t : Tape) → slice_get code.functions a.function ≡ Some f
      → Lifts (returning w code (as_task callers a) (above callers below) line place (above callers below) f cell t) (returning w code a callers line place callers f cell t)
  returning_lifts a [] line place is_first f cell t is =
      let framed : f.frame ≡ frame_of (slice_get code.functions k) = ap frame_of (sym is) ∙ ap (λ n. frame_of (slice_get code.functions n)) is_first in
      record { is = rw framed refl; first = tt }
  returning_lifts a (d ∷ callers) line place is_first f cell t is =
      behind_both a (d ∷ callers) line place is_first (ask w (Leave a.base f.frame) line t) _ _ (λ r t'.
      behind_both a (d ∷ callers) line place is_first (task_returned w code a (d ∷ callers) line place a.is_task t') _ _ (λ r' t''. record { is = refl; first = is_first }))

  module _ (a : Activation) (callers : List Caller) (line place : ℕ) (is_first : IsFirst a callers) where
    effect_lifts : (op : Op) (stack : List ℕ) (t : Tape) → Lifts (effect w code (as_task callers a) (above callers below) line place op stack t) (effect w code a callers line place op stack t)
    effect_lifts (ops.Push v) stack t = next_lifts a callers line place is_first (cell_of v ∷ stack) t
    effect_lifts ops.Drop stack t = with_one a callers line place is_first stack t _ _ (λ x rest. next_lifts a callers line place is_first rest t)
    effect_lifts (ops.Dup n) stack t = with_cell a callers line place is_first (slice_get stack n) t _ _ (λ x. next_lifts a callers line place is_first (x ∷ stack) t)
    effect_lifts ops.Swap stack t = with_two a callers line place is_first stack t _ _ (λ x y rest. next_lifts a callers line place is_first (x ∷ y ∷ rest) t)
    effect_lifts (ops.Frame n) stack t = rw (base_kept callers a) (next_lifts a callers line place is_first ((a.base + n) ∷ stack) t)
    effect_lifts ops.Load32u stack t =
        with_one a callers line place is_first stack t _ _ (λ x rest.
        behind_both a callers line place is_first (ask w (Load (x % 2 ^ 32) 4) line t) _ _ (λ r t'. next_lifts a callers line place is_first (narrowed narrows.U32 r ∷ rest) t'))
    effect_lifts ops.Load32s stack t =
        with_one a callers line place is_first stack t _ _ (λ x rest.
        behind_both a callers line place is_first (ask w (Load (x % 2 ^ 32) 4) line t) _ _ (λ r t'. next_lifts a callers line place is_first (narrowed narrows.S32 r ∷ rest) t'))
    effect_lifts ops.Store32 stack t =
        with_two a callers line place is_first stack t _ _ (λ x v rest.
        behind_both a callers line place is_first (ask w (Store (x % 2 ^ 32) (big_endian_bytes 4 v)) line t) _ _ (λ r t'. next_lifts a callers line place is_first (v ∷ rest) t'))
    effect_lifts ops.Add stack t = two_lifts a callers line place is_first sum_of stack t
    effect_lifts ops.Sub stack t = two_lifts a callers line place is_first difference_of stack t
    effect_lifts ops.Mul stack t = two_lifts a callers line place is_first product_of stack t
    effect_lifts ops.And stack t = two_lifts a callers line place is_first bit_and stack t
    effect_lifts ops.Or stack t = two_lifts a callers line place is_first bit_or stack t
    effect_lifts ops.Xor stack t = two_lifts a callers line place is_first bit_xor stack t
    effect_lifts ops.Neg stack t = one_lifts a callers line place is_first negative_of stack t
    effect_lifts ops.Not stack t = one_lifts a callers line place is_first complement_of stack t
    effect_lifts ops.Divs stack t = division_lifts a callers line place is_first quotient_of stack t
    effect_lifts ops.Rems stack t = division_lifts a callers line place is_first remainder_of stack t
    effect_lifts (ops.Shl n) stack t = two_lifts a callers line place is_first (shifted_left n) stack t
    effect_lifts (ops.Shrs n) stack t = two_lifts a callers line place is_first (shifted_right n) stack t
    effect_lifts ops.Eq stack t = two_lifts a callers line place is_first are_equal stack t
    effect_lifts ops.Ne stack t = two_lifts a callers line place is_first differ stack t
    effect_lifts ops.Lts stack t = two_lifts a callers line place is_first is_below stack t
    effect_lifts (ops.Conv to) stack t = one_lifts a callers line place is_first (narrowed to) stack t
    effect_lifts (ops.Jump to) stack t = jump_lifts a callers line place is_first to stack t
    effect_lifts (ops.Jumpz to) stack t =
        with_one a callers line place is_first stack t _ _ (λ x rest.
        with_choice a callers line place is_first (nat_eq x 0) _ _ _ _ (jump_lifts a callers line place is_first to rest t) (next_lifts a callers line place is_first rest t))
    effect_lifts (ops.Call j) stack t =
        with_function a callers line place is_first (slice_get code.functions j) t _ _ (λ f is.
        with_many a callers line place is_first (length f.parameters) stack t _ _ (λ arguments rest. calling_lifts a callers line place is_first j f false arguments rest t))
    effect_lifts (ops.Submit j) stack t =
        rw (base_kept callers a) (with_function a callers line place is_first (slice_get code.functions j) t _ _ (λ f is.
        with_task a callers line place is_first f.task t _ _ (λ s.
        with_many a callers line place is_first (all_dimensions s.arguments) stack t _ _ (λ dimensions under.
        with_many a callers line place is_first (length f.parameters) under t _ _ (λ arguments rest.
        behind_both a callers line place is_first (ask w (Calls (call_of j f s arguments dimensions a.base)) line t) _ _ (λ r t'. called_lifts a callers line place is_first j f arguments rest r t'))))))
    effect_lifts (ops.Mark marks.Start) stack t = behind_both a callers line place is_first (ask w Start line t) _ _ (λ r t'. next_lifts a callers line place is_first stack t')
    effect_lifts (ops.Mark marks.Finish) stack t = behind_both a callers line place is_first (ask w Finish line t) _ _ (λ r t'. next_lifts a callers line place is_first stack t')
    effect_lifts (ops.Mark marks.Barrier) stack t = behind_both a callers line place is_first (ask w Barrier line t) _ _ (λ r t'. next_lifts a callers line place is_first stack t')
    effect_lifts (ops.Mark marks.Started) stack t = next_lifts a callers line place is_first (truth (is_started t) ∷ stack) t
    effect_lifts ops.Turn stack t = behind_both a callers line place is_first (ask w Turn line t) _ _ (λ r t'. next_lifts a callers line place is_first stack t')
    effect_lifts (ops.Out conversions.Char) stack t =
        with_one a callers line place is_first stack t _ _ (λ x rest.
        behind_both a callers line place is_first (ask w (Out (x % 256 ∷ [])) line t) _ _ (λ r t'. next_lifts a callers line place is_first (r ∷ rest) t'))
    effect_lifts ops.Ret stack t =
        rw (function_kept callers a) (with_one a callers line place is_first stack t _ _ (λ x rest.
        with_function a callers line place is_first (slice_get code.functions a.function) t _ _ (λ f is. returning_lifts a callers line place is_first f x t is)))

  instr_lifts : (o : Option Instr) (a : Activation) (callers : List Caller) (place : ℕ) (stack : List ℕ) (t : Tape) → IsFirst a callers → Lifts (at_instr w code o (as_task callers a) (above callers below) place stack t) (at_instr w code o a callers place stack t)
  instr_lifts None a callers place stack t is_first = record { is = refl; first = tt }
  instr_lifts (Some i) a callers place stack t is_first = effect_lifts a callers i.line place is_first i.op stack t

  step_lifts : (a : Activation) (callers : List Caller) (place : ℕ) (stack : List ℕ) (t : Tape) → IsFirst a callers → Lifts (step w code (lifted_state (At a callers place stack)) t) (step w code (At a callers place stack) t)
  step_lifts a callers place stack t is_first =
      rw (function_kept callers a) (with_function a callers 0 0 is_first (slice_get code.functions a.function) t _ _ (λ f is. instr_lifts (slice_get f.body place) a callers place stack t is_first))

  -- ---- runs

  abbrev frame : ℕ
  frame = frame_of (slice_get code.functions k)

  abbrev back : ℕ → Tape → Outcome Halt
  back more t = exec w code more (At c.activation others c.place (0 ∷ c.stack)) t

  abbrev after_run : Outcome After → ℕ → Outcome Halt
  after_run o n = then_do o (go_on (exec w code n))

  -- behind the first function's leaving
  leaves_back : (cell line n : ℕ) (o : Outcome ℕ)
      → ComesBack (after_run (then_do o (λ r t. then_do (ask w Returns line t) (λ r' t'. Goes (On (At c.activation others c.place (0 ∷ c.stack))) t')))) back n
      (then_do o (λ r t. then_do (ask w Returns line t) (λ r' t'. Goes (Some cell) t')))
  leaves_back cell line n (Goes r t) = returned (ask w Returns line t)
    where
      returned : (o : Outcome ℕ) → ComesBack (after_run (then_do o (λ r' t'. Goes (On (At c.activation others c.place (0 ∷ c.stack))) t'))) back n (then_do o (λ r' t'. Goes (Some cell) t'))
      returned (Goes r' t') = (0, λ more. ap (λ n. exec w code n (At c.activation others c.place (0 ∷ c.stack)) t') (omega arith))
      returned (Stops why t') = refl
  leaves_back cell line n (Stops why t) = refl

  -- one more step before
  one_more : (run : ℕ → Outcome Halt) (go : ℕ → Outcome Halt) (n : ℕ) (o : Outcome (Option ℕ)) → ((m : ℕ) → run (suc m) ≡ go m) → ComesBack go back n o → ComesBack run back (suc n) o
  one_more run go n (Goes (Some cell) t) same comes = (
    suc comes.0,
    λ more.
        let counted : suc comes.0 + more ≡ suc (comes.0 + more) = omega arith in
        ap run counted ∙ same (comes.0 + more) ∙ comes.1 more,
  )
  one_more run go n (Goes None t) same comes = same n ∙ comes
  one_more run go n (Stops why t) same comes = same n ∙ comes

  abbrev Waits : ℕ → State → Tape → Type 0
  Waits n s t = ComesBack (λ m. exec w code m (lifted_state s) t) back n (then_do (exec w code n s t) (body_ends w frame))

  behind_step : (n : ℕ) (o : Outcome After) → StaysFirst o → ((a : Activation) (callers : List Caller) (place : ℕ) (stack : List ℕ) (t : Tape) → IsFirst a callers → Waits n (At a callers place stack) t)
      → ComesBack (after_run (lifted o)) back n (then_do (then_do o (go_on (exec w code n))) (body_ends w frame))
  behind_step n (Goes (On (At a callers place stack)) t) first later = later a callers place stack t first
  behind_step n (Goes (On (Begin function arguments line)) t) first later = absurd first
  behind_step n (Goes (Ended (Finished cell base line)) t) first later = leaves_back cell line n (ask w (Leave base frame) line t)
  behind_step n (Goes (Ended Stuck) t) first later = refl
  behind_step n (Stops why t) first later = refl

  waits : (n : ℕ) (a : Activation) (callers : List Caller) (place : ℕ) (stack : List ℕ) (t : Tape) → IsFirst a callers → Waits n (At a callers place stack) t
  waits zero a callers place stack t is_first = refl
  waits (suc n) a callers place stack t is_first =
      let lifts = step_lifts a callers place stack t is_first in
      one_more (λ m. exec w code m (lifted_state (At a callers place stack)) t) (after_run (lifted (step w code (At a callers place stack) t))) n (then_do (exec w code (suc n) (At a callers place stack) t) (body_ends w frame))
      (λ m. ap (λ o. after_run o m) lifts.is)
      (behind_step n (step w code (At a callers place stack) t) lifts.first (waits n))

-- ---- calls

module _ (w : World) (code : Code) (a : Activation) (callers : List Caller) (line place k : ℕ) (f : Routine) (arguments : List ℕ) (reply owed : ℕ) (rest : List ℕ) (n : ℕ) where
  abbrev waiting : Caller
  waiting = record { activation = a; place = place; stack = rest }

  entered_waits : (o : Outcome ℕ)
      → ComesBack (λ m. then_do (then_do o (λ base t. Goes (On (At (record { function = k; base = base; is_task = true }) (waiting ∷ callers) 0 [])) t)) (go_on (exec w code m)))
      (λ more t. exec w code more (At a callers place (0 ∷ rest)) t) n
      (then_do (then_do (then_do o (λ base t. Goes (On (At (record { function = k; base = base; is_task = false }) [] 0 [])) t)) (go_on (exec w code n))) (body_ends w (frame_of (slice_get code.functions k))))
  entered_waits (Goes base t) = waits w code waiting callers k n (record { function = k; base = base; is_task = false }) [] 0 [] t refl
  entered_waits (Stops why t) = refl

  begun_waits : (tape : Tape) (o : Option Routine) → o ≡ Some f
      → ComesBack (λ m. then_do (behind_call w line k f arguments (suc reply) (At a callers place (owed ∷ rest)) tape) (go_on (exec w code m)))
      (λ more t. exec w code more (At a callers place (0 ∷ rest)) t) n
      (then_do (then_do (on_function o tape (λ f. beginning w k f arguments line tape)) (go_on (exec w code n))) (body_ends w (frame_of (slice_get code.functions k))))
  begun_waits tape o is = rw is (entered_waits (entered w f arguments line tape))

  -- the caller of a task's body waits for it
  pub waits_for : (tape : Tape) → slice_get code.functions k ≡ Some f → WaitsFor w code a callers line place k f arguments reply owed rest n tape
  waits_for tape is = begun_waits tape (slice_get code.functions k) is
