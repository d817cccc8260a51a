-- Main's judged dialogue calls tasks only where main's frames are the whole stack, within main's limit.
use Rattle.std.proofs.Common.{◌≡◌, ◌⊎◌, inl, inr, ℕ, zero, suc, ◌+◌, ◌-◌, ◌%◌, ◌^◌, Bool, true, false, List, [], ◌∷◌, length, take, drop, reverse, map, Option, Some, None, is_none, slice_get, nat_eq, nat_le, nat_lt, refl, sym, ap, subst, ◌∙◌, arith, bit_and, bit_or, bit_xor, if◌then◌else◌}
use Rattle.std.proofs.lemmas.Bool.{or_parts, leb-true, leb-false, ltb-false}
use Rattle.std.proofs.lemmas.List.{length-reverse, length-take}
use Rattle.css_base.specs.Limits.{IsInRange}
use Rattle.css_base.specs.declared.ending.FaultKind.{FaultKind}
use Rattle.css_base.specs.declared.ending.FaultKind.TheVariants as faults
use Rattle.css_base.specs.declared.limits.Limits.{Limits}
use Rattle.css_base.specs.declared.rule.Rule.{Rule}
use Rattle.css_semantics.specs.Dialogue.{Action, Enter, Turn, Leave, Load, Store, Out, Calls, Returns, Start, Finish, Barrier, Fault, End, Tape, Reply, Says, Fails, Refuses, World, Outcome, Goes, Stops, tape_of, item, then_do, replied, ask}
use Rattle.css_semantics.specs.Memory.{Memory, big_endian_bytes, memory_after}
use Rattle.css_semantics.specs.Flat.{FlatState, reply_in, flat_at, IsStart}
use Rattle.css_semantics.specs.Tasks.{Body, body, is_started}
use Rattle.css_semantics.specs.TaskSpaces.{total}
use Rattle.css_semantics.specs.Rules.{hit, judged_reply, checks_of_main}
use Rattle.css_semantics.specs.Clear.{IsClear}
use Rattle.css_semantics.specs.Verdict.{judged_in}
use Rattle.css_semantics.proofs.StackPlaces.{enters}
use Rattle.css_semantics.proofs.Checks.{are_kept}
use Rattle.css_vm.specs.declared.code.Instr.{Instr}
use Rattle.css_vm.specs.declared.code.Op.{Op}
use Rattle.css_vm.specs.declared.code.Op.TheVariants as ops
use Rattle.css_vm.specs.declared.code.Narrow.TheVariants as narrows
use Rattle.css_vm.specs.declared.code.MarkKind.TheVariants as marks
use Rattle.css_vm.specs.declared.code.Conversion.TheVariants as conversions
use Rattle.css_vm.specs.Code.{Routine, Shape, Code, all_dimensions, call_of}
use Rattle.css_vm.specs.Cells.{cell_of, int_of, truth, sum_of, difference_of, product_of, negative_of, complement_of, quotient_of, remainder_of, shifted_left, shifted_right, are_equal, differ, is_below, narrowed}
use Rattle.css_vm.specs.Machine.{Activation, Caller, State, Begin, At, Halt, Finished, Stuck, After, Ended, On, stuck, on_one, on_two, on_cell, on_many, on_function, on_task, stores, entered, next, one, two, division, calling, called, returning, effect, at_instr, beginning, step, go_on, exec, frame_of, entry_line, finished, main_ends, target}
use Rattle.css_vm.specs.Soundness.{Spot, IsReached, Itself, Called, IsQuiet, IsSound}
use Rattle.css_in_place.specs.InPlace.{IsPlaced, ArePlaced}
use Rattle.css_semantics.proofs.TaskBytes.{all_at}
use Rattle.css_in_place.proofs.Alike.{contains_at}
use Rattle.css_in_place.proofs.Hits.{hit_in, fault_hit}
use Rattle.css_in_place.proofs.TaskBytes.{total_more}
use Rattle.css_semantics.proofs.LaidOut.{laid_along}
use Rattle.css_in_place.proofs.Stands.{IsStill, AreWithin, Stands, at_first, kept_by, after_entry, after_leaving, after_call, after_return}

none_is : (o : Option Body) → is_none o ≡ true → o ≡ None
none_is None is = refl
none_is (Some b) is = absurd (cc)

module _ (code : Code) (limits : Limits) (from : FlatState) (in_range : IsInRange limits) (starts : IsStart limits.memory from) where
  abbrev w : World
  w = judged_in limits from

  abbrev start : Memory
  start = from.memory

  -- ---- tapes on which no rule is broken, and each call of a task has its place

  abbrev IsFine : Tape → Type 0
  IsFine t = IsClear start limits t × ArePlaced code limits from t

  abbrev Keeps : {A : Type 0} → (A → Tape → Type 0) → Outcome A → Type 0
  Keeps P (Goes a t) = IsFine t × P a t
  Keeps P (Stops why t) = IsFine t

  then_keeps : {A B : Type 0} (P : A → Tape → Type 0) (Q : B → Tape → Type 0) (o : Outcome A) (go : A → Tape → Outcome B)
      → Keeps P o → ((a : A) (t : Tape) → IsFine t → P a t → Keeps Q (go a t)) → Keeps Q (then_do o go)
  then_keeps P Q (Goes a t) go kept later = later a t kept.0 kept.1
  then_keeps P Q (Stops why t) go kept later = kept

  fine_tape : {A : Type 0} (P : A → Tape → Type 0) (o : Outcome A) → Keeps P o → IsFine (tape_of o)
  fine_tape P (Goes a t) kept = kept.0
  fine_tape P (Stops why t) kept = kept

  fault_fine : (kind : FaultKind) (line : ℕ) (t : Tape) → IsFine t → IsFine (item (Fault kind) line ∷ t)
  fault_fine kind line t fine = ((fault_hit (memory_after start t) limits t kind (body t), fine.0), (tt, fine.1))

  -- behind an action that the flat memory grants
  abbrev Done : Action → ℕ → Tape → ℕ → Tape → Type 0
  Done action line t v t' = (t' ≡ item action line ∷ t) × (reply_in (flat_at from t) action ≡ Says v) × (hit start limits t action ≡ None)

  replied_keeps : (o : Option Rule) (r : Reply) (action : Action) (line : ℕ) (t : Tape) → hit start limits t action ≡ o → reply_in (flat_at from t) action ≡ r
      → (IsClear start limits (item action line ∷ t) → IsPlaced code limits from action line t) → IsFine t → Keeps (Done action line t) (replied (judged_reply o r) (item action line) t)
  replied_keeps (Some rule) r action line t hits is placed fine = fine
  replied_keeps None (Says v) action line t hits is placed fine = (((hits, fine.0), (placed (hits, fine.0), fine.1)), (refl, is, hits))
  replied_keeps None Fails action line t hits is placed fine = fault_fine faults.OutsideMemory line (item action line ∷ t) ((hits, fine.0), (placed (hits, fine.0), fine.1))
  replied_keeps None (Refuses rule) action line t hits is placed fine = fine

  asked : (action : Action) (line : ℕ) (t : Tape) → (IsClear start limits (item action line ∷ t) → IsPlaced code limits from action line t) → IsFine t → Keeps (Done action line t) (ask w action line t)
  asked action line t placed fine = replied_keeps (hit start limits t action) (reply_in (flat_at from t) action) action line t refl refl placed fine

  still_placed : (action : Action) (line : ℕ) (t : Tape) → IsStill action → IsPlaced code limits from action line t
  still_placed (Calls call) line t still = absurd still
  still_placed _ line t still = tt

  -- ---- states

  abbrev frame : Activation → ℕ
  frame a = frame_of (slice_get code.functions a.function)

  abbrev frames_of : List Caller → List ℕ
  frames_of callers = map (λ c. frame c.activation) callers

  -- each function's frame lies in front of its callers'
  abbrev AreBased : Activation → List Caller → Type 0
  AreBased a [] = a.base ≡ limits.memory - total (frame a ∷ [])
  AreBased a (c ∷ callers) = (a.base ≡ limits.memory - total (frame a ∷ frames_of (c ∷ callers))) × AreBased c.activation callers

  base_is : (a : Activation) (callers : List Caller) → AreBased a callers → a.base ≡ limits.memory - total (frame a ∷ frames_of callers)
  base_is a [] based = based
  base_is a (c ∷ callers) based = based.0

  -- none was called as a task
  abbrev ArePlain : List Caller → Type 0
  ArePlain [] = Unit {0}
  ArePlain (c ∷ callers) = (c.activation.is_task ≡ false) × ArePlain callers

  -- main runs, or what it calls
  abbrev InMain : Activation → List Caller → Tape → Type 0
  InMain a callers t = (a.is_task ≡ false) × ArePlain callers × Stands start true (frame a ∷ frames_of callers) (frame a ∷ frames_of callers) t

  -- a function that a task reaches runs; the callers behind the task are main's, with these frames
  abbrev IsOfTask : Activation → List Caller → (mains : List ℕ) → Type 0
  IsOfTask a [] mains = ⊥
  IsOfTask a (c ∷ callers) mains =
      IsReached code a.function
      × (((a.is_task ≡ true) × (c.activation.is_task ≡ false) × ArePlain callers × (mains ≡ frames_of (c ∷ callers))) ⊎ ((a.is_task ≡ false) × IsOfTask c.activation callers mains))

  reached_by : (a : Activation) (callers : List Caller) (mains : List ℕ) → IsOfTask a callers mains → IsReached code a.function
  reached_by a [] mains of_task = absurd of_task
  reached_by a (c ∷ callers) mains of_task = of_task.0

  abbrev InTask : Activation → List Caller → Tape → Type 0
  InTask a callers t = (mains : List ℕ) × IsOfTask a callers mains × Stands start false (frame a ∷ frames_of callers) mains t

  abbrev IsOn : Activation → List Caller → Tape → Type 0
  IsOn a callers t = AreBased a callers × (InMain a callers t ⊎ InTask a callers t)

  abbrev IsIn : State → Tape → Type 0
  IsIn (Begin k arguments line) t = Stands start true [] [] t
  IsIn (At a callers place stack) t = IsOn a callers t

  abbrev GoodAfter : After → Tape → Type 0
  GoodAfter (Ended halt) t = Unit {0}
  GoodAfter (On s) t = IsIn s t

  abbrev Steps : Outcome After → Type 0
  Steps o = Keeps GoodAfter o

  on_still : (a : Activation) (callers : List Caller) (action : Action) (line : ℕ) (t : Tape) → IsStill action → IsOn a callers t → IsOn a callers (item action line ∷ t)
  on_still a callers action line t still on = (
    on.0,
    elim on.1 [
      | inl main ↦ inl (main.0, main.1, kept_by start t line true (frame a ∷ frames_of callers) (frame a ∷ frames_of callers) action still main.2)
      | inr task ↦ inr (task.0, task.1, kept_by start t line false (frame a ∷ frames_of callers) task.0 action still task.2)
    ],
  )

  -- ---- entries

  -- a frame of so many bytes lies in front of these, at this base
  abbrev IsInFront : Bool → (frames mains : List ℕ) → (n base : ℕ) → Tape → Type 0
  IsInFront is_main frames mains n base t = (base ≡ limits.memory - total (n ∷ frames)) × Stands start is_main (n ∷ frames) (if is_main then n ∷ mains else mains) t

  stores_keeps : (address : ℕ) (parameters arguments : List ℕ) (line : ℕ) (t : Tape) (is_main : Bool) (frames mains : List ℕ) → IsFine t → Stands start is_main frames mains t
      → Keeps (λ r t'. Stands start is_main frames mains t') (stores w address parameters arguments line t)
  stores_keeps address (width ∷ parameters) (a ∷ arguments) line t is_main frames mains fine s =
      let action = Store (address % 2 ^ 32) (big_endian_bytes width a) in
      then_keeps (Done action line t) (λ r t'. Stands start is_main frames mains t') (ask w action line t) (λ r t'. stores w (address + 8) parameters arguments line t')
      (asked action line t (λ c. tt) fine)
      (λ r t' fine' done.
      stores_keeps (address + 8) parameters arguments line t' is_main frames mains fine'
      (subst (Stands start is_main frames mains) (sym done.0) (kept_by start t line is_main frames mains action tt s)))
  stores_keeps address [] arguments line t is_main frames mains fine s = (fine, s)
  stores_keeps address (width ∷ parameters) [] line t is_main frames mains fine s = (fine, s)

  -- main's stack takes one more frame, where no rule refuses it
  one_more : (t : Tape) (is_main : Bool) (frames mains : List ℕ) (n : ℕ) → (is_main ≡ true → mains ≡ frames) → Stands start is_main frames mains t → hit start limits t (Enter n) ≡ None → is_main ≡ true → AreWithin (n ∷ mains)
  one_more t is_main frames mains n same s none main =
      let m = memory_after start t in
      let by_main : body t ≡ None = none_is (body t) (s.who ∙ main) in
      let fine = sym (ap (hit_in m limits t (Enter n)) by_main) ∙ none in
      let parts = or_parts (nat_lt 1048576 (length m.stack + n)) (nat_le 32768 m.calls) (are_kept (checks_of_main m limits t (Enter n)) fine).1.1.1.1.1.1.1.1.0 in
      let all : total mains ≡ total frames = ap total (same main) in
      let many : length mains ≡ length frames = ap length (same main) in
      (omega (arith, ltb-false 1048576 (length m.stack + n) parts.0, s.deep, all, total_more n mains), omega (arith, leb-false 32768 m.calls parts.1, s.opened, many))

  entered_keeps : (f : Routine) (arguments : List ℕ) (line : ℕ) (t : Tape) (is_main : Bool) (frames mains : List ℕ) → (is_main ≡ true → mains ≡ frames) → IsFine t → Stands start is_main frames mains t
      → Keeps (IsInFront is_main frames mains f.frame) (entered w f arguments line t)
  entered_keeps f arguments line t is_main frames mains same fine s =
      let inner : List ℕ = if is_main then f.frame ∷ mains else mains in
      then_keeps (Done (Enter f.frame) line t) (IsInFront is_main frames mains f.frame) (ask w (Enter f.frame) line t) (λ base t'. then_do (stores w base f.parameters arguments line t') (λ r t''. Goes base t''))
      (asked (Enter f.frame) line t (λ c. tt) fine)
      (λ base t' fine' done.
      let s' = after_entry start t line is_main frames mains f.frame (one_more t is_main frames mains f.frame same s done.2) s in
      let at : base ≡ limits.memory - total (f.frame ∷ frames) = omega (arith, enters (memory_after start t) f.frame base done.1, (laid_along limits.memory start t starts.laid_out).end, s'.deep) in
      then_keeps (λ r t''. Stands start is_main (f.frame ∷ frames) inner t'') (IsInFront is_main frames mains f.frame) (stores w base f.parameters arguments line t') (λ r t''. Goes base t'')
      (stores_keeps base f.parameters arguments line t' is_main (f.frame ∷ frames) inner fine' (subst (Stands start is_main (f.frame ∷ frames) inner) (sym done.0) s'))
      (λ r t'' fine'' s''. (fine'', (at, s''))))

  -- ---- steps

  module _ (t : Tape) (fine : IsFine t) where
    with_one : (stack : List ℕ) (go : ℕ → List ℕ → Outcome After) → ((x : ℕ) (rest : List ℕ) → Steps (go x rest)) → Steps (on_one stack t go)
    with_one [] go each = (fine, tt)
    with_one (x ∷ rest) go each = each x rest

    with_two : (stack : List ℕ) (go : ℕ → ℕ → List ℕ → Outcome After) → ((x y : ℕ) (rest : List ℕ) → Steps (go x y rest)) → Steps (on_two stack t go)
    with_two [] go each = (fine, tt)
    with_two (y ∷ []) go each = (fine, tt)
    with_two (y ∷ x ∷ rest) go each = each x y rest

    with_cell : (o : Option ℕ) (go : ℕ → Outcome After) → ((x : ℕ) → Steps (go x)) → Steps (on_cell o t go)
    with_cell None go each = (fine, tt)
    with_cell (Some x) go each = each x

    with_choice : (b : Bool) (o p : Outcome After) → Steps o → Steps p → Steps (if b then o else p)
    with_choice true o p first other = first
    with_choice false o p first other = other

    with_many : (n : ℕ) (stack : List ℕ) (go : List ℕ → List ℕ → Outcome After) → ((xs rest : List ℕ) → length xs ≡ n → Steps (go xs rest)) → Steps (on_many n stack t go)
    with_many n stack go each = many (nat_le n (length stack)) refl
      where
        many : (b : Bool) → nat_le n (length stack) ≡ b → Steps (if b then go (reverse (take n stack)) (drop n stack) else stuck t)
        many true enough = each (reverse (take n stack)) (drop n stack) (length-reverse (take n stack) ∙ omega (arith, length-take n stack, leb-true n (length stack) enough))
        many false few = (fine, tt)

    with_function : (o : Option Routine) (go : Routine → Outcome After) → ((f : Routine) → o ≡ Some f → Steps (go f)) → Steps (on_function o t go)
    with_function None go each = (fine, tt)
    with_function (Some f) go each = each f refl

    with_task : (o : Option Shape) (go : Shape → Outcome After) → ((s : Shape) → o ≡ Some s → Steps (go s)) → Steps (on_task o t go)
    with_task None go each = (fine, tt)
    with_task (Some s) go each = each s refl

  module _ (a : Activation) (callers : List Caller) (line place : ℕ) where
    abbrev all : List ℕ
    all = frame a ∷ frames_of callers

    abbrev waiting : List ℕ → Caller
    waiting rest = record { activation = a; place = place + 1; stack = rest }

    module _ (t : Tape) (fine : IsFine t) (on : IsOn a callers t) where
      next_keeps : (stack : List ℕ) → Steps (next w code a callers line place stack t)
      next_keeps stack = (fine, on)

      one_keeps : (g : ℕ → ℕ) (stack : List ℕ) → Steps (one w code a callers line place g stack t)
      one_keeps g stack = with_one t fine stack _ (λ x rest. next_keeps (g x ∷ rest))

      two_keeps : (g : ℕ → ℕ → ℕ) (stack : List ℕ) → Steps (two w code a callers line place g stack t)
      two_keeps g stack = with_two t fine stack _ (λ x y rest. next_keeps (g x y ∷ rest))

      division_keeps : (g : ℕ → ℕ → ℕ) (stack : List ℕ) → Steps (division w code a callers line place g stack t)
      division_keeps g stack =
          with_two t fine stack _ (λ x y rest. with_choice t fine (nat_eq y 0) _ _ (fault_fine faults.DivideByZero line t fine) (next_keeps (g x y ∷ rest)))

      asks_next : (action : Action) (cells : ℕ → List ℕ) → IsStill action → Steps (then_do (ask w action line t) (λ r t'. next w code a callers line place (cells r) t'))
      asks_next action cells still =
          then_keeps (Done action line t) GoodAfter (ask w action line t) (λ r t'. next w code a callers line place (cells r) t')
          (asked action line t (λ c. still_placed action line t still) fine)
          (λ r t' fine' done. (fine', subst (IsOn a callers) (sym done.0) (on_still a callers action line t still on)))

    -- ---- calls

    module _ (t : Tape) (fine : IsFine t) (based : AreBased a callers) (k : ℕ) (f : Routine) (is : slice_get code.functions k ≡ Some f) where
      framed : f.frame ≡ frame_of (slice_get code.functions k)
      framed = ap frame_of (sym is)

      base_behind : (base : ℕ) → base ≡ limits.memory - total (f.frame ∷ all) → base ≡ limits.memory - total (frame_of (slice_get code.functions k) ∷ all)
      base_behind base at = at ∙ ap (λ n. limits.memory - total (n ∷ all)) framed

      main_calls : (arguments rest : List ℕ) → a.is_task ≡ false → ArePlain callers → Stands start true all all t → Steps (calling w code a callers line place k f false arguments rest t)
      main_calls arguments rest plain others s =
          then_keeps (IsInFront true all all f.frame) GoodAfter (entered w f arguments line t) _
          (entered_keeps f arguments line t true all all (λ h. refl) fine s)
          (λ base t' fine' held.
          (fine', ((base_behind base held.0, based), inl (refl, (plain, others), subst (λ n. Stands start true (n ∷ all) (n ∷ all) t') framed held.1))))

      task_calls : (arguments rest : List ℕ) (mains : List ℕ) → IsOfTask a callers mains → IsReached code k → Stands start false all mains t → Steps (calling w code a callers line place k f false arguments rest t)
      task_calls arguments rest mains of_task reached s =
          then_keeps (IsInFront false all mains f.frame) GoodAfter (entered w f arguments line t) _
          (entered_keeps f arguments line t false all mains (λ h. absurd (cc)) fine s)
          (λ base t' fine' held.
          (fine', ((base_behind base held.0, based), inr (mains, (reached, inr (refl, of_task)), subst (λ n. Stands start false (n ∷ all) mains t') framed held.1))))

      begins_task : (arguments rest : List ℕ) → a.is_task ≡ false → ArePlain callers → IsReached code k → Stands start false all all t → Steps (calling w code a callers line place k f true arguments rest t)
      begins_task arguments rest plain others reached s =
          then_keeps (IsInFront false all all f.frame) GoodAfter (entered w f arguments line t) _
          (entered_keeps f arguments line t false all all (λ h. refl) fine s)
          (λ base t' fine' held.
          (fine', ((base_behind base held.0, based), inr (all, (reached, inl (refl, plain, others, refl)), subst (λ n. Stands start false (n ∷ all) all t') framed held.1))))

      called_keeps : (arguments rest : List ℕ) (reply : ℕ) → a.is_task ≡ false → ArePlain callers → IsReached code k → Stands start false all all t → Steps (called w code a callers line place k f arguments rest reply t)
      called_keeps arguments rest zero plain others reached s =
          then_keeps (Done Returns line t) GoodAfter (ask w Returns line t) (λ r t'. next w code a callers line place (0 ∷ rest) t')
          (asked Returns line t (λ c. tt) fine)
          (λ r t' fine' done. (fine', (based, inl (plain, others, subst (Stands start true all all) (sym done.0) (after_return start t line all all s)))))
      called_keeps arguments rest (suc reply) plain others reached s = begins_task arguments rest plain others reached s

    -- main calls a task
    submits_keeps : (t : Tape) → IsFine t → AreBased a callers → InMain a callers t → (k : ℕ) (f : Routine) (shape : Shape) (arguments dimensions rest : List ℕ) → slice_get code.functions k ≡ Some f → f.task ≡ Some shape → length arguments ≡ length f.parameters
        → Steps (then_do (ask w (Calls (call_of k f shape arguments dimensions a.base)) line t) (λ r t'. called w code a callers line place k f arguments rest r t'))
    submits_keeps t fine based main k f shape arguments dimensions rest is has count =
        let call = call_of k f shape arguments dimensions a.base in
        let s = after_call start t line all all call main.2 in
        then_keeps (Done (Calls call) line t) GoodAfter (ask w (Calls call) line t) (λ r t'. called w code a callers line place k f arguments rest r t')
        (asked (Calls call) line t
        (λ clear. (
          arguments,
          record {
            routine = f;
            shape = shape;
            dimensions = dimensions;
            before = t;
            function = is;
            task = has;
            call = refl;
            counts = count;
            uses_are = refl;
            by_main = none_is (body t) main.2.who;
            allowed = clear.0;
            in_range = in_range;
            starts = starts;
            within = (omega (arith, s.deep, s.within.0), omega (arith, s.opened, s.within.1));
            place_is = omega (arith, base_is a callers based, (laid_along limits.memory start t starts.laid_out).end, s.deep);
          },
        )) fine)
        (λ r t' fine' done.
        called_keeps t' fine' based k f is arguments rest r main.0 main.1 (Itself f shape is has) (subst (Stands start false all all) (sym done.0) s))

  -- ---- returns

  returning_keeps : (a : Activation) (callers : List Caller) (line place : ℕ) (t : Tape) → IsFine t → IsOn a callers t → (f : Routine) (cell : ℕ) → slice_get code.functions a.function ≡ Some f
      → Steps (returning w code a callers line place callers f cell t)
  returning_keeps a [] line place t fine on f cell is = (fine, tt)
  returning_keeps a (c ∷ others) line place t fine on f cell is =
      let behind = frames_of (c ∷ others) in
      let framed : frame a ≡ f.frame = ap frame_of is in
      let leaves = asked (Leave a.base f.frame) line t (λ h. tt) fine in
      elim on.1 [
        | inl main ↦
            rw main.0 (then_keeps (Done (Leave a.base f.frame) line t) GoodAfter (ask w (Leave a.base f.frame) line t) _ leaves
            (λ r t' fine' done.
            let s = subst (λ n. Stands start true (n ∷ behind) (frame a ∷ behind) t) framed main.2 in
            (fine', (on.0.1, inl (main.1.0, main.1.1, subst (Stands start true behind behind) (sym done.0) (after_leaving start t line true behind (frame a ∷ behind) a.base f.frame s))))))
        | inr task ↦
            let s = subst (λ n. Stands start false (n ∷ behind) task.0 t) framed task.2 in
            let left = after_leaving start t line false behind task.0 a.base f.frame s in
            elim task.1.1 [
              | inl here ↦
                  rw here.0 (then_keeps (Done (Leave a.base f.frame) line t) GoodAfter (ask w (Leave a.base f.frame) line t) _ leaves
                  (λ r t' fine' done.
                  then_keeps (Done Returns line t') GoodAfter (ask w Returns line t') _ (asked Returns line t' (λ h. tt) fine')
                  (λ r' t'' fine'' done'.
                  let back = after_return start t' line behind task.0 (subst (Stands start false behind task.0) (sym done.0) left) in
                  (fine'', (on.0.1, inl (here.1, here.2, subst (λ mains. Stands start true behind mains t'') here.3 (subst (Stands start true behind task.0) (sym done'.0) back)))))))
              | inr there ↦
                  rw there.0 (then_keeps (Done (Leave a.base f.frame) line t) GoodAfter (ask w (Leave a.base f.frame) line t) _ leaves
                  (λ r t' fine' done. (fine', (on.0.1, inr (task.0, there.1, subst (Stands start false behind task.0) (sym done.0) left)))))
            ]
      ]

  -- ---- instructions

  module _ (a : Activation) (callers : List Caller) (line place : ℕ) (t : Tape) (fine : IsFine t) (on : IsOn a callers t) where
    abbrev IsTasks : Type 0
    IsTasks = (mains : List ℕ) × IsOfTask a callers mains

    effect_keeps : (op : Op) (stack : List ℕ) → (IsTasks → IsQuiet code op) → ((k : ℕ) → op ≡ ops.Call k → IsTasks → IsReached code k) → Steps (effect w code a callers line place op stack t)
    effect_keeps (ops.Push v) stack quiet reaches = next_keeps a callers line place t fine on (cell_of v ∷ stack)
    effect_keeps ops.Drop stack quiet reaches = with_one t fine stack _ (λ x rest. next_keeps a callers line place t fine on rest)
    effect_keeps (ops.Dup n) stack quiet reaches = with_cell t fine (slice_get stack n) _ (λ x. next_keeps a callers line place t fine on (x ∷ stack))
    effect_keeps ops.Swap stack quiet reaches = with_two t fine stack _ (λ x y rest. next_keeps a callers line place t fine on (x ∷ y ∷ rest))
    effect_keeps (ops.Frame n) stack quiet reaches = next_keeps a callers line place t fine on ((a.base + n) ∷ stack)
    effect_keeps ops.Load32u stack quiet reaches = with_one t fine stack _ (λ x rest. asks_next a callers line place t fine on (Load (x % 2 ^ 32) 4) (λ r. narrowed narrows.U32 r ∷ rest) tt)
    effect_keeps ops.Load32s stack quiet reaches = with_one t fine stack _ (λ x rest. asks_next a callers line place t fine on (Load (x % 2 ^ 32) 4) (λ r. narrowed narrows.S32 r ∷ rest) tt)
    effect_keeps ops.Store32 stack quiet reaches =
        with_two t fine stack _ (λ x v rest. asks_next a callers line place t fine on (Store (x % 2 ^ 32) (big_endian_bytes 4 v)) (λ r. v ∷ rest) tt)
    effect_keeps ops.Add stack quiet reaches = two_keeps a callers line place t fine on sum_of stack
    effect_keeps ops.Sub stack quiet reaches = two_keeps a callers line place t fine on difference_of stack
    effect_keeps ops.Mul stack quiet reaches = two_keeps a callers line place t fine on product_of stack
    effect_keeps ops.And stack quiet reaches = two_keeps a callers line place t fine on bit_and stack
    effect_keeps ops.Or stack quiet reaches = two_keeps a callers line place t fine on bit_or stack
    effect_keeps ops.Xor stack quiet reaches = two_keeps a callers line place t fine on bit_xor stack
    effect_keeps ops.Neg stack quiet reaches = one_keeps a callers line place t fine on negative_of stack
    effect_keeps ops.Not stack quiet reaches = one_keeps a callers line place t fine on complement_of stack
    effect_keeps ops.Divs stack quiet reaches = division_keeps a callers line place t fine on quotient_of stack
    effect_keeps ops.Rems stack quiet reaches = division_keeps a callers line place t fine on remainder_of stack
    effect_keeps (ops.Shl n) stack quiet reaches = two_keeps a callers line place t fine on (shifted_left n) stack
    effect_keeps (ops.Shrs n) stack quiet reaches = two_keeps a callers line place t fine on (shifted_right n) stack
    effect_keeps ops.Eq stack quiet reaches = two_keeps a callers line place t fine on are_equal stack
    effect_keeps ops.Ne stack quiet reaches = two_keeps a callers line place t fine on differ stack
    effect_keeps ops.Lts stack quiet reaches = two_keeps a callers line place t fine on is_below stack
    effect_keeps (ops.Conv to) stack quiet reaches = one_keeps a callers line place t fine on (narrowed to) stack
    effect_keeps (ops.Jump to) stack quiet reaches = (fine, on)
    effect_keeps (ops.Jumpz to) stack quiet reaches =
        with_one t fine stack _ (λ x rest. with_choice t fine (nat_eq x 0) _ _ (fine, on) (next_keeps a callers line place t fine on rest))
    effect_keeps (ops.Call k) stack quiet reaches =
        with_function t fine (slice_get code.functions k) _ (λ f is.
        with_many t fine (length f.parameters) stack _ (λ arguments rest count.
        elim on.1 [
          | inl main ↦ main_calls a callers line place t fine on.0 k f is arguments rest main.0 main.1 main.2
          | inr task ↦ task_calls a callers line place t fine on.0 k f is arguments rest task.0 task.1 (reaches k refl (task.0, task.1)) task.2
        ]))
    effect_keeps (ops.Submit k) stack quiet reaches =
        elim on.1 [
          | inl main ↦
              with_function t fine (slice_get code.functions k) _ (λ f is.
              with_task t fine f.task _ (λ shape has.
              with_many t fine (all_dimensions shape.arguments) stack _ (λ dimensions below many.
              with_many t fine (length f.parameters) below _ (λ arguments rest count.
              submits_keeps a callers line place t fine on.0 main k f shape arguments dimensions rest is has count))))
          | inr task ↦ absurd (quiet (task.0, task.1))
        ]
    effect_keeps (ops.Mark marks.Start) stack quiet reaches = asks_next a callers line place t fine on Start (λ r. stack) tt
    effect_keeps (ops.Mark marks.Finish) stack quiet reaches = asks_next a callers line place t fine on Finish (λ r. stack) tt
    effect_keeps (ops.Mark marks.Barrier) stack quiet reaches = asks_next a callers line place t fine on Barrier (λ r. stack) tt
    effect_keeps (ops.Mark marks.Started) stack quiet reaches = next_keeps a callers line place t fine on (truth (is_started t) ∷ stack)
    effect_keeps ops.Turn stack quiet reaches = asks_next a callers line place t fine on Turn (λ r. stack) tt
    effect_keeps (ops.Out conversions.Char) stack quiet reaches = with_one t fine stack _ (λ x rest. asks_next a callers line place t fine on (Out (x % 256 ∷ [])) (λ r. r ∷ rest) tt)
    effect_keeps ops.Ret stack quiet reaches =
        with_one t fine stack _ (λ x rest.
        with_function t fine (slice_get code.functions a.function) _ (λ f is. returning_keeps a callers line place t fine on f x is))

  module _ (plans : List (List Spot)) (sound : IsSound code plans) where
    instr_keeps : (f : Routine) (o : Option Instr) (a : Activation) (callers : List Caller) (place : ℕ) (stack : List ℕ) (t : Tape) → IsFine t → IsOn a callers t
        → slice_get code.functions a.function ≡ Some f → slice_get f.body place ≡ o → Steps (at_instr w code o a callers place stack t)
    instr_keeps f None a callers place stack t fine on is at = (fine, tt)
    instr_keeps f (Some i) a callers place stack t fine on is at =
        effect_keeps a callers i.line place t fine on i.op stack
        (λ task. all_at (λ i. IsQuiet code i.op) f.body place i (sound.quiet a.function f (reached_by a callers task.0 task.1) is) at)
        (λ k calls task. Called a.function f i (reached_by a callers task.0 task.1) is (contains_at f.body place i at) calls)

    beginning_keeps : (k : ℕ) (f : Routine) (arguments : List ℕ) (line : ℕ) (t : Tape) → IsFine t → Stands start true [] [] t → slice_get code.functions k ≡ Some f
        → Steps (beginning w k f arguments line t)
    beginning_keeps k f arguments line t fine s is =
        let framed : f.frame ≡ frame_of (slice_get code.functions k) = ap frame_of (sym is) in
        then_keeps (IsInFront true [] [] f.frame) GoodAfter (entered w f arguments line t) _
        (entered_keeps f arguments line t true [] [] (λ h. refl) fine s)
        (λ base t' fine' held.
        (fine', (held.0 ∙ ap (λ n. limits.memory - total (n ∷ [])) framed, inl (refl, tt, subst (λ n. Stands start true (n ∷ []) (n ∷ []) t') framed held.1))))

    step_keeps : (s : State) (t : Tape) → IsFine t → IsIn s t → Steps (step w code s t)
    step_keeps (Begin k arguments line) t fine held =
        with_function t fine (slice_get code.functions k) _ (λ f is. beginning_keeps k f arguments line t fine held is)
    step_keeps (At a callers place stack) t fine held =
        with_function t fine (slice_get code.functions a.function) _ (λ f is. instr_keeps f (slice_get f.body place) a callers place stack t fine held is refl)

    abbrev Any : {A : Type 0} → A → Tape → Type 0
    Any a t = Unit {0}

    after_keeps : (n : ℕ) → ((s : State) (t : Tape) → IsFine t → IsIn s t → Keeps Any (exec w code n s t)) → (after : After) (t : Tape) → IsFine t → GoodAfter after t → Keeps Any (go_on (exec w code n) after t)
    after_keeps n fewer (Ended halt) t fine good = (fine, tt)
    after_keeps n fewer (On s) t fine good = fewer s t fine good

    exec_keeps : (n : ℕ) (s : State) (t : Tape) → IsFine t → IsIn s t → Keeps Any (exec w code n s t)
    exec_keeps zero s t fine held = fine
    exec_keeps (suc n) s t fine held = then_keeps GoodAfter Any (step w code s t) (go_on (exec w code n)) (step_keeps s t fine held) (after_keeps n (exec_keeps n))

    asks : (action : Action) (line : ℕ) (t : Tape) → IsStill action → IsFine t → Keeps Any (ask w action line t)
    asks action line t still fine = any_of (ask w action line t) (asked action line t (λ c. still_placed action line t still) fine)
      where
        any_of : (o : Outcome ℕ) → Keeps (Done action line t) o → Keeps Any o
        any_of (Goes v t') kept = (kept.0, tt)
        any_of (Stops why t') kept = kept

    leaves_keeps : (base size line : ℕ) (t : Tape) → IsFine t → Keeps Any (ask w (Leave base size) line t)
    leaves_keeps base size line t fine = any_of (ask w (Leave base size) line t) (asked (Leave base size) line t (λ c. tt) fine)
      where
        any_of : (o : Outcome ℕ) → Keeps (Done (Leave base size) line t) o → Keeps Any o
        any_of (Goes v t') kept = (kept.0, tt)
        any_of (Stops why t') kept = kept

    finished_keeps : (line : ℕ) (t : Tape) (b : Bool) → IsFine t → Keeps Any (if b then ask w Finish line t else Goes 0 t)
    finished_keeps line t true fine = asks Finish line t tt fine
    finished_keeps line t false fine = (fine, tt)

    main_ends_keeps : (size : ℕ) (halt : Halt) (t : Tape) → IsFine t → Keeps Any (main_ends w size halt t)
    main_ends_keeps size (Finished cell base line) t fine =
        then_keeps Any Any (finished w line t) _ (finished_keeps line t (is_started t) fine) (λ r t' fine' any.
        then_keeps Any Any (ask w (Leave base size) line t') _ (leaves_keeps base size line t' fine') (λ r' t'' fine'' any'.
        then_keeps Any Any (ask w (End (int_of cell)) line t'') _ (asks (End (int_of cell)) line t'' tt fine'') (λ r'' t''' fine''' any''. (fine''', tt))))
    main_ends_keeps size Stuck t fine = (fine, tt)

    target_keeps : (n : ℕ) → Keeps Any (target w code n)
    target_keeps n =
        let f = slice_get code.functions code.main in
        then_keeps Any Any (exec w code n (Begin code.main [] (entry_line f)) []) (main_ends w (frame_of f))
        (exec_keeps n (Begin code.main [] (entry_line f)) [] (tt, tt) (at_first start starts.stack starts.calls)) (λ halt t fine any. main_ends_keeps (frame_of f) halt t fine)

    -- on main's judged tape each call of a task has its place
    pub calls_placed : (n : ℕ) → ArePlaced code limits from (tape_of (target w code n))
    calls_placed n = (fine_tape Any (target w code n) (target_keeps n)).1

    -- and no rule is broken on it
    pub main_clear : (n : ℕ) → IsClear start limits (tape_of (target w code n))
    main_clear n = (fine_tape Any (target w code n) (target_keeps n)).0
