-- Two worlds that reply alike, on the tapes that come, to what a task's body asks make one dialogue of it.
use Rattle.std.proofs.Common.{◌≡◌, ℕ, zero, suc, ◌+◌, ◌-◌, ◌%◌, ◌^◌, Bool, true, false, ◌||◌, IsTrue, List, [], ◌∷◌, ◌++◌, length, take, drop, reverse, Option, Some, None, slice_get, nat_eq, nat_le, refl, sym, ap, subst, ◌∙◌, bit_and, bit_or, bit_xor, if◌then◌else◌}
use Rattle.std.specs.List.{Contains}
use Rattle.std.proofs.lemmas.Option.{slice_get_within, get_or_from_slice_get}
use Rattle.std.proofs.lemmas.List.Elements.{Contains-get_or}
use Rattle.css_semantics.specs.Dialogue.{Action, Enter, Turn, Leave, Load, Store, Returns, Out, In, Malloc, Calls, Start, Finish, Barrier, Wait, WaitFault, DimFault, Fault, End, Item, Tape, Reply, Says, Fails, Refuses, World, Outcome, Goes, Stops, item, then_do, replied, ask}
use Rattle.css_semantics.specs.Worlds.{state_after, is_of_machine, is_fault, AreOfMachine}
use Rattle.css_semantics.specs.Memory.{big_endian_bytes}
use Rattle.css_semantics.specs.Tasks.{frames_after}
use Rattle.css_semantics.specs.TaskSpaces.{total}
use Rattle.css_semantics.proofs.TaskBytes.{all_at}
use Rattle.css_vm.specs.declared.code.Instr.{Instr}
use Rattle.css_vm.specs.declared.code.Op.{Op}
use Rattle.css_vm.specs.declared.code.Op.TheVariants as ops
use Rattle.css_vm.specs.declared.code.Narrow.TheVariants as narrows
use Rattle.css_vm.specs.Code.{Routine, Code}
use Rattle.css_vm.specs.Cells.{cell_of, sum_of, difference_of, product_of, negative_of, complement_of, quotient_of, remainder_of, shifted_left, shifted_right, are_equal, differ, is_below, narrowed}
use Rattle.css_vm.specs.Machine.{Activation, Caller, State, Begin, At, Halt, Finished, Stuck, After, Ended, On, stuck, on_one, on_two, on_cell, on_many, on_function, stores, entered, next, one, two, division, calling, returning, effect, at_instr, beginning, step, go_on, exec, frame_of, body_ends, alone}
use Rattle.css_vm.specs.Soundness.{Spot, IsReached, Called, IsQuiet, IsSound}
use Rattle.css_in_place.specs.InPlace.{behind, alone_from}

-- the bytes of the frames that a tape leaves open, the innermost first
abbrev pub open_frames : Tape → List ℕ
open_frames tape = state_after frames_after [] tape

-- What a task's body may ask where these frames are open below a place: it leaves the innermost frame alone.
abbrev pub Asks : (top : ℕ) → (frames : List ℕ) → Action → Type 0
Asks top frames (Enter size) = Unit {0}
Asks top frames Turn = Unit {0}
Asks top frames (Leave base size) = (others : List ℕ) × (frames ≡ size ∷ others) × (base ≡ top - total frames)
Asks top frames (Load address width) = Unit {0}
Asks top frames (Store address bytes) = Unit {0}
Asks top frames _ = ⊥

pub asks_machine : (top : ℕ) (frames : List ℕ) (action : Action) → Asks top frames action → IsTrue (is_of_machine action || is_fault action)
asks_machine top frames (Enter size) asks = refl
asks_machine top frames Turn asks = refl
asks_machine top frames (Leave base size) asks = refl
asks_machine top frames (Load address width) asks = refl
asks_machine top frames (Store address bytes) asks = refl
asks_machine top frames (Out bytes) asks = absurd asks
asks_machine top frames In asks = absurd asks
asks_machine top frames (Malloc size) asks = absurd asks
asks_machine top frames (Calls call) asks = absurd asks
asks_machine top frames Returns asks = absurd asks
asks_machine top frames Start asks = absurd asks
asks_machine top frames Finish asks = absurd asks
asks_machine top frames Barrier asks = absurd asks
asks_machine top frames (Wait address) asks = absurd asks
asks_machine top frames WaitFault asks = absurd asks
asks_machine top frames DimFault asks = absurd asks
asks_machine top frames (Fault kind) asks = absurd asks
asks_machine top frames (End result) asks = absurd asks

-- Behind a tape the first world replies as the second one does, to what the body asks, on tapes of which something holds; it holds
-- at first and of what comes. An entry's frame lies below the open ones.
pub record AreAlike (w w' : World) (tape : Tape) (top : ℕ) (Holds : Tape → Type 0) : Type 0 where
  pub same : (t : Tape) (action : Action) (line : ℕ) → Holds t → Asks top (open_frames t) action → w (t ++ tape) (item action line) ≡ w' t (item action line)
  pub later : (t : Tape) (action : Action) (line value : ℕ) → Holds t → Asks top (open_frames t) action → w' t (item action line) ≡ Says value → Holds (item action line ∷ t)
  pub enters : (t : Tape) (size line base : ℕ) → Holds t → w' t (item (Enter size) line) ≡ Says base → base ≡ top - total (size ∷ open_frames t)
  pub returns : (t : Tape) (line : ℕ) → Holds t → w (t ++ tape) (item Returns line) ≡ w' t (item Returns line)
  pub never_fails : (t : Tape) (line : ℕ) → Holds t → w' t (item Returns line) ≡ Fails → ⊥
  pub machine : (t : Tape) → Holds t → AreOfMachine t

pub contains_at : {X : Type 0} (xs : List X) (k : ℕ) (x : X) → slice_get xs k ≡ Some x → Contains xs x
contains_at xs k x at = subst (Contains xs) (get_or_from_slice_get xs k x x at) (Contains-get_or xs k x (slice_get_within xs k x at))

-- ---- outcomes behind a tape

-- a property of a value and its tape; where there is none, all that was asked is a machine's
abbrev pub IsGood : {A : Type 0} → (A → Tape → Type 0) → Outcome A → Type 0
IsGood P (Goes a t) = P a t
IsGood P (Stops why t) = AreOfMachine t

-- the first outcome is the second one behind a tape, and its value has a property
pub record Same {A : Type 0} (tape : Tape) (P : A → Tape → Type 0) (o o' : Outcome A) : Type 0 where
  pub is : o ≡ behind o' tape
  pub good : IsGood P o'

module _ (tape : Tape) where
  pub same_then : {A B : Type 0} (P : A → Tape → Type 0) (Q : B → Tape → Type 0) (o o' : Outcome A) (go go' : A → Tape → Outcome B)
      → Same tape P o o' → ((a : A) (t : Tape) → P a t → Same tape Q (go a (t ++ tape)) (go' a t)) → Same tape Q (then_do o go) (then_do o' go')
  same_then P Q o (Goes a t) go go' s later = rw s.is (later a t s.good)
  same_then P Q o (Stops why t) go go' s later = rw s.is (record { is = refl; good = s.good })

  weaker : {A : Type 0} (P Q : A → Tape → Type 0) (o : Outcome A) → ((a : A) (t : Tape) → P a t → Q a t) → IsGood P o → IsGood Q o
  weaker P Q (Goes a t) shows good = shows a t good
  weaker P Q (Stops why t) shows good = good

  pub same_weaker : {A : Type 0} (P Q : A → Tape → Type 0) (o o' : Outcome A) → ((a : A) (t : Tape) → P a t → Q a t) → Same tape P o o' → Same tape Q o o'
  same_weaker P Q o o' shows s = record { is = s.is; good = weaker P Q o' shows s.good }

  replied_behind : (r : Reply) (i : Item) (t : Tape) → replied r i (t ++ tape) ≡ behind (replied r i t) tape
  replied_behind (Says value) i t = refl
  replied_behind Fails i t = refl
  replied_behind (Refuses rule) i t = refl

-- ---- what is asked

module _ (w w' : World) (tape : Tape) (top : ℕ) (Holds : Tape → Type 0) (alike : AreAlike w w' tape top Holds) where
  -- what holds behind an action
  abbrev pub Done : Action → ℕ → Tape → ℕ → Tape → Type 0
  Done action line t r t' = Holds t' × (open_frames t' ≡ frames_after (open_frames t) action) × (w' t (item action line) ≡ Says r)

  replied_good : (q : Reply) (action : Action) (line : ℕ) (t : Tape) → Holds t → Asks top (open_frames t) action → w' t (item action line) ≡ q → IsGood (Done action line t) (replied q (item action line) t)
  replied_good (Says value) action line t holds asks e = (alike.later t action line value holds asks e, refl, e)
  replied_good Fails action line t holds asks e = (refl, (asks_machine top (open_frames t) action asks, alike.machine t holds))
  replied_good (Refuses rule) action line t holds asks e = alike.machine t holds

  pub asked : (action : Action) (line : ℕ) (t : Tape) → Holds t → Asks top (open_frames t) action → Same tape (Done action line t) (ask w action line (t ++ tape)) (ask w' action line t)
  asked action line t holds asks = record {
    is = ap (λ q. replied q (item action line) (t ++ tape)) (alike.same t action line holds asks) ∙ replied_behind tape (w' t (item action line)) (item action line) t;
    good = replied_good (w' t (item action line)) action line t holds asks refl;
  }

  -- the open frames stay
  abbrev Kept : List ℕ → ℕ → Tape → Type 0
  Kept frames r t' = Holds t' × (open_frames t' ≡ frames)

  stores_same : (address : ℕ) (parameters arguments : List ℕ) (line : ℕ) (t : Tape) → Holds t → Same tape (Kept (open_frames t)) (stores w address parameters arguments line (t ++ tape)) (stores w' address parameters arguments line t)
  stores_same address (width ∷ parameters) (a ∷ arguments) line t holds =
      let action = Store (address % 2 ^ 32) (big_endian_bytes width a) in
      same_then tape (Done action line t) (Kept (open_frames t)) (ask w action line (t ++ tape)) (ask w' action line t)
      (λ r t'. stores w (address + 8) parameters arguments line t') (λ r t'. stores w' (address + 8) parameters arguments line t')
      (asked action line t holds tt)
      (λ r t' done.
      same_weaker tape (Kept (open_frames t')) (Kept (open_frames t)) (stores w (address + 8) parameters arguments line (t' ++ tape)) (stores w' (address + 8) parameters arguments line t')
      (λ r' t'' kept. (kept.0, kept.1 ∙ done.1)) (stores_same (address + 8) parameters arguments line t' done.0))
  stores_same address [] arguments line t holds = record { is = refl; good = (holds, refl) }
  stores_same address (width ∷ parameters) [] line t holds = record { is = refl; good = (holds, refl) }

  -- a new frame is open, at this base
  abbrev pub IsEntered : (size : ℕ) → List ℕ → ℕ → Tape → Type 0
  IsEntered size frames base t' = Holds t' × (open_frames t' ≡ size ∷ frames) × (base ≡ top - total (size ∷ frames))

  pub entered_same : (f : Routine) (arguments : List ℕ) (line : ℕ) (t : Tape) → Holds t → Same tape (IsEntered f.frame (open_frames t)) (entered w f arguments line (t ++ tape)) (entered w' f arguments line t)
  entered_same f arguments line t holds =
      same_then tape (Done (Enter f.frame) line t) (IsEntered f.frame (open_frames t)) (ask w (Enter f.frame) line (t ++ tape)) (ask w' (Enter f.frame) line t)
      (λ base t'. then_do (stores w base f.parameters arguments line t') (λ r t''. Goes base t'')) (λ base t'. then_do (stores w' base f.parameters arguments line t') (λ r t''. Goes base t''))
      (asked (Enter f.frame) line t holds tt)
      (λ base t' done.
      same_then tape (Kept (open_frames t')) (IsEntered f.frame (open_frames t)) (stores w base f.parameters arguments line (t' ++ tape)) (stores w' base f.parameters arguments line t')
      (λ r t''. Goes base t'') (λ r t''. Goes base t'')
      (stores_same base f.parameters arguments line t' done.0)
      (λ r t'' kept. record { is = refl; good = (kept.0, kept.1 ∙ done.1, alike.enters t f.frame line base holds done.2) }))

-- ---- states

module _ (code : Code) (top first : ℕ) where
  -- a function that a task reaches runs, with the innermost of these frames
  pub record IsOpen (a : Activation) (frames others : List ℕ) : Type 0 where
    pub reached : IsReached code a.function
    pub plain : a.is_task ≡ false
    pub base : a.base ≡ top - total frames
    pub frame : frames ≡ frame_of (slice_get code.functions a.function) ∷ others

  -- the functions that run have the open frames, and the outermost is the first one
  abbrev pub AreOpen : Activation → List Caller → List ℕ → Type 0
  AreOpen a [] frames = IsOpen a frames [] × (a.function ≡ first)
  AreOpen a (c ∷ callers) frames = (others : List ℕ) × IsOpen a frames others × AreOpen c.activation callers others

  abbrev pub IsIn : State → List ℕ → Type 0
  IsIn (Begin k arguments line) frames = IsReached code k × (k ≡ first) × (frames ≡ [])
  IsIn (At a callers place stack) frames = AreOpen a callers frames

  abbrev pub IsHalted : Halt → List ℕ → Type 0
  IsHalted (Finished cell base line) frames = (frames ≡ frame_of (slice_get code.functions first) ∷ []) × (base ≡ top - total frames)
  IsHalted Stuck frames = Unit {0}

  abbrev pub IsAfter : After → List ℕ → Type 0
  IsAfter (Ended halt) frames = IsHalted halt frames
  IsAfter (On s) frames = IsIn s frames

  -- the innermost function runs, whatever its callers
  running : (a : Activation) (callers : List Caller) (frames : List ℕ) → AreOpen a callers frames → (others : List ℕ) × IsOpen a frames others
  running a [] frames opened = ([], opened.0)
  running a (c ∷ callers) frames opened = (opened.0, opened.1)

-- ---- steps

module _ (code : Code) (w w' : World) (tape : Tape) (top first : ℕ) (Holds : Tape → Type 0) (alike : AreAlike w w' tape top Holds) where
  abbrev GoodAfter : After → Tape → Type 0
  GoodAfter after t = Holds t × IsAfter code top first after (open_frames t)

  abbrev GoodHalt : Halt → Tape → Type 0
  GoodHalt halt t = Holds t × IsHalted code top first halt (open_frames t)

  -- two steps
  abbrev Steps : Outcome After → Outcome After → Type 0
  Steps o o' = Same tape GoodAfter o o'

  module _ (t : Tape) (holds : Holds t) where
    stuck_same : Steps (stuck (t ++ tape)) (stuck t)
    stuck_same = record { is = refl; good = (holds, tt) }

    with_one : (stack : List ℕ) (go go' : ℕ → List ℕ → Outcome After) → ((x : ℕ) (rest : List ℕ) → Steps (go x rest) (go' x rest)) → Steps (on_one stack (t ++ tape) go) (on_one stack t go')
    with_one [] go go' each = stuck_same
    with_one (x ∷ rest) go go' each = each x rest

    with_two : (stack : List ℕ) (go go' : ℕ → ℕ → List ℕ → Outcome After) → ((x y : ℕ) (rest : List ℕ) → Steps (go x y rest) (go' x y rest)) → Steps (on_two stack (t ++ tape) go) (on_two stack t go')
    with_two [] go go' each = stuck_same
    with_two (y ∷ []) go go' each = stuck_same
    with_two (y ∷ x ∷ rest) go go' each = each x y rest

    with_cell : (o : Option ℕ) (go go' : ℕ → Outcome After) → ((x : ℕ) → Steps (go x) (go' x)) → Steps (on_cell o (t ++ tape) go) (on_cell o t go')
    with_cell None go go' each = stuck_same
    with_cell (Some x) go go' each = each x

    with_choice : (b : Bool) (o p o' p' : Outcome After) → Steps o o' → Steps p p' → Steps (if b then o else p) (if b then o' else p')
    with_choice true o p o' p' one other = one
    with_choice false o p o' p' one other = other

    with_many : (n : ℕ) (stack : List ℕ) (go go' : List ℕ → List ℕ → Outcome After) → ((xs rest : List ℕ) → Steps (go xs rest) (go' xs rest)) → Steps (on_many n stack (t ++ tape) go) (on_many n stack t go')
    with_many n stack go go' each =
        with_choice (nat_le n (length stack)) (go (reverse (take n stack)) (drop n stack)) (stuck (t ++ tape)) (go' (reverse (take n stack)) (drop n stack)) (stuck t)
        (each (reverse (take n stack)) (drop n stack)) stuck_same

    with_function : (o : Option Routine) (go go' : Routine → Outcome After) → ((f : Routine) → o ≡ Some f → Steps (go f) (go' f)) → Steps (on_function o (t ++ tape) go) (on_function o t go')
    with_function None go go' each = stuck_same
    with_function (Some f) go go' each = each f refl

  module _ (a : Activation) (callers : List Caller) (line place : ℕ) (t : Tape) (holds : Holds t) (opened : AreOpen code top first a callers (open_frames t)) where
    next_same : (stack : List ℕ) → Steps (next w code a callers line place stack (t ++ tape)) (next w' code a callers line place stack t)
    next_same stack = record { is = refl; good = (holds, opened) }

    jump_same : (to : ℕ) (stack : List ℕ) → Steps (Goes (On (At a callers to stack)) (t ++ tape)) (Goes (On (At a callers to stack)) t)
    jump_same to stack = record { is = refl; good = (holds, opened) }

    one_same : (g : ℕ → ℕ) (stack : List ℕ) → Steps (one w code a callers line place g stack (t ++ tape)) (one w' code a callers line place g stack t)
    one_same g stack = with_one t holds stack _ _ (λ x rest. next_same (g x ∷ rest))

    two_same : (g : ℕ → ℕ → ℕ) (stack : List ℕ) → Steps (two w code a callers line place g stack (t ++ tape)) (two w' code a callers line place g stack t)
    two_same g stack = with_two t holds stack _ _ (λ x y rest. next_same (g x y ∷ rest))

    division_same : (g : ℕ → ℕ → ℕ) (stack : List ℕ) → Steps (division w code a callers line place g stack (t ++ tape)) (division w' code a callers line place g stack t)
    division_same g stack =
        with_two t holds stack _ _ (λ x y rest. with_choice t holds (nat_eq y 0) _ _ _ _ (record { is = refl; good = (refl, alike.machine t holds) }) (next_same (g x y ∷ rest)))

    -- the machine asks what changes no frame, and goes on with these cells
    asks_next : (action : Action) (cells : ℕ → List ℕ) → Asks top (open_frames t) action → frames_after (open_frames t) action ≡ open_frames t
        → Steps (then_do (ask w action line (t ++ tape)) (λ r t'. next w code a callers line place (cells r) t')) (then_do (ask w' action line t) (λ r t'. next w' code a callers line place (cells r) t'))
    asks_next action cells asks kept =
        same_then tape (Done w w' tape top Holds alike action line t) GoodAfter (ask w action line (t ++ tape)) (ask w' action line t)
        (λ r t'. next w code a callers line place (cells r) t') (λ r t'. next w' code a callers line place (cells r) t')
        (asked w w' tape top Holds alike action line t holds asks)
        (λ r t' done. record { is = refl; good = (done.0, subst (AreOpen code top first a callers) (sym (done.1 ∙ kept)) opened) })

    -- calls
    calling_same : (k : ℕ) (f : Routine) (arguments rest : List ℕ) → slice_get code.functions k ≡ Some f → IsReached code k
        → Steps (calling w code a callers line place k f false arguments rest (t ++ tape)) (calling w' code a callers line place k f false arguments rest t)
    calling_same k f arguments rest is reached =
        same_then tape (IsEntered w w' tape top Holds alike f.frame (open_frames t)) GoodAfter (entered w f arguments line (t ++ tape)) (entered w' f arguments line t) _ _
        (entered_same w w' tape top Holds alike f arguments line t holds)
        (λ base t' held. record {
          is = refl;
          good = (held.0, (open_frames t, record { reached = reached; plain = refl; base = held.2 ∙ ap (λ frames. top - total frames) (sym held.1); frame = held.1 ∙ ap (λ o. frame_of o ∷ open_frames t) (sym is) }, opened));
        })

  -- returns
  returning_same : (a : Activation) (callers : List Caller) (line place : ℕ) (t : Tape) → Holds t → AreOpen code top first a callers (open_frames t) → (f : Routine) (cell : ℕ) → slice_get code.functions a.function ≡ Some f
      → Steps (returning w code a callers line place callers f cell (t ++ tape)) (returning w' code a callers line place callers f cell t)
  returning_same a [] line place t holds opened f cell is = record {
    is = refl;
    good = (holds, (opened.0.frame ∙ ap (λ n. frame_of (slice_get code.functions n) ∷ []) opened.1, opened.0.base));
  }
  returning_same a (c ∷ others) line place t holds opened f cell is =
      rw opened.1.plain (same_then tape (Done w w' tape top Holds alike (Leave a.base f.frame) line t) GoodAfter (ask w (Leave a.base f.frame) line (t ++ tape)) (ask w' (Leave a.base f.frame) line t)
      (λ r t'. Goes (On (At c.activation others c.place (cell ∷ c.stack))) t') (λ r t'. Goes (On (At c.activation others c.place (cell ∷ c.stack))) t')
      (asked w w' tape top Holds alike (Leave a.base f.frame) line t holds (opened.0, opened.1.frame ∙ ap (λ o. frame_of o ∷ opened.0) is, opened.1.base))
      (λ r t' done. record { is = refl; good = (done.0, subst (AreOpen code top first c.activation others) (sym (done.1 ∙ ap (λ frames. drop 1 frames) opened.1.frame)) opened.2) }))

  module _ (a : Activation) (callers : List Caller) (line place : ℕ) (t : Tape) (holds : Holds t) (opened : AreOpen code top first a callers (open_frames t)) where
    effect_same : (op : Op) (stack : List ℕ) → IsQuiet code op → ((k : ℕ) → op ≡ ops.Call k → IsReached code k)
        → Steps (effect w code a callers line place op stack (t ++ tape)) (effect w' code a callers line place op stack t)
    effect_same (ops.Push v) stack quiet reaches = next_same a callers line place t holds opened (cell_of v ∷ stack)
    effect_same ops.Drop stack quiet reaches = with_one t holds stack _ _ (λ x rest. next_same a callers line place t holds opened rest)
    effect_same (ops.Dup n) stack quiet reaches = with_cell t holds (slice_get stack n) _ _ (λ x. next_same a callers line place t holds opened (x ∷ stack))
    effect_same ops.Swap stack quiet reaches = with_two t holds stack _ _ (λ x y rest. next_same a callers line place t holds opened (x ∷ y ∷ rest))
    effect_same (ops.Frame k) stack quiet reaches = next_same a callers line place t holds opened ((a.base + k) ∷ stack)
    effect_same ops.Load32u stack quiet reaches =
        with_one t holds stack _ _ (λ x rest. asks_next a callers line place t holds opened (Load (x % 2 ^ 32) 4) (λ r. narrowed narrows.U32 r ∷ rest) tt refl)
    effect_same ops.Load32s stack quiet reaches =
        with_one t holds stack _ _ (λ x rest. asks_next a callers line place t holds opened (Load (x % 2 ^ 32) 4) (λ r. narrowed narrows.S32 r ∷ rest) tt refl)
    effect_same ops.Store32 stack quiet reaches =
        with_two t holds stack _ _ (λ x v rest. asks_next a callers line place t holds opened (Store (x % 2 ^ 32) (big_endian_bytes 4 v)) (λ r. v ∷ rest) tt refl)
    effect_same ops.Add stack quiet reaches = two_same a callers line place t holds opened sum_of stack
    effect_same ops.Sub stack quiet reaches = two_same a callers line place t holds opened difference_of stack
    effect_same ops.Mul stack quiet reaches = two_same a callers line place t holds opened product_of stack
    effect_same ops.And stack quiet reaches = two_same a callers line place t holds opened bit_and stack
    effect_same ops.Or stack quiet reaches = two_same a callers line place t holds opened bit_or stack
    effect_same ops.Xor stack quiet reaches = two_same a callers line place t holds opened bit_xor stack
    effect_same ops.Neg stack quiet reaches = one_same a callers line place t holds opened negative_of stack
    effect_same ops.Not stack quiet reaches = one_same a callers line place t holds opened complement_of stack
    effect_same ops.Divs stack quiet reaches = division_same a callers line place t holds opened quotient_of stack
    effect_same ops.Rems stack quiet reaches = division_same a callers line place t holds opened remainder_of stack
    effect_same (ops.Shl n) stack quiet reaches = two_same a callers line place t holds opened (shifted_left n) stack
    effect_same (ops.Shrs n) stack quiet reaches = two_same a callers line place t holds opened (shifted_right n) stack
    effect_same ops.Eq stack quiet reaches = two_same a callers line place t holds opened are_equal stack
    effect_same ops.Ne stack quiet reaches = two_same a callers line place t holds opened differ stack
    effect_same ops.Lts stack quiet reaches = two_same a callers line place t holds opened is_below stack
    effect_same (ops.Conv to) stack quiet reaches = one_same a callers line place t holds opened (narrowed to) stack
    effect_same (ops.Jump to) stack quiet reaches = jump_same a callers line place t holds opened to stack
    effect_same (ops.Jumpz to) stack quiet reaches =
        with_one t holds stack _ _ (λ x rest.
        with_choice t holds (nat_eq x 0) _ _ _ _ (jump_same a callers line place t holds opened to rest) (next_same a callers line place t holds opened rest))
    effect_same (ops.Call k) stack quiet reaches =
        with_function t holds (slice_get code.functions k) _ _ (λ f is.
        with_many t holds (length f.parameters) stack _ _ (λ arguments rest. calling_same a callers line place t holds opened k f arguments rest is (reaches k refl)))
    effect_same (ops.Submit k) stack quiet reaches = absurd quiet
    effect_same (ops.Mark kind) stack quiet reaches = absurd quiet
    effect_same ops.Turn stack quiet reaches = asks_next a callers line place t holds opened Turn (λ r. stack) tt refl
    effect_same (ops.Out conversion) stack quiet reaches = absurd quiet
    effect_same ops.Ret stack quiet reaches =
        with_one t holds stack _ _ (λ x rest.
        with_function t holds (slice_get code.functions a.function) _ _ (λ f is. returning_same a callers line place t holds opened f x is))

  module _ (plans : List (List Spot)) (sound : IsSound code plans) where
    instr_same : (f : Routine) (o : Option Instr) (a : Activation) (callers : List Caller) (place : ℕ) (stack : List ℕ) (t : Tape) → Holds t → AreOpen code top first a callers (open_frames t)
        → slice_get code.functions a.function ≡ Some f → slice_get f.body place ≡ o → Steps (at_instr w code o a callers place stack (t ++ tape)) (at_instr w' code o a callers place stack t)
    instr_same f None a callers place stack t holds opened is at = stuck_same t holds
    instr_same f (Some i) a callers place stack t holds opened is at =
        let reached = (running code top first a callers (open_frames t) opened).1.reached in
        effect_same a callers i.line place t holds opened i.op stack
        (all_at (λ i. IsQuiet code i.op) f.body place i (sound.quiet a.function f reached is) at)
        (λ k calls. Called a.function f i reached is (contains_at f.body place i at) calls)

    beginning_same : (f : Routine) (arguments : List ℕ) (line : ℕ) (t : Tape) → Holds t → IsReached code first → open_frames t ≡ [] → slice_get code.functions first ≡ Some f
        → Steps (beginning w first f arguments line (t ++ tape)) (beginning w' first f arguments line t)
    beginning_same f arguments line t holds reached none is =
        same_then tape (IsEntered w w' tape top Holds alike f.frame (open_frames t)) GoodAfter (entered w f arguments line (t ++ tape)) (entered w' f arguments line t) _ _
        (entered_same w w' tape top Holds alike f arguments line t holds)
        (λ base t' held. record {
          is = refl;
          good = (held.0, (record { reached = reached; plain = refl; base = held.2 ∙ ap (λ frames. top - total frames) (sym held.1); frame = held.1 ∙ ap (λ frames. f.frame ∷ frames) none ∙ ap (λ o. frame_of o ∷ []) (sym is) }, refl));
        })

    step_same : (s : State) (t : Tape) → Holds t → IsIn code top first s (open_frames t) → Steps (step w code s (t ++ tape)) (step w' code s t)
    step_same (Begin k arguments line) t holds held =
        rw held.1 (with_function t holds (slice_get code.functions first) _ _ (λ f is. beginning_same f arguments line t holds (subst (IsReached code) held.1 held.0) held.2 is))
    step_same (At a callers place stack) t holds held =
        with_function t holds (slice_get code.functions a.function) _ _ (λ f is. instr_same f (slice_get f.body place) a callers place stack t holds held is refl)

    after_same : (n : ℕ) → ((s : State) (t : Tape) → Holds t → IsIn code top first s (open_frames t) → Same tape GoodHalt (exec w code n s (t ++ tape)) (exec w' code n s t))
        → (after : After) (t : Tape) → GoodAfter after t → Same tape GoodHalt (go_on (exec w code n) after (t ++ tape)) (go_on (exec w' code n) after t)
    after_same n fewer (Ended halt) t good = record { is = refl; good = good }
    after_same n fewer (On s) t good = fewer s t good.0 good.1

    pub exec_same : (n : ℕ) (s : State) (t : Tape) → Holds t → IsIn code top first s (open_frames t) → Same tape GoodHalt (exec w code n s (t ++ tape)) (exec w' code n s t)
    exec_same zero s t holds held = record { is = refl; good = alike.machine t holds }
    exec_same (suc n) s t holds held =
        same_then tape GoodAfter GoodHalt (step w code s (t ++ tape)) (step w' code s t) (go_on (exec w code n)) (go_on (exec w' code n))
        (step_same s t holds held) (after_same n (exec_same n))

    -- ---- whole bodies

    -- where a body returns no frame is open, and no rule refuses the return
    abbrev pub IsOver : Option ℕ → Tape → Type 0
    IsOver None t = Unit {0}
    IsOver (Some cell) t = (t' : Tape) × (line value : ℕ) × (t ≡ item Returns line ∷ t') × Holds t' × (open_frames t' ≡ []) × (w' t' (item Returns line) ≡ Says value)

    returns_same : (cell line : ℕ) (t : Tape) → Holds t → open_frames t ≡ [] → Same tape IsOver (then_do (ask w Returns line (t ++ tape)) (λ r t'. Goes (Some cell) t')) (then_do (ask w' Returns line t) (λ r t'. Goes (Some cell) t'))
    returns_same cell line t holds none =
        same_then tape (λ r t'. (t' ≡ item Returns line ∷ t) × (w' t (item Returns line) ≡ Says r)) IsOver (ask w Returns line (t ++ tape)) (ask w' Returns line t) (λ r t'. Goes (Some cell) t') (λ r t'. Goes (Some cell) t')
        (record {
          is = ap (λ q. replied q (item Returns line) (t ++ tape)) (alike.returns t line holds) ∙ replied_behind tape (w' t (item Returns line)) (item Returns line) t;
          good = returned (w' t (item Returns line)) refl;
        })
        (λ r t' good. record { is = refl; good = (t, line, r, good.0, holds, none, good.1) })
      where
        returned : (q : Reply) → w' t (item Returns line) ≡ q → IsGood (λ r t'. (t' ≡ item Returns line ∷ t) × (w' t (item Returns line) ≡ Says r)) (replied q (item Returns line) t)
        returned (Says value) says = (refl, says)
        returned Fails says = absurd (alike.never_fails t line holds says)
        returned (Refuses rule) says = alike.machine t holds

    body_ends_same : (halt : Halt) (t : Tape) → GoodHalt halt t → Same tape IsOver (body_ends w (frame_of (slice_get code.functions first)) halt (t ++ tape)) (body_ends w' (frame_of (slice_get code.functions first)) halt t)
    body_ends_same (Finished cell base line) t good =
        same_then tape (Done w w' tape top Holds alike (Leave base (frame_of (slice_get code.functions first))) line t) IsOver
        (ask w (Leave base (frame_of (slice_get code.functions first))) line (t ++ tape)) (ask w' (Leave base (frame_of (slice_get code.functions first))) line t)
        (λ r t'. then_do (ask w Returns line t') (λ r' t''. Goes (Some cell) t'')) (λ r t'. then_do (ask w' Returns line t') (λ r' t''. Goes (Some cell) t''))
        (asked w w' tape top Holds alike (Leave base (frame_of (slice_get code.functions first))) line t good.0 ([], good.1.0, good.1.1))
        (λ r t' done. returns_same cell line t' done.0 (done.1 ∙ ap (λ frames. drop 1 frames) good.1.0))
    body_ends_same Stuck t good = record { is = refl; good = tt }

    -- the body of a task has one dialogue in both worlds
    pub body_same : (arguments : List ℕ) (line n : ℕ) → Holds [] → IsReached code first → Same tape IsOver (alone_from w code first arguments line n tape) (alone w' code first arguments line n)
    body_same arguments line n holds reached =
        same_then tape GoodHalt IsOver (exec w code n (Begin first arguments line) tape) (exec w' code n (Begin first arguments line) [])
        (body_ends w (frame_of (slice_get code.functions first))) (body_ends w' (frame_of (slice_get code.functions first)))
        (exec_same n (Begin first arguments line) [] holds (reached, refl, refl)) body_ends_same
