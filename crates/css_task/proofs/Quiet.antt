-- What a task reaches asks for nothing but its memory and its units.
use Rattle.std.proofs.Common.{◌≡◌, ℕ, zero, suc, ◌+◌, ◌%◌, ◌^◌, Bool, true, false, ◌||◌, List, [], ◌∷◌, length, take, drop, reverse, Contains, Option, Some, None, slice_get, IsTrue, nat_eq, nat_le, if◌then◌else◌, refl}
use Rattle.std.proofs.lemmas.Option.{slice_get_within, get_or_from_slice_get}
use Rattle.css_base.specs.declared.ending.FaultKind.TheVariants.{DivideByZero}
use Rattle.css_semantics.specs.Dialogue.{Action, Enter, Turn, Leave, Load, Store, Tape, Reply, Says, Fails, Refuses, World, Outcome, Goes, Stops, item, tape_of, then_do, ask, replied, fault}
use Rattle.css_semantics.specs.Memory.{big_endian_bytes}
use Rattle.css_semantics.specs.Worlds.{is_of_machine, is_fault, AreOfMachine}
use Rattle.css_semantics.proofs.TaskBytes.{all_at}
use Rattle.css_vm.specs.declared.code.Instr.{Instr}
use Rattle.css_vm.specs.declared.code.Op.{Op}
use Rattle.css_vm.specs.declared.code.Op.TheVariants as ops
use Rattle.css_vm.specs.Code.{Routine, Code}
use Rattle.css_vm.specs.Machine.{Activation, Caller, State, Begin, At, Halt, Stuck, After, Ended, On, on_one, on_two, on_cell, on_many, on_function, stores, entered, next, calling, task_returned, given_back, returning, effect, at_instr, step, go_on, exec}
use Rattle.css_vm.specs.Soundness.{Spot, IsSound, IsReached, Called, IsQuiet}
use Rattle.css_task.specs.Quiet.{IsQuietActivation, AreQuietCallers, IsQuietState}

-- what a step leaves
abbrev Stays : Code → Outcome After → Type 0
Stays code (Goes (Ended halt) tape) = AreOfMachine tape
Stays code (Goes (On s) tape) = IsQuietState code s × AreOfMachine tape
Stays code (Stops why tape) = AreOfMachine tape

-- the place of an element
contains_at : {X : Type 0} (xs : List X) (j : ℕ) (x : X) → slice_get xs j ≡ Some x → Contains xs x
contains_at xs j x at = (j, slice_get_within xs j x at, get_or_from_slice_get xs j x x at)

module _ (w : World) (code : Code) where
  -- ---- what is asked

  asks : (action : Action) (line : ℕ) (tape : Tape) → IsTrue (is_of_machine action || is_fault action) → AreOfMachine tape → (reply : Reply) → AreOfMachine (tape_of (replied reply (item action line) tape))
  asks action line tape is quiet (Says value) = (is, quiet)
  asks action line tape is quiet Fails = (refl, (is, quiet))
  asks action line tape is quiet (Refuses rule) = quiet

  asked : (action : Action) (line : ℕ) (tape : Tape) → IsTrue (is_of_machine action || is_fault action) → AreOfMachine tape → AreOfMachine (tape_of (ask w action line tape))
  asked action line tape is quiet = asks action line tape is quiet (w tape (item action line))

  then_tape : {A B : Type 0} (o : Outcome A) (go : A → Tape → Outcome B) → AreOfMachine (tape_of o) → ((a : A) (t : Tape) → AreOfMachine t → AreOfMachine (tape_of (go a t))) → AreOfMachine (tape_of (then_do o go))
  then_tape (Goes a t) go quiet goes = goes a t quiet
  then_tape (Stops why t) go quiet goes = quiet

  then_stays : {A : Type 0} (o : Outcome A) (go : A → Tape → Outcome After) → AreOfMachine (tape_of o) → ((a : A) (t : Tape) → AreOfMachine t → Stays code (go a t)) → Stays code (then_do o go)
  then_stays (Goes a t) go quiet goes = goes a t quiet
  then_stays (Stops why t) go quiet goes = quiet

  stores_quiet : (address : ℕ) (parameters arguments : List ℕ) (line : ℕ) (tape : Tape) → AreOfMachine tape → AreOfMachine (tape_of (stores w address parameters arguments line tape))
  stores_quiet address [] arguments line tape quiet = quiet
  stores_quiet address (width ∷ parameters) [] line tape quiet = quiet
  stores_quiet address (width ∷ parameters) (a ∷ arguments) line tape quiet =
      then_tape (ask w (Store (address % 2 ^ 32) (big_endian_bytes width a)) line tape) (λ r t. stores w (address + 8) parameters arguments line t)
      (asked (Store (address % 2 ^ 32) (big_endian_bytes width a)) line tape refl quiet) (λ r t q. stores_quiet (address + 8) parameters arguments line t q)

  entered_quiet : (f : Routine) (arguments : List ℕ) (line : ℕ) (tape : Tape) → AreOfMachine tape → AreOfMachine (tape_of (entered w f arguments line tape))
  entered_quiet f arguments line tape quiet =
      then_tape (ask w (Enter f.frame) line tape) (λ base t. then_do (stores w base f.parameters arguments line t) (λ r t'. Goes base t'))
      (asked (Enter f.frame) line tape refl quiet)
      (λ base t q. then_tape (stores w base f.parameters arguments line t) (λ r t'. Goes base t') (stores_quiet base f.parameters arguments line t q) (λ r t' q'. q'))

  -- ---- cells

  one_stays : (stack : List ℕ) (tape : Tape) (go : ℕ → List ℕ → Outcome After) → AreOfMachine tape → ((x : ℕ) (rest : List ℕ) → Stays code (go x rest)) → Stays code (on_one stack tape go)
  one_stays [] tape go quiet goes = quiet
  one_stays (x ∷ rest) tape go quiet goes = goes x rest

  two_stays : (stack : List ℕ) (tape : Tape) (go : ℕ → ℕ → List ℕ → Outcome After) → AreOfMachine tape → ((x y : ℕ) (rest : List ℕ) → Stays code (go x y rest)) → Stays code (on_two stack tape go)
  two_stays [] tape go quiet goes = quiet
  two_stays (y ∷ []) tape go quiet goes = quiet
  two_stays (y ∷ x ∷ rest) tape go quiet goes = goes x y rest

  cell_stays : (o : Option ℕ) (tape : Tape) (go : ℕ → Outcome After) → AreOfMachine tape → ((x : ℕ) → Stays code (go x)) → Stays code (on_cell o tape go)
  cell_stays None tape go quiet goes = quiet
  cell_stays (Some x) tape go quiet goes = goes x

  many_stays_by : (b : Bool) (tape : Tape) (o : Outcome After) → AreOfMachine tape → Stays code o → Stays code (if b then o else Goes (Ended Stuck) tape)
  many_stays_by true tape o quiet goes = goes
  many_stays_by false tape o quiet goes = quiet

  many_stays : (n : ℕ) (stack : List ℕ) (tape : Tape) (go : List ℕ → List ℕ → Outcome After) → AreOfMachine tape → ((arguments rest : List ℕ) → Stays code (go arguments rest)) → Stays code (on_many n stack tape go)
  many_stays n stack tape go quiet goes = many_stays_by (nat_le n (length stack)) tape (go (reverse (take n stack)) (drop n stack)) quiet (goes (reverse (take n stack)) (drop n stack))

  function_stays : (o : Option Routine) (tape : Tape) (go : Routine → Outcome After) → AreOfMachine tape → ((f : Routine) → o ≡ Some f → Stays code (go f)) → Stays code (on_function o tape go)
  function_stays None tape go quiet goes = quiet
  function_stays (Some f) tape go quiet goes = goes f refl

  -- ---- inside a function

  module _ (a : Activation) (callers : List Caller) (line place : ℕ) (here : IsQuietActivation code a) (others : AreQuietCallers code callers) where
    goes_next : (stack : List ℕ) (tape : Tape) → AreOfMachine tape → Stays code (next w code a callers line place stack tape)
    goes_next stack tape quiet = ((here, others), quiet)

    division_stays : (b : Bool) (o : Outcome After) (tape : Tape) → AreOfMachine tape → Stays code o → Stays code (if b then fault DivideByZero line tape else o)
    division_stays true o tape quiet stays = (refl, quiet)
    division_stays false o tape quiet stays = stays

    either_stays : (b : Bool) (o o' : Outcome After) → Stays code o → Stays code o' → Stays code (if b then o else o')
    either_stays true o o' stays stays' = stays
    either_stays false o o' stays stays' = stays'

    calling_stays : (k : ℕ) (f : Routine) (arguments rest : List ℕ) (tape : Tape) → IsReached code k → AreOfMachine tape → Stays code (calling w code a callers line place k f false arguments rest tape)
    calling_stays k f arguments rest tape reached quiet =
        then_stays (entered w f arguments line tape)
        (λ base t. Goes (On (At (record { function = k; base = base; is_task = false }) (record { activation = a; place = place + 1; stack = rest } ∷ callers) 0 [])) t)
        (entered_quiet f arguments line tape quiet) (λ base t q. ((record { reached = reached; no_task = refl }, (here, others)), q))

    leaving_stays : (c : Caller) (callers' : List Caller) (f : Routine) (cell : ℕ) (tape : Tape) → IsQuietActivation code c.activation → AreQuietCallers code callers' → AreOfMachine tape
        → (is_task : Bool) → is_task ≡ false → (made : ℕ) → Stays code (then_do (ask w (Leave a.base f.frame) line tape) (λ r t. then_do (task_returned w code a callers line place is_task t) (λ r' t'. Goes (On (At c.activation callers' c.place (made ∷ c.stack))) t')))
    leaving_stays c callers' f cell tape quiet_c quiet_callers quiet true no_task made = absurd (cc)
    leaving_stays c callers' f cell tape quiet_c quiet_callers quiet false no_task made =
        then_stays (ask w (Leave a.base f.frame) line tape) (λ r t. Goes (On (At c.activation callers' c.place (made ∷ c.stack))) t)
        (asked (Leave a.base f.frame) line tape refl quiet) (λ r t q. ((quiet_c, quiet_callers), q))

    returning_stays : (callers' : List Caller) (f : Routine) (x : ℕ) (tape : Tape) → AreQuietCallers code callers' → AreOfMachine tape → Stays code (returning w code a callers line place callers' f x tape)
    returning_stays [] f x tape quiet_callers quiet = quiet
    returning_stays (c ∷ callers') f x tape quiet_callers quiet = leaving_stays c callers' f x tape quiet_callers.0 quiet_callers.1 quiet a.is_task here.no_task (given_back a.is_task x)

    effect_stays : (op : Op) (stack : List ℕ) (tape : Tape) → IsQuiet code op → ((k : ℕ) → op ≡ ops.Call k → IsReached code k) → AreOfMachine tape → Stays code (effect w code a callers line place op stack tape)
    effect_stays (ops.Push v) stack tape is calls quiet = ((here, others), quiet)
    effect_stays ops.Drop stack tape is calls quiet = one_stays stack tape _ quiet (λ x rest. ((here, others), quiet))
    effect_stays (ops.Dup n) stack tape is calls quiet = cell_stays (slice_get stack n) tape _ quiet (λ x. ((here, others), quiet))
    effect_stays ops.Swap stack tape is calls quiet = two_stays stack tape _ quiet (λ x y rest. ((here, others), quiet))
    effect_stays (ops.Frame k) stack tape is calls quiet = ((here, others), quiet)
    effect_stays ops.Load32u stack tape is calls quiet =
        one_stays stack tape _ quiet (λ address rest. then_stays (ask w (Load (address % 2 ^ 32) 4) line tape) _ (asked (Load (address % 2 ^ 32) 4) line tape refl quiet) (λ r t q. ((here, others), q)))
    effect_stays ops.Load32s stack tape is calls quiet =
        one_stays stack tape _ quiet (λ address rest. then_stays (ask w (Load (address % 2 ^ 32) 4) line tape) _ (asked (Load (address % 2 ^ 32) 4) line tape refl quiet) (λ r t q. ((here, others), q)))
    effect_stays ops.Store32 stack tape is calls quiet =
        two_stays stack tape _ quiet (λ address v rest. then_stays (ask w (Store (address % 2 ^ 32) (big_endian_bytes 4 v)) line tape) _ (asked (Store (address % 2 ^ 32) (big_endian_bytes 4 v)) line tape refl quiet) (λ r t q. ((here, others), q)))
    effect_stays ops.Add stack tape is calls quiet = two_stays stack tape _ quiet (λ x y rest. ((here, others), quiet))
    effect_stays ops.Sub stack tape is calls quiet = two_stays stack tape _ quiet (λ x y rest. ((here, others), quiet))
    effect_stays ops.Mul stack tape is calls quiet = two_stays stack tape _ quiet (λ x y rest. ((here, others), quiet))
    effect_stays ops.And stack tape is calls quiet = two_stays stack tape _ quiet (λ x y rest. ((here, others), quiet))
    effect_stays ops.Or stack tape is calls quiet = two_stays stack tape _ quiet (λ x y rest. ((here, others), quiet))
    effect_stays ops.Xor stack tape is calls quiet = two_stays stack tape _ quiet (λ x y rest. ((here, others), quiet))
    effect_stays ops.Neg stack tape is calls quiet = one_stays stack tape _ quiet (λ x rest. ((here, others), quiet))
    effect_stays ops.Not stack tape is calls quiet = one_stays stack tape _ quiet (λ x rest. ((here, others), quiet))
    effect_stays ops.Divs stack tape is calls quiet = two_stays stack tape _ quiet (λ x y rest. division_stays (nat_eq y 0) _ tape quiet ((here, others), quiet))
    effect_stays ops.Rems stack tape is calls quiet = two_stays stack tape _ quiet (λ x y rest. division_stays (nat_eq y 0) _ tape quiet ((here, others), quiet))
    effect_stays (ops.Shl n) stack tape is calls quiet = two_stays stack tape _ quiet (λ x y rest. ((here, others), quiet))
    effect_stays (ops.Shrs n) stack tape is calls quiet = two_stays stack tape _ quiet (λ x y rest. ((here, others), quiet))
    effect_stays ops.Eq stack tape is calls quiet = two_stays stack tape _ quiet (λ x y rest. ((here, others), quiet))
    effect_stays ops.Ne stack tape is calls quiet = two_stays stack tape _ quiet (λ x y rest. ((here, others), quiet))
    effect_stays ops.Lts stack tape is calls quiet = two_stays stack tape _ quiet (λ x y rest. ((here, others), quiet))
    effect_stays (ops.Conv t) stack tape is calls quiet = one_stays stack tape _ quiet (λ x rest. ((here, others), quiet))
    effect_stays (ops.Jump to) stack tape is calls quiet = ((here, others), quiet)
    effect_stays (ops.Jumpz to) stack tape is calls quiet = one_stays stack tape _ quiet (λ x rest. either_stays (nat_eq x 0) _ _ ((here, others), quiet) ((here, others), quiet))
    effect_stays (ops.Call k) stack tape is calls quiet =
        function_stays (slice_get code.functions k) tape _ quiet (λ f at. many_stays (length f.parameters) stack tape _ quiet (λ arguments rest. calling_stays k f arguments rest tape (calls k refl) quiet))
    effect_stays (ops.Submit k) stack tape is calls quiet = absurd is
    effect_stays (ops.Mark kind) stack tape is calls quiet = absurd is
    effect_stays (ops.Out c) stack tape is calls quiet = absurd is
    effect_stays ops.Turn stack tape is calls quiet = then_stays (ask w Turn line tape) _ (asked Turn line tape refl quiet) (λ r t q. ((here, others), q))
    effect_stays ops.Ret stack tape is calls quiet =
        one_stays stack tape _ quiet (λ x rest. function_stays (slice_get code.functions a.function) tape _ quiet (λ f at. returning_stays callers f x tape others quiet))

  -- ---- steps

  onward : (o : Outcome After) (further : State → Tape → Outcome Halt) → Stays code o → ((s : State) (t : Tape) → IsQuietState code s → AreOfMachine t → AreOfMachine (tape_of (further s t))) → AreOfMachine (tape_of (then_do o (go_on further)))
  onward (Goes (Ended halt) t) further stays rest = stays
  onward (Goes (On s) t) further stays rest = rest s t stays.0 stays.1
  onward (Stops why t) further stays rest = stays

  module _ (plans : List (List Spot)) (sound : IsSound code plans) where
    instr_stays : (f : Routine) (a : Activation) (callers : List Caller) (place : ℕ) (stack : List ℕ) (tape : Tape) → slice_get code.functions a.function ≡ Some f → IsQuietActivation code a → AreQuietCallers code callers → AreOfMachine tape
        → (o : Option Instr) → slice_get f.body place ≡ o → Stays code (at_instr w code o a callers place stack tape)
    instr_stays f a callers place stack tape at here others quiet None there = quiet
    instr_stays f a callers place stack tape at here others quiet (Some i) there =
        effect_stays a callers i.line place here others i.op stack tape (all_at (λ (i : Instr). IsQuiet code i.op) f.body place i (sound.quiet a.function f here.reached at) there)
        (λ k is. Called a.function f i here.reached at (contains_at f.body place i there) is) quiet

    step_stays : (s : State) (tape : Tape) → IsQuietState code s → AreOfMachine tape → Stays code (step w code s tape)
    step_stays (Begin k arguments line) tape reached quiet =
        function_stays (slice_get code.functions k) tape _ quiet
        (λ f at. then_stays (entered w f arguments line tape) _ (entered_quiet f arguments line tape quiet) (λ base t q. ((record { reached = reached; no_task = refl }, tt), q)))
    step_stays (At a callers place stack) tape here quiet =
        function_stays (slice_get code.functions a.function) tape _ quiet (λ f at. instr_stays f a callers place stack tape at here.0 here.1 quiet (slice_get f.body place) refl)

    -- so many steps ask for nothing else
    pub exec_quiet : (n : ℕ) (s : State) (tape : Tape) → IsQuietState code s → AreOfMachine tape → AreOfMachine (tape_of (exec w code n s tape))
    exec_quiet zero s tape state quiet = quiet
    exec_quiet (suc n) s tape state quiet = onward (step w code s tape) (exec w code n) (step_stays s tape state quiet) (λ s' t state' quiet'. exec_quiet n s' t state' quiet')
