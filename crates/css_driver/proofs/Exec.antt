-- Runs of the machine: once a run has ended more steps change nothing, and a tape only grows, by no mark and no call of a task where
-- the code has none.
use Rattle.std.proofs.Common.{◌≡◌, ℕ, zero, suc, ◌+◌, ◌%◌, ◌^◌, List, [], ◌∷◌, ◌++◌, length, drop, take, reverse, Bool, true, false, if◌then◌else◌, refl, sym, ap, ◌∙◌, subst, append_assoc, add-zero, add-suc}
use Rattle.std.specs.Prelude.{Option, Some, None, slice_get, nat_eq, nat_le, All}
use Rattle.std.specs.List.{AllByRecursion}
use Rattle.std.proofs.lemmas.List.{append-nil}
use Rattle.std.proofs.lemmas.List.Elements.{recursion_from_All}
use Rattle.css_semantics.specs.Dialogue.{Action, Enter, Turn, Leave, Load, Store, Out, Calls, Returns, Start, Finish, Barrier, Wait, Fault, End, Item, Tape, Reply, Says, Fails, Refuses, World, Outcome, Goes, Stops, Tired, tape_of, then_do, replied, ask, item, output, written_by}
use Rattle.css_semantics.specs.Memory.{big_endian_bytes}
use Rattle.css_semantics.specs.Tasks.{is_started}
use Rattle.css_vm.specs.declared.code.Instr.{Instr}
use Rattle.css_vm.specs.declared.code.Op.{Op}
use Rattle.css_vm.specs.declared.code.Op.TheVariants as ops
use Rattle.css_vm.specs.declared.code.Conversion.TheVariants as conversions
use Rattle.css_vm.specs.Cells.{int_of}
use Rattle.css_vm.specs.Code.{Routine, Code}
use Rattle.css_vm.specs.Machine.{State, Begin, At, Activation, Caller, Halt, Finished, Stuck, After, Ended, On, on_one, on_two, on_cell, on_many, on_function, stores, entered, next, one, two, division, calling, task_returned, returning, effect, at_instr, beginning, step, go_on, exec, finished, main_ends}
use Rattle.css_small_code.specs.Marks.{IsNoMark, HasNoMarks}

-- an outcome that isn't for want of fuel
pub record IsSettled {A : Type 0} (o : Outcome A) : Type 0 where
  pub never : (t : Tape) → o ≡ Stops Tired t → ⊥

after-suc : (w : World) (code : Code) (n : ℕ) (a : Outcome After) (o : Outcome Halt)
    → ((s : State) (t : Tape) → exec w code n s t ≡ o → exec w code (suc n) s t ≡ o)
    → then_do a (go_on (exec w code n)) ≡ o → then_do a (go_on (exec w code (suc n))) ≡ o
after-suc w code n (Goes (Ended halt) t) o more e = e
after-suc w code n (Goes (On s) t) o more e = more s t e
after-suc w code n (Stops why t) o more e = e

exec-suc : (w : World) (code : Code) (o : Outcome Halt) → IsSettled o → (n : ℕ) (s : State) (t : Tape) → exec w code n s t ≡ o → exec w code (suc n) s t ≡ o
exec-suc w code o settled zero s t e = absurd (settled.never t (sym e))
exec-suc w code o settled (suc n) s t e = after-suc w code n (step w code s t) o (λ s' t' e'. exec-suc w code o settled n s' t' e') e

exec-more : (w : World) (code : Code) (o : Outcome Halt) → IsSettled o → (n m : ℕ) (s : State) (t : Tape) → exec w code n s t ≡ o → exec w code (n + m) s t ≡ o
exec-more w code o settled n zero s t e = rw (add-zero n) e
exec-more w code o settled n (suc m) s t e = rw (add-suc n m) (exec-suc w code o settled (n + m) s t (exec-more w code o settled n m s t e))

-- what is settled behind an outcome has a settled outcome before it
settled_before : {A B : Type 0} (q : Outcome A) (go : A → Tape → Outcome B) (o : Outcome B) → IsSettled o → then_do q go ≡ o → IsSettled q
settled_before q go o settled e = record { never = λ t same. settled.never t (sym e ∙ ap (λ x. then_do x go) same) }

-- a run that has ended ends alike with more steps
pub target-more : {B : Type 0} (w : World) (code : Code) (go : Halt → Tape → Outcome B) (o : Outcome B) → IsSettled o → (n m : ℕ) (s : State) (t : Tape)
    → then_do (exec w code n s t) go ≡ o → then_do (exec w code (n + m) s t) go ≡ o
target-more w code go o settled n m s t e =
    ap (λ x. then_do x go) (exec-more w code (exec w code n s t) (settled_before (exec w code n s t) go o settled e) n m s t refl) ∙ e

-- a tape with newer items in front, each with a property
pub record Extends (P : Action → Type 0) (before after : Tape) : Type 0 where
  pub news : List Item
  pub is : after ≡ news ++ before
  pub all : AllByRecursion (λ (i : Item). P i.action) news

all_both : (P : Action → Type 0) (newer news : List Item) → AllByRecursion (λ (i : Item). P i.action) newer → AllByRecursion (λ (i : Item). P i.action) news → AllByRecursion (λ (i : Item). P i.action) (newer ++ news)
all_both P [] news h others = others
all_both P (i ∷ newer) news h others = (h.0, all_both P newer news h.1 others)

module _ {P : Action → Type 0} where
  pub extends_same : (t : Tape) → Extends P t t
  extends_same t = record { news = []; is = refl; all = tt }

  pub extends_more : {before between after : Tape} → Extends P before between → Extends P between after → Extends P before after
  extends_more {before} {between} {after} one two =
      record {
        news = two.news ++ one.news;
        is = two.is ∙ ap (λ t. two.news ++ t) one.is ∙ sym (append_assoc two.news one.news before);
        all = all_both P two.news one.news two.all one.all;
      }

  pub extends_item : (i : Item) (t : Tape) → P i.action → Extends P t (i ∷ t)
  extends_item i t h = record { news = i ∷ []; is = refl; all = (h, tt) }

  -- a reply does the item, or the item and a fault, or nothing
  replied-extends : ((kind : _) → P (Fault kind)) → (r : Reply) (i : Item) (t : Tape) → P i.action → Extends P t (tape_of (replied r i t))
  replied-extends faults (Says value) i t h = extends_item i t h
  replied-extends faults Fails i t h = extends_more (extends_item i t h) (extends_item _ (i ∷ t) (faults _))
  replied-extends faults (Refuses rule) i t h = extends_same t

  then-extends : {A B : Type 0} (t : Tape) (o : Outcome A) (go : A → Tape → Outcome B) → Extends P t (tape_of o)
      → ((a : A) (t' : Tape) → Extends P t' (tape_of (go a t'))) → Extends P t (tape_of (then_do o go))
  then-extends t (Goes value t') go first later = extends_more first (later value t')
  then-extends t (Stops why t') go first later = first

  on_one-extends : (stack : List ℕ) (t : Tape) (go : ℕ → List ℕ → Outcome After) → ((a : ℕ) (rest : List ℕ) → Extends P t (tape_of (go a rest))) → Extends P t (tape_of (on_one stack t go))
  on_one-extends [] t go later = extends_same t
  on_one-extends (a ∷ rest) t go later = later a rest

  on_two-extends : (stack : List ℕ) (t : Tape) (go : ℕ → ℕ → List ℕ → Outcome After) → ((a b : ℕ) (rest : List ℕ) → Extends P t (tape_of (go a b rest))) → Extends P t (tape_of (on_two stack t go))
  on_two-extends [] t go later = extends_same t
  on_two-extends (b ∷ []) t go later = extends_same t
  on_two-extends (b ∷ a ∷ rest) t go later = later a b rest

  on_cell-extends : (cell : Option ℕ) (t : Tape) (go : ℕ → Outcome After) → ((a : ℕ) → Extends P t (tape_of (go a))) → Extends P t (tape_of (on_cell cell t go))
  on_cell-extends None t go later = extends_same t
  on_cell-extends (Some a) t go later = later a

  if-extends : {A : Type 0} (b : Bool) (o q : Outcome A) (t : Tape) → Extends P t (tape_of o) → Extends P t (tape_of q) → Extends P t (tape_of (if b then o else q))
  if-extends true o q t this that = this
  if-extends false o q t this that = that

  on_function-extends : (f : Option Routine) (t : Tape) (go : Routine → Outcome After) → ((r : Routine) → f ≡ Some r → Extends P t (tape_of (go r))) → Extends P t (tape_of (on_function f t go))
  on_function-extends None t go later = extends_same t
  on_function-extends (Some r) t go later = later r refl

-- what is no mark and no call of a task
abbrev pub IsUnmarked : Action → Type 0
IsUnmarked (Calls call) = ⊥
IsUnmarked Start = ⊥
IsUnmarked Finish = ⊥
IsUnmarked Barrier = ⊥
IsUnmarked action = Unit {0}

abbrev Grows : Tape → Tape → Type 0
Grows before after = Extends IsUnmarked before after

ask-extends : (w : World) (a : Action) (line : ℕ) (t : Tape) → IsUnmarked a → Grows t (tape_of (ask w a line t))
ask-extends w a line t h = replied-extends (λ kind. tt) (w t (item a line)) (item a line) t h

-- asks one thing, and then ends a step
asks-extends : (w : World) (a : Action) (line : ℕ) (t : Tape) (go : ℕ → After) → IsUnmarked a → Grows t (tape_of (then_do (ask w a line t) (λ r t'. Goes (go r) t')))
asks-extends w a line t go h = then-extends t (ask w a line t) (λ r t'. Goes (go r) t') (ask-extends w a line t h) (λ r t'. extends_same t')

stores-extends : (w : World) (address : ℕ) (parameters arguments : List ℕ) (line : ℕ) (t : Tape) → Grows t (tape_of (stores w address parameters arguments line t))
stores-extends w address [] arguments line t = extends_same t
stores-extends w address (width ∷ parameters) [] line t = extends_same t
stores-extends w address (width ∷ parameters) (a ∷ arguments) line t =
    then-extends t (ask w (Store (address % 2 ^ 32) (big_endian_bytes width a)) line t) _ (ask-extends w (Store (address % 2 ^ 32) (big_endian_bytes width a)) line t tt)
    (λ r t'. stores-extends w (address + 8) parameters arguments line t')

entered-extends : (w : World) (f : Routine) (arguments : List ℕ) (line : ℕ) (t : Tape) → Grows t (tape_of (entered w f arguments line t))
entered-extends w f arguments line t =
    then-extends t (ask w (Enter f.frame) line t) _ (ask-extends w (Enter f.frame) line t tt)
    (λ base t'. then-extends t' (stores w base f.parameters arguments line t') _ (stores-extends w base f.parameters arguments line t') (λ r t''. extends_same t''))

module _ (w : World) (code : Code) (a : Activation) (callers : List Caller) (line place : ℕ) where
  one-extends : (g : ℕ → ℕ) (stack : List ℕ) (t : Tape) → Grows t (tape_of (one w code a callers line place g stack t))
  one-extends g stack t = on_one-extends stack t _ (λ x rest. extends_same t)

  two-extends : (g : ℕ → ℕ → ℕ) (stack : List ℕ) (t : Tape) → Grows t (tape_of (two w code a callers line place g stack t))
  two-extends g stack t = on_two-extends stack t _ (λ x y rest. extends_same t)

  division-extends : (g : ℕ → ℕ → ℕ) (stack : List ℕ) (t : Tape) → Grows t (tape_of (division w code a callers line place g stack t))
  division-extends g stack t = on_two-extends stack t _ (λ x y rest. if-extends (nat_eq y 0) _ _ t (extends_item _ t tt) (extends_same t))

  calling-extends : (function : ℕ) (f : Routine) (is_task : Bool) (arguments rest : List ℕ) (t : Tape) → Grows t (tape_of (calling w code a callers line place function f is_task arguments rest t))
  calling-extends function f is_task arguments rest t =
      then-extends t (entered w f arguments line t) _ (entered-extends w f arguments line t) (λ base t'. extends_same t')

  many-extends : (function : ℕ) (f : Routine) (enough : Bool) (arguments rest : List ℕ) (t : Tape)
      → Grows t (tape_of (if enough then calling w code a callers line place function f false arguments rest t else Goes (Ended Stuck) t))
  many-extends function f true arguments rest t = calling-extends function f false arguments rest t
  many-extends function f false arguments rest t = extends_same t

  task_returned-extends : (is_task : Bool) (t : Tape) → Grows t (tape_of (task_returned w code a callers line place is_task t))
  task_returned-extends true t = ask-extends w Returns line t tt
  task_returned-extends false t = extends_same t

  returning-extends : (others : List Caller) (f : Routine) (cell : ℕ) (t : Tape) → Grows t (tape_of (returning w code a callers line place others f cell t))
  returning-extends [] f cell t = extends_same t
  returning-extends (c ∷ others) f cell t =
      then-extends t (ask w (Leave a.base f.frame) line t) _ (ask-extends w (Leave a.base f.frame) line t tt)
      (λ r t'. then-extends t' (task_returned w code a callers line place a.is_task t') _ (task_returned-extends a.is_task t') (λ r' t''. extends_same t''))

  effect-extends : (op : Op) (stack : List ℕ) (t : Tape) → IsNoMark op → Grows t (tape_of (effect w code a callers line place op stack t))
  effect-extends (ops.Push v) stack t h = extends_same t
  effect-extends ops.Drop stack t h = on_one-extends stack t _ (λ x rest. extends_same t)
  effect-extends (ops.Dup n) stack t h = on_cell-extends (slice_get stack n) t _ (λ x. extends_same t)
  effect-extends ops.Swap stack t h = on_two-extends stack t _ (λ x y rest. extends_same t)
  effect-extends (ops.Frame k) stack t h = extends_same t
  effect-extends ops.Load32u stack t h = on_one-extends stack t _ (λ x rest. asks-extends w (Load (x % 2 ^ 32) 4) line t _ tt)
  effect-extends ops.Load32s stack t h = on_one-extends stack t _ (λ x rest. asks-extends w (Load (x % 2 ^ 32) 4) line t _ tt)
  effect-extends ops.Store32 stack t h = on_two-extends stack t _ (λ x v rest. asks-extends w (Store (x % 2 ^ 32) (big_endian_bytes 4 v)) line t _ tt)
  effect-extends ops.Add stack t h = two-extends _ stack t
  effect-extends ops.Sub stack t h = two-extends _ stack t
  effect-extends ops.Mul stack t h = two-extends _ stack t
  effect-extends ops.And stack t h = two-extends _ stack t
  effect-extends ops.Or stack t h = two-extends _ stack t
  effect-extends ops.Xor stack t h = two-extends _ stack t
  effect-extends ops.Neg stack t h = one-extends _ stack t
  effect-extends ops.Not stack t h = one-extends _ stack t
  effect-extends ops.Divs stack t h = division-extends _ stack t
  effect-extends ops.Rems stack t h = division-extends _ stack t
  effect-extends (ops.Shl n) stack t h = two-extends _ stack t
  effect-extends (ops.Shrs n) stack t h = two-extends _ stack t
  effect-extends ops.Eq stack t h = two-extends _ stack t
  effect-extends ops.Ne stack t h = two-extends _ stack t
  effect-extends ops.Lts stack t h = two-extends _ stack t
  effect-extends (ops.Conv n) stack t h = one-extends _ stack t
  effect-extends (ops.Jump to) stack t h = extends_same t
  effect-extends (ops.Jumpz to) stack t h = on_one-extends stack t _ (λ x rest. if-extends (nat_eq x 0) _ _ t (extends_same t) (extends_same t))
  effect-extends (ops.Call k) stack t h =
      on_function-extends (slice_get code.functions k) t _ (λ f is. many-extends k f (nat_le (length f.parameters) (length stack)) (reverse (take (length f.parameters) stack)) (drop (length f.parameters) stack) t)
  effect-extends (ops.Submit k) stack t h = absurd h
  effect-extends (ops.Mark kind) stack t h = absurd h
  effect-extends ops.Turn stack t h = asks-extends w Turn line t _ tt
  effect-extends (ops.Out conversions.Char) stack t h = on_one-extends stack t _ (λ x rest. asks-extends w (Out (x % 256 ∷ [])) line t _ tt)
  effect-extends ops.Ret stack t h =
      on_one-extends stack t _ (λ x rest. on_function-extends (slice_get code.functions a.function) t _ (λ f is. returning-extends callers f x t))

-- what all elements have, one has
all_at : {X : Type 0} (P : X → Type 0) (xs : List X) (k : ℕ) (x : X) → AllByRecursion P xs → slice_get xs k ≡ Some x → P x
all_at P [] k x h is = absurd (cc)
all_at P (y ∷ xs) zero x h is = (let e : y ≡ x = cc in subst P e h.0)
all_at P (y ∷ xs) (suc k) x h is = all_at P xs k x h.1 is

module _ (w : World) (code : Code) (plain : HasNoMarks code) where
  at_instr-extends : (i : Option Instr) (a : Activation) (callers : List Caller) (place : ℕ) (stack : List ℕ) (t : Tape)
      → ((j : Instr) → i ≡ Some j → IsNoMark j.op) → Grows t (tape_of (at_instr w code i a callers place stack t))
  at_instr-extends None a callers place stack t h = extends_same t
  at_instr-extends (Some i) a callers place stack t h = effect-extends w code a callers i.line place i.op stack t (h i refl)

  -- an instruction of the code is plain
  plain_at : (f : Routine) (k place : ℕ) (i : Instr) → slice_get code.functions k ≡ Some f → slice_get f.body place ≡ Some i → IsNoMark i.op
  plain_at f k place i is here =
      all_at (λ (j : Instr). IsNoMark j.op) f.body place i
      (recursion_from_All _ f.body (all_at (λ (r : Routine). All (λ (j : Instr). IsNoMark j.op) r.body) code.functions k f (recursion_from_All _ code.functions plain) is)) here

  step-extends : (s : State) (t : Tape) → Grows t (tape_of (step w code s t))
  step-extends (Begin k arguments line) t =
      on_function-extends (slice_get code.functions k) t _
      (λ f is. then-extends t (entered w f arguments line t) _ (entered-extends w f arguments line t) (λ base t'. extends_same t'))
  step-extends (At a callers place stack) t =
      on_function-extends (slice_get code.functions a.function) t _
      (λ f is. at_instr-extends (slice_get f.body place) a callers place stack t (λ i here. plain_at f a.function place i is here))

  go_on-extends : (next : State → Tape → Outcome Halt) → ((s : State) (t : Tape) → Grows t (tape_of (next s t)))
      → (a : After) (t : Tape) → Grows t (tape_of (go_on next a t))
  go_on-extends next later (Ended halt) t = extends_same t
  go_on-extends next later (On s) t = later s t

  -- a run's tape grows
  pub exec-extends : (n : ℕ) (s : State) (t : Tape) → Extends IsUnmarked t (tape_of (exec w code n s t))
  exec-extends zero s t = extends_same t
  exec-extends (suc n) s t =
      then-extends t (step w code s t) (go_on (exec w code n)) (step-extends s t)
      (go_on-extends (exec w code n) (λ s' t'. exec-extends n s' t'))

-- ---- main's end

-- any action
abbrev pub IsAny : Action → Type 0
IsAny action = Unit {0}

weaker : (P : Action → Type 0) (news : List Item) → AllByRecursion (λ (i : Item). IsAny i.action) news
weaker P [] = tt
weaker P (i ∷ news) = (tt, weaker P news)

any : {P : Action → Type 0} {before after : Tape} → Extends P before after → Extends IsAny before after
any {P} e = record { news = e.news; is = e.is; all = weaker P e.news }

ask-any : (w : World) (a : Action) (line : ℕ) (t : Tape) → Extends IsAny t (tape_of (ask w a line t))
ask-any w a line t = replied-extends (λ kind. tt) (w t (item a line)) (item a line) t tt

main_ends-extends : (w : World) (frame : ℕ) (halt : Halt) (t : Tape) → Extends IsAny t (tape_of (main_ends w frame halt t))
main_ends-extends w frame (Finished cell base line) t =
    then-extends t (finished w line t) _ (if-extends (is_started t) _ _ t (ask-any w Finish line t) (extends_same t))
    (λ r t'. then-extends t' (ask w (Leave base frame) line t') _ (ask-any w (Leave base frame) line t')
    (λ r' t''. then-extends t'' (ask w (End (int_of cell)) line t'') _ (ask-any w (End (int_of cell)) line t'') (λ r'' t'''. extends_same t''')))
main_ends-extends w frame Stuck t = extends_same t

-- a whole run's tape grows
pub target-extends : (w : World) (code : Code) → HasNoMarks code → (frame n : ℕ) (s : State) (t : Tape) → Extends IsAny t (tape_of (then_do (exec w code n s t) (main_ends w frame)))
target-extends w code plain frame n s t =
    then-extends t (exec w code n s t) (main_ends w frame) (any (exec-extends w code plain n s t)) (λ halt t'. main_ends-extends w frame halt t')

-- what a tape writes that grew
pub output-append : (news before : Tape) → output (news ++ before) ≡ output before ++ output news
output-append [] before = sym (append-nil (output before))
output-append (item ∷ news) before =
    ap (λ bytes. bytes ++ written_by item.action) (output-append news before) ∙ append_assoc (output before) (output news) (written_by item.action)

pub output-extends : {P : Action → Type 0} {before after : Tape} (e : Extends P before after) → output after ≡ output before ++ output e.news
output-extends {P} {before} {after} e = ap output e.is ∙ output-append e.news before
