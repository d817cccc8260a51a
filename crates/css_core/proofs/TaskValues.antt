-- In a program whose types fit, a call of a task gives 0.
use Rattle.std.proofs.Common.{◌≡◌, ℕ, zero, suc, ℤ, pos, false, Some, List, map, refl, sym, subst, IfSome}
use Rattle.std.specs.Prelude.{slice_get}
use Rattle.css_semantics.specs.Dialogue.{Enter, Returns, World, Tape, Goes, Plain, ask_in}
use Rattle.css_core.specs.Core.{Expression, Number, Task, Function, Program}
use Rattle.css_semantics.specs.Tasks.{makes_tasks}
use Rattle.css_core.specs.Expressions.{Calling}
use Rattle.css_core.specs.Statements.{Flow, Next, Broke, Continued, Returned, meanings, value_in}
use Rattle.css_core.specs.Functions.{Exit, exit_by, stores, applied, left, plain_call, pointers, task_body, called_as, called, calls}
use Rattle.css_core.specs.Typed.{Signature, signature, IsTaskOf, IsTypedFunction, IsTypedProgram}
use Rattle.css_core.proofs.Leaving.{Comes, gives_then, gives_after, gives_if, all_void_leave, LeftBy, left_meanings}
use Rattle.css_core.proofs.InRange.{typed_at, spent_gives}

abbrev IsZero : ℤ → Type 0
IsZero v = v ≡ pos 0

abbrev pub EndsWithZero : Exit → Type 0
EndsWithZero exit = exit.value ≡ pos 0

module _ (w : World) (signatures : List Signature) (call : Calling) (fuel : ℕ) (f : Function) (task : Task) (typed : IsTypedFunction signatures f) (is : IsTaskOf signatures f (Some task)) where
  zero_in : (base line : ℕ) (e : Expression) (t : Tape) → e ≡ Number (pos 0) → Comes IsZero (value_in w call base fuel line e t)
  zero_in base line e t h = subst (λ e. Comes IsZero (value_in w call base fuel line e t)) (sym h) refl

  zero_body : (base : ℕ) (t : Tape) → Comes (LeftBy w IsZero false) (meanings w call base fuel f.body t)
  zero_body base t =
      left_meanings w IsZero (λ e. e ≡ Number (pos 0)) call base fuel (zero_in base) false f.body (all_void_leave signatures f.result false f.body typed.body is.3) t

  zero_exit : (base end : ℕ) (flow : Flow) → LeftBy w IsZero false flow → EndsWithZero (exit_by base end flow)
  zero_exit base end Next h = refl
  zero_exit base end Broke h = refl
  zero_exit base end Continued h = refl
  zero_exit base end (Returned v line) h = h

  pub zero_applied : (values : List ℤ) (line : ℕ) (t : Tape) → Comes EndsWithZero (applied w call fuel f values line t)
  zero_applied values line t =
      gives_after EndsWithZero (ask_in w Plain (Enter f.frame) line t) _ (λ base u.
      gives_after EndsWithZero (stores w base f.parameters values line u) _ (λ r u'.
      gives_then (LeftBy w IsZero false) EndsWithZero (meanings w call base fuel f.body u') _ (zero_body base u') (λ flow u'' h. zero_exit base f.end flow h)))

  zero_left : (exit : Exit) (t : Tape) → EndsWithZero exit → Comes IsZero (left w f.frame exit t)
  zero_left exit t h = gives_after IsZero (ask_in w Plain _ exit.line t) _ (λ r u. h)

  zero_plain_call : (values : List ℤ) (line : ℕ) (t : Tape) → Comes IsZero (plain_call w call fuel f values line t)
  zero_plain_call values line t = gives_then EndsWithZero IsZero (applied w call fuel f values line t) (left w f.frame) (zero_applied values line t) zero_left

  zero_task_body : (values : List ℤ) (line reply : ℕ) (t : Tape) → Comes IsZero (task_body w call fuel f values line reply t)
  zero_task_body values line zero t = gives_after IsZero (ask_in w Plain Returns line t) _ (λ r u. refl)
  zero_task_body values line (suc reply) t =
      gives_then EndsWithZero IsZero (applied w call fuel f values line t) _ (zero_applied values line t) (λ exit u h.
      gives_then IsZero IsZero (left w f.frame exit u) _ (zero_left exit u h) (λ v u' h'.
      gives_after IsZero (ask_in w Plain Returns exit.line u') _ (λ r u''. h')))

  zero_called_as : (number : ℕ) (values : List ℤ) (base line : ℕ) (t : Tape) → Comes IsZero (called_as w call fuel number f (Some task) values base line t)
  zero_called_as number values base line t =
      gives_if IsZero (makes_tasks t) _ _
      (gives_after IsZero (pointers w values line task.parts values t) _ (λ arguments u. gives_after IsZero (ask_in w Plain _ line u) _ (λ reply u'. zero_task_body values line reply u')))
      (zero_plain_call values line t)

module _ (w : World) (p : Program) (typed : IsTypedProgram p) where
  zero_calls : (fuel number : ℕ) (f : Function) (task : Task) → slice_get p.functions number ≡ Some f → f.task ≡ Some task → (values : List ℤ) (base line : ℕ) (t : Tape) → Comes IsZero (calls w p.functions fuel number values base line t)
  zero_calls zero number f task e is values base line t = spent_gives w IsZero (slice_get p.functions number) values line t
  zero_calls (suc fuel) number f task e is values base line t =
      let signatures = map signature p.functions in
      let fits = subst (λ o. IfSome o (IsTypedFunction signatures)) e (typed_at signatures p.functions typed.functions number) in
      subst (λ o. Comes IsZero (called w (calls w p.functions fuel) fuel number o values base line t)) (sym e)
      (subst (λ o. Comes IsZero (called_as w (calls w p.functions fuel) fuel number f o values base line t)) (sym is)
      (zero_called_as w signatures (calls w p.functions fuel) fuel f task fits (subst (IsTaskOf signatures f) is fits.task) number values base line t))

  pub task_gives_nothing : (fuel number : ℕ) (f : Function) (task : Task) (values : List ℤ) (base line : ℕ) (v : ℤ) (t behind : Tape) → slice_get p.functions number ≡ Some f → f.task ≡ Some task
      → calls w p.functions fuel number values base line t ≡ Goes v behind → v ≡ pos 0
  task_gives_nothing fuel number f task values base line v t behind e is gone = subst (Comes IsZero) gone (zero_calls fuel number f task e is values base line t)
