-- Conditions mean their pieces, and all that is owed of expressions.
use Rattle.std.proofs.Common.{◌≡◌, ℕ, ℤ, pos, Bool, true, false, if◌then◌else◌, List, [], ◌∷◌, ◌++◌, map, Some, IsTrue, refl, sym, ap, ◌∙◌, subst, IfSome}
use Rattle.std.specs.Prelude.{slice_get, All}
use Rattle.std.proofs.lemmas.List.{append_assoc}
use Rattle.css_base.specs.declared.int_type.IntType.{IntType}
use Rattle.css_base.specs.declared.int_type.IntType.TheVariants.{UInt}
use Rattle.css_num.specs.Types.{IsInRange}
use Rattle.css_num.specs.Operators.{truth_value}
use Rattle.css_semantics.specs.Dialogue.{World, Tape, Outcome, Goes, Stops, then_do, Mode, Plain, Waiting}
use Rattle.css_core.specs.Core.{Expression, Number, And, Task, Function}
use Rattle.css_core.specs.Quiet.{is_quiet}
use Rattle.css_core.specs.Expressions.{Calling, calls_nothing, argument_in, is_true, value_of}
use Rattle.css_core.specs.Typed.{Signature, signature, HasType, IsTyped, ArePartsOf, IsTaskOf, IsTypedFunction}
use Rattle.css_core.proofs.Leaving.{Comes}
use Rattle.css_core.proofs.InRange.{CallsFit, typed_at, zero_in_range}
use Rattle.css_isa.specs.Cells.{cell_of}
use Rattle.css_blocks.specs.declared.part.Way.{Way}
use Rattle.css_blocks.specs.Pieces.{Piece, Skip, Exit, row}
use Rattle.css_blocks.specs.Meaning.{Exits, Falls, Jumps, Returns, Sticks, on_fall, Calls, means}
use Rattle.css_blocks.proofs.Equations.{then_assoc, then_same, if_then}
use Rattle.css_gen_expr.specs.declared.aim.Aim.TheVariants.{Used, Tested, Unused}
use Rattle.css_gen_expr.specs.Expressions.{is_turned, sides, side, pieces_of}
use Rattle.css_gen_expr.specs.Tests as tests
use Rattle.css_gen_expr.specs.Calls as code
use Rattle.css_gen_expr.specs.Calls.{Agrees}
use Rattle.css_gen_expr.specs.Meaning.{GivesInRange, MeanTheirPieces}
use Rattle.css_gen_expr.proofs.Tests.{flip, true_of-truth}
use Rattle.css_gen_expr.proofs.Choices
use Rattle.css_gen_expr.proofs.Memory
use Rattle.css_gen_expr.proofs.Whole
use Rattle.css_gen_expr.proofs.Calls as calling

calls_fit : (signatures : List Signature) (call : Calling) → GivesInRange signatures call → CallsFit signatures call
calls_fit signatures call gives f s values base line t found = by (call f values base line t) refl
  where
    by : (o : Outcome ℤ) → call f values base line t ≡ o → Comes (IsInRange s.result) o
    by (Goes v behind) e = gives f s values base line t behind v found e
    by (Stops why behind) e = tt

nothing_fits : (signatures : List Signature) → CallsFit signatures calls_nothing
nothing_fits signatures f s values base line t found = zero_in_range s.result

-- a task's parts are those of its parameters
pub parts_typed : (fs : List Function) → All (IsTypedFunction (map signature fs)) fs → (k : ℕ) (f : Function) (task : Task) → slice_get fs k ≡ Some f → f.task ≡ Some task → ArePartsOf (map signature fs) f.parameters f.parameters task.parts
parts_typed fs typed k f task found is =
    let f_typed = subst (λ o. IfSome o (IsTypedFunction (map signature fs))) found (typed_at (map signature fs) fs typed k) in
    (subst (IsTaskOf (map signature fs) f) is f_typed.task).1

module _ (w : World) (fs : List Function) (call : Calling) (calls : Calls) (n base : ℕ) (fit : CallsFit (map signature fs) call) (agrees : Agrees w fs call calls) (typed : All (IsTypedFunction (map signature fs)) fs) where
  abbrev signatures : List Signature
  signatures = map signature fs

  none : (mode : Mode) (k : ℕ) (t : IntType) → slice_get [] k ≡ Some t → IsInRange t (argument_in mode k)
  none mode k t e = cc

  abbrev value : ℕ → Expression → Tape → Outcome ℤ
  value line e tape = value_of w call base Plain line e tape

  abbrev runs : Piece → List ℕ → Tape → Outcome Exits
  runs p st t = means w calls n base p Plain st t

  every : (line : ℕ) (e : Expression) → Memory.Every w call calls n base line Plain signatures (code.called fs) [] e
  every line e = Whole.every w call calls n base line Plain signatures (code.called fs) [] fit (none Plain) (λ h. calling.calls_mean w fs call calls n base line agrees (parts_typed fs typed) fit (none Plain)) e

  holds_none : (line above : ℕ) (st : List ℕ) → Memory.Holds w call calls n base line Plain signatures (code.called fs) [] above st
  holds_none line above st k t e = cc

  -- a test, and what decides behind it
  decides : (line : ℕ) (e : Expression) → IsTyped signatures e → (rest : List Piece) (st : List ℕ) (go : Bool → Tape → Outcome Exits)
      → ((t : IntType) (v : ℤ) → IsInRange t v → (u : Tape) → runs (row rest) (cell_of v ∷ st) u ≡ go (flip (is_turned e) (is_true v)) u) → (tape : Tape)
      → runs (row (pieces_of signatures (code.called fs) Tested line 0 e ++ rest)) st tape ≡ then_do (value line e tape) (λ v u. go (is_true v) u)
  decides line e is rest st go same tape =
      Choices.decides w call calls n base line Plain signatures (code.called fs) [] fit (none Plain) e (every line e) 0 is.0 is.1 tt rest st go same (holds_none line 0 st) tape

  then_skip : (o : Outcome Exits) → then_do o (on_fall (means w calls n base Skip)) ≡ o
  then_skip (Goes (Falls mode stack) t) = refl
  then_skip (Goes (Jumps way mode stack) t) = refl
  then_skip (Goes (Returns cell line) t) = refl
  then_skip (Goes Sticks t) = refl
  then_skip (Stops why t) = refl

  if_same : {A : Type 0} (b : Bool) {x x' y y' : A} → x ≡ x' → y ≡ y' → (if b then x else y) ≡ (if b then x' else y')
  if_same true e e' = e
  if_same false e e' = e'

  chooses : (line : ℕ) (e : Expression) → IsTyped signatures e → (p q : Piece) (st : List ℕ) (t : Tape)
      → runs (row (code.choice fs line e p q)) st t ≡ then_do (value line e t) (λ v u. if is_true v then runs p st u else runs q st u)
  chooses line e is p q st t =
      decides line e is (sides (is_turned e) line p q ∷ []) st (λ c u. if c then runs p st u else runs q st u)
      (λ kind v r u. Choices.sides_mean w call calls n base line Plain signatures (code.called fs) [] (is_turned e) p q [] st kind v r u
      ∙ if_same (flip (is_turned e) (is_true v)) (then_skip (runs p st u)) (then_skip (runs q st u))) t

  -- ---- `&&` in front of what is done where it holds, or left where it doesn't

  abbrev Ifs : (Tape → Outcome Exits) → (Tape → Outcome Exits) → ℤ → Tape → Outcome Exits
  Ifs yes_go no_go v u = if is_true v then yes_go u else no_go u

  and_decides : (line : ℕ) (a b : Expression) (go other : Tape → Outcome Exits) (t : Tape)
      → then_do (value line a t) (λ x u. if is_true x then then_do (value line b u) (λ y u'. if is_true y then go u' else other u') else other u)
      ≡ then_do (value line (And a b) t) (λ v u. if is_true v then go u else other u)
  and_decides line a b go other t =
      then_same (value line a t) (λ x u. by (is_true x) u)
      ∙ sym (then_assoc (value line a t) (λ x u. if is_true x then then_do (value line b u) (λ y u'. Goes (truth_value (is_true y)) u') else Goes (pos 0) u) (λ v u. if is_true v then go u else other u))
    where
      by : (c : Bool) (u : Tape) → (if c then then_do (value line b u) (λ y u'. if is_true y then go u' else other u') else other u)
          ≡ then_do (if c then then_do (value line b u) (λ y u'. Goes (truth_value (is_true y)) u') else Goes (pos 0) u) (λ v u. if is_true v then go u else other u)
      by true u =
          then_same (value line b u) (λ y u'. ap (λ c. if c then go u' else other u') (sym (true_of-truth (is_true y))))
          ∙ sym (then_assoc (value line b u) (λ y u'. Goes (truth_value (is_true y)) u') (λ v u'. if is_true v then go u' else other u'))
      by false u = refl

  does_plainly : (line : ℕ) (e : Expression) → IsTyped signatures e → (p : Piece) (st : List ℕ) (t : Tape)
      → runs (row (pieces_of signatures (code.called fs) Tested line 0 e ++ side (is_turned e) line p ∷ [])) st t ≡ then_do (value line e t) (λ v u. if is_true v then runs p st u else Goes (Falls Plain st) u)
  does_plainly line e is p st t =
      decides line e is (side (is_turned e) line p ∷ []) st (λ c u. if c then runs p st u else Goes (Falls Plain st) u)
      (λ kind v r u. Choices.side_means w call calls n base line Plain signatures (code.called fs) [] (is_turned e) p [] st kind v r u
      ∙ if_same (flip (is_turned e) (is_true v)) (then_skip (runs p st u)) refl) t

  does : (line : ℕ) (e : Expression) → IsTyped signatures e → (p : Piece) (st : List ℕ) (t : Tape)
      → runs (row (code.when fs line e p)) st t ≡ then_do (value line e t) (λ v u. if is_true v then runs p st u else Goes (Falls Plain st) u)
  does line (And a b) is p st t =
      does line a is.1.1 (row (code.when fs line b p)) st t
      ∙ then_same (value line a t) (λ x u. if_same (is_true x) (does line b is.1.2 p st u) refl)
      ∙ and_decides line a b (runs p st) (Goes (Falls Plain st)) t
  does line e is p st t = does_plainly line e is p st t

  left_by : (turned : Bool) (line : ℕ) (way : Way) (qs : List Piece) (st : List ℕ) (kind : IntType) (v : ℤ) → IsInRange kind v → (u : Tape)
      → runs (row (tests.leaves turned line way ∷ qs)) (cell_of v ∷ st) u ≡ (if flip turned (is_true v) then runs (row qs) st u else Goes (Jumps way Plain st) u)
  left_by false line way qs st kind v r u =
      ap (λ o. then_do o (on_fall (means w calls n base (row qs)))) (Choices.by_cell w call calls n base line Plain signatures (code.called fs) [] kind v r (Goes (Jumps way Plain st) u) (Goes (Falls Plain st) u))
      ∙ if_then (is_true v) (Goes (Falls Plain st) u) (Goes (Jumps way Plain st) u) (on_fall (means w calls n base (row qs)))
  left_by true line way qs st kind v r u =
      ap (λ o. then_do o (on_fall (means w calls n base (row qs)))) (Choices.by_cell w call calls n base line Plain signatures (code.called fs) [] kind v r (Goes (Falls Plain st) u) (Goes (Jumps way Plain st) u))
      ∙ if_then (is_true v) (Goes (Jumps way Plain st) u) (Goes (Falls Plain st) u) (on_fall (means w calls n base (row qs)))
      ∙ Choices.turned_if w call calls n base line Plain signatures (code.called fs) [] (is_true v) (runs (row qs) st u) (Goes (Jumps way Plain st) u)

  leaves_plainly : (line : ℕ) (way : Way) (e : Expression) → IsTyped signatures e → (qs : List Piece) (st : List ℕ) (t : Tape)
      → runs (row (pieces_of signatures (code.called fs) Tested line 0 e ++ tests.leaves (is_turned e) line way ∷ [] ++ qs)) st t ≡ then_do (value line e t) (λ v u. if is_true v then runs (row qs) st u else Goes (Jumps way Plain st) u)
  leaves_plainly line way e is qs st t =
      ap (λ ps. runs (row ps) st t) (append_assoc (pieces_of signatures (code.called fs) Tested line 0 e) (tests.leaves (is_turned e) line way ∷ []) qs)
      ∙ decides line e is (tests.leaves (is_turned e) line way ∷ qs) st (λ c u. if c then runs (row qs) st u else Goes (Jumps way Plain st) u) (λ kind v r u. left_by (is_turned e) line way qs st kind v r u) t

  leaves : (line : ℕ) (way : Way) (e : Expression) → IsTyped signatures e → (qs : List Piece) (st : List ℕ) (t : Tape)
      → runs (row (code.unless fs line way e ++ qs)) st t ≡ then_do (value line e t) (λ v u. if is_true v then runs (row qs) st u else Goes (Jumps way Plain st) u)
  leaves line way (Number v) is qs st t = by (is_true v)
    where
      by : (c : Bool) → runs (row ((if c then [] else Exit line way ∷ []) ++ qs)) st t ≡ (if c then runs (row qs) st t else Goes (Jumps way Plain st) t)
      by true = refl
      by false = refl
  leaves line way (And a b) is qs st t =
      ap (λ ps. runs (row ps) st t) (append_assoc (code.unless fs line way a) (code.unless fs line way b) qs)
      ∙ leaves line way a is.1.1 (code.unless fs line way b ++ qs) st t
      ∙ then_same (value line a t) (λ x u. if_same (is_true x) (leaves line way b is.1.2 qs st u) refl)
      ∙ and_decides line a b (runs (row qs) st) (Goes (Jumps way Plain st)) t
  leaves line way e is qs st t = leaves_plainly line way e is qs st t

  waited : (line : ℕ) (e : Expression) → HasType signatures [] e UInt → IsTrue (is_quiet e) → (qs : List Piece) (st : List ℕ) (t : Tape)
      → means w calls n base (row (code.value fs line e ++ qs)) Waiting st t ≡ then_do (value_of w calls_nothing base Waiting line e t) (λ v u. means w calls n base (row qs) Waiting (cell_of v ∷ st) u)
  waited line e h quiet qs st t =
      Whole.every w calls_nothing calls n base line Waiting signatures (code.called fs) [] (nothing_fits signatures) (none Waiting) (λ h. cc) e Used 0 UInt h quiet qs st tt (λ k kind e. cc) t

  pub mean_their_pieces : MeanTheirPieces w fs call calls n base
  mean_their_pieces = record {
    gives = λ line e is qs st t. every line e Used 0 is.0 is.1 tt qs st tt (holds_none line 0 st) t;
    waited = waited;
    drops = λ line e is qs st t. every line e Unused 0 is.0 is.1 tt qs st tt (holds_none line 0 st) t;
    chooses = chooses;
    does = does;
    leaves = leaves;
  }

pub all_mean : (w : World) (fs : List Function) (call : Calling) (calls : Calls) (n base : ℕ) → GivesInRange (map signature fs) call → Agrees w fs call calls → All (IsTypedFunction (map signature fs)) fs → MeanTheirPieces w fs call calls n base
all_mean w fs call calls n base gives agrees typed = mean_their_pieces w fs call calls n base (calls_fit (map signature fs) call gives) agrees typed
