-- Lists of instructions find their cells: how many cells they need and leave is computed.
use Rattle.std.proofs.Common.{◌≡◌, ℕ, zero, suc, ◌+◌, ◌-◌, ◌≤◌, pos, Bool, true, false, not, ◌&&◌, if◌then◌else◌, List, [], ◌∷◌, ◌++◌, Option, Some, None, refl, sym, ap, ◌∙◌, subst, arith}
use Rattle.std.proofs.lemmas.Option.{same_Some}
use Rattle.css_base.specs.declared.int_type.IntType.{IntType}
use Rattle.css_base.specs.declared.int_type.IntType.TheVariants.{UChar, SChar, Short, UShort, Int, UInt, Long, ULong, LongLong, ULongLong}
use Rattle.css_num.specs.declared.operators.BinOp.{BinOp}
use Rattle.css_num.specs.declared.operators.BinOp.TheVariants as binary
use Rattle.css_num.specs.Types.{has_sign}
use Rattle.css_semantics.specs.Dialogue.{Mode}
use Rattle.css_isa.specs.Code.{Code}
use Rattle.css_isa.specs.declared.code.Op.{Op}
use Rattle.css_isa.specs.declared.code.Op.TheVariants as ops
use Rattle.css_isa.specs.Roles.{Role, Straight, Turning, Outward, Telling, Awaiting, Changing, Testing, Jumping, Branching, Calling, Submitting, Returning, role_of}
use Rattle.css_isa.specs.Soundness.{cells_needed, height_behind, IsPlainAt}
use Rattle.css_blocks.specs.Pieces.{Piece, Do, is_plain, Ways, row}
use Rattle.css_blocks.specs.Finds.{Level, level, behind, mode_behind, Finds}
use Rattle.css_gen_expr.specs.Operators.{narrowing, operation, operated, counting, shift_width, wraps, is_wide}
use Rattle.css_gen_expr.specs.Expressions.{done}

-- ---- the number of cells behind an instruction, where there are enough

abbrev pub suffices : (n h : ℕ) → Bool
suffices zero h = true
suffices (suc n) zero = false
suffices (suc n) (suc h) = suffices n h

abbrev pub risen : (given h : ℕ) → ℕ
risen zero h = h
risen (suc given) h = suc (risen given h)

abbrev pub fallen : (taken h : ℕ) → ℕ
fallen zero h = h
fallen (suc taken) zero = zero
fallen (suc taken) (suc h) = fallen taken h

abbrev pub stepped : Role → (h : ℕ) → Option ℕ
stepped (Straight needed taken given) h = if suffices needed h then Some (risen given (fallen taken h)) else None
stepped Turning h = None
stepped (Outward taken given) h = if suffices taken h then Some (risen given (fallen taken h)) else None
stepped Telling h = None
stepped Awaiting h = None
stepped (Changing mode) h = None
stepped Testing h = None
stepped (Jumping to) h = None
stepped (Branching to) h = None
stepped (Calling k) h = None
stepped (Submitting k) h = None
stepped Returning h = None

abbrev pub onward : Option ℕ → (ℕ → Option ℕ) → Option ℕ
onward None go = None
onward (Some h) go = go h

abbrev pub walk : List Op → (h : ℕ) → Option ℕ
walk [] h = Some h
walk (op ∷ all) h = onward (stepped (role_of op) h) (walk all)

pub walk_both : (xs ys : List Op) (h : ℕ) → walk (xs ++ ys) h ≡ onward (walk xs h) (walk ys)
walk_both [] ys h = refl
walk_both (op ∷ xs) ys h = by (stepped (role_of op) h) (walk_both xs ys)
  where
    by : (o : Option ℕ) → ((h : ℕ) → walk (xs ++ ys) h ≡ onward (walk xs h) (walk ys)) → onward o (walk (xs ++ ys)) ≡ onward (onward o (walk xs)) (walk ys)
    by None same = refl
    by (Some k) same = same k

pub then_walk : (xs ys : List Op) (h j k : ℕ) → walk xs h ≡ Some j → walk ys j ≡ Some k → walk (xs ++ ys) h ≡ Some k
then_walk xs ys h j k first second = walk_both xs ys h ∙ ap (λ o. onward o (walk ys)) first ∙ second

has_enough : (n h : ℕ) → suffices n h ≡ true → n ≤ h
has_enough zero h e = omega arith
has_enough (suc n) zero e = cc
has_enough (suc n) (suc h) e = let less = has_enough n h e in omega (arith, less)

risen_is : (given h : ℕ) → risen given h ≡ h + given
risen_is zero h = omega arith
risen_is (suc given) h = let less = risen_is given h in omega (arith, less)

fallen_is : (taken h : ℕ) → fallen taken h ≡ h - taken
fallen_is zero h = omega arith
fallen_is (suc taken) zero = omega arith
fallen_is (suc taken) (suc h) = let less = fallen_is taken h in omega (arith, less)

module _ (code : Code) (ls : Ways Level) (mode : Mode) where
  -- pieces find their cells where so many are, and leave so many
  pub record Leads (ps : List Piece) (h k : ℕ) : Type 0 where
    pub finds : Finds code ls (row ps) (level h mode)
    pub leaves : behind code (row ps) (level h mode) ≡ level k mode

  behind_both : (ps qs : List Piece) (l : Level) → behind code (row (ps ++ qs)) l ≡ behind code (row qs) (behind code (row ps) l)
  behind_both [] qs l = refl
  behind_both (p ∷ ps) qs l = behind_both ps qs (behind code p l)

  finds_both : (ps qs : List Piece) (l : Level) → Finds code ls (row ps) l → Finds code ls (row qs) (behind code (row ps) l) → Finds code ls (row (ps ++ qs)) l
  finds_both [] qs l first second = second
  finds_both (p ∷ ps) qs l first second = (first.0, finds_both ps qs (behind code p l) first.1 second)

  pub both_lead : (ps qs : List Piece) (h j k : ℕ) → Leads ps h j → Leads qs j k → Leads (ps ++ qs) h k
  both_lead ps qs h j k first second = record {
    finds = finds_both ps qs (level h mode) first.finds (subst (Finds code ls (row qs)) (sym first.leaves) second.finds);
    leaves = behind_both ps qs (level h mode) ∙ ap (behind code (row qs)) first.leaves ∙ second.leaves;
  }

  -- a role's instruction
  record Fits (r : Role) (h k : ℕ) : Type 0 where
    plain : is_plain r ≡ true
    needs : cells_needed code r ≤ h
    modes : IsPlainAt code r mode
    same : mode_behind r mode ≡ mode
    height : height_behind code r h ≡ k

  role_fits : (r : Role) (h k : ℕ) → stepped r h ≡ Some k → Fits r h k
  role_fits (Straight needed taken given) h k e = by (suffices needed h) refl e
    where
      by : (b : Bool) → suffices needed h ≡ b → (if b then Some (risen given (fallen taken h)) else None) ≡ Some k → Fits (Straight needed taken given) h k
      by true is e = record {
        plain = refl;
        needs = has_enough needed h is;
        modes = tt;
        same = refl;
        height = ap (λ x. x + given) (sym (fallen_is taken h)) ∙ sym (risen_is given (fallen taken h)) ∙ same_Some (risen given (fallen taken h)) k e;
      }
      by false is e = cc
  role_fits (Outward taken given) h k e = by (suffices taken h) refl e
    where
      by : (b : Bool) → suffices taken h ≡ b → (if b then Some (risen given (fallen taken h)) else None) ≡ Some k → Fits (Outward taken given) h k
      by true is e = record {
        plain = refl;
        needs = has_enough taken h is;
        modes = tt;
        same = refl;
        height = ap (λ x. x + given) (sym (fallen_is taken h)) ∙ sym (risen_is given (fallen taken h)) ∙ same_Some (risen given (fallen taken h)) k e;
      }
      by false is e = cc
  role_fits Turning h k e = cc
  role_fits Telling h k e = cc
  role_fits Awaiting h k e = cc
  role_fits (Changing next) h k e = cc
  role_fits Testing h k e = cc
  role_fits (Jumping to) h k e = cc
  role_fits (Branching to) h k e = cc
  role_fits (Calling f) h k e = cc
  role_fits (Submitting f) h k e = cc
  role_fits Returning h k e = cc

  -- what is walked finds its cells
  pub walked : (line : ℕ) (all : List Op) (h k : ℕ) → walk all h ≡ Some k → Leads (done line all) h k
  walked line [] h k e = record { finds = tt; leaves = ap (λ x. level x mode) (same_Some h k e) }
  walked line (op ∷ all) h k e = by (stepped (role_of op) h) refl e (walked line all)
    where
      by : (o : Option ℕ) → stepped (role_of op) h ≡ o → onward o (walk all) ≡ Some k → ((h k : ℕ) → walk all h ≡ Some k → Leads (done line all) h k) → Leads (done line (op ∷ all)) h k
      by None is e rest = cc
      by (Some j) is e rest =
          let fits = role_fits (role_of op) h j is in
          let others = rest j k e in
          let there : behind code (Do line op) (level h mode) ≡ level j mode = ap (λ x. level x (mode_behind (role_of op) mode)) fits.height ∙ ap (level j) fits.same in
          record {
            finds = ((fits.plain, fits.needs, fits.modes), subst (Finds code ls (row (done line all))) (sym there) others.finds);
            leaves = ap (behind code (row (done line all))) there ∙ others.leaves;
          }

-- ---- the tables

pub narrowing_walk : (t : IntType) (h : ℕ) → walk (narrowing t) (suc h) ≡ Some (suc h)
narrowing_walk UChar h = refl
narrowing_walk SChar h = refl
narrowing_walk Short h = refl
narrowing_walk UShort h = refl
narrowing_walk Int h = refl
narrowing_walk UInt h = refl
narrowing_walk Long h = refl
narrowing_walk ULong h = refl
narrowing_walk LongLong h = refl
narrowing_walk ULongLong h = refl

pub if_walk : (b : Bool) (xs ys : List Op) (h k : ℕ) → walk xs h ≡ Some k → walk ys h ≡ Some k → walk (if b then xs else ys) h ≡ Some k
if_walk true xs ys h k e e' = e
if_walk false xs ys h k e e' = e'

counting_walk : (t : IntType) (h : ℕ) → walk (counting t) (suc h) ≡ Some (suc h)
counting_walk UChar h = refl
counting_walk SChar h = refl
counting_walk Short h = refl
counting_walk UShort h = refl
counting_walk Int h = refl
counting_walk UInt h = refl
counting_walk Long h = refl
counting_walk ULong h = refl
counting_walk LongLong h = refl
counting_walk ULongLong h = refl

below_walk : (b : Bool) (rest : List Op) (h k : ℕ) → walk rest (suc h) ≡ Some k → walk ((if b then ops.Lts else ops.Ltu) ∷ rest) (suc (suc h)) ≡ Some k
below_walk true rest h k e = e
below_walk false rest h k e = e

operation_walk : (op : BinOp) (t : IntType) (h : ℕ) → walk (operation op t) (suc (suc h)) ≡ Some (suc h)
operation_walk binary.Mul t h = refl
operation_walk binary.Div t h = if_walk (has_sign t) (ops.Divs ∷ []) (ops.Divu ∷ []) (suc (suc h)) (suc h) refl refl
operation_walk binary.Rem t h = if_walk (has_sign t) (ops.Rems ∷ []) (ops.Remu ∷ []) (suc (suc h)) (suc h) refl refl
operation_walk binary.Add t h = refl
operation_walk binary.Sub t h = refl
operation_walk binary.Shl t h = then_walk (counting t) (ops.Shl (shift_width t) ∷ []) (suc (suc h)) (suc (suc h)) (suc h) (counting_walk t (suc h)) refl
operation_walk binary.Shr t h =
    then_walk (counting t) (if has_sign t then ops.Shrs (shift_width t) ∷ [] else ops.Shru (shift_width t) ∷ []) (suc (suc h)) (suc (suc h)) (suc h) (counting_walk t (suc h))
    (if_walk (has_sign t) (ops.Shrs (shift_width t) ∷ []) (ops.Shru (shift_width t) ∷ []) (suc (suc h)) (suc h) refl refl)
operation_walk binary.Lt t h = below_walk (has_sign t) [] h (suc h) refl
operation_walk binary.Gt t h = below_walk (has_sign t) [] h (suc h) refl
operation_walk binary.Le t h = below_walk (has_sign t) (ops.Push (pos 0) ∷ ops.Eq ∷ []) h (suc h) refl
operation_walk binary.Ge t h = below_walk (has_sign t) (ops.Push (pos 0) ∷ ops.Eq ∷ []) h (suc h) refl
operation_walk binary.Eq t h = refl
operation_walk binary.Ne t h = refl
operation_walk binary.And t h = refl
operation_walk binary.Xor t h = refl
operation_walk binary.Or t h = refl

pub operated_walk : (low : Bool) (op : BinOp) (t : IntType) (h : ℕ) → walk (operated low op t) (suc (suc h)) ≡ Some (suc h)
operated_walk low op t h =
    then_walk (operation op t) (if wraps op t && not (low && is_wide t) then narrowing t else []) (suc (suc h)) (suc h) (suc h) (operation_walk op t h)
    (if_walk (wraps op t && not (low && is_wide t)) (narrowing t) [] (suc h) (suc h) (narrowing_walk t h) refl)
