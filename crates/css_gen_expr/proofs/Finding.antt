-- The code of expressions finds its cells, and leaves one more or as many as there were.
use Rattle.std.proofs.Common.{◌≡◌, ℕ, zero, suc, ◌+◌, ◌-◌, ◌<◌, ◌≤◌, pos, Bool, true, false, not, ◌&&◌, ◌||◌, if◌then◌else◌, List, [], ◌∷◌, ◌++◌, length, Some, None, refl, sym, ap, ◌∙◌, subst, arith}
use Rattle.std.specs.Prelude.{slice_get}
use Rattle.css_base.specs.declared.int_type.IntType.{IntType}
use Rattle.css_base.specs.declared.int_type.IntType.TheVariants.{UChar, SChar, Short, UShort, Int, UInt, Long, ULong, LongLong, ULongLong}
use Rattle.css_num.specs.declared.operators.UnOp.{UnOp}
use Rattle.css_num.specs.declared.operators.UnOp.TheVariants as unary
use Rattle.css_num.specs.declared.operators.BinOp.{BinOp}
use Rattle.css_num.specs.Conversion.{converted}
use Rattle.css_num.specs.Operators.{binary_type, is_division}
use Rattle.css_semantics.specs.Dialogue.{Mode}
use Rattle.css_core.specs.Core as core
use Rattle.css_core.specs.Core.{Expression, Number, Local, Given, Value, Assign, Update, Convert, Unary, Binary, And, Or, Choice, Sequence, Call, Input, Put, Print, Allocate, Expressions, Empty, More, Gives, Old, New, Literal, Shown}
use Rattle.css_core.specs.Quiet.{is_quiet}
use Rattle.css_core.specs.Typed.{Signature, HasType, HasTypes, AreShown, count_of}
use Rattle.css_isa.specs.Code.{Code}
use Rattle.css_isa.specs.declared.code.Op.{Op}
use Rattle.css_isa.specs.declared.code.Op.TheVariants as ops
use Rattle.css_isa.specs.declared.code.Narrow.TheVariants as narrow
use Rattle.css_blocks.specs.Pieces.{Piece, Do, Ways, row}
use Rattle.css_blocks.specs.Finds.{Level, level, behind, Finds}
use Rattle.css_gen_expr.specs.declared.aim.Aim.{Aim}
use Rattle.css_gen_expr.specs.declared.aim.Aim.TheVariants.{Used, Tested, Low, Unused}
use Rattle.css_gen_expr.specs.Ranges.{contains, is_within}
use Rattle.css_gen_expr.specs.Operators.{plainly, low_if, ending, only_for, exact, narrowing, keeps, is_wide, is_narrow, takes_low, load_of, store_of, conversion_takes, conversion_code, unary_wraps, unary_takes, unary_code, operated, straight, assignment_takes, is_stored_low, update_takes, old_code, new_code}
use Rattle.css_gen_expr.specs.Expressions.{done, raised, sides, side, is_turned, is_truth, truth_code, kept, keeps_old, lifted, update_ending, conversion_of, put_code, print_code, written, drops, summed, sunk, pieces_of, all_pieces}
use Rattle.css_gen_expr.proofs.Heights.{Leads, suffices, onward, walk, walked, then_walk, if_walk, both_lead, narrowing_walk, operated_walk}
use Rattle.css_gen_expr.proofs.Memory.{For, for_first, for_second, for_none}

-- ---- endings

ending_walk : (aim : Aim) (h : ℕ) → walk (ending aim) (suc h) ≡ Some (raised aim h)
ending_walk Used h = refl
ending_walk Tested h = refl
ending_walk Low h = refl
ending_walk Unused h = refl

exact_walk : (aim : Aim) (all : List Op) (h : ℕ) → walk all (suc h) ≡ Some (suc h) → walk (exact aim all) (suc h) ≡ Some (raised aim h)
exact_walk Used all h e = e
exact_walk Tested all h e = e
exact_walk Low all h e = refl
exact_walk Unused all h e = refl

load_walk : (t : IntType) (rest : List Op) (h : ℕ) → walk (load_of t ∷ rest) (suc h) ≡ walk rest (suc h)
load_walk UChar rest h = refl
load_walk SChar rest h = refl
load_walk Short rest h = refl
load_walk UShort rest h = refl
load_walk Int rest h = refl
load_walk UInt rest h = refl
load_walk Long rest h = refl
load_walk ULong rest h = refl
load_walk LongLong rest h = refl
load_walk ULongLong rest h = refl

store_walk : (t : IntType) (rest : List Op) (h : ℕ) → walk (store_of t ∷ rest) (suc (suc h)) ≡ walk rest (suc h)
store_walk UChar rest h = refl
store_walk SChar rest h = refl
store_walk Short rest h = refl
store_walk UShort rest h = refl
store_walk Int rest h = refl
store_walk UInt rest h = refl
store_walk Long rest h = refl
store_walk ULong rest h = refl
store_walk LongLong rest h = refl
store_walk ULongLong rest h = refl

low_raises : (b : Bool) (h : ℕ) → raised (low_if b) h ≡ suc h
low_raises true h = refl
low_raises false h = refl

assignment_raises : (aim : Aim) (t : IntType) (h : ℕ) → raised (assignment_takes aim t) h ≡ suc h
assignment_raises Used t h = refl
assignment_raises Tested t h = refl
assignment_raises Low t h = low_raises (is_narrow t) h
assignment_raises Unused t h = low_raises (is_narrow t) h

plainly_raises : (aim : Aim) (h : ℕ) → raised (plainly aim) h ≡ raised aim h
plainly_raises Used h = refl
plainly_raises Tested h = refl
plainly_raises Low h = refl
plainly_raises Unused h = refl

truth_walk : (turned truth : Bool) (h : ℕ) → walk (truth_code turned truth) (suc h) ≡ Some (suc h)
truth_walk true truth h = refl
truth_walk false true h = refl
truth_walk false false h = refl

keep_raises : (k : Bool) (h : ℕ) → raised (if k then Used else Low) h ≡ suc h
keep_raises true h = refl
keep_raises false h = refl

conversion_walk : (aim : Aim) (t : IntType) (within : Bool) (h : ℕ) → walk (conversion_code aim t within) (raised (conversion_takes aim t within) h) ≡ Some (raised aim h)
conversion_walk Used t within h = ap (walk (if keeps t within then [] else narrowing t)) (keep_raises (keeps t within) h) ∙ if_walk (keeps t within) [] (narrowing t) (suc h) (suc h) refl (narrowing_walk t h)
conversion_walk Tested t within h = ap (walk (if keeps t within then [] else narrowing t)) (keep_raises (keeps t within) h) ∙ if_walk (keeps t within) [] (narrowing t) (suc h) (suc h) refl (narrowing_walk t h)
conversion_walk Low t within h = if_walk (within || is_wide t) [] (narrowing t) (suc h) (suc h) refl (narrowing_walk t h)
conversion_walk Unused t within h = refl

-- `-` and `~`
unary_walk : (op : UnOp) (first : Op) → ((rest : List Op) (h : ℕ) → walk (first ∷ rest) (suc h) ≡ walk rest (suc h)) → (aim : Aim) (t : IntType) → unary_code Used op t ≡ first ∷ (if unary_wraps op t then narrowing t else [])
    → unary_code Tested op t ≡ first ∷ (if unary_wraps op t then narrowing t else []) → unary_code Low op t ≡ first ∷ (if unary_wraps op t && not (is_wide t) then narrowing t else []) → (h : ℕ)
    → walk (unary_code aim op t) (raised (unary_takes aim op t) h) ≡ Some (raised aim h)
unary_walk op first step Used t e e' e'' h =
    ap (walk (unary_code Used op t)) (low_raises (unary_wraps op t && is_narrow t) h) ∙ ap (λ all. walk all (suc h)) e
    ∙ step (if unary_wraps op t then narrowing t else []) h ∙ if_walk (unary_wraps op t) (narrowing t) [] (suc h) (suc h) (narrowing_walk t h) refl
unary_walk op first step Tested t e e' e'' h =
    ap (walk (unary_code Tested op t)) (low_raises (unary_wraps op t && is_narrow t) h) ∙ ap (λ all. walk all (suc h)) e'
    ∙ step (if unary_wraps op t then narrowing t else []) h ∙ if_walk (unary_wraps op t) (narrowing t) [] (suc h) (suc h) (narrowing_walk t h) refl
unary_walk op first step Low t e e' e'' h =
    ap (λ all. walk all (suc h)) e''
    ∙ step (if unary_wraps op t && not (is_wide t) then narrowing t else []) h ∙ if_walk (unary_wraps op t && not (is_wide t)) (narrowing t) [] (suc h) (suc h) (narrowing_walk t h) refl
unary_walk op first step Unused t e e' e'' h = refl

put_walk : (aim : Aim) (h : ℕ) → walk (put_code aim) (suc h) ≡ Some (raised aim h)
put_walk Used h = refl
put_walk Tested h = refl
put_walk Low h = refl
put_walk Unused h = refl

kept_walk : (gives : Gives) (aim : Aim) (h : ℕ) → walk (kept gives aim) (suc (suc h)) ≡ Some (lifted (keeps_old gives aim) h)
kept_walk New aim h = refl
kept_walk Old Unused h = refl
kept_walk Old Used h = refl
kept_walk Old Tested h = refl
kept_walk Old Low h = refl

old_walk : (low : Bool) (op : BinOp) (t within : IntType) (h : ℕ) → walk (old_code low op t within) (suc h) ≡ Some (suc h)
old_walk low op t within h = if_walk (contains within t || (takes_low low op within && is_wide within)) [] (narrowing within) (suc h) (suc h) refl (narrowing_walk within h)

new_walk : (low : Bool) (op : BinOp) (t within : IntType) (h : ℕ) → walk (new_code low op t within) (suc (suc h)) ≡ Some (suc h)
new_walk low op t within h =
    then_walk (operated low op within) (if low || contains t (binary_type op within) then [] else narrowing t) (suc (suc h)) (suc h) (suc h) (operated_walk low op within h)
    (if_walk (low || contains t (binary_type op within)) [] (narrowing t) (suc h) (suc h) refl (narrowing_walk t h))

update_walk : (gives : Gives) (aim : Aim) (t : IntType) (h : ℕ) → walk (store_of t ∷ update_ending (keeps_old gives aim) aim) (lifted (keeps_old gives aim) h) ≡ Some (raised aim h)
update_walk New aim t h = store_walk t (ending aim) h ∙ ending_walk aim h
update_walk Old Unused t h = store_walk t (ops.Drop ∷ []) h
update_walk Old Used t h = store_walk t (ops.Drop ∷ []) (suc h)
update_walk Old Tested t h = store_walk t (ops.Drop ∷ []) (suc h)
update_walk Old Low t h = store_walk t (ops.Drop ∷ []) (suc h)

lifted_by : (keeps : Bool) (h : ℕ) → (x : ℕ) × (lifted keeps h ≡ suc (suc x))
lifted_by true h = (suc h, refl)
lifted_by false h = (h, refl)

-- ---- output

enough : (n h : ℕ) → n ≤ h → suffices n h ≡ true
enough zero h less = refl
enough (suc n) zero less = absurd (omega (arith, less))
enough (suc n) (suc h) less = enough n h (omega (arith, less))

dup_walk : (k : ℕ) (rest : List Op) (h : ℕ) → k + 1 ≤ h → walk (ops.Dup k ∷ rest) h ≡ walk rest (suc h)
dup_walk k rest h less = ap (λ b. onward (if b then Some (suc h) else None) (walk rest)) (enough (k + 1) h less)

written_walk : (format : List core.Piece) (left h : ℕ) → left ≤ h → walk (written format left) h ≡ Some h
written_walk [] left h less = refl
written_walk (Literal byte ∷ format) left h less = written_walk format left h less
written_walk (Shown c ∷ format) (suc left) h less =
    dup_walk left (ops.Out (conversion_of c) ∷ ops.Drop ∷ written format left) h (omega (arith, less)) ∙ written_walk format left h (omega (arith, less))
written_walk (Shown c ∷ format) zero h less = written_walk format zero h less

summed_walk : (format : List core.Piece) (left h : ℕ) → left ≤ h → walk (summed format left) (suc h) ≡ Some (suc h)
summed_walk [] left h less = refl
summed_walk (Literal byte ∷ format) left h less = summed_walk format left h less
summed_walk (Shown c ∷ format) (suc left) h less =
    dup_walk (suc left) (ops.Out (conversion_of c) ∷ ops.Add ∷ summed format left) (suc h) (omega (arith, less)) ∙ summed_walk format left h (omega (arith, less))
summed_walk (Shown c ∷ format) zero h less = summed_walk format zero h less

drops_walk : (n h : ℕ) → walk (drops n) (n + h) ≡ Some h
drops_walk zero h = ap (λ k. Some k) (let none : 0 + h ≡ h = omega arith in none)
drops_walk (suc n) h = ap (walk (drops (suc n))) (let one : suc n + h ≡ suc (n + h) = omega arith in one) ∙ drops_walk n h

sunk_walk : (n h : ℕ) → walk (sunk n) (suc (n + h)) ≡ Some (suc h)
sunk_walk zero h = ap (λ k. Some (suc k)) (let none : 0 + h ≡ h = omega arith in none)
sunk_walk (suc n) h = ap (λ k. walk (sunk (suc n)) (suc k)) (let one : suc n + h ≡ suc (n + h) = omega arith in one) ∙ sunk_walk n h

summing_walk : (format : List core.Piece) (n h : ℕ) → walk (ops.Push (pos 0) ∷ (summed format n ++ ops.Conv narrow.S32 ∷ sunk n)) (n + h) ≡ Some (suc h)
summing_walk format n h =
    then_walk (summed format n) (ops.Conv narrow.S32 ∷ sunk n) (suc (n + h)) (suc (n + h)) (suc h) (summed_walk format n (n + h) (omega arith)) (sunk_walk n h)

print_walk : (aim : Aim) (format : List core.Piece) (n h : ℕ) → walk (print_code aim format n) (n + h) ≡ Some (raised aim h)
print_walk Used format n h = summing_walk format n h
print_walk Tested format n h = summing_walk format n h
print_walk Low format n h = summing_walk format n h
print_walk Unused format n h = then_walk (written format n) (drops n) (n + h) (n + h) h (written_walk format n (n + h) (omega arith)) (drops_walk n h)

-- ---- expressions

neg_step : (rest : List Op) (h : ℕ) → walk (ops.Neg ∷ rest) (suc h) ≡ walk rest (suc h)
neg_step rest h = refl

not_step : (rest : List Op) (h : ℕ) → walk (ops.Not ∷ rest) (suc h) ≡ walk rest (suc h)
not_step rest h = refl

module _ (target : Code) (ls : Ways Level) (mode : Mode) (signatures : List Signature) (called : (line function count : ℕ) → List Piece) (types : List IntType) (line : ℕ)
    (calls_lead : For mode false → (k : ℕ) (s : Signature) → slice_get signatures k ≡ Some s → (h : ℕ) → Leads target ls mode (called line k (length s.parameters)) (length s.parameters + h) (suc h)) where
  abbrev pub code : Aim → ℕ → Expression → List Piece
  code aim above e = pieces_of signatures called aim line above e

  abbrev pub Lead : List Piece → ℕ → ℕ → Type 0
  Lead = Leads target ls mode

  ops_lead : (all : List Op) (h k : ℕ) → walk all h ≡ Some k → Lead (done line all) h k
  ops_lead all h k e = walked target ls mode line all h k e

  both : (ps qs : List Piece) (h j k : ℕ) → Lead ps h j → Lead qs j k → Lead (ps ++ qs) h k
  both = both_lead target ls mode

  -- with arguments below, an expression's code finds its cells
  pub record Room (above h : ℕ) : Type 0 where
    pub given : length types ≤ above
    pub there : above ≤ h

  room_above : (above h : ℕ) → Room above h → Room (suc above) (suc h)
  room_above above h room = record { given = omega (arith, room.given); there = omega (arith, room.there) }

  abbrev pub Found : Expression → Type 0
  Found e = (aim : Aim) (above h : ℕ) (t : IntType) → HasType signatures types e t → For mode (is_quiet e) → Room above h → Lead (code aim above e) h (raised aim h)

  to : (e : Expression) (aim : Aim) (above h k : ℕ) → raised aim h ≡ k → Lead (code aim above e) h (raised aim h) → Lead (code aim above e) h k
  to e aim above h k same leads = subst (Lead (code aim above e) h) same leads

  there_is : (k : ℕ) (t : IntType) (types : List IntType) → slice_get types k ≡ Some t → k < length types
  there_is k t [] e = cc
  there_is zero t (t' ∷ types) e = omega arith
  there_is (suc k) t (t' ∷ types) e = let less = there_is k t types e in omega (arith, less)

  given_lead : (k above h : ℕ) (t : IntType) → slice_get types k ≡ Some t → Room above h → Lead (done line (ops.Dup (above - 1 - k) ∷ [])) h (suc h)
  given_lead k above h t e room = ops_lead (ops.Dup (above - 1 - k) ∷ []) h (suc h) (dup_walk (above - 1 - k) [] h (omega (arith, there_is k t types e, room.given, room.there)))

  -- a choice behind a test
  sides_lead : (turned : Bool) (p q : List Piece) (h k : ℕ) → Lead p h k → Lead q h k → Lead (sides turned line (row p) (row q) ∷ []) (suc h) k
  sides_lead turned p q h k first second = by turned
    where
      lower : level (suc h - 1) mode ≡ level h mode
      lower = ap (λ x. level x mode) (omega arith)

      one : (p : List Piece) → Lead p h k → Finds target ls (row p) (level (suc h - 1) mode) × (behind target (row p) (level (suc h - 1) mode) ≡ level k mode)
      one p leads = (subst (Finds target ls (row p)) (sym lower) leads.finds, ap (behind target (row p)) lower ∙ leads.leaves)

      by : (turned : Bool) → Lead (sides turned line (row p) (row q) ∷ []) (suc h) k
      by false = record { finds = ((omega arith, (one p first).0, (one q second).0, (one q second).1 ∙ sym (one p first).1), tt); leaves = (one p first).1 }
      by true = record { finds = ((omega arith, (one q second).0, (one p first).0, (one p first).1 ∙ sym (one q second).1), tt); leaves = (one q second).1 }

  side_leads : (turned : Bool) (p : List Piece) (h : ℕ) → Lead p h h → Lead (side turned line (row p) ∷ []) (suc h) h
  side_leads turned p h leads = by turned
    where
      lower : level (suc h - 1) mode ≡ level h mode
      lower = ap (λ x. level x mode) (omega arith)

      finds : Finds target ls (row p) (level (suc h - 1) mode)
      finds = subst (Finds target ls (row p)) (sym lower) leads.finds

      leaves : behind target (row p) (level (suc h - 1) mode) ≡ level h mode
      leaves = ap (behind target (row p)) lower ∙ leads.leaves

      by : (turned : Bool) → Lead (side turned line (row p) ∷ []) (suc h) h
      by false = record { finds = ((omega arith, finds, leaves ∙ sym lower), tt); leaves = lower }
      by true = record { finds = ((omega arith, tt, finds, leaves ∙ sym lower), tt); leaves = lower }

  truly_lead : (e : Expression) → Found e → (above h : ℕ) (t : IntType) → HasType signatures types e t → For mode (is_quiet e) → Room above h → Lead (code Tested above e ++ done line (truth_code (is_turned e) (is_truth e))) h (suc h)
  truly_lead e found above h t has f room =
      both (code Tested above e) (done line (truth_code (is_turned e) (is_truth e))) h (suc h) (suc h) (found Tested above h t has f room) (ops_lead (truth_code (is_turned e) (is_truth e)) (suc h) (suc h) (truth_walk (is_turned e) (is_truth e) h))

  one_push : (v h : ℕ) → Lead (Do line (ops.Push (pos v)) ∷ []) h (suc h)
  one_push v h = ops_lead (ops.Push (pos v) ∷ []) h (suc h) refl

  module _ (a b : Expression) (found : Found a) (found' : Found b) (above h : ℕ) (s s' : IntType) (has : HasType signatures types a s) (has' : HasType signatures types b s') (f : For mode (is_quiet a && is_quiet b)) (room : Room above h) where
    and_used : Lead (code Tested above a ++ sides (is_turned a) line (row (code Tested above b ++ done line (truth_code (is_turned b) (is_truth b)))) (row (Do line (ops.Push (pos 0)) ∷ [])) ∷ []) h (suc h)
    and_used =
        both (code Tested above a) _ h (suc h) (suc h) (found Tested above h s has (for_first mode (is_quiet a) (is_quiet b) f) room)
        (sides_lead (is_turned a) (code Tested above b ++ done line (truth_code (is_turned b) (is_truth b))) (Do line (ops.Push (pos 0)) ∷ []) h (suc h) (truly_lead b found' above h s' has' (for_second mode (is_quiet a) (is_quiet b) f) room) (one_push 0 h))

    or_used : Lead (code Tested above a ++ sides (is_turned a) line (row (Do line (ops.Push (pos 1)) ∷ [])) (row (code Tested above b ++ done line (truth_code (is_turned b) (is_truth b)))) ∷ []) h (suc h)
    or_used =
        both (code Tested above a) _ h (suc h) (suc h) (found Tested above h s has (for_first mode (is_quiet a) (is_quiet b) f) room)
        (sides_lead (is_turned a) (Do line (ops.Push (pos 1)) ∷ []) (code Tested above b ++ done line (truth_code (is_turned b) (is_truth b))) h (suc h) (one_push 1 h) (truly_lead b found' above h s' has' (for_second mode (is_quiet a) (is_quiet b) f) room))

    unused : (turned : Bool) → Lead (code Tested above a ++ side turned line (row (code Unused above b)) ∷ []) h h
    unused turned =
        both (code Tested above a) _ h (suc h) h (found Tested above h s has (for_first mode (is_quiet a) (is_quiet b) f) room)
        (side_leads turned (code Unused above b) h (found' Unused above h s' has' (for_second mode (is_quiet a) (is_quiet b) f) room))

  unary_lead : (op : UnOp) (t' : IntType) (e : Expression) → Found e → (aim : Aim) (above h : ℕ) → HasType signatures types e t' → For mode (is_quiet e) → Room above h → walk (unary_code aim op t') (raised (unary_takes aim op t') h) ≡ Some (raised aim h)
      → Lead (code (unary_takes aim op t') above e ++ done line (unary_code aim op t')) h (raised aim h)
  unary_lead op t' e found aim above h has f room walks =
      both (code (unary_takes aim op t') above e) (done line (unary_code aim op t')) h (raised (unary_takes aim op t') h) (raised aim h) (found (unary_takes aim op t') above h t' has f room) (ops_lead (unary_code aim op t') (raised (unary_takes aim op t') h) (raised aim h) walks)

  -- ---- lists

  abbrev pub AllTyped : Expressions → Type 0
  AllTyped Empty = Unit {0}
  AllTyped (More e others) = ((t : IntType) × HasType signatures types e t) × AllTyped others

  abbrev pub AllFor : Expressions → Type 0
  AllFor Empty = Unit {0}
  AllFor (More e others) = For mode (is_quiet e) × AllFor others

  all_for_none : (es : Expressions) → For mode false → AllFor es
  all_for_none Empty f = tt
  all_for_none (More e others) f = (for_none mode (is_quiet e) f, all_for_none others f)

  typed_all : (es : Expressions) (ts : List IntType) → HasTypes signatures types es ts → AllTyped es
  typed_all Empty [] h = tt
  typed_all (More e others) (t ∷ ts) h = ((t, h.0), typed_all others ts h.1)
  typed_all Empty (t ∷ ts) h = absurd h
  typed_all (More e others) [] h = absurd h

  count_typed : (es : Expressions) (ts : List IntType) → HasTypes signatures types es ts → count_of es ≡ length ts
  count_typed Empty [] h = refl
  count_typed (More e others) (t ∷ ts) h = ap (λ n. suc n) (count_typed others ts h.1)
  count_typed Empty (t ∷ ts) h = absurd h
  count_typed (More e others) [] h = absurd h

  shown_all : (format : List core.Piece) (es : Expressions) → AreShown signatures types format es → AllTyped es
  shown_all [] Empty h = tt
  shown_all (Literal byte ∷ format) es h = shown_all format es h.1
  shown_all (Shown c ∷ format) (More e others) h = ((h.0.0, h.0.1), shown_all format others h.1)
  shown_all (Shown c ∷ format) Empty h = absurd h
  shown_all [] (More e others) h = absurd h

  abbrev pub AllFound : Expressions → Type 0
  AllFound Empty = Unit {0}
  AllFound (More e others) = Found e × AllFound others

  pub all_lead : (es : Expressions) → AllFound es → AllTyped es → AllFor es → (above h : ℕ) → Room above h → Lead (all_pieces signatures called line above es) h (count_of es + h)
  all_lead Empty found typed f above h room = record { finds = tt; leaves = ap (λ k. level k mode) (let none : h ≡ 0 + h = omega arith in none) }
  all_lead (More e others) found typed f above h room =
      let one : count_of others + suc h ≡ suc (count_of others) + h = omega arith in
      both (code Used above e) (all_pieces signatures called line (suc above) others) h (suc h) (suc (count_of others) + h) (found.0 Used above h typed.0.0 typed.0.1 f.0 room)
      (subst (Lead (all_pieces signatures called line (suc above) others) (suc h)) one (all_lead others found.1 typed.1 f.1 (suc above) (suc h) (room_above above h room)))

  update_lead : (gives : Gives) (t' : IntType) (op : BinOp) (within : IntType) (place e : Expression) → Found place → Found e → Found (Update gives t' op within place e)
  update_lead gives t' op within place e found found' aim above h t has f room =
      let old = keeps_old gives aim in
      let low = is_stored_low old aim t' in
      let loading = ops.Dup 0 ∷ load_of t' ∷ (kept gives aim ++ old_code low op t' within) in
      let second = code (update_takes low op within) (lifted old above) e in
      let storing = new_code low op t' within ++ store_of t' ∷ update_ending old aim in
      both (code Low above place ++ done line loading ++ second) (done line storing) h (suc (lifted old h)) (raised aim h)
      (both (code Low above place ++ done line loading) second h (lifted old h) (suc (lifted old h))
      (both (code Low above place) (done line loading) h (suc h) (lifted old h) (found Low above h UInt has.1 (for_none mode (is_quiet place) f) room)
      (ops_lead loading (suc h) (lifted old h) (load_walk t' (kept gives aim ++ old_code low op t' within) (suc h)
      ∙ then_walk (kept gives aim) (old_code low op t' within) (suc (suc h)) (lifted old h) (lifted old h) (kept_walk gives aim h) (old_on (lifted_by old h) low))))
      (to e (update_takes low op within) (lifted old above) (lifted old h) (suc (lifted old h)) (low_raises (takes_low low op within) (lifted old h))
      (found' (update_takes low op within) (lifted old above) (lifted old h) has.2.0 has.2.1 (for_none mode (is_quiet e) f) (room_on old))))
      (ops_lead storing (suc (lifted old h)) (raised aim h)
      (then_walk (new_code low op t' within) (store_of t' ∷ update_ending old aim) (suc (lifted old h)) (lifted old h) (raised aim h) (new_on (lifted_by old h) low) (update_walk gives aim t' h)))
    where
      old_on : (x : (x : ℕ) × (lifted (keeps_old gives aim) h ≡ suc (suc x))) (low : Bool) → walk (old_code low op t' within) (lifted (keeps_old gives aim) h) ≡ Some (lifted (keeps_old gives aim) h)
      old_on (x, e) low = ap (walk (old_code low op t' within)) e ∙ old_walk low op t' within (suc x) ∙ ap (λ k. Some k) (sym e)

      new_on : (x : (x : ℕ) × (lifted (keeps_old gives aim) h ≡ suc (suc x))) (low : Bool) → walk (new_code low op t' within) (suc (lifted (keeps_old gives aim) h)) ≡ Some (lifted (keeps_old gives aim) h)
      new_on (x, e) low = ap (λ k. walk (new_code low op t' within) (suc k)) e ∙ new_walk low op t' within (suc x) ∙ ap (λ k. Some k) (sym e)

      room_on : (old : Bool) → Room (lifted old above) (lifted old h)
      room_on true = room_above (suc (suc above)) (suc (suc h)) (room_above (suc above) (suc h) (room_above above h room))
      room_on false = room_above (suc above) (suc h) (room_above above h room)

  binary_lead : (op : BinOp) (t' : IntType) (a b : Expression) → Found a → Found b → Found (Binary op t' a b)
  binary_lead op t' a b found found' aim above h t has f room = by aim
    where
      quiet_a : For mode (is_quiet a)
      quiet_a = for_first mode (is_quiet a) (is_quiet b) f

      quiet_b : For mode (is_quiet b)
      quiet_b = for_second mode (is_quiet a) (is_quiet b) f

      operands : (taken : Bool) → Lead (code (low_if taken) above a ++ code (low_if taken) (raised (low_if taken) above) b) h (suc (suc h))
      operands true = both (code Low above a) (code Low (suc above) b) h (suc h) (suc (suc h)) (found Low above h t' has.1 quiet_a room) (found' Low (suc above) (suc h) has.2.0 has.2.1 quiet_b (room_above above h room))
      operands false = both (code Used above a) (code Used (suc above) b) h (suc h) (suc (suc h)) (found Used above h t' has.1 quiet_a room) (found' Used (suc above) (suc h) has.2.0 has.2.1 quiet_b (room_above above h room))

      with_code : (taken : Bool) (all : List Op) (k : ℕ) → walk all (suc (suc h)) ≡ Some k → Lead (code (low_if taken) above a ++ code (low_if taken) (raised (low_if taken) above) b ++ done line all) h k
      with_code taken all k walks = both (code (low_if taken) above a ++ code (low_if taken) (raised (low_if taken) above) b) (done line all) h (suc (suc h)) k (operands taken) (ops_lead all (suc (suc h)) k walks)

      dropped : (division : Bool) → Lead (code (if division then Used else Unused) above a ++ code (if division then Used else Unused) (raised (if division then Used else Unused) above) b ++ done line (if division then operated true op t' ++ ops.Drop ∷ [] else [])) h h
      dropped true = with_code false (operated true op t' ++ ops.Drop ∷ []) h (then_walk (operated true op t') (ops.Drop ∷ []) (suc (suc h)) (suc h) h (operated_walk true op t' h) refl)
      dropped false =
          both (code Unused above a ++ code Unused above b) [] h h h (both (code Unused above a) (code Unused above b) h h h (found Unused above h t' has.1 quiet_a room) (found' Unused above h has.2.0 has.2.1 quiet_b room)) (ops_lead [] h h refl)

      by : (aim : Aim) → Lead (code aim above (Binary op t' a b)) h (raised aim h)
      by Used = with_code (takes_low false op t') (operated false op t') (suc h) (operated_walk false op t' h)
      by Tested = with_code (takes_low false op t') (operated false (straight op) t') (suc h) (operated_walk false (straight op) t' h)
      by Low = with_code (takes_low true op t') (operated true op t') (suc h) (operated_walk true op t' h)
      by Unused = dropped (is_division op)

  simple : (aim : Aim) (all : List Op) (h : ℕ) → walk all h ≡ Some (suc h) → walk (only_for aim all) h ≡ Some (raised aim h)
  simple Used all h e = e
  simple Tested all h e = e
  simple Low all h e = e
  simple Unused all h e = refl

  local_walk : (aim : Aim) (k h : ℕ) → walk (only_for aim (ops.Frame k ∷ exact aim (narrowing UInt))) h ≡ Some (raised aim h)
  local_walk Used k h = refl
  local_walk Tested k h = refl
  local_walk Low k h = refl
  local_walk Unused k h = refl

  mutual
    pub found : (e : Expression) → Found e
    found (Number v) aim above h t has f room = ops_lead (only_for aim (ops.Push (converted LongLong v) ∷ [])) h (raised aim h) (simple aim (ops.Push (converted LongLong v) ∷ []) h refl)
    found (Local k) aim above h t has f room = ops_lead (only_for aim (ops.Frame k ∷ exact aim (narrowing UInt))) h (raised aim h) (local_walk aim k h)
    found (Given k) Used above h t has f room = given_lead k above h t has room
    found (Given k) Tested above h t has f room = given_lead k above h t has room
    found (Given k) Low above h t has f room = given_lead k above h t has room
    found (Given k) Unused above h t has f room = ops_lead [] h h refl
    found (Value t' place) aim above h t has f room =
        both (code Low above place) (done line (load_of t' ∷ ending aim)) h (suc h) (raised aim h) (found place Low above h UInt has.1 f room)
        (ops_lead (load_of t' ∷ ending aim) (suc h) (raised aim h) (load_walk t' (ending aim) h ∙ ending_walk aim h))
    found (Assign t' place e) aim above h t has f room =
        both (code Low above place ++ code (assignment_takes aim t') (suc above) e) (done line (store_of t' ∷ ending aim)) h (suc (suc h)) (raised aim h)
        (both (code Low above place) (code (assignment_takes aim t') (suc above) e) h (suc h) (suc (suc h)) (found place Low above h UInt has.1 (for_none mode (is_quiet place) f) room)
        (to e (assignment_takes aim t') (suc above) (suc h) (suc (suc h)) (assignment_raises aim t' (suc h)) (found e (assignment_takes aim t') (suc above) (suc h) t' has.2 (for_none mode (is_quiet e) f) (room_above above h room))))
        (ops_lead (store_of t' ∷ ending aim) (suc (suc h)) (raised aim h) (store_walk t' (ending aim) h ∙ ending_walk aim h))
    found (Update gives t' op within place e) aim above h t has f room = update_lead gives t' op within place e (found place) (found e) aim above h t has f room
    found (Convert t' e) aim above h t has f room =
        let within = is_within signatures t' e in
        both (code (conversion_takes aim t' within) above e) (done line (conversion_code aim t' within)) h (raised (conversion_takes aim t' within) h) (raised aim h) (found e (conversion_takes aim t' within) above h has.1.0 has.1.1 f room)
        (ops_lead (conversion_code aim t' within) (raised (conversion_takes aim t' within) h) (raised aim h) (conversion_walk aim t' within h))
    found (Unary unary.Plus t' e) aim above h t has f room = to e (plainly aim) above h (raised aim h) (plainly_raises aim h) (found e (plainly aim) above h t' has.1 f room)
    found (Unary unary.Minus t' e) aim above h t has f room = unary_lead unary.Minus t' e (found e) aim above h has.1 f room (unary_walk unary.Minus ops.Neg neg_step aim t' refl refl refl h)
    found (Unary unary.Complement t' e) aim above h t has f room = unary_lead unary.Complement t' e (found e) aim above h has.1 f room (unary_walk unary.Complement ops.Not not_step aim t' refl refl refl h)
    found (Unary unary.Not t' e) Used above h t has f room =
        both (code Tested above e) (done line (truth_code (not (is_turned e)) (is_truth e))) h (suc h) (suc h) (found e Tested above h t' has.1 f room) (ops_lead (truth_code (not (is_turned e)) (is_truth e)) (suc h) (suc h) (truth_walk (not (is_turned e)) (is_truth e) h))
    found (Unary unary.Not t' e) Tested above h t has f room = found e Tested above h t' has.1 f room
    found (Unary unary.Not t' e) Low above h t has f room =
        both (code Tested above e) (done line (truth_code (not (is_turned e)) (is_truth e))) h (suc h) (suc h) (found e Tested above h t' has.1 f room) (ops_lead (truth_code (not (is_turned e)) (is_truth e)) (suc h) (suc h) (truth_walk (not (is_turned e)) (is_truth e) h))
    found (Unary unary.Not t' e) Unused above h t has f room = found e Unused above h t' has.1 f room
    found (Binary op t' a b) aim above h t has f room = binary_lead op t' a b (found a) (found b) aim above h t has f room
    found (And a b) Used above h t has f room = and_used a b (found a) (found b) above h has.1.0 has.2.0 has.1.1 has.2.1 f room
    found (And a b) Tested above h t has f room = and_used a b (found a) (found b) above h has.1.0 has.2.0 has.1.1 has.2.1 f room
    found (And a b) Low above h t has f room = and_used a b (found a) (found b) above h has.1.0 has.2.0 has.1.1 has.2.1 f room
    found (And a b) Unused above h t has f room = unused a b (found a) (found b) above h has.1.0 has.2.0 has.1.1 has.2.1 f room (is_turned a)
    found (Or a b) Used above h t has f room = or_used a b (found a) (found b) above h has.1.0 has.2.0 has.1.1 has.2.1 f room
    found (Or a b) Tested above h t has f room = or_used a b (found a) (found b) above h has.1.0 has.2.0 has.1.1 has.2.1 f room
    found (Or a b) Low above h t has f room = or_used a b (found a) (found b) above h has.1.0 has.2.0 has.1.1 has.2.1 f room
    found (Or a b) Unused above h t has f room = unused a b (found a) (found b) above h has.1.0 has.2.0 has.1.1 has.2.1 f room (not (is_turned a))
    found (Choice test a b) aim above h t has f room =
        let sides_quiet = for_second mode (is_quiet test) (is_quiet a && is_quiet b) f in
        both (code Tested above test) (sides (is_turned test) line (row (code (plainly aim) above a)) (row (code (plainly aim) above b)) ∷ []) h (suc h) (raised aim h)
        (found test Tested above h has.0.0 has.0.1 (for_first mode (is_quiet test) (is_quiet a && is_quiet b) f) room)
        (sides_lead (is_turned test) (code (plainly aim) above a) (code (plainly aim) above b) h (raised aim h)
        (to a (plainly aim) above h (raised aim h) (plainly_raises aim h) (found a (plainly aim) above h t has.1 (for_first mode (is_quiet a) (is_quiet b) sides_quiet) room))
        (to b (plainly aim) above h (raised aim h) (plainly_raises aim h) (found b (plainly aim) above h t has.2 (for_second mode (is_quiet a) (is_quiet b) sides_quiet) room)))
    found (Sequence a b) aim above h t has f room =
        both (code Unused above a) (code (plainly aim) above b) h h (raised aim h) (found a Unused above h has.0.0 has.0.1 (for_first mode (is_quiet a) (is_quiet b) f) room)
        (to b (plainly aim) above h (raised aim h) (plainly_raises aim h) (found b (plainly aim) above h t has.1 (for_second mode (is_quiet a) (is_quiet b) f) room))
    found (Call k es) aim above h t has f room =
        let count = count_typed es has.0.parameters has.3 in
        both (all_pieces signatures called line above es ++ called line k (count_of es)) (done line (ending aim)) h (suc h) (raised aim h)
        (both (all_pieces signatures called line above es) (called line k (count_of es)) h (count_of es + h) (suc h)
        (all_lead es (all_found es) (typed_all es has.0.parameters has.3) (all_for_none es f) above h room)
        (subst (λ n. Lead (called line k n) (n + h) (suc h)) (sym count) (calls_lead f k has.0 has.1 h)))
        (ops_lead (ending aim) (suc h) (raised aim h) (ending_walk aim h))
    found Input aim above h t has f room = ops_lead (ops.In ∷ exact aim (narrowing Int)) h (raised aim h) (exact_walk aim (narrowing Int) h refl)
    found (Put e) aim above h t has f room =
        both (code Low above e) (done line (put_code aim)) h (suc h) (raised aim h) (found e Low above h Int has.1 (for_none mode (is_quiet e) f) room) (ops_lead (put_code aim) (suc h) (raised aim h) (put_walk aim h))
    found (Print format es) aim above h t has f room =
        both (all_pieces signatures called line above es) (done line (print_code aim format (count_of es))) h (count_of es + h) (raised aim h)
        (all_lead es (all_found es) (shown_all format es has.1) (all_for_none es f) above h room) (ops_lead (print_code aim format (count_of es)) (count_of es + h) (raised aim h) (print_walk aim format (count_of es) h))
    found (Allocate size) aim above h t has f room =
        both (code Low above size) (done line (ops.Malloc ∷ exact aim (narrowing UInt))) h (suc h) (raised aim h) (found size Low above h UInt has.1 (for_none mode (is_quiet size) f) room)
        (ops_lead (ops.Malloc ∷ exact aim (narrowing UInt)) (suc h) (raised aim h) (exact_walk aim (narrowing UInt) h refl))

    pub all_found : (es : Expressions) → AllFound es
    all_found Empty = tt
    all_found (More e others) = (found e, all_found others)
