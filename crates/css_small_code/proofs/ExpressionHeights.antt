-- The code of an expression fits the heights along it, and leaves one cell more.
use Rattle.std.proofs.Common.{◌≡◌, ℕ, ◌+◌, ◌-◌, pos, List, [], ◌∷◌, ◌++◌, length, refl, sym, ap, ◌∙◌, subst, arith, length-append}
use Rattle.css_num.specs.declared.operators.UnOp.{UnOp}
use Rattle.css_num.specs.declared.operators.UnOp.TheVariants as unary
use Rattle.css_num.specs.declared.operators.BinOp.{BinOp}
use Rattle.css_num.specs.declared.operators.BinOp.TheVariants as binary
use Rattle.css_vm.specs.declared.code.Op.{Op}
use Rattle.css_vm.specs.declared.code.Op.TheVariants as ops
use Rattle.css_vm.specs.Code.{Code}
use Rattle.css_vm.specs.Soundness.{Spot, Stays}
use Rattle.css_small.specs.Tree.{Expression, Number, Variable, Element, Unary, Binary, And, Or}
use Rattle.css_small_code.specs.Code.{truth_code, unary_code, binary_code, index_code, pointer_code, expression_code, element_code}
use Rattle.css_small_code.proofs.Heights.{behind, behind-append, AllFit, both_fit, HeightsStand, heights_front, heights_back, first_height}

module _ (code : Code) where
  -- ---- operators

  behind_unary : (op : UnOp) (height : ℕ) → behind code (height + 1) (unary_code op) ≡ height + 1
  behind_unary unary.Plus height = refl
  behind_unary unary.Minus height = omega arith
  behind_unary unary.Complement height = omega arith
  behind_unary unary.Not height = omega arith

  behind_truth : (height : ℕ) → behind code (height + 1) truth_code ≡ height + 1
  behind_truth height = omega arith

  behind_index : (height : ℕ) → behind code (height + 2) index_code ≡ height + 1
  behind_index height = omega arith

  behind_binary : (op : BinOp) (height : ℕ) → behind code (height + 2) (binary_code op) ≡ height + 1
  behind_binary binary.Mul height = omega arith
  behind_binary binary.Div height = omega arith
  behind_binary binary.Rem height = omega arith
  behind_binary binary.Add height = omega arith
  behind_binary binary.Sub height = omega arith
  behind_binary binary.Shl height = omega arith
  behind_binary binary.Shr height = omega arith
  behind_binary binary.Lt height = omega arith
  behind_binary binary.Gt height = omega arith
  behind_binary binary.Le height = omega arith
  behind_binary binary.Ge height = omega arith
  behind_binary binary.Eq height = omega arith
  behind_binary binary.Ne height = omega arith
  behind_binary binary.And height = omega arith
  behind_binary binary.Xor height = omega arith
  behind_binary binary.Or height = omega arith

  -- ---- expressions

  -- behind two parts
  behind_both : (height mid end : ℕ) (xs ys : List Op) → behind code height xs ≡ mid → behind code mid ys ≡ end → behind code height (xs ++ ys) ≡ end
  behind_both height mid end xs ys e f = behind-append code height xs ys ∙ ap (λ h. behind code h ys) e ∙ f

  -- the address of an element, by what stands behind its index
  behind_place : (e : Expression) (at height : ℕ) → behind code (height + 1) (expression_code e (at + 2)) ≡ height + 2 → behind code height (element_code e at) ≡ height + 1
  behind_place e at height inner =
      let first = pointer_code ++ expression_code e (at + 2) in
      let low : height - 0 + 1 - 1 + 1 ≡ height + 1 = omega arith in
      let two : behind code height first ≡ height + 2 = ap (λ h. behind code h (expression_code e (at + 2))) low ∙ inner in
      behind_both height (height + 2) (height + 1) first index_code two (behind_index height)

  pub behind_expression : (e : Expression) (at height : ℕ) → behind code height (expression_code e at) ≡ height + 1
  behind_expression (Number value) at height = omega arith
  behind_expression (Variable k) at height = omega arith
  behind_expression (Element e) at height =
      let inner : behind code (height + 1) (expression_code e (at + 2)) ≡ height + 2 = omega (arith, behind_expression e (at + 2) (height + 1)) in
      behind_both height (height + 1) (height + 1) (element_code e at) (ops.Load32s ∷ []) (behind_place e at height inner) (omega arith)
  behind_expression (Unary op e) at height =
      behind_both height (height + 1) (height + 1) (expression_code e at) (unary_code op) (behind_expression e at height) (behind_unary op height)
  behind_expression (Binary op a b) at height =
      let ca = expression_code a at in
      let cb = expression_code b (at + length ca) in
      let second : behind code (height + 1) cb ≡ height + 2 = omega (arith, behind_expression b (at + length ca) (height + 1)) in
      behind_both height (height + 2) (height + 1) (ca ++ cb) (binary_code op) (behind_both height (height + 1) (height + 2) ca cb (behind_expression a at height) second) (behind_binary op height)
  behind_expression (And a b) at height =
      let ca = expression_code a at in
      let cb = expression_code b (at + length ca + 1) in
      let no = at + length ca + 1 + length cb + 3 in
      let jumped = ops.Jumpz no ∷ cb in
      let second : behind code (height + 1) jumped ≡ height + 1 = omega (arith, behind_expression b (at + length ca + 1) (height + 1 - 1 + 0)) in
      let last : behind code (height + 1) (ops.Jump (no + 1) ∷ ops.Push (pos 0) ∷ []) ≡ height + 1 = omega arith in
      let tested = behind_both height (height + 1) (height + 1) ca jumped (behind_expression a at height) second in
      behind_both height (height + 1) (height + 1) (ca ++ jumped ++ truth_code) (ops.Jump (no + 1) ∷ ops.Push (pos 0) ∷ []) (behind_both height (height + 1) (height + 1) (ca ++ jumped) truth_code tested (behind_truth height)) last
  behind_expression (Or a b) at height =
      let ca = expression_code a at in
      let other = at + length ca + 3 in
      let cb = expression_code b other in
      let jumps = ops.Jumpz other ∷ ops.Push (pos 1) ∷ ops.Jump (other + length cb + 2) ∷ cb in
      let second : behind code (height + 1) jumps ≡ height + 1 = omega (arith, behind_expression b other (height + 1 - 1 + 0 - 0 + 1 - 1)) in
      behind_both height (height + 1) (height + 1) (ca ++ jumps) truth_code (behind_both height (height + 1) (height + 1) ca jumps (behind_expression a at height) second) (behind_truth height)

  pub behind_element : (e : Expression) (at height : ℕ) → behind code height (element_code e at) ≡ height + 1
  behind_element e at height = behind_place e at height (omega (arith, behind_expression e (at + 2) (height + 1)))

  module _ (plan : List Spot) where
    unary_fit : (op : UnOp) (height : ℕ) → AllFit code plan (height + 1) (unary_code op)
    unary_fit unary.Plus height = tt
    unary_fit unary.Minus height = (omega arith, tt, tt, (omega arith, tt, tt, tt))
    unary_fit unary.Complement height = (omega arith, tt, tt, tt)
    unary_fit unary.Not height = (omega arith, tt, tt, (omega arith, tt, tt, tt))

    truth_fit : (height : ℕ) → AllFit code plan (height + 1) truth_code
    truth_fit height = (omega arith, tt, tt, (omega arith, tt, tt, tt))

    index_fit : (height : ℕ) → AllFit code plan (height + 2) index_code
    index_fit height = (omega arith, tt, tt, (omega arith, tt, tt, (omega arith, tt, tt, tt)))

    binary_fit : (op : BinOp) (height : ℕ) → AllFit code plan (height + 2) (binary_code op)
    binary_fit binary.Lt height = (omega arith, tt, tt, tt)
    binary_fit binary.Rem height = (omega arith, tt, tt, tt)
    binary_fit binary.Shr height = (omega arith, tt, tt, tt)
    binary_fit binary.Eq height = (omega arith, tt, tt, tt)
    binary_fit binary.Ne height = (omega arith, tt, tt, tt)
    binary_fit binary.And height = (omega arith, tt, tt, tt)
    binary_fit binary.Xor height = (omega arith, tt, tt, tt)
    binary_fit binary.Or height = (omega arith, tt, tt, tt)
    binary_fit binary.Le height = (omega arith, tt, tt, (omega arith, tt, tt, (omega arith, tt, tt, (omega arith, tt, tt, tt))))
    binary_fit binary.Ge height = (omega arith, tt, tt, (omega arith, tt, tt, (omega arith, tt, tt, tt)))
    binary_fit _ height = (omega arith, tt, tt, (omega arith, tt, tt, tt))

    same_height : {place place' height height' : ℕ} → place ≡ place' → height ≡ height' → Stays plan place height → Stays plan place' height'
    same_height {place} {place'} {height} {height'} e f h = subst (λ p. Stays plan p height') e (subst (λ k. Stays plan place k) f h)

    -- the height between two parts, from the height behind both
    seam_height : (place height mid : ℕ) (xs ys : List Op) → behind code height xs ≡ mid → HeightsStand code plan place height (xs ++ ys) → Stays plan (place + length (xs ++ ys)) (behind code mid ys) → Stays plan (place + length xs) mid
    seam_height place height mid xs ys e h end =
        let there : place + length (xs ++ ys) ≡ place + length xs + length ys = omega (arith, length-append xs ys) in
        first_height code plan (place + length xs) mid ys (heights_back code plan place height mid xs ys e h) (same_height there refl end)

    -- this expression's code fits its heights wherever they stand with one cell more behind it
    abbrev FitsAt : Expression → Type 0
    FitsAt e = (place height : ℕ) → HeightsStand code plan place height (expression_code e place) → Stays plan (place + length (expression_code e place)) (height + 1) → AllFit code plan height (expression_code e place)

    unary_fits : (op : UnOp) (e : Expression) → FitsAt e → FitsAt (Unary op e)
    unary_fits op e operand place height h end =
        let ce = expression_code e place in
        let one = behind_expression e place height in
        let seam = seam_height place height (height + 1) ce (unary_code op) one h (same_height refl (sym (behind_unary op height)) end) in
        both_fit code plan height (height + 1) ce (unary_code op) one (operand place height (heights_front code plan place height ce (unary_code op) h) seam) (unary_fit op height)

    -- the address of an element
    place_fits : (e : Expression) → FitsAt e → (place height : ℕ) → HeightsStand code plan place height (element_code e place) → AllFit code plan height (element_code e place)
    place_fits e inner place height h =
        let ce = expression_code e (place + 2) in
        let first = pointer_code ++ ce in
        let low : height - 0 + 1 - 1 + 1 ≡ height + 1 = omega arith in
        let next : place + 1 + 1 ≡ place + 2 = omega arith in
        let one = behind_expression e (place + 2) (height + 1) in
        let two : behind code height first ≡ height + 2 = ap (λ h. behind code h ce) low ∙ one ∙ omega arith in
        let front = heights_front code plan place height first index_code h in
        let back = heights_back code plan place height (height + 2) first index_code two h in
        let stand = subst (λ p. HeightsStand code plan p (height + 1) ce) next (subst (λ k. HeightsStand code plan (place + 1 + 1) k ce) low front.1.1) in
        let fit = inner (place + 2) (height + 1) stand (same_height (omega arith) (omega arith) back.0) in
        both_fit code plan height (height + 2) first index_code two
        (omega arith, tt, tt, (omega arith, tt, tt, subst (λ k. AllFit code plan k ce) (sym low) fit)) (index_fit height)

    element_fits : (e : Expression) → FitsAt e → (place height : ℕ) → HeightsStand code plan place height (expression_code (Element e) place) → AllFit code plan height (expression_code (Element e) place)
    element_fits e inner place height h =
        let last = ops.Load32s ∷ [] in
        both_fit code plan height (height + 1) (element_code e place) last (behind_element e place height)
        (place_fits e inner place height (heights_front code plan place height (element_code e place) last h)) (omega arith, tt, tt, tt)

    binary_fits : (op : BinOp) (a b : Expression) → FitsAt a → FitsAt b → FitsAt (Binary op a b)
    binary_fits op a b first second place height h end =
        let ca = expression_code a place in
        let mid = place + length ca in
        let cb = expression_code b mid in
        let one = behind_expression a place height in
        let two : behind code (height + 1) cb ≡ height + 2 = omega (arith, behind_expression b mid (height + 1)) in
        let both = behind_both height (height + 1) (height + 2) ca cb one two in
        let operands = heights_front code plan place height (ca ++ cb) (binary_code op) h in
        let seam = seam_height place height (height + 2) (ca ++ cb) (binary_code op) both h (same_height refl (sym (behind_binary op height)) end) in
        let seam_a = seam_height place height (height + 1) ca cb one operands (same_height refl (sym two) seam) in
        let there : place + length (ca ++ cb) ≡ mid + length cb = omega (arith, length-append ca cb) in
        let end_b : Stays plan (mid + length cb) (height + 1 + 1) = same_height there (omega arith) seam in
        both_fit code plan height (height + 2) (ca ++ cb) (binary_code op) both
        (both_fit code plan height (height + 1) ca cb one
        (first place height (heights_front code plan place height ca cb operands) seam_a)
        (second mid (height + 1) (heights_back code plan place height (height + 1) ca cb one operands) end_b))
        (binary_fit op height)

    and_fits : (a b : Expression) → FitsAt a → FitsAt b → FitsAt (And a b)
    and_fits a b first second place height h end =
        let ca = expression_code a place in
        let mid = place + length ca in
        let cb = expression_code b (mid + 1) in
        let no = mid + 1 + length cb + 3 in
        let jumped = ops.Jumpz no ∷ cb in
        let tested = ca ++ jumped in
        let last = ops.Jump (no + 1) ∷ ops.Push (pos 0) ∷ [] in
        let one = behind_expression a place height in
        let low : height + 1 - 1 + 0 ≡ height = omega arith in
        let two : behind code (height + 1) jumped ≡ height + 1 = omega (arith, behind_expression b (mid + 1) (height + 1 - 1 + 0)) in
        let both = behind_both height (height + 1) (height + 1) ca jumped one two in
        let all = behind_both height (height + 1) (height + 1) tested truth_code both (behind_truth height) in
        let front = heights_front code plan place height (tested ++ truth_code) last h in
        let back = heights_back code plan place height (height + 1) (tested ++ truth_code) last all h in
        let truth = heights_back code plan place height (height + 1) tested truth_code both front in
        let operands = heights_front code plan place height tested truth_code front in
        let jump = heights_back code plan place height (height + 1) ca jumped one operands in
        let place_truth : place + length tested ≡ mid + 1 + length cb = omega (arith, length-append ca jumped) in
        let place_jump : place + length (tested ++ truth_code) ≡ mid + 1 + length cb + 2 = omega (arith, place_truth, length-append tested truth_code) in
        let place_no : place + length (tested ++ truth_code) + 1 ≡ no = omega (arith, place_jump) in
        let place_end : place + length (tested ++ truth_code ++ last) ≡ no + 1 = omega (arith, place_jump, length-append (tested ++ truth_code) last) in
        let fit_a = first place height (heights_front code plan place height ca jumped operands) jump.0 in
        let fit_b = second (mid + 1) height (subst (λ k. HeightsStand code plan (mid + 1) k cb) low jump.1) (same_height place_truth refl truth.0) in
        let fit_jumped : AllFit code plan (height + 1) jumped = (omega arith, tt, same_height place_no refl back.1.0, subst (λ k. AllFit code plan k cb) (sym low) fit_b) in
        let fit_last : AllFit code plan (height + 1) last = (omega arith, tt, same_height place_end refl end, (omega arith, tt, tt, tt)) in
        both_fit code plan height (height + 1) (tested ++ truth_code) last all
        (both_fit code plan height (height + 1) tested truth_code both
        (both_fit code plan height (height + 1) ca jumped one fit_a fit_jumped)
        (truth_fit height))
        fit_last

    or_fits : (a b : Expression) → FitsAt a → FitsAt b → FitsAt (Or a b)
    or_fits a b first second place height h end =
        let ca = expression_code a place in
        let mid = place + length ca in
        let other = mid + 3 in
        let cb = expression_code b other in
        let out = other + length cb + 2 in
        let jumps = ops.Jumpz other ∷ ops.Push (pos 1) ∷ ops.Jump out ∷ cb in
        let one = behind_expression a place height in
        let low : height + 1 - 1 + 0 - 0 + 1 - 1 ≡ height = omega arith in
        let two : behind code (height + 1) jumps ≡ height + 1 = omega (arith, behind_expression b other (height + 1 - 1 + 0 - 0 + 1 - 1)) in
        let both = behind_both height (height + 1) (height + 1) ca jumps one two in
        let truth = heights_back code plan place height (height + 1) (ca ++ jumps) truth_code both h in
        let operands = heights_front code plan place height (ca ++ jumps) truth_code h in
        let jump = heights_back code plan place height (height + 1) ca jumps one operands in
        let place_truth : place + length (ca ++ jumps) ≡ other + length cb = omega (arith, length-append ca jumps) in
        let place_end : place + length (ca ++ jumps ++ truth_code) ≡ out = omega (arith, place_truth, length-append (ca ++ jumps) truth_code) in
        let place_second : mid + 1 + 1 + 1 ≡ other = omega arith in
        let stand_b = subst (λ p. HeightsStand code plan p height cb) place_second (subst (λ k. HeightsStand code plan (mid + 1 + 1 + 1) k cb) low jump.1.1.1) in
        let end_b = same_height place_truth refl truth.0 in
        let start_b = first_height code plan other height cb stand_b (same_height refl (sym (behind_expression b other height)) end_b) in
        let fit_a = first place height (heights_front code plan place height ca jumps operands) jump.0 in
        let fit_b = second other height stand_b end_b in
        let fit_b' = subst (λ k. AllFit code plan k cb) (sym low) fit_b in
        let ahead : Stays plan other (height + 1 - 1) = same_height refl (omega arith) start_b in
        let over : Stays plan out (height + 1 - 1 + 0 - 0 + 1) = same_height place_end (omega arith) end in
        let fit_jumps : AllFit code plan (height + 1) jumps = (omega arith, tt, ahead, (omega arith, tt, tt, (omega arith, tt, over, fit_b'))) in
        both_fit code plan height (height + 1) (ca ++ jumps) truth_code both
        (both_fit code plan height (height + 1) ca jumps one fit_a fit_jumps)
        (truth_fit height)

    pub expression_fits : (e : Expression) → FitsAt e
    expression_fits (Number value) place height h end = (omega arith, tt, tt, tt)
    expression_fits (Variable k) place height h end = (omega arith, tt, tt, (omega arith, tt, tt, tt))
    expression_fits (Element e) place height h end = element_fits e (expression_fits e) place height h
    expression_fits (Unary op e) place height h end = unary_fits op e (expression_fits e) place height h end
    expression_fits (Binary op a b) place height h end = binary_fits op a b (expression_fits a) (expression_fits b) place height h end
    expression_fits (And a b) place height h end = and_fits a b (expression_fits a) (expression_fits b) place height h end
    expression_fits (Or a b) place height h end = or_fits a b (expression_fits a) (expression_fits b) place height h end

    pub address_fits : (e : Expression) (place height : ℕ) → HeightsStand code plan place height (element_code e place) → AllFit code plan height (element_code e place)
    address_fits e place height h = place_fits e (expression_fits e) place height h
