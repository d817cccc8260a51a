-- The arguments of a call, one by one.
use Rattle.std.proofs.Common.{◌≡◌, ℕ, zero, suc, true, ◌+◌, ◌<◌, ◌≤◌, List, [], ◌∷◌, ◌++◌, length, map, drop, get_or, Ok, Err, refl, sym, ap, ◌∙◌, append_assoc, arith}
use Rattle.std.proofs.lemmas.List.{drop_more, at_drop_all, append-nil, map-append}
use Rattle.css_base.specs.declared.static_fault.StaticFault.{StaticFault}
use Rattle.css_tree.specs.declared.expression.Expression.{Expression}
use Rattle.css_tree.specs.Shapes as trees
use Rattle.css_operands.specs.declared.operand.Operand as code
use Rattle.css_type_table.specs.Lists.{Lists}
use Rattle.css_types.specs.Judged.{Judged, after}
use Rattle.css_types.specs.Operands.{Operand}
use Rattle.css_operands.specs.Shapes.{operand}
use Rattle.css_types.specs.Scopes.{Scope}
use Rattle.css_expressions.specs.Calls.{left_by}
use Rattle.css_types.specs.Expressions.{operand_of, values_in, as_value}

module _ (lists : Lists) where
  -- what is done, before the values of the others
  abbrev pub behind : List code.Operand → Judged (List Operand) → Judged (List Operand)
  behind done judged = after judged (λ rest. Ok (map (operand lists) done ++ rest))

  abbrev pub on : Scope → (line : ℕ) → List code.Operand → List Expression → Judged (List Operand)
  on scope line done left = behind done (values_in scope line (trees.listed left))

  -- one more, where the rest may break a rule
  behind-more : (done : List code.Operand) (a : code.Operand) (rest : Judged (List Operand))
      → behind (done ++ a ∷ []) rest ≡ behind done (after rest (λ others. Ok (operand lists a ∷ others)))
  behind-more done a (Err f) = refl
  behind-more done a (Ok rest) = ap Ok (ap (λ l. l ++ rest) (map-append (operand lists) done (a ∷ [])) ∙ append_assoc (map (operand lists) done) (operand lists a ∷ []) rest)

  next : (scope : Scope) (line : ℕ) (all : List Expression) (i : ℕ) (e : Expression) (done : List code.Operand) → i < length all → e ≡ get_or all i e
      → on scope line done (e ∷ drop (i + 1) all) ≡ on scope line done (drop i all)
  next scope line all i e done below is = ap (λ x. on scope line done (x ∷ drop (i + 1) all)) is ∙ ap (on scope line done) (sym (drop_more all i e below))

  pub valued : (scope : Scope) (line : ℕ) (all : List Expression) (i : ℕ) (e : Expression) (done : List code.Operand) (a : code.Operand) → i < length all → e ≡ get_or all i e
      → as_value (operand_of scope line (trees.expression e)) ≡ Ok (operand lists a) → on scope line (done ++ a ∷ []) (drop (i + 1) all) ≡ on scope line done (drop i all)
  valued scope line all i e done a below is found =
      behind-more done a (values_in scope line (trees.listed (drop (i + 1) all)))
      ∙ ap (λ first. behind done (after first (λ v. after (values_in scope line (trees.listed (drop (i + 1) all))) (λ rest. Ok (v ∷ rest))))) (sym found)
      ∙ next scope line all i e done below is

  pub not_valued : (scope : Scope) (line : ℕ) (all : List Expression) (i : ℕ) (e : Expression) (done : List code.Operand) (f : StaticFault) → i < length all → e ≡ get_or all i e
      → as_value (operand_of scope line (trees.expression e)) ≡ Err f → on scope line done (drop i all) ≡ Err f
  not_valued scope line all i e done f below is broken =
      sym (next scope line all i e done below is)
      ∙ ap (λ first. behind done (after first (λ v. after (values_in scope line (trees.listed (drop (i + 1) all))) (λ rest. Ok (v ∷ rest))))) broken

  pub all_valued : (scope : Scope) (line : ℕ) (all : List Expression) (i : ℕ) (done : List code.Operand) → length all ≤ i → on scope line done (drop i all) ≡ Ok (map (operand lists) done)
  all_valued scope line all i done past = at_drop_all (on scope line done) all i past ∙ ap Ok (append-nil (map (operand lists) done))

-- the first, once it is passed over
pub passed_over : (all : List Expression) (i : ℕ) → i < length all → left_by true (drop i all) ≡ drop (i + 1) all
passed_over [] i within = absurd (omega arith)
passed_over (e ∷ all) zero within = refl
passed_over (e ∷ all) (suc i) within =
    passed_over all i (omega arith) ∙ (let k : suc (i + 1) ≡ suc i + 1 = omega arith in ap (λ n. drop n (e ∷ all)) k)
