-- No tokens are neither accepted nor refused.
use Rattle.std.proofs.Common.{◌≡◌, ◌⊎◌, ℕ, zero, suc, ◌+◌, ◌<◌, ◌≤◌, List, [], ◌∷◌, ◌++◌, length, refl, sym, ap, ◌∙◌, subst, inl, inr, arith, append-nil}
use Rattle.std.proofs.lemmas.Bool.{cases_lt}
use Rattle.std.proofs.lemmas.List.{length-append}
use Rattle.css_base.specs.Tokens.{Lexeme}
use Rattle.css_base.specs.declared.static_fault.StaticFault.{StaticFault}
use Rattle.css_base.specs.declared.static_fault.StaticName.TheVariants as names
use Rattle.css_tree.specs.Syntax.{Tree}
use Rattle.css_tree.specs.TokenParts.{kind_at, line_of}
use Rattle.css_tree.specs.Brackets.{IsShallow, open_behind}
use Rattle.css_parse.specs.Unsupported.{unsupported_lines, first}
use Rattle.css_parse.specs.Refusals.{Spells, IsTooDeepAt, IsUnspelledAt, IsRefused, IsAccepted}
use Rattle.css_parse.proofs.Nesting.{IsShallowSoFar, none_yet, one_more, deep, all_shallow}

-- ---- brackets

-- the tokens are shallow, or one opens the 201st bracket
abbrev ShallowOrDeep : List Lexeme → Type 0
ShallowOrDeep ts = IsShallow ts ⊎ ((line : ℕ) × IsTooDeepAt ts line)

one_step : (ts : List Lexeme) (count : ℕ) (t : Lexeme) (rest : List Lexeme) → IsShallowSoFar ts count (t ∷ rest) → (200 < open_behind count (kind_at t)) ⊎ (open_behind count (kind_at t) ≤ 200)
    → (IsShallowSoFar ts (open_behind count (kind_at t)) rest → ShallowOrDeep ts) → ShallowOrDeep ts
one_step ts count t rest so_far (inl high) on = inr (line_of t, deep ts count (open_behind count (kind_at t)) (line_of t) t (t ∷ rest) rest so_far refl refl high refl)
one_step ts count t rest so_far (inr low) on = on (one_more ts count (open_behind count (kind_at t)) t (t ∷ rest) rest so_far refl refl low)

from_here : (ts : List Lexeme) (count : ℕ) (rest : List Lexeme) → IsShallowSoFar ts count rest → ShallowOrDeep ts
from_here ts count [] so_far = inl (all_shallow ts count [] so_far refl)
from_here ts count (t ∷ rest) so_far =
    one_step ts count t rest so_far (cases_lt 200 (open_behind count (kind_at t))) (from_here ts (open_behind count (kind_at t)) rest)

shallow_or_deep : (ts : List Lexeme) → ShallowOrDeep ts
shallow_or_deep ts = from_here ts 0 ts (none_yet ts)

-- ---- the grammar

module _ (ts : List Lexeme) (none : (tree : Tree) → IsAccepted ts tree → ⊥) (no_fault : (fault : StaticFault) → IsRefused ts fault → ⊥) where
  module _ (supported : unsupported_lines ts ≡ []) (shallow : IsShallow ts) where
    -- so few tokens stand behind no front that is spelled
    abbrev NoneFrom : ℕ → Type 0
    NoneFrom n = (front rest : List Lexeme) (tree : Tree) → ts ≡ front ++ rest → Spells front tree → length rest < n → ⊥

    -- then a front with one token more behind it is the longest
    no_longer : (n : ℕ) (front rest : List Lexeme) → NoneFrom n → ts ≡ front ++ rest → length rest < suc n
        → (more behind : List Lexeme) (other : Tree) → ts ≡ more ++ behind → Spells more other → (length front < length more) ⊎ (length more ≤ length front) → length more ≤ length front
    no_longer n front rest later parts few more behind other is spells (inr le) = le
    no_longer n front rest later parts few more behind other is spells (inl longer) =
        let one = length-append front rest in
        let two = length-append more behind in
        let same = ap length (sym parts ∙ is) in
        absurd (later more behind other is spells (omega (arith, one, two, same)))

    -- and the token behind it refuses the tokens
    never_longest : (n : ℕ) (front rest : List Lexeme) (tree : Tree) → NoneFrom n → ts ≡ front ++ rest → Spells front tree → length rest < suc n → ⊥
    never_longest n front [] tree later parts spells few =
        none tree (record { supported = supported; shallow = shallow; spells = subst (λ l. Spells l tree) (sym (parts ∙ append-nil front)) spells })
    never_longest n front (t ∷ rest) tree later parts spells few =
        no_fault (record { name = names.Syntax; line = line_of t })
        (inr (inr (
          refl,
          supported,
          shallow,
          record {
            front = front;
            token = t;
            rest = rest;
            parts = parts;
            tree = tree;
            spells = spells;
            longest = λ more behind other is also. no_longer n front (t ∷ rest) later parts few more behind other is also (cases_lt (length front) (length more));
            line_is = refl;
          },
        )))

    never_spelled : (n : ℕ) → NoneFrom n
    never_spelled zero front rest tree parts spells few = absurd (omega arith)
    never_spelled (suc n) front rest tree parts spells few = never_longest n front rest tree (never_spelled n) parts spells few

    no_tree : ⊥
    no_tree = never_spelled (suc (length ts)) [] ts [] refl (record { spelled = refl; low = omega arith }) (omega arith)

  by_brackets : unsupported_lines ts ≡ [] → ShallowOrDeep ts → ⊥
  by_brackets supported (inl shallow) = no_tree supported shallow
  by_brackets supported (inr d) = no_fault (record { name = names.TooDeep; line = d.0 }) (inr (inl (refl, supported, d.1)))

  by_lines : (lines : List ℕ) → unsupported_lines ts ≡ lines → ⊥
  by_lines [] is = by_brackets is (shallow_or_deep ts)
  by_lines (line ∷ lines) is = no_fault (record { name = names.Unsupported; line = line }) (inl (refl, ap first is))

  pub never_neither : ⊥
  never_neither = by_lines (unsupported_lines ts) refl
