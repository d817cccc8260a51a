-- Expressions as initialisers.
use Rattle.std.proofs.Common.{◌≡◌, ◌⊎◌, ℕ, zero, suc, ◌<◌, ◌≤◌, max, List, [], ◌∷◌, codes, Option, Some, None, refl, sym, ap, ◌∙◌, subst, inl, inr, arith}
use Rattle.std.specs.List.{slice_get}
use Rattle.css_base.specs.declared.token.Token.{Token}
use Rattle.css_base.specs.Tokens as tokens
use Rattle.css_base.specs.Tokens.{Kind, Punctuator, Lexeme, At, lexemes}
use Rattle.css_tree.specs.declared.scope.Scope.{Scope}
use Rattle.css_tree.specs.Syntax as tree
use Rattle.css_tree.specs.Syntax.{Expression, Initialiser, Value, String}
use Rattle.css_tree.specs.Heights.{height, height_of_initialiser}
use Rattle.css_pexpr.specs.declared.level.Level.TheVariants as levels
use Rattle.css_pexpr.specs.Longest.{IsLongest}
use Rattle.css_parse.specs.Readings as reads
use Rattle.css_parse.specs.Readings.{IsNoNext, ReadsExpression, valued, ReadsInitialiser}
use Rattle.css_parse.proofs.FrontTokens.{one_longest}
use Rattle.css_parse.proofs.Levels.{some_height}

-- tokens with a first one
pub front_of : (ts : List Token) (t : Token) → Some t ≡ slice_get ts 0 → (us : List Token) × (ts ≡ t ∷ us)
front_of [] t e = absurd cc
front_of (u ∷ us) t e = (us, (let same : u ≡ t = cc in ap (λ x. x ∷ us) same))

pub none_of : (ts : List Token) → None ≡ slice_get ts 0 → lexemes ts ≡ []
none_of [] e = refl
none_of (t ∷ ts) e = absurd cc

-- a value, or a string that begins with one
valued_cases : (ts : List Lexeme) (e : Expression) → (valued ts e ≡ Value e) ⊎ ((line : ℕ) × (bytes : List ℕ) × (e ≡ tree.Text line bytes) × (valued ts e ≡ String line bytes))
valued_cases (At (tokens.Text other) k p q ∷ ts) (tree.Text line bytes) = inr (line, bytes, refl, refl)
valued_cases [] e = inl refl
valued_cases (At (tokens.Text other) k p q ∷ ts) e = inl refl
valued_cases (At kind k p q ∷ ts) e = inl refl

-- a string behind a token that is one, and what is no string
pub text_valued : {k : Kind} {b : List ℕ} {e : Expression} {other : ℕ} {bytes : List ℕ} (line place end : ℕ) (ts : List Lexeme) → k ≡ tokens.Text b → e ≡ tree.Text other bytes
    → valued (At k line place end ∷ ts) e ≡ String other bytes
text_valued {b = b} {e} line place end ts kind text = ap (λ z. valued (At z line place end ∷ ts) e) kind ∙ ap (valued (At (tokens.Text b) line place end ∷ ts)) text

pub other_valued : (ts : List Lexeme) (e : Expression) → ((line : ℕ) (bytes : List ℕ) → e ≡ tree.Text line bytes → ⊥) → valued ts e ≡ Value e
other_valued ts e none = elim (valued_cases ts e) [ inl is ↦ is | inr h ↦ absurd (none h.0 h.1 h.2) ]

valued_high : (ts : List Lexeme) (e : Expression) (most : ℕ) → height_of_initialiser (valued ts e) ≤ most → height e ≤ max most 1
valued_high ts e most low = elim (valued_cases ts e)
    [ inl is ↦ (let same = ap height_of_initialiser is in omega arith) | inr h ↦ (let same = ap height h.2 in omega arith) ]

pub valued_low : (ts : List Lexeme) (e : Expression) (most : ℕ) → height e ≤ max most 1 → (most ≡ 0 → (x : Expression) → valued ts e ≡ Value x → ⊥) → height_of_initialiser (valued ts e) ≤ most
valued_low ts e most low none = elim (valued_cases ts e)
    [ inl is ↦ by most low is none | inr h ↦ (let same = ap height_of_initialiser h.3 in omega arith) ]
  where
    by : (most : ℕ) → height e ≤ max most 1 → valued ts e ≡ Value e → (most ≡ 0 → (x : Expression) → valued ts e ≡ Value x → ⊥) → height_of_initialiser (valued ts e) ≤ most
    by zero low is none = absurd (none refl e is)
    by (suc n) low is none = (let same = ap height_of_initialiser is in omega arith)

pub no_valued : (scope : Scope) (most high : ℕ) (ts : List Lexeme) (i : Initialiser) (rest : List Lexeme) → max most 1 ≤ high → IsNoNext (Punctuator (codes "{")) ts
    → ((e : Expression) (behind : List Lexeme) → ReadsExpression scope levels.Assign high ts e behind → ⊥) → ReadsInitialiser scope most ts i rest → ⊥
no_valued scope most high ts i rest h none other (reads.Valued e not long is low) =
    let most_high = valued_high ts e most (subst (λ x. height_of_initialiser x ≤ most) is low) in
    other e rest (record { longest = long; low = omega arith })
no_valued scope most high ts i rest h none other (reads.Braced inside n line r) = none inside n

pub no_high : (scope : Scope) (most : ℕ) (ts : List Lexeme) (i : Initialiser) (rest : List Lexeme) {behind : List Lexeme} {e x : Expression} → most ≡ 0 → IsNoNext (Punctuator (codes "{")) ts → IsLongest scope levels.Assign ts e behind
    → valued ts e ≡ Value x → ReadsInitialiser scope most ts i rest → ⊥
no_high scope most ts i rest {e = e} {x} is_zero none long is (reads.Valued other not long' is' low) =
    let same = one_longest long' long in
    let all : i ≡ Value x = is' ∙ ap (valued ts) same.0 ∙ is in
    let size = ap height_of_initialiser all in
    let some = some_height x in
    omega arith
no_high scope most ts i rest is_zero none long is (reads.Braced inside n line r) = none inside n
