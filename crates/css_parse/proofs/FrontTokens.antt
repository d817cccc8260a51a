-- The first tokens of a list are what they are.
use Rattle.std.proofs.Common.{◌≡◌, ℕ, ◌<◌, ◌≤◌, ◌+◌, List, [], ◌∷◌, ◌++◌, length, Bool, true, false, bytes_eq, Option, Some, None, refl, sym, ap, ◌∙◌, subst, arith}
use Rattle.std.proofs.lemmas.Bool.{false≢true}
use Rattle.std.proofs.lemmas.Slice.Eq.{bytes_eq-Decides}
use Rattle.css_base.specs.Tokens as tokens
use Rattle.css_base.specs.Tokens.{Kind, Punctuator, Lexeme}
use Rattle.css_tree.specs.declared.scope.Scope.{Scope}
use Rattle.css_tree.specs.Syntax.{Expression}
use Rattle.css_tree.specs.TokenParts.{kind_at}
use Rattle.css_tree.specs.Expressions.{SpellsExpression}
use Rattle.css_pexpr.specs.declared.level.Level.{Level}
use Rattle.css_pexpr.specs.Longest.{IsLongest, level_number}
use Rattle.css_parse.specs.Fronts.{Next}
use Rattle.css_parse.proofs.Expressions.{one_expression}

pub one_next : {kind : Kind} {ts us vs : List Lexeme} → Next kind ts us → Next kind ts vs → us ≡ vs
one_next a b = let p = a.parts in let q = b.parts in cc

pub one_kind : {kind other : Kind} {ts us vs : List Lexeme} → Next kind ts us → Next other ts vs → kind ≡ other
one_kind a b =
    let p = a.parts in
    let q = b.parts in
    let token : a.token ≡ b.token = cc in
    sym a.is ∙ ap kind_at token ∙ b.is

mark_bytes : Kind → List ℕ
mark_bytes (Punctuator bytes) = bytes
mark_bytes _ = []

-- punctuators of different bytes differ
pub differ : (a b : List ℕ) → bytes_eq a b ≡ false → Punctuator a ≡ Punctuator b → ⊥
unfolding mark_bytes
differ a b different e =
    let same : a ≡ b = ap mark_bytes e in
    false≢true (sym different ∙ (bytes_eq-Decides a b).1 same)

word_bytes : Kind → List ℕ
word_bytes (tokens.Word bytes) = bytes
word_bytes _ = []

-- and so do words
pub differ_word : (a b : List ℕ) → bytes_eq a b ≡ false → tokens.Word a ≡ tokens.Word b → ⊥
unfolding word_bytes
differ_word a b different e =
    let same : a ≡ b = ap word_bytes e in
    false≢true (sym different ∙ (bytes_eq-Decides a b).1 same)

pub apart : {a b : List ℕ} {ts us vs : List Lexeme} → Next (Punctuator a) ts us → Next (Punctuator b) ts vs → bytes_eq a b ≡ false → ⊥
apart {a} {b} n m different = differ a b different (one_kind n m)

pub next_shorter : {kind : Kind} {ts us : List Lexeme} → Next kind ts us → length us < length ts
next_shorter n = let l = ap length n.parts in omega arith

pub same_fronts : (us vs xs ys : List Lexeme) → us ++ xs ≡ vs ++ ys → length us ≡ length vs → (us ≡ vs) × (xs ≡ ys)
same_fronts [] [] xs ys e l = (refl, e)
same_fronts [] (v ∷ vs) xs ys e l = absurd (omega arith)
same_fronts (u ∷ us) [] xs ys e l = absurd (omega arith)
same_fronts (u ∷ us) (v ∷ vs) xs ys e l =
    let first : u ≡ v = cc in
    let others : us ++ xs ≡ vs ++ ys = cc in
    let rest = same_fronts us vs xs ys others (omega arith) in
    let same : us ≡ vs = rest.0 in
    (cc, rest.1)

pub one_longest : {scope : Scope} {level : Level} {ts us vs : List Lexeme} {e other : Expression} → IsLongest scope level ts e us → IsLongest scope level ts other vs → (e ≡ other) × (us ≡ vs)
one_longest {scope} {level} {us = us} {vs = vs} {other = other} a b =
    let long = a.longest b.front vs other b.parts b.spells in
    let short = b.longest a.front us _ a.parts a.spells in
    let same = same_fronts a.front b.front us vs (sym a.parts ∙ b.parts) (omega arith) in
    (one_expression scope (level_number level) a.front a.spells (subst (λ l. SpellsExpression scope (level_number level) l other) (sym same.0) b.spells), same.1)
