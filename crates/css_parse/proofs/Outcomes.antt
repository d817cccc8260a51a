-- Tokens are accepted or refused in one way.
use Rattle.std.proofs.Common.{◌≡◌, ℕ, ◌<◌, ◌≤◌, ◌+◌, List, [], ◌∷◌, ◌++◌, length, Option, Some, None, refl, sym, ap, ◌∙◌, subst, inl, inr, arith, append_assoc, append-nil}
use Rattle.std.proofs.lemmas.List.{length-append}
use Rattle.css_base.specs.Tokens.{Lexeme}
use Rattle.css_base.specs.declared.static_fault.StaticFault.{StaticFault}
use Rattle.css_base.specs.declared.static_fault.StaticName.{StaticName}
use Rattle.css_base.specs.declared.static_fault.StaticName.TheVariants as names
use Rattle.css_tree.specs.Syntax.{Tree}
use Rattle.css_tree.specs.TokenParts.{line_of}
use Rattle.css_tree.specs.Brackets.{IsShallow, left_open}
use Rattle.css_parse.specs.Unsupported.{unsupported_lines, first}
use Rattle.css_parse.specs.Refusals.{Spells, IsTooDeepAt, IsUnspelledAt, IsRefused, IsAccepted}
use Rattle.css_parse.proofs.FrontTokens.{same_fronts}

-- ---- the token behind the longest front

pub token_behind : (ts front rest : List Lexeme) (tree : Tree) → ts ≡ front ++ rest → Spells front tree → ((other : Tree) → Spells ts other → ⊥) → (token : Lexeme) × (others : List Lexeme) × (rest ≡ token ∷ others)
token_behind ts front [] tree e s none = absurd (none tree (subst (λ l. Spells l tree) (sym (e ∙ append-nil front)) s))
token_behind ts front (t ∷ rest) tree e s none = (t, rest, refl)

one_unspelled : (ts : List Lexeme) (n m : ℕ) → IsUnspelledAt ts n → IsUnspelledAt ts m → n ≡ m
one_unspelled ts n m a b =
    let long = a.longest b.front (b.token ∷ b.rest) b.tree b.parts b.spells in
    let short = b.longest a.front (a.token ∷ a.rest) a.tree a.parts a.spells in
    let same = same_fronts a.front b.front (a.token ∷ a.rest) (b.token ∷ b.rest) (sym a.parts ∙ b.parts) (omega arith) in
    let behind = same.1 in
    let token : a.token ≡ b.token = cc in
    a.line_is ∙ ap line_of token ∙ sym b.line_is

spelled_whole : (ts : List Lexeme) (tree : Tree) (line : ℕ) → Spells ts tree → IsUnspelledAt ts line → ⊥
spelled_whole ts tree line s u =
    let whole = u.longest ts [] tree (sym (append-nil ts)) s in
    let size = ap length u.parts in
    absurd (omega (arith, length-append u.front (u.token ∷ u.rest)))

-- ---- the first bracket too many

-- the fronts of some tokens are fronts of one another
record Within (us : List Lexeme) (t : Lexeme) (vs : List Lexeme) : Type 0 where
  behind : List Lexeme
  parts : vs ≡ (us ++ t ∷ []) ++ behind

within : (us vs : List Lexeme) (t u : Lexeme) (xs ys : List Lexeme) → us ++ t ∷ xs ≡ vs ++ u ∷ ys → length us < length vs → Within us t vs
within [] [] t u xs ys e short = absurd (omega arith)
within [] (v ∷ vs) t u xs ys e short = (let first : t ≡ v = cc in record { behind = vs; parts = ap (λ x. x ∷ vs) (sym first) })
within (w ∷ us) [] t u xs ys e short = absurd (omega arith)
within (w ∷ us) (v ∷ vs) t u xs ys e short =
    let first : w ≡ v = cc in
    let others : us ++ t ∷ xs ≡ vs ++ u ∷ ys = cc in
    let inner = within us vs t u xs ys others (omega arith) in
    let is = inner.parts in
    record { behind = inner.behind; parts = cc }

not_before : (ts : List Lexeme) (n m : ℕ) → (a : IsTooDeepAt ts n) → (b : IsTooDeepAt ts m) → length a.front < length b.front → ⊥
not_before ts n m a b short =
    let inside = within a.front b.front a.token b.token a.rest b.rest (sym a.parts ∙ b.parts) short in
    let low = b.shallow (a.front ++ a.token ∷ []) inside.behind inside.parts in
    let high = a.deep in
    omega arith

equal : (n m : ℕ) → (n < m → ⊥) → (m < n → ⊥) → n ≡ m
equal n m p q = grind arith

one_too_deep : (ts : List Lexeme) (n m : ℕ) → IsTooDeepAt ts n → IsTooDeepAt ts m → n ≡ m
one_too_deep ts n m a b =
    let size = equal (length a.front) (length b.front) (λ short. not_before ts n m a b short) (λ short. not_before ts m n b a short) in
    let same = same_fronts a.front b.front (a.token ∷ a.rest) (b.token ∷ b.rest) (sym a.parts ∙ b.parts) size in
    let behind = same.1 in
    let token : a.token ≡ b.token = cc in
    a.line_is ∙ ap line_of token ∙ sym b.line_is

shallow_deep : (ts : List Lexeme) (line : ℕ) → IsShallow ts → IsTooDeepAt ts line → ⊥
shallow_deep ts line shallow d =
    let low = shallow (d.front ++ d.token ∷ []) d.rest (d.parts ∙ sym (append_assoc d.front (d.token ∷ []) d.rest)) in
    let high = d.deep in
    omega arith

-- ---- refusals

some_lines : (lines : List ℕ) (line : ℕ) → first lines ≡ Some line → lines ≡ [] → ⊥
some_lines lines line is none = (let wrong : None ≡ Some line = ap first (sym none) ∙ is in absurd cc)

abbrev made : StaticName → ℕ → StaticFault
made name line = record { name = name; line = line }

same_fault : (f g : StaticFault) → f.name ≡ g.name → f.line ≡ g.line → f ≡ g
same_fault f g p q = ap (λ x. made x f.line) p ∙ ap (λ x. made g.name x) q

pub one_refusal : (ts : List Lexeme) (f g : StaticFault) → IsRefused ts f → IsRefused ts g → f ≡ g
one_refusal ts f g (inl a) (inl b) = same_fault f g (a.0 ∙ sym b.0) (let both : Some f.line ≡ Some g.line = sym a.1 ∙ b.1 in cc)
one_refusal ts f g (inl a) (inr (inl b)) = absurd (some_lines (unsupported_lines ts) f.line a.1 b.1)
one_refusal ts f g (inl a) (inr (inr b)) = absurd (some_lines (unsupported_lines ts) f.line a.1 b.1)
one_refusal ts f g (inr (inl a)) (inl b) = absurd (some_lines (unsupported_lines ts) g.line b.1 a.1)
one_refusal ts f g (inr (inl a)) (inr (inl b)) = same_fault f g (a.0 ∙ sym b.0) (one_too_deep ts f.line g.line a.2 b.2)
one_refusal ts f g (inr (inl a)) (inr (inr b)) = absurd (shallow_deep ts f.line b.2 a.2)
one_refusal ts f g (inr (inr a)) (inl b) = absurd (some_lines (unsupported_lines ts) g.line b.1 a.1)
one_refusal ts f g (inr (inr a)) (inr (inl b)) = absurd (shallow_deep ts g.line a.2 b.2)
one_refusal ts f g (inr (inr a)) (inr (inr b)) = same_fault f g (a.0 ∙ sym b.0) (one_unspelled ts f.line g.line a.3 b.3)

pub never_both : (ts : List Lexeme) (tree : Tree) (f : StaticFault) → IsAccepted ts tree → IsRefused ts f → ⊥
never_both ts tree f a (inl r) = some_lines (unsupported_lines ts) f.line r.1 a.supported
never_both ts tree f a (inr (inl r)) = shallow_deep ts f.line a.shallow r.2
never_both ts tree f a (inr (inr r)) = spelled_whole ts tree f.line a.spells r.3
