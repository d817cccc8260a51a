-- What the words that make a type are.
use Rattle.std.proofs.Common.{◌≡◌, ℕ, Bool, true, false, cond, List, [], ◌∷◌, codes, Option, Some, None, find, bytes_eq, refl, sym, ap, ◌∙◌, subst, if◌then◌else◌}
use Rattle.std.specs.List.{list_all}
use Rattle.std.proofs.lemmas.Bool.{and_parts, false≢true}
use Rattle.std.proofs.lemmas.Slice.Eq.{bytes_eq-Decides}
use Rattle.css_base.specs.Tokens as tokens
use Rattle.css_base.specs.Tokens.{Kind, Word}
use Rattle.css_tree.specs.declared.scope.Scope.{Scope}
use Rattle.css_tree.specs.declared.scope.Scope.TheVariants as scopes
use Rattle.css_tree.specs.declared.words.Specifier.{Specifier}
use Rattle.css_tree.specs.declared.words.Specifier.TheVariants as specifiers
use Rattle.css_tree.specs.declared.words.Qualifier.{Qualifier}
use Rattle.css_tree.specs.declared.words.Qualifier.TheVariants as qualifiers
use Rattle.css_tree.specs.Words.{specifier_text, specifier_kind, qualifier_text, qualifier_kind, IsAllowed}
use Rattle.css_parse.specs.Words.{block_specifiers, block_specifier, file_specifier, specifier_spelled, specifier_of, all_qualifiers, qualifier_spelled, qualifier_of}

-- what a search finds passes its test
find_passes : {X : Type 0} (test : X → Bool) (xs : List X) (x : X) → find test xs ≡ Some x → test x ≡ true
find_passes test [] x h = absurd cc
find_passes {X} test (y ∷ xs) x h = by (test y) refl h (find_passes test xs x)
  where
    by : (b : Bool) → test y ≡ b → cond b (Some y) (find test xs) ≡ Some x → (find test xs ≡ Some x → test x ≡ true) → test x ≡ true
    by true e h later = let same : y ≡ x = cc in subst (λ z. test z ≡ true) same e
    by false e h later = later h

-- what is found is one of them
find_among : {X : Type 0} (P : X → Bool) (test : X → Bool) (xs : List X) (x : X) → list_all P xs ≡ true → find test xs ≡ Some x → P x ≡ true
find_among P test [] x all h = absurd cc
find_among {X} P test (y ∷ xs) x all h =
    let both = and_parts (P y) (list_all P xs) all in
    by (test y) h both.0 (find_among P test xs x both.1)
  where
    by : (b : Bool) → cond b (Some y) (find test xs) ≡ Some x → P y ≡ true → (find test xs ≡ Some x → P x ≡ true) → P x ≡ true
    by true h e later = let same : y ≡ x = cc in subst (λ z. P z ≡ true) same e
    by false h e later = later h

-- ---- specifiers

abbrev is_in_block : Specifier → Bool
is_in_block specifiers.Static = false
is_in_block s = true

in_block : (s : Specifier) → is_in_block s ≡ true → IsAllowed scopes.Block s
in_block specifiers.Static h = absurd (false≢true h)
in_block s h = tt

block_bytes : (bytes : List ℕ) (s : Specifier) → block_specifier bytes ≡ Some s → bytes ≡ specifier_text s
unfolding block_specifier
block_bytes bytes s e = sym ((bytes_eq-Decides (specifier_text s) bytes).0 (find_passes (λ y. bytes_eq (specifier_text y) bytes) block_specifiers s e))

block_allowed : (bytes : List ℕ) (s : Specifier) → block_specifier bytes ≡ Some s → IsAllowed scopes.Block s
unfolding block_specifier
block_allowed bytes s e = in_block s (find_among is_in_block (λ y. bytes_eq (specifier_text y) bytes) block_specifiers s refl e)

file_bytes : (bytes : List ℕ) (s : Specifier) → file_specifier bytes ≡ Some s → bytes ≡ specifier_text s
unfolding file_specifier
file_bytes bytes s e = by (bytes_eq bytes (codes "static")) refl e
  where
    by : (b : Bool) → bytes_eq bytes (codes "static") ≡ b → (if b then Some specifiers.Static else block_specifier bytes) ≡ Some s → bytes ≡ specifier_text s
    by true is h = (let same : specifiers.Static ≡ s = cc in (bytes_eq-Decides bytes (codes "static")).0 is ∙ ap specifier_text same)
    by false is h = block_bytes bytes s h

pub specifier_bytes : (scope : Scope) (bytes : List ℕ) (s : Specifier) → specifier_spelled scope bytes ≡ Some s → bytes ≡ specifier_text s
specifier_bytes scopes.File bytes s e = file_bytes bytes s e
specifier_bytes scopes.Block bytes s e = block_bytes bytes s e

pub specifier_allowed : (scope : Scope) (bytes : List ℕ) (s : Specifier) → specifier_spelled scope bytes ≡ Some s → IsAllowed scope s
specifier_allowed scopes.File bytes s e = tt
specifier_allowed scopes.Block bytes s e = block_allowed bytes s e

-- a token that is a specifier, and one that is spelled as one
pub specifier_is : (scope : Scope) (kind : Kind) (s : Specifier) → specifier_of scope kind ≡ Some s → (kind ≡ specifier_kind s) × IsAllowed scope s
specifier_is scope (Word bytes) s e = (ap Word (specifier_bytes scope bytes s e), specifier_allowed scope bytes s e)
specifier_is scope (tokens.Number type value) s e = absurd cc
specifier_is scope (tokens.Character byte) s e = absurd cc
specifier_is scope (tokens.Text bytes) s e = absurd cc
specifier_is scope (tokens.Punctuator bytes) s e = absurd cc
specifier_is scope (tokens.Directive words) s e = absurd cc

pub specifier_found : (scope : Scope) (s : Specifier) → IsAllowed scope s → specifier_spelled scope (specifier_text s) ≡ Some s
unfolding block_specifier file_specifier
specifier_found scopes.File specifiers.Void h = refl
specifier_found scopes.File specifiers.Char h = refl
specifier_found scopes.File specifiers.Short h = refl
specifier_found scopes.File specifiers.Int h = refl
specifier_found scopes.File specifiers.Long h = refl
specifier_found scopes.File specifiers.Signed h = refl
specifier_found scopes.File specifiers.Unsigned h = refl
specifier_found scopes.File specifiers.Auto h = refl
specifier_found scopes.File specifiers.Const h = refl
specifier_found scopes.File specifiers.Inline h = refl
specifier_found scopes.File specifiers.Register h = refl
specifier_found scopes.File specifiers.Restrict h = refl
specifier_found scopes.File specifiers.Volatile h = refl
specifier_found scopes.File specifiers.Static h = refl
specifier_found scopes.Block specifiers.Void h = refl
specifier_found scopes.Block specifiers.Char h = refl
specifier_found scopes.Block specifiers.Short h = refl
specifier_found scopes.Block specifiers.Int h = refl
specifier_found scopes.Block specifiers.Long h = refl
specifier_found scopes.Block specifiers.Signed h = refl
specifier_found scopes.Block specifiers.Unsigned h = refl
specifier_found scopes.Block specifiers.Auto h = refl
specifier_found scopes.Block specifiers.Const h = refl
specifier_found scopes.Block specifiers.Inline h = refl
specifier_found scopes.Block specifiers.Register h = refl
specifier_found scopes.Block specifiers.Restrict h = refl
specifier_found scopes.Block specifiers.Volatile h = refl
specifier_found scopes.Block specifiers.Static h = absurd h

pub specifier_read : (scope : Scope) (kind : Kind) (s : Specifier) → kind ≡ specifier_kind s → IsAllowed scope s → specifier_of scope kind ≡ Some s
specifier_read scope kind s e h = ap (specifier_of scope) e ∙ specifier_found scope s h

-- ---- qualifiers

qualifier_bytes : (bytes : List ℕ) (q : Qualifier) → qualifier_spelled bytes ≡ Some q → bytes ≡ qualifier_text q
unfolding qualifier_spelled
qualifier_bytes bytes q e = sym ((bytes_eq-Decides (qualifier_text q) bytes).0 (find_passes (λ y. bytes_eq (qualifier_text y) bytes) all_qualifiers q e))

pub qualifier_is : (kind : Kind) (q : Qualifier) → qualifier_of kind ≡ Some q → kind ≡ qualifier_kind q
qualifier_is (Word bytes) q e = ap Word (qualifier_bytes bytes q e)
qualifier_is (tokens.Number type value) q e = absurd cc
qualifier_is (tokens.Character byte) q e = absurd cc
qualifier_is (tokens.Text bytes) q e = absurd cc
qualifier_is (tokens.Punctuator bytes) q e = absurd cc
qualifier_is (tokens.Directive words) q e = absurd cc

qualifier_found : (q : Qualifier) → qualifier_spelled (qualifier_text q) ≡ Some q
unfolding qualifier_spelled
qualifier_found qualifiers.Const = refl
qualifier_found qualifiers.Volatile = refl
qualifier_found qualifiers.Restrict = refl

pub qualifier_read : (kind : Kind) (q : Qualifier) → kind ≡ qualifier_kind q → qualifier_of kind ≡ Some q
qualifier_read kind q e = ap qualifier_of e ∙ qualifier_found q
