-- What the bytes of punctuators and words say.
use Rattle.std.proofs.Common.{◌≡◌, ℕ, Bool, true, false, not, cond, List, [], ◌∷◌, codes, Option, Some, None, find, bytes_eq, refl, sym, ap, ◌∙◌, subst, if◌then◌else◌}
use Rattle.std.specs.Prelude.{option_and_then}
use Rattle.std.specs.List.{list_all}
use Rattle.std.proofs.lemmas.Bool.{and_parts, false_from_ne_true}
use Rattle.std.proofs.lemmas.Slice.Eq.{bytes_eq-Decides}
use Rattle.css_tree.specs.declared.scope.Scope.{Scope}
use Rattle.css_tree.specs.declared.scope.Scope.TheVariants as scopes
use Rattle.css_tree.specs.declared.words.Specifier.{Specifier}
use Rattle.css_tree.specs.declared.words.Specifier.TheVariants as specifiers
use Rattle.css_tree.specs.declared.words.Qualifier.{Qualifier}
use Rattle.css_tree.specs.declared.words.Qualifier.TheVariants as qualifiers
use Rattle.css_tree.specs.declared.operators.UnaryOperator.{UnaryOperator}
use Rattle.css_tree.specs.declared.operators.UnaryOperator.TheVariants as unaries
use Rattle.css_tree.specs.declared.operators.BinaryOperator.TheVariants as binaries
use Rattle.css_tree.specs.declared.operators.AssignOperator.TheVariants as assignments
use Rattle.css_tree.specs.Words.{specifier_text, qualifier_text, is_keyword, IsName, IsAllowed}
use Rattle.css_tree.specs.Expressions.{unary_text}
use Rattle.css_pexpr.specs.declared.prefix.Prefix.{Prefix}
use Rattle.css_pexpr.specs.declared.prefix.Prefix.TheVariants as prefixes
use Rattle.css_pexpr.specs.declared.prefix.Lead.{Lead}
use Rattle.css_pexpr.specs.declared.prefix.Lead.TheVariants as leads
use Rattle.css_pexpr.specs.declared.follow.Joint.TheVariants as joints
use Rattle.css_pexpr.specs.declared.follow.Follow.{Follow}
use Rattle.css_pexpr.specs.declared.follow.Follow.TheVariants as follows
use Rattle.css_pexpr.specs.Signs.{lead_text, leading, lead_spelled, follow_text, following, follow_spelled, all_specifiers, specifier_spelled, is_allowed, specifier_of, all_qualifiers, qualifier_spelled}

-- what a search finds passes its test
find_passes : {X : Type 0} (test : X → Bool) (xs : List X) (x : X) → find test xs ≡ Some x → test x ≡ true
find_passes test [] x h = absurd cc
find_passes {X} test (y ∷ xs) x h = by (test y) refl h (find_passes test xs x)
  where
    by : (b : Bool) → test y ≡ b → cond b (Some y) (find test xs) ≡ Some x → (find test xs ≡ Some x → test x ≡ true) → test x ≡ true
    by true e h later = let same : y ≡ x = cc in subst (λ z. test z ≡ true) same e
    by false e h later = later h

-- what is found is one of them
find_among : {X : Type 0} (P : X → Bool) (test : X → Bool) (xs : List X) (x : X) → list_all P xs ≡ true → find test xs ≡ Some x → P x ≡ true
find_among P test [] x all h = absurd cc
find_among {X} P test (y ∷ xs) x all h =
    let both = and_parts (P y) (list_all P xs) all in
    by (test y) h both.0 (find_among P test xs x both.1)
  where
    by : (b : Bool) → cond b (Some y) (find test xs) ≡ Some x → P y ≡ true → (find test xs ≡ Some x → P x ≡ true) → P x ≡ true
    by true h e later = let same : y ≡ x = cc in subst (λ z. P z ≡ true) same e
    by false h e later = later h

-- ---- behind an operand

pub follow_found : (f : Follow) → follow_spelled (follow_text f) ≡ Some f
unfolding follow_spelled
follow_found (follows.Joint joints.Comma) = refl
follow_found (follows.Joint joints.Question) = refl
follow_found (follows.Joint (joints.Assign assignments.Assign)) = refl
follow_found (follows.Joint (joints.Assign assignments.Multiply)) = refl
follow_found (follows.Joint (joints.Assign assignments.Divide)) = refl
follow_found (follows.Joint (joints.Assign assignments.Remainder)) = refl
follow_found (follows.Joint (joints.Assign assignments.Add)) = refl
follow_found (follows.Joint (joints.Assign assignments.Subtract)) = refl
follow_found (follows.Joint (joints.Assign assignments.ShiftLeft)) = refl
follow_found (follows.Joint (joints.Assign assignments.ShiftRight)) = refl
follow_found (follows.Joint (joints.Assign assignments.BitAnd)) = refl
follow_found (follows.Joint (joints.Assign assignments.BitXor)) = refl
follow_found (follows.Joint (joints.Assign assignments.BitOr)) = refl
follow_found (follows.Joint (joints.Binary binaries.Multiply)) = refl
follow_found (follows.Joint (joints.Binary binaries.Divide)) = refl
follow_found (follows.Joint (joints.Binary binaries.Remainder)) = refl
follow_found (follows.Joint (joints.Binary binaries.Add)) = refl
follow_found (follows.Joint (joints.Binary binaries.Subtract)) = refl
follow_found (follows.Joint (joints.Binary binaries.ShiftLeft)) = refl
follow_found (follows.Joint (joints.Binary binaries.ShiftRight)) = refl
follow_found (follows.Joint (joints.Binary binaries.Less)) = refl
follow_found (follows.Joint (joints.Binary binaries.Greater)) = refl
follow_found (follows.Joint (joints.Binary binaries.LessOrEqual)) = refl
follow_found (follows.Joint (joints.Binary binaries.GreaterOrEqual)) = refl
follow_found (follows.Joint (joints.Binary binaries.Equal)) = refl
follow_found (follows.Joint (joints.Binary binaries.NotEqual)) = refl
follow_found (follows.Joint (joints.Binary binaries.BitAnd)) = refl
follow_found (follows.Joint (joints.Binary binaries.BitXor)) = refl
follow_found (follows.Joint (joints.Binary binaries.BitOr)) = refl
follow_found (follows.Joint (joints.Binary binaries.And)) = refl
follow_found (follows.Joint (joints.Binary binaries.Or)) = refl
follow_found follows.Colon = refl
follow_found follows.OpenBracket = refl
follow_found follows.CloseBracket = refl
follow_found follows.OpenParenthesis = refl
follow_found follows.CloseParenthesis = refl
follow_found follows.Increment = refl
follow_found follows.Decrement = refl

pub follow_token : (bytes : List ℕ) (f : Follow) → follow_spelled bytes ≡ Some f → bytes ≡ follow_text f
unfolding follow_spelled
follow_token bytes f h = sym ((bytes_eq-Decides (follow_text f) bytes).0 (find_passes (λ g. bytes_eq (follow_text g) bytes) following f h))

-- ---- before an operand

pub unary_found : (op : UnaryOperator) → lead_spelled (unary_text op) ≡ Some (leads.Prefix (prefixes.Operator op))
unfolding lead_spelled
unary_found unaries.AddressOf = refl
unary_found unaries.Dereference = refl
unary_found unaries.Plus = refl
unary_found unaries.Minus = refl
unary_found unaries.Complement = refl
unary_found unaries.Not = refl

pub increment_found : lead_spelled (codes "++") ≡ Some (leads.Prefix prefixes.Increment)
unfolding lead_spelled
increment_found = refl

pub decrement_found : lead_spelled (codes "--") ≡ Some (leads.Prefix prefixes.Decrement)
unfolding lead_spelled
decrement_found = refl

pub open_found : lead_spelled (codes "(") ≡ Some leads.Open
unfolding lead_spelled
open_found = refl

pub close_found : lead_spelled (codes ")") ≡ Some leads.Close
unfolding lead_spelled
close_found = refl

pub lead_token : (bytes : List ℕ) (l : Lead) → lead_spelled bytes ≡ Some l → bytes ≡ lead_text l
unfolding lead_spelled
lead_token bytes l h = sym ((bytes_eq-Decides (lead_text l) bytes).0 (find_passes (λ g. bytes_eq (lead_text g) bytes) leading l h))

is_punctuator : Lead → Bool
is_punctuator (leads.Prefix prefixes.Sizeof) = false
is_punctuator l = true

-- `sizeof` is a word
pub lead_no_sizeof : (bytes : List ℕ) → lead_spelled bytes ≡ Some (leads.Prefix prefixes.Sizeof) → ⊥
unfolding lead_spelled is_punctuator
lead_no_sizeof bytes h = absurd (let e = find_among is_punctuator (λ g. bytes_eq (lead_text g) bytes) leading (leads.Prefix prefixes.Sizeof) refl h in cc)

-- ---- words

pub sizeof_keyword : is_keyword (codes "sizeof") ≡ true
unfolding is_keyword
sizeof_keyword = refl

-- a name isn't `sizeof`
pub name_no_sizeof : (bytes : List ℕ) → IsName bytes → bytes_eq bytes (codes "sizeof") ≡ false
name_no_sizeof bytes h =
    false_from_ne_true (bytes_eq bytes (codes "sizeof")) (λ e. let same : bytes ≡ codes "sizeof" = (bytes_eq-Decides bytes (codes "sizeof")).0 e in let k = sizeof_keyword in let g : is_keyword bytes ≡ true = subst (λ b. is_keyword b ≡ true) (sym same) k in absurd cc)

pub specifier_found : (s : Specifier) → specifier_spelled (specifier_text s) ≡ Some s
unfolding specifier_spelled
specifier_found specifiers.Void = refl
specifier_found specifiers.Char = refl
specifier_found specifiers.Short = refl
specifier_found specifiers.Int = refl
specifier_found specifiers.Long = refl
specifier_found specifiers.Signed = refl
specifier_found specifiers.Unsigned = refl
specifier_found specifiers.Auto = refl
specifier_found specifiers.Const = refl
specifier_found specifiers.Inline = refl
specifier_found specifiers.Register = refl
specifier_found specifiers.Restrict = refl
specifier_found specifiers.Volatile = refl
specifier_found specifiers.Static = refl

pub specifier_keyword : (s : Specifier) → is_keyword (specifier_text s) ≡ true
unfolding is_keyword
specifier_keyword specifiers.Void = refl
specifier_keyword specifiers.Char = refl
specifier_keyword specifiers.Short = refl
specifier_keyword specifiers.Int = refl
specifier_keyword specifiers.Long = refl
specifier_keyword specifiers.Signed = refl
specifier_keyword specifiers.Unsigned = refl
specifier_keyword specifiers.Auto = refl
specifier_keyword specifiers.Const = refl
specifier_keyword specifiers.Inline = refl
specifier_keyword specifiers.Register = refl
specifier_keyword specifiers.Restrict = refl
specifier_keyword specifiers.Volatile = refl
specifier_keyword specifiers.Static = refl

pub specifier_no_sizeof : (s : Specifier) → bytes_eq (specifier_text s) (codes "sizeof") ≡ false
specifier_no_sizeof specifiers.Void = refl
specifier_no_sizeof specifiers.Char = refl
specifier_no_sizeof specifiers.Short = refl
specifier_no_sizeof specifiers.Int = refl
specifier_no_sizeof specifiers.Long = refl
specifier_no_sizeof specifiers.Signed = refl
specifier_no_sizeof specifiers.Unsigned = refl
specifier_no_sizeof specifiers.Auto = refl
specifier_no_sizeof specifiers.Const = refl
specifier_no_sizeof specifiers.Inline = refl
specifier_no_sizeof specifiers.Register = refl
specifier_no_sizeof specifiers.Restrict = refl
specifier_no_sizeof specifiers.Volatile = refl
specifier_no_sizeof specifiers.Static = refl

allowed_yes : (scope : Scope) (s : Specifier) → IsAllowed scope s → is_allowed scope s ≡ true
allowed_yes scopes.Block specifiers.Static h = absurd h
allowed_yes scope s h = refl

allowed_so : (scope : Scope) (s : Specifier) → is_allowed scope s ≡ true → IsAllowed scope s
allowed_so scopes.Block specifiers.Static h = absurd cc
allowed_so scope s h = tt

pub specifier_read : (scope : Scope) (s : Specifier) → IsAllowed scope s → specifier_of scope (specifier_text s) ≡ Some s
specifier_read scope s h =
    ap (option_and_then (λ s. if is_allowed scope s then Some s else None)) (specifier_found s) ∙ ap (λ b. if b then Some s else None) (allowed_yes scope s h)

specifier_bytes : (bytes : List ℕ) (x : Specifier) → specifier_spelled bytes ≡ Some x → bytes ≡ specifier_text x
unfolding specifier_spelled
specifier_bytes bytes x e = sym ((bytes_eq-Decides (specifier_text x) bytes).0 (find_passes (λ y. bytes_eq (specifier_text y) bytes) all_specifiers x e))

-- a word of specs that was read: its bytes, and that it may stand there
pub specifier_token : (scope : Scope) (bytes : List ℕ) (s : Specifier) → specifier_of scope bytes ≡ Some s → (bytes ≡ specifier_text s) × IsAllowed scope s
specifier_token scope bytes s h = by (specifier_spelled bytes) refl h
  where
    allowed : (x : Specifier) (b : Bool) → is_allowed scope x ≡ b → (if b then Some x else None) ≡ Some s → (x ≡ s) × IsAllowed scope s
    allowed x true e k = let same : x ≡ s = cc in (same, subst (IsAllowed scope) same (allowed_so scope x e))
    allowed x false e k = absurd cc

    text : (x : Specifier) → specifier_spelled bytes ≡ Some x → bytes ≡ specifier_text x
    text x e = specifier_bytes bytes x e

    by : (o : Option Specifier) → specifier_spelled bytes ≡ o → option_and_then (λ s. if is_allowed scope s then Some s else None) o ≡ Some s → (bytes ≡ specifier_text s) × IsAllowed scope s
    by None e k = absurd cc
    by (Some x) e k =
        let p = allowed x (is_allowed scope x) refl k in
        (text x e ∙ ap specifier_text p.0, p.1)

pub qualifier_found : (q : Qualifier) → qualifier_spelled (qualifier_text q) ≡ Some q
unfolding qualifier_spelled
qualifier_found qualifiers.Const = refl
qualifier_found qualifiers.Volatile = refl
qualifier_found qualifiers.Restrict = refl

pub qualifier_token : (bytes : List ℕ) (q : Qualifier) → qualifier_spelled bytes ≡ Some q → bytes ≡ qualifier_text q
unfolding qualifier_spelled
qualifier_token bytes q h = sym ((bytes_eq-Decides (qualifier_text q) bytes).0 (find_passes (λ y. bytes_eq (qualifier_text y) bytes) all_qualifiers q h))
