-- Tests of lists whose elements stand for others.
use Rattle.std.proofs.Common.{◌≡◌, ℕ, ◌+◌, ◌==◌, List, [], ◌∷◌, length, map, Bool, true, false, ◌||◌, cond, refl, sym, ap, ◌∙◌, arith}
use Rattle.std.proofs.lemmas.Bool.Decides.{nat_tests}
use Rattle.std.proofs.lemmas.List.Recursion.{is_count_by}
use Rattle.std.specs.List.{list_any, count_by}
use Rattle.css_base.specs.declared.token.Token.{Token}
use Rattle.css_base.specs.Tokens.{lexeme, lexemes}

pub list_any_mapped : {A B : Type 0} (p : B → Bool) (f : A → B) (xs : List A) → list_any p (map f xs) ≡ list_any (λ x. p (f x)) xs
list_any_mapped p f [] = refl
list_any_mapped p f (x ∷ xs) = ap (λ b. p (f x) || b) (list_any_mapped p f xs)

zero_length : (n : ℕ) → true ≡ (n == 0) → n ≡ 0
zero_length n e = grind (arith, nat_tests)

other_length : (n : ℕ) → false ≡ (n == 0) → n ≡ 0 → ⊥
other_length n e z = grind (arith, nat_tests)

pub no_tokens : (ts : List Token) → true ≡ (length ts == 0) → lexemes ts ≡ []
no_tokens [] e = refl
no_tokens (t ∷ ts) e = absurd (let z = zero_length (length (t ∷ ts)) e in omega arith)

pub some_tokens : (ts : List Token) → false ≡ (length ts == 0) → lexemes ts ≡ [] → ⊥
some_tokens [] e none = other_length 0 e refl
some_tokens (t ∷ ts) e none = (let wrong : lexeme t ∷ lexemes ts ≡ [] = none in absurd cc)

number : {B : Type 0} → (B → Bool) → List B → ℕ
number p [] = 0
number p (x ∷ xs) = cond (p x) (1 + number p xs) (number p xs)

pub count_by_mapped : {A B : Type 0} (p : B → Bool) (f : A → B) (xs : List A) → count_by p (map f xs) ≡ count_by (λ x. p (f x)) xs
unfolding number
count_by_mapped p f xs =
    sym (is_count_by (number p) p refl (λ x ys. refl) (map f xs)) ∙ is_count_by (λ ys. number p (map f ys)) (λ x. p (f x)) refl (λ x ys. refl) xs
