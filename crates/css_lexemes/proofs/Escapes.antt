-- Characters between quotes, one at a time, and the values of digits.
use Rattle.std.proofs.Common.{◌≡◌, ℕ, zero, suc, ◌+◌, ◌*◌, ◌<◌, ◌≤◌, false, List, [], ◌∷◌, ◌++◌, length, get_or, drop, fold, refl, sym, ap, ◌∙◌, arith, append_assoc, le_trans, Option, Some, None, option_map, option_and_then}
use Rattle.std.specs.Prelude.{◌==◌}
use Rattle.std.proofs.Math.Nat.{mul-le-mul_left}
use Rattle.std.proofs.lemmas.Bool.{cond-false}
use Rattle.std.proofs.lemmas.List.{drop_more, drop-drop}
use Rattle.css_lexemes.specs.declared.values.Escape.{Escape}
use Rattle.css_lexemes.specs.Values.{characters, escape_at, digit_value, value_in}

-- The bytes of an escape are passed.
pub escape_passed : (n : ℕ) (body : List ℕ) → characters n body ≡ characters 0 (drop n body)
escape_passed zero body = refl
escape_passed (suc n) [] = refl
escape_passed (suc n) (b ∷ body) = escape_passed n body

one_in_front : (values all : List ℕ) (x : ℕ) (rest : Option (List ℕ)) → all ≡ values ++ x ∷ []
    → option_map (λ v. values ++ v) (option_map (λ v. x ∷ v) rest) ≡ option_map (λ v. all ++ v) rest
one_in_front values all x None is = refl
one_in_front values all x (Some v) is = ap Some (sym (append_assoc values (x ∷ []) v) ∙ ap (λ a. a ++ v) (sym is))

escape_first : (b : ℕ) (body : List ℕ) (e : Escape) → b ≡ 92 → escape_at body ≡ Some e
    → characters 0 (b ∷ body) ≡ option_map (λ v. e.value ∷ v) (characters e.size body)
escape_first b body e is found =
    ap (λ c. characters 0 (c ∷ body)) is
    ∙ ap (λ o. option_and_then (λ (e : Escape). option_map (λ v. e.value ∷ v) (characters e.size body)) o) found

byte_first : (b : ℕ) (body : List ℕ) → (b == 92) ≡ false → characters 0 (b ∷ body) ≡ option_map (λ v. b ∷ v) (characters 0 body)
byte_first b body other = cond-false (b == 92) _ _ other

abbrev pub IsRead : (body values : List ℕ) (place : ℕ) → Type 0
IsRead body values place = characters 0 body ≡ option_map (λ v. values ++ v) (characters 0 (drop place body))

pub escape_read : (body values all : List ℕ) (place : ℕ) (e : Escape) → IsRead body values place → place < length body → get_or body place 0 ≡ 92
    → escape_at (drop (place + 1) body) ≡ Some e → all ≡ values ++ e.value ∷ [] → IsRead body all (place + 1 + e.size)
escape_read body values all place e done inside is found all_are =
    let rest = drop (place + 1) body in
    done
    ∙ (ap (λ r. option_map (λ v. values ++ v) (characters 0 r)) (drop_more body place 0 inside)
    ∙ (ap (option_map (λ v. values ++ v)) (escape_first (get_or body place 0) rest e is found)
    ∙ (one_in_front values all e.value (characters e.size rest) all_are
    ∙ ap (option_map (λ v. all ++ v)) (escape_passed e.size rest ∙ ap (characters 0) (drop-drop e.size (place + 1) body)))))

pub byte_read : (body values all : List ℕ) (place : ℕ) → IsRead body values place → place < length body → (get_or body place 0 == 92) ≡ false
    → all ≡ values ++ get_or body place 0 ∷ [] → IsRead body all (place + 1)
byte_read body values all place done inside other all_are =
    let rest = drop (place + 1) body in
    done
    ∙ (ap (λ r. option_map (λ v. values ++ v) (characters 0 r)) (drop_more body place 0 inside)
    ∙ (ap (option_map (λ v. values ++ v)) (byte_first (get_or body place 0) rest other)
    ∙ one_in_front values all (get_or body place 0) (characters 0 rest) all_are))

-- A value with one more digit.
abbrev pub next_value : (base value digit : ℕ) → ℕ
next_value base value digit = base * value + digit_value digit

pub value_grows : (base value : ℕ) (digits : List ℕ) → 0 < base → value ≤ fold (next_value base) value digits
value_grows base value [] some = omega arith
value_grows base value (d ∷ digits) some =
    let more : value * 1 ≤ value * base = mul-le-mul_left value (omega (arith, some)) in
    le_trans (omega (arith, more)) (value_grows base (next_value base value d) digits some)

pub value_over : (base value n limit : ℕ) (digits : List ℕ) → 0 < base → n < length digits → value_in base digits ≡ fold (next_value base) value (drop n digits)
    → limit ≤ next_value base value (get_or digits n 0) → limit ≤ value_in base digits
value_over base value n limit digits some inside is over =
    let e : value_in base digits ≡ fold (next_value base) (next_value base value (get_or digits n 0)) (drop (n + 1) digits) =
    is ∙ ap (fold (next_value base) value) (drop_more digits n 0 inside) in
    let more = value_grows base (next_value base value (get_or digits n 0)) (drop (n + 1) digits) some in
    omega (arith, e, over, more)
