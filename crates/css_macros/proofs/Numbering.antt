-- Words and their numbers.
use Rattle.std.proofs.Common.{◌≡◌, ℕ, ◌+◌, ◌<◌, ◌≤◌, Bool, true, false, not, cond, List, [], ◌∷◌, ◌++◌, length, length-append, map, get_or, position, Option, Some, None, nat_lt, bytes_eq, refl, ap, sym, ◌∙◌, arith, ◌==◌}
use Rattle.std.specs.List.{position_or_len, prefix_len}
use Rattle.std.proofs.lemmas.Bool.{eqb-true, eq-eqb, ne_eqb, lt-ltb, ltb-false, both_ways}
use Rattle.std.proofs.lemmas.List.{length-map, get_or_append_left, get_or_push}
use Rattle.std.proofs.lemmas.List.Quantifiers.{position-Some}
use Rattle.std.proofs.lemmas.List.Sums.{position_or_len_is, fails_before_first, prefix_len-le-length}
use Rattle.std.proofs.lemmas.Slice.Eq.{bytes_eq-Decides}
use Rattle.css_macros.specs.Numbers.{number_in, word_at, is_number}

pub number_is : (n : ℕ) (found : Option ℕ) → is_number n found ≡ true → found ≡ Some n
number_is n None e = cc
number_is n (Some m) e = ap Some (eqb-true m n e)

pub number_known : (n : ℕ) (found : Option ℕ) → found ≡ Some n → is_number n found ≡ true
number_known n found e = ap (is_number n) e ∙ eq-eqb n n refl

position_at : {X : Type 0} (p : X → Bool) (xs : List X) (i : ℕ) (d : X)
    → i < length xs → ((k : ℕ) → k < i → p (get_or xs k d) ≡ false) → p (get_or xs i d) ≡ true → position p xs ≡ Some i
position_at p xs i d within before at =
    let e = position_or_len_is p xs i d (omega arith) before (λ l. at) in
    ap (λ n. cond (nat_lt n (length xs)) (Some n) None) e ∙ ap (λ b. cond b (Some i) None) (lt-ltb i (length xs) within)

-- Where nothing passes, each place fails.
nothing_before : {X : Type 0} (p : X → Bool) (xs : List X) → position p xs ≡ None → length xs ≤ position_or_len p xs
nothing_before p xs none =
    let n = position_or_len p xs in
    let P : Bool → Type 0 = λ b. nat_lt n (length xs) ≡ b → cond b (Some n) None ≡ None → length xs ≤ n in
    let cases : (b : Bool) → P b = λ b. elim b as P [ true ↦ λ e h. cc | false ↦ λ e h. ltb-false n (length xs) e ] in
    cases (nat_lt n (length xs)) refl none

prefix-mapped : {X Y : Type 0} (p : Y → Bool) (f : X → Y) (xs : List X) → prefix_len (λ x. p (f x)) xs ≡ prefix_len p (map f xs)
prefix-mapped p f [] = refl
prefix-mapped p f (x ∷ xs) = ap (λ n. cond (p (f x)) (1 + n) 0) (prefix-mapped p f xs)

pub place-mapped : {X Y : Type 0} (p : Y → Bool) (f : X → Y) (xs : List X) → position_or_len (λ x. p (f x)) xs ≡ position_or_len p (map f xs)
place-mapped p f xs = prefix-mapped (λ y. not (p y)) f xs

pub position-mapped : {X Y : Type 0} (p : Y → Bool) (f : X → Y) (xs : List X) → position (λ x. p (f x)) xs ≡ position p (map f xs)
position-mapped p f xs =
    ap (λ n. cond (nat_lt n (length xs)) (Some n) None) (place-mapped p f xs)
    ∙ ap (λ l. cond (nat_lt (position_or_len p (map f xs)) l) (Some (position_or_len p (map f xs))) None) (sym (length-map xs f))

-- A number is within the words, and its word is the one that has it.
pub number_within : (words : List (List ℕ)) (word : List ℕ) (n : ℕ) → number_in words word ≡ Some n → n < length words
number_within words word n e = (position-Some (bytes_eq word) words n [] e).0

pub number_word : (words : List (List ℕ)) (word : List ℕ) (n : ℕ) → number_in words word ≡ Some n → word_at words n ≡ word
number_word words word n e = sym ((bytes_eq-Decides word (get_or words n [])).0 (position-Some (bytes_eq word) words n [] e).1)

-- More words change no number.
pub number-grows : (words more : List (List ℕ)) (word : List ℕ) (n : ℕ) → number_in words word ≡ Some n → number_in (words ++ more) word ≡ Some n
number-grows words more word n e =
    let h = position-Some (bytes_eq word) words n [] e in
    let within = h.0 in
    let size = length-append words more in
    position_at (bytes_eq word) (words ++ more) n [] (omega arith)
    (λ k below. ap (bytes_eq word) (get_or_append_left words more [] k (omega arith)) ∙ h.2 k below)
    (ap (bytes_eq word) (get_or_append_left words more [] n within) ∙ h.1)

-- A new word's number is how many there were.
pub number-pushed : (words : List (List ℕ)) (word : List ℕ) → number_in words word ≡ None → number_in (words ++ word ∷ []) word ≡ Some (length words)
number-pushed words word none =
    let all = nothing_before (bytes_eq word) words none in
    let size = length-append words (word ∷ []) in
    position_at (bytes_eq word) (words ++ word ∷ []) (length words) [] (omega arith)
    (λ k below. ap (bytes_eq word) (get_or_append_left words (word ∷ []) [] k below) ∙ fails_before_first (bytes_eq word) words k [] (omega arith))
    (ap (bytes_eq word) (get_or_push words word [] (length words) refl) ∙ (bytes_eq-Decides word word).1 refl)

pub place-new : (words : List (List ℕ)) (word : List ℕ) → number_in words word ≡ None → length words ≤ position_or_len (bytes_eq word) words
place-new words word none = nothing_before (bytes_eq word) words none

-- Two words are the same where their numbers are.
pub same_number : (words : List (List ℕ)) (a b : List ℕ) (n m : ℕ) → number_in words a ≡ Some n → number_in words b ≡ Some m → bytes_eq a b ≡ (n == m)
same_number words a b n m x y =
    let P : Bool → Type 0 = λ v. bytes_eq a b ≡ v → v ≡ (n == m) in
    let same : P true = λ e.
    let numbers : Some n ≡ Some m = sym x ∙ ap (number_in words) ((bytes_eq-Decides a b).0 e) ∙ y in
    let number : n ≡ m = cc in
    sym (eq-eqb n m number) in
    let apart : P false = λ e.
    sym (ne_eqb n m (λ number. both_ways (bytes_eq a b) e
    ((bytes_eq-Decides a b).1 (sym (number_word words a n x) ∙ ap (word_at words) number ∙ number_word words b m y)))) in
    let cases : (v : Bool) → P v = λ v. elim v as P [ true ↦ same | false ↦ apart ] in
    cases (bytes_eq a b) refl

-- A word without a number is none that has one.
pub other_number : (words : List (List ℕ)) (a b : List ℕ) (m : ℕ) → number_in words a ≡ None → number_in words b ≡ Some m → bytes_eq a b ≡ false
other_number words a b m x y =
    let P : Bool → Type 0 = λ v. bytes_eq a b ≡ v → v ≡ false in
    let same : P true = λ e.
    let numbers : None ≡ Some m = sym x ∙ ap (number_in words) ((bytes_eq-Decides a b).0 e) ∙ y in cc in
    let cases : (v : Bool) → P v = λ v. elim v as P [ true ↦ same | false ↦ λ e. refl ] in
    cases (bytes_eq a b) refl

pub place_fits : (words : List (List ℕ)) (word : List ℕ) → position_or_len (bytes_eq word) words ≤ length words
place_fits words word = prefix_len-le-length (λ other. not (bytes_eq word other)) words
