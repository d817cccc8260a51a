-- What stands first among words is one item.
use Rattle.std.proofs.Common.{◌≡◌, ◌∙◌, ◌≢◌, ◌⊎◌, ℕ, suc, true, false, List, [], ◌∷◌, ◌++◌, ◌<◌, length, get_or, codes, refl, sym, ap, inl, inr, arith}
use Rattle.css_words.specs.declared.options.OptionName.{OptionName}
use Rattle.css_words.specs.Options.{Text, option_name, kind_of}
use Rattle.css_words.specs.Items.{Item, Raised, Apart, Joined, Operand, IsItem, IsPlainWord, spelling, is_flag}
use Rattle.css_words.specs.KeptWords.{NothingStandsFirst}
use Rattle.css_words.proofs.Names.{NoEquals, no_equals, named, same_option}

abbrev rest_of : {X : Type 0} → List X → List X
rest_of [] = []
rest_of (x ∷ xs) = xs

abbrev head_of : List Text → Text
head_of [] = []
head_of (x ∷ xs) = x

-- what stands behind two dashes
abbrev bare : Text → Text
bare word = rest_of (rest_of word)

-- a list without `=` isn't one with `=`
not_within : (xs ys zs : List ℕ) → NoEquals xs → xs ≡ ys ++ (61 ∷ zs) → ⊥
not_within [] [] zs n e = cc
not_within [] (y ∷ ys) zs n e = cc
not_within (x ∷ xs) [] zs n e = n.0 cc
not_within (x ∷ xs) (y ∷ ys) zs n e = let rest : xs ≡ ys ++ (61 ∷ zs) = cc in not_within xs ys zs n.1 rest

-- two lists that are cut at their first `=`
split_same : (xs ys us vs : List ℕ) → NoEquals xs → NoEquals ys → xs ++ (61 ∷ us) ≡ ys ++ (61 ∷ vs) → (xs ≡ ys) × (us ≡ vs)
split_same [] [] us vs n m e = (refl, cc)
split_same [] (y ∷ ys) us vs n m e = let bad : y ≡ 61 = cc in absurd (m.0 bad)
split_same (x ∷ xs) [] us vs n m e = let bad : x ≡ 61 = cc in absurd (n.0 bad)
split_same (x ∷ xs) (y ∷ ys) us vs n m e =
    let first : x ≡ y = cc in
    let rest : xs ++ (61 ∷ us) ≡ ys ++ (61 ∷ vs) = cc in
    let p = split_same xs ys us vs n.1 m.1 rest in
    let same : xs ≡ ys = p.0 in
    (cc, p.1)

-- what begins with two dashes is an option
dashed : (word rest : Text) → (word ≡ codes "-") ⊎ IsPlainWord word → word ≡ 45 ∷ 45 ∷ rest → ⊥
dashed [] rest h e = cc
dashed (b ∷ bs) rest (inl h) e = let bad : [] ≡ 45 ∷ rest = sym (ap rest_of h) ∙ ap rest_of e in cc
dashed (b ∷ bs) rest (inr h) e = let first : b ≡ 45 = cc in h first

both_kinds : (o p : OptionName) → is_flag (kind_of o) ≡ true → is_flag (kind_of p) ≡ false → option_name o ≡ option_name p → ⊥
both_kinds o p f v e =
    let same : is_flag (kind_of o) ≡ is_flag (kind_of p) = ap (λ (q : OptionName). is_flag (kind_of q)) (same_option o p e) in
    let bad : true ≡ false = sym f ∙ (same ∙ v) in
    cc

-- Words begin with at most one item.
pub one_item : (i j : Item) (ps qs : List Text) → IsItem i → IsItem j → spelling i ++ ps ≡ spelling j ++ qs → (i ≡ j) × (ps ≡ qs)
one_item (Raised o) (Raised p) ps qs f g e = (ap Raised (same_option o p (ap (λ (ws : List Text). bare (head_of ws)) e)), ap rest_of e)
one_item (Raised o) (Apart p w) ps qs f g e = absurd (both_kinds o p f g.0 (ap (λ (ws : List Text). bare (head_of ws)) e))
one_item (Raised o) (Joined p w) ps qs f g e = absurd (not_within (option_name o) (option_name p) w (no_equals o) (ap (λ (ws : List Text). bare (head_of ws)) e))
one_item (Raised o) (Operand w) ps qs f g e = absurd (dashed w (option_name o) g (sym (ap head_of e)))
one_item (Apart o v) (Raised p) ps qs f g e = absurd (both_kinds p o g f.0 (sym (ap (λ (ws : List Text). bare (head_of ws)) e)))
one_item (Apart o v) (Apart p w) ps qs f g e =
    let option : o ≡ p = same_option o p (ap (λ (ws : List Text). bare (head_of ws)) e) in
    let value : v ≡ w = ap (λ (ws : List Text). head_of (rest_of ws)) e in
    (cc, ap (λ (ws : List Text). rest_of (rest_of ws)) e)
one_item (Apart o v) (Joined p w) ps qs f g e = absurd (not_within (option_name o) (option_name p) w (no_equals o) (ap (λ (ws : List Text). bare (head_of ws)) e))
one_item (Apart o v) (Operand w) ps qs f g e = absurd (dashed w (option_name o) g (sym (ap head_of e)))
one_item (Joined o v) (Raised p) ps qs f g e = absurd (not_within (option_name p) (option_name o) v (no_equals p) (sym (ap (λ (ws : List Text). bare (head_of ws)) e)))
one_item (Joined o v) (Apart p w) ps qs f g e = absurd (not_within (option_name p) (option_name o) v (no_equals p) (sym (ap (λ (ws : List Text). bare (head_of ws)) e)))
one_item (Joined o v) (Joined p w) ps qs f g e =
    let parts = split_same (option_name o) (option_name p) v w (no_equals o) (no_equals p) (ap (λ (ws : List Text). bare (head_of ws)) e) in
    let option : o ≡ p = same_option o p parts.0 in
    let value : v ≡ w = parts.1 in
    (cc, ap rest_of e)
one_item (Joined o v) (Operand w) ps qs f g e = absurd (dashed w (option_name o ++ (61 ∷ v)) g (sym (ap head_of e)))
one_item (Operand v) (Raised p) ps qs f g e = absurd (dashed v (option_name p) f (ap head_of e))
one_item (Operand v) (Apart p w) ps qs f g e = absurd (dashed v (option_name p) f (ap head_of e))
one_item (Operand v) (Joined p w) ps qs f g e = absurd (dashed v (option_name p ++ (61 ∷ w)) f (ap head_of e))
one_item (Operand v) (Operand w) ps qs f g e = (ap Operand (ap head_of e), ap rest_of e)

-- Two dashes alone are no item.
pub dashes_alone : (words : List Text) → NothingStandsFirst (codes "--" ∷ words)
dashes_alone words (Raised o) rest h = named o (sym (ap (λ (ws : List Text). bare (head_of ws)) h.spelled))
dashes_alone words (Apart o v) rest h = named o (sym (ap (λ (ws : List Text). bare (head_of ws)) h.spelled))
dashes_alone words (Joined o v) rest h = no_joined (option_name o) v (sym (ap (λ (ws : List Text). bare (head_of ws)) h.spelled))
  where
    no_joined : (xs ys : List ℕ) → xs ++ (61 ∷ ys) ≡ [] → ⊥
    no_joined [] ys e = cc
    no_joined (x ∷ xs) ys e = cc
dashes_alone words (Operand w) rest h = dashed w [] h.is_item (sym (ap head_of h.spelled))

-- What is no operand and doesn't begin with two dashes is nothing.
pub no_operand : (word : Text) (words : List Text) → ((rest : List ℕ) → word ≢ codes "--" ++ rest) → ((word ≡ codes "-") ⊎ IsPlainWord word → ⊥) → NothingStandsFirst (word ∷ words)
no_operand word words bare_word refused (Raised o) rest h = bare_word (option_name o) (ap head_of h.spelled)
no_operand word words bare_word refused (Apart o v) rest h = bare_word (option_name o) (ap head_of h.spelled)
no_operand word words bare_word refused (Joined o v) rest h = bare_word (option_name o ++ (61 ∷ v)) (ap head_of h.spelled)
no_operand word words bare_word refused (Operand w) rest h = let is : word ≡ w = ap head_of h.spelled in refused (rw is h.is_item)

-- What is written with `=` is nothing where no option with that name takes a value.
pub no_joined_option : (name value : Text) (words : List Text) → NoEquals name
    → ((o : OptionName) → option_name o ≡ name → is_flag (kind_of o) ≡ false → ⊥)
    → NothingStandsFirst ((codes "--" ++ (name ++ (codes "=" ++ value))) ∷ words)
no_joined_option name value words n absent (Raised o) rest h = not_within (option_name o) name value (no_equals o) (sym (ap (λ (ws : List Text). bare (head_of ws)) h.spelled))
no_joined_option name value words n absent (Apart o v) rest h = not_within (option_name o) name value (no_equals o) (sym (ap (λ (ws : List Text). bare (head_of ws)) h.spelled))
no_joined_option name value words n absent (Joined o v) rest h =
    let parts = split_same name (option_name o) value v n (no_equals o) (ap (λ (ws : List Text). bare (head_of ws)) h.spelled) in
    absent o (sym parts.0) h.is_item
no_joined_option name value words n absent (Operand w) rest h = dashed w (name ++ (61 ∷ value)) h.is_item (sym (ap head_of h.spelled))

-- What is written without `=` is nothing where its name is no flag's, and no option's whose value follows.
pub no_apart_option : (name : Text) (words : List Text) → NoEquals name
    → ((o : OptionName) → option_name o ≡ name → is_flag (kind_of o) ≡ true → ⊥)
    → ((o : OptionName) (value : Text) (rest : List Text) → option_name o ≡ name → is_flag (kind_of o) ≡ false → words ≡ value ∷ rest → IsPlainWord value → ⊥)
    → NothingStandsFirst ((codes "--" ++ name) ∷ words)
no_apart_option name words n flag apart (Raised o) rest h = flag o (sym (ap (λ (ws : List Text). bare (head_of ws)) h.spelled)) h.is_item
no_apart_option name words n flag apart (Apart o v) rest h =
    apart o v rest (sym (ap (λ (ws : List Text). bare (head_of ws)) h.spelled)) h.is_item.0 (ap rest_of h.spelled) h.is_item.1
no_apart_option name words n flag apart (Joined o v) rest h = not_within name (option_name o) v n (ap (λ (ws : List Text). bare (head_of ws)) h.spelled)
no_apart_option name words n flag apart (Operand w) rest h = dashed w name h.is_item (sym (ap head_of h.spelled))

-- from what `split_once` says of bytes by their places
pub no_equals_by_place : (xs : List ℕ) → ((i : ℕ) → i < length xs → get_or xs i 0 ≢ 61) → NoEquals xs
no_equals_by_place [] h = tt
no_equals_by_place (x ∷ xs) h = (h 0 (omega arith), no_equals_by_place xs (λ i lt. h (suc i) (omega arith)))
