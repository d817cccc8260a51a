-- Punctuators in front of a text.
use Rattle.std.proofs.Common.{◌≡◌, ℕ, ◌<◌, ◌≤◌, inl, inr, max, Bool, true, false, not, ◌&&◌, List, [], ◌∷◌, ◌++◌, length, take, drop, refl, sym, ap, ◌∙◌, subst, arith, le_trans, All, Contains}
use Rattle.std.specs.Prelude.{◌==◌}
use Rattle.std.proofs.lemmas.Bool.{both_ways, and_parts, cond-true, cond-false, cases_Bool, not-true, cases_lt}
use Rattle.std.proofs.lemmas.Bool.Decides.{Decides-eqb}
use Rattle.std.proofs.lemmas.Slice.Eq.{starts_is}
use Rattle.std.proofs.lemmas.List.{take_at}
use Rattle.std.proofs.lemmas.List.Sums.{AllPass-from_list_all}
use Rattle.std.proofs.lemmas.List.Elements.{All-nil, All-cons, All-weaker, All-contains, Contains-append_right}
use Rattle.css_lexemes.specs.Source.{begins_with}
use Rattle.css_lexemes.specs.LineKinds.{is_blank, is_nondigit}
use Rattle.css_lexemes.specs.Lexemes.{begins_number, punctuators}
use Rattle.css_lexemes.specs.Longest.{longest_of}

-- A text begins with its front.
pub begins : (front rest : List ℕ) → begins_with front (front ++ rest) ≡ true
begins front rest = (starts_is (λ a b. Decides-eqb a b) (front ++ rest) front (begins_with front (front ++ rest)) refl).1 rest refl

pub begins_is : (front text : List ℕ) → begins_with front text ≡ true → text ≡ front ++ drop (length front) text
begins_is front text holds = (starts_is (λ a b. Decides-eqb a b) text front (begins_with front text) refl).0 holds

here : (spelling : List ℕ) (others : List (List ℕ)) (text : List ℕ) → begins_with spelling text ≡ true
    → longest_of (spelling ∷ others) text ≡ max (length spelling) (longest_of others text)
here spelling others text holds = ap (λ n. max n (longest_of others text)) (cond-true (begins_with spelling text) _ _ holds)

not_here : (spelling : List ℕ) (others : List (List ℕ)) (text : List ℕ) → begins_with spelling text ≡ false
    → longest_of (spelling ∷ others) text ≡ max 0 (longest_of others text)
not_here spelling others text fails = ap (λ n. max n (longest_of others text)) (cond-false (begins_with spelling text) _ _ fails)

no_shorter : (spelling : List ℕ) (others : List (List ℕ)) (text : List ℕ) → longest_of others text ≤ longest_of (spelling ∷ others) text
no_shorter spelling others text =
    elim (cases_Bool (begins_with spelling text)) [
      | inl holds ↦ omega (arith, here spelling others text holds)
      | inr fails ↦ omega (arith, not_here spelling others text fails)
    ]

-- None of the spellings in front is longer.
all_fit : (spellings : List (List ℕ)) (text : List ℕ) → All (λ s. begins_with s text ≡ true → length s ≤ longest_of spellings text) spellings
all_fit [] text = All-nil (λ s. begins_with s text ≡ true → length s ≤ longest_of [] text)
all_fit (spelling ∷ others) text =
    All-cons (λ s. begins_with s text ≡ true → length s ≤ longest_of (spelling ∷ others) text) spelling others
    (λ holds. omega (arith, here spelling others text holds))
    (All-weaker (λ s. begins_with s text ≡ true → length s ≤ longest_of others text) (λ s. begins_with s text ≡ true → length s ≤ longest_of (spelling ∷ others) text)
    (λ s h holds. le_trans (h holds) (no_shorter spelling others text)) others (all_fit others text))

pub spelling_fits : (spellings : List (List ℕ)) (front rest : List ℕ) → Contains spellings front → length front ≤ longest_of spellings (front ++ rest)
spelling_fits spellings front rest one =
    All-contains (λ s. begins_with s (front ++ rest) ≡ true → length s ≤ longest_of spellings (front ++ rest)) spellings front (all_fit spellings (front ++ rest)) one
    (begins front rest)

first_one : (spelling : List ℕ) (others : List (List ℕ)) → Contains (spelling ∷ others) spelling
first_one spelling others = (0, omega arith, refl)

later : (spelling : List ℕ) (others : List (List ℕ)) (text : List ℕ) → longest_of (spelling ∷ others) text ≡ longest_of others text
    → Contains others (take (longest_of others text) text) → Contains (spelling ∷ others) (take (longest_of (spelling ∷ others) text) text)
later spelling others text e one =
    subst (λ n. Contains (spelling ∷ others) (take n text)) (sym e) (Contains-append_right (spelling ∷ []) others (take (longest_of others text) text) one)

longest_here : (spelling : List ℕ) (others : List (List ℕ)) (text : List ℕ) → begins_with spelling text ≡ true → longest_of others text ≤ length spelling
    → Contains (spelling ∷ others) (take (longest_of (spelling ∷ others) text) text)
longest_here spelling others text holds shorter =
    let e : longest_of (spelling ∷ others) text ≡ length spelling = omega (arith, here spelling others text holds, shorter) in
    let front : take (length spelling) text ≡ spelling =
    ap (take (length spelling)) (begins_is spelling text holds) ∙ take_at spelling (drop (length spelling) text) (length spelling) refl in
    subst (Contains (spelling ∷ others)) (sym (ap (λ n. take n text) e ∙ front)) (first_one spelling others)

-- The longest in front is one of the spellings.
pub spelling_is : (spellings : List (List ℕ)) (text : List ℕ) → 0 < longest_of spellings text → Contains spellings (take (longest_of spellings text) text)
spelling_is [] text some = absurd (omega arith)
spelling_is (spelling ∷ others) text some =
    elim (cases_Bool (begins_with spelling text)) [
      | inl holds ↦
          elim (cases_lt (length spelling) (longest_of others text)) [
            | inl longer ↦
                let e : longest_of (spelling ∷ others) text ≡ longest_of others text = omega (arith, here spelling others text holds, longer) in
                later spelling others text e (spelling_is others text (omega (arith, longer)))
            | inr shorter ↦ longest_here spelling others text holds shorter
          ]
      | inr fails ↦
          let e : longest_of (spelling ∷ others) text ≡ longest_of others text = omega (arith, not_here spelling others text fails) in
          later spelling others text e (spelling_is others text (omega (arith, e, some)))
    ]

-- What no punctuator begins with.
abbrev first_is_apart : List ℕ → Bool
first_is_apart [] = false
first_is_apart (b ∷ bytes) = not (is_nondigit b) && (not (b == 39) && (not (b == 34) && (not (is_blank b) && not (begins_number (b ∷ bytes)))))

all_apart : All (λ s. first_is_apart s ≡ true) punctuators
all_apart = AllPass-from_list_all first_is_apart punctuators refl

pub record IsApart (b : ℕ) (bytes : List ℕ) : Type 0 where
  pub letter : is_nondigit b ≡ false
  pub character : (b == 39) ≡ false
  pub text : (b == 34) ≡ false
  pub blank : is_blank b ≡ false
  pub number : begins_number (b ∷ bytes) ≡ false

apart_parts : (b : ℕ) (bytes : List ℕ) → first_is_apart (b ∷ bytes) ≡ true → IsApart b bytes
apart_parts b bytes h =
    let h1 = and_parts (not (is_nondigit b)) (not (b == 39) && (not (b == 34) && (not (is_blank b) && not (begins_number (b ∷ bytes))))) h in
    let h2 = and_parts (not (b == 39)) (not (b == 34) && (not (is_blank b) && not (begins_number (b ∷ bytes)))) h1.1 in
    let h3 = and_parts (not (b == 34)) (not (is_blank b) && not (begins_number (b ∷ bytes))) h2.1 in
    let h4 = and_parts (not (is_blank b)) (not (begins_number (b ∷ bytes))) h3.1 in
    record {
      letter = not-true (is_nondigit b) h1.0;
      character = not-true (b == 39) h2.0;
      text = not-true (b == 34) h3.0;
      blank = not-true (is_blank b) h4.0;
      number = not-true (begins_number (b ∷ bytes)) h4.1;
    }

pub punctuator_apart : (b : ℕ) (bytes : List ℕ) → Contains punctuators (b ∷ bytes) → IsApart b bytes
punctuator_apart b bytes one = apart_parts b bytes (All-contains (λ s. first_is_apart s ≡ true) punctuators (b ∷ bytes) all_apart one)

pub punctuator_some : Contains punctuators [] → ⊥
punctuator_some one = both_ways false refl (All-contains (λ s. first_is_apart s ≡ true) punctuators [] all_apart one)
