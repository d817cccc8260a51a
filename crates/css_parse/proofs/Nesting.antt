-- How many brackets are open behind each front of some tokens.
use Rattle.std.proofs.Common.{◌≡◌, ◌⊎◌, ℕ, ◌+◌, ◌<◌, ◌≤◌, List, [], ◌∷◌, ◌++◌, length, fold, map, refl, sym, ap, ◌∙◌, subst, inl, inr, arith, append_assoc, append-nil}
use Rattle.css_base.specs.Tokens.{Lexeme}
use Rattle.css_tree.specs.TokenParts.{kind_at, line_of}
use Rattle.css_tree.specs.Brackets.{IsShallow, left_open, open_behind}
use Rattle.css_parse.specs.Refusals.{IsTooDeepAt}

pub left_open-append : (n : ℕ) (us vs : List Lexeme) → left_open n (us ++ vs) ≡ left_open (left_open n us) vs
left_open-append n [] vs = refl
left_open-append n (u ∷ us) vs = left_open-append (open_behind n (kind_at u)) us vs

-- A front of some tokens with one more is a front of them, or they are all.
fronts : (us : List Lexeme) (t : Lexeme) (front rest : List Lexeme) → us ++ t ∷ [] ≡ front ++ rest
    → ((behind : List Lexeme) × (us ≡ front ++ behind)) ⊎ (front ≡ us ++ t ∷ [])
fronts us t [] rest e = inl (us, refl)
fronts [] t (x ∷ front) rest e = inr (by front rest e)
  where
    by : (front rest : List Lexeme) → t ∷ [] ≡ x ∷ (front ++ rest) → x ∷ front ≡ t ∷ []
    by [] rest e = cc
    by (y ∷ front) rest e = absurd cc
fronts (u ∷ us) t (x ∷ front) rest e =
    let first : u ≡ x = cc in
    elim (fronts us t front rest cc)
    [ inl h ↦ (let is = h.1 in inl (h.0, cc)) | inr h ↦ inr cc ]

pub one_shallow : (us : List Lexeme) (t : Lexeme) → IsShallow us → left_open 0 (us ++ t ∷ []) ≤ 200 → IsShallow (us ++ t ∷ [])
one_shallow us t shallow last front rest e = elim (fronts us t front rest e)
    [ inl h ↦ shallow front h.0 h.1 | inr h ↦ subst (λ l. left_open 0 l ≤ 200) (sym h) last ]

-- Some of the tokens were counted, and the rest follows.
pub record IsShallowSoFar (ts : List Lexeme) (count : ℕ) (rest : List Lexeme) : Type 0 where
  pub front : List Lexeme
  pub parts : ts ≡ front ++ rest
  pub shallow : IsShallow front
  pub count_is : count ≡ left_open 0 front
  pub low : count ≤ 200

pub none_yet : (ts : List Lexeme) → IsShallowSoFar ts 0 ts
none_yet ts = record { front = []; parts = refl; shallow = λ front rest e. empty front rest e; count_is = refl; low = omega arith }
  where
    empty : (front rest : List Lexeme) → [] ≡ front ++ rest → left_open 0 front ≤ 200
    empty [] rest e = omega arith
    empty (t ∷ front) rest e = absurd cc

pub one_more : (ts : List Lexeme) (count next : ℕ) (t : Lexeme) (rest behind : List Lexeme) → IsShallowSoFar ts count rest → rest ≡ t ∷ behind → next ≡ open_behind count (kind_at t) → next ≤ 200
    → IsShallowSoFar ts next behind
one_more ts count next t rest behind s is e low =
    let count_is : left_open 0 (s.front ++ t ∷ []) ≡ next = left_open-append 0 s.front (t ∷ []) ∙ ap (λ n. open_behind n (kind_at t)) (sym s.count_is) ∙ sym e in
    record {
      front = s.front ++ t ∷ [];
      parts = s.parts ∙ ap (λ l. s.front ++ l) is ∙ sym (append_assoc s.front (t ∷ []) behind);
      shallow = one_shallow s.front t s.shallow (subst (λ n. n ≤ 200) (sym count_is) low);
      count_is = sym count_is;
      low = low;
    }

pub deep : (ts : List Lexeme) (count next line : ℕ) (t : Lexeme) (rest behind : List Lexeme) → IsShallowSoFar ts count rest → rest ≡ t ∷ behind → next ≡ open_behind count (kind_at t) → 200 < next → line ≡ line_of t
    → IsTooDeepAt ts line
deep ts count next line t rest behind s is e high line_is =
    let count_is : left_open 0 (s.front ++ t ∷ []) ≡ next = left_open-append 0 s.front (t ∷ []) ∙ ap (λ n. open_behind n (kind_at t)) (sym s.count_is) ∙ sym e in
    record {
      front = s.front;
      token = t;
      rest = behind;
      parts = s.parts ∙ ap (λ l. s.front ++ l) is;
      shallow = s.shallow;
      deep = subst (λ n. 200 < n) (sym count_is) high;
      line_is = line_is;
    }

pub all_shallow : (ts : List Lexeme) (count : ℕ) (rest : List Lexeme) → IsShallowSoFar ts count rest → rest ≡ [] → IsShallow ts
all_shallow ts count rest s none = subst IsShallow (sym (s.parts ∙ ap (λ l. s.front ++ l) none ∙ append-nil s.front)) s.shallow
