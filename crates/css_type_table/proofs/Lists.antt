-- Rows and their lists.
use Rattle.std.proofs.Common.{◌≡◌, ◌==◌, ◌&&◌, Bool, true, false, true≢false, if◌then◌else◌, ◌⊎◌, inl, inr, ℕ, zero, suc, ◌+◌, ◌*◌, ◌<◌, ◌≤◌, [], ◌∷◌, ◌++◌, List, length, get_or, slice_get, Option, Some, None, refl, sym, ap, subst, ◌∙◌, arith, length-append}
use Rattle.std.proofs.Math.ListN.{get_or-append}
use Rattle.std.proofs.Math.Seq.{get_or-append_seam}
use Rattle.std.proofs.lemmas.Bool.{cases_lt, and_parts, and_from}
use Rattle.std.proofs.lemmas.Bool.Decides.{Decides-eqb}
use Rattle.std.proofs.Math.Dec.{eqb}
use Rattle.std.specs.Option.{option_eq}
use Rattle.std.proofs.lemmas.Option.{slice_get-get_or, slice_get_within, get_or_from_slice_get}
use Rattle.std.specs.List.{list_any}
use Rattle.std.proofs.lemmas.List.Folds.{list_any_at}
use Rattle.indexmap.specs.IndexSet.{insert_key}
use Rattle.css_types.specs.Types.{biggest}
use Rattle.css_type_table.specs.declared.rows.Row.{Row}
use Rattle.css_type_table.specs.Lists.{Lists, list_at, IsRow, elements_of, with_rows, lists_of, StandsAt, IsOnce, AreRows}

abbrev listed : Lists → Row → List ℕ
listed lists r = r.count ∷ list_at lists r.rest

with_rows-push : (lists : Lists) (rows : List Row) (r : Row) → with_rows lists (rows ++ r ∷ []) ≡ with_rows lists rows ++ listed (with_rows lists rows) r ∷ []
with_rows-push lists [] r = refl
with_rows-push lists (q ∷ rows) r = with_rows-push (lists ++ listed lists q ∷ []) rows r

pub lists_of-push : (rows : List Row) (r : Row) → lists_of (rows ++ r ∷ []) ≡ lists_of rows ++ listed (lists_of rows) r ∷ []
lists_of-push rows r = with_rows-push [] rows r

length-with_rows : (lists : Lists) (rows : List Row) → length (with_rows lists rows) ≡ length lists + length rows
length-with_rows lists [] = omega arith
length-with_rows lists (q ∷ rows) =
    length-with_rows (lists ++ listed lists q ∷ []) rows ∙ omega (arith, length-append lists (listed lists q ∷ []))

pub length-lists_of : (rows : List Row) → length (lists_of rows) ≡ length rows
length-lists_of rows = length-with_rows [] rows ∙ omega arith

-- a list that stood stands still
pub list_at-more : (lists more : Lists) (row : Option ℕ) → IsRow lists row → list_at (lists ++ more) row ≡ list_at lists row
list_at-more lists more None is = refl
list_at-more lists more (Some row) is = get_or-append lists more [] row is

pub IsRow-more : (lists more : Lists) (row : Option ℕ) → IsRow lists row → IsRow (lists ++ more) row
IsRow-more lists more None is = tt
IsRow-more lists more (Some row) is = omega (arith, length-append lists more)

StandsAt-more : (lists more : Lists) (place : ℕ) (r : Row) → place < length lists → StandsAt lists place r → StandsAt (lists ++ more) place r
StandsAt-more lists more place r within s =
    let same : get_or (lists ++ more) place [] ≡ get_or lists place [] = get_or-append lists more [] place within in
    record {
      list = same ∙ s.list ∙ ap (λ ls. r.count ∷ ls) (sym (list_at-more lists more r.rest s.rest));
      rest = IsRow-more lists more r.rest s.rest;
      elements = s.elements ∙ ap elements_of (sym same);
      some = s.some;
      few = s.few;
    }

-- ---- one row more

-- what is found in a list with one more
at_push : {X : Type 0} (xs : List X) (x y : X) (i : ℕ) → slice_get (xs ++ x ∷ []) i ≡ Some y → ((i < length xs) × (slice_get xs i ≡ Some y)) ⊎ ((i ≡ length xs) × (x ≡ y))
at_push [] x y zero e = inr (refl, cc)
at_push [] x y (suc i) e = absurd (cc)
at_push (z ∷ xs) x y zero e = inl (omega arith, e)
at_push (z ∷ xs) x y (suc i) e = elim (at_push xs x y i e) [ inl h ↦ inl (omega (arith, h.0), h.1) | inr h ↦ inr (omega (arith, h.0), h.1) ]

-- rows that name one list are one
rest_once : (rows : List Row) → AreRows rows → (x y : Option ℕ) → IsRow (lists_of rows) x → IsRow (lists_of rows) y
    → list_at (lists_of rows) x ≡ list_at (lists_of rows) y → x ≡ y
rest_once rows are None None isx isy same = refl
rest_once rows are (Some i) (Some j) isx isy same =
    ap Some (are.once i j (omega (arith, isx, length-lists_of rows)) (omega (arith, isy, length-lists_of rows)) same)
rest_once rows are None (Some j) isx isy same =
    let within : j < length rows = omega (arith, isy, length-lists_of rows) in
    let q = get_or rows j (record { count = 0; rest = None; elements = 0 }) in
    let s = are.stand j q (slice_get-get_or rows j _ within) in
    let none : [] ≡ q.count ∷ list_at (lists_of rows) q.rest = same ∙ s.list in absurd (cc)
rest_once rows are (Some i) None isx isy same =
    let within : i < length rows = omega (arith, isx, length-lists_of rows) in
    let q = get_or rows i (record { count = 0; rest = None; elements = 0 }) in
    let s = are.stand i q (slice_get-get_or rows i _ within) in
    let none : [] ≡ q.count ∷ list_at (lists_of rows) q.rest = sym same ∙ s.list in absurd (cc)

same_head : (m n : ℕ) (ls ks : List ℕ) → m ∷ ls ≡ n ∷ ks → m ≡ n
same_head m n ls ks e = cc

same_tail : (m n : ℕ) (ls ks : List ℕ) → m ∷ ls ≡ n ∷ ks → ls ≡ ks
same_tail m n ls ks e = cc

abbrev made : ℕ → Option ℕ → ℕ → Row
made count rest elements = record { count = count; rest = rest; elements = elements }

same_row : (q r : Row) → q.count ≡ r.count → q.rest ≡ r.rest → q.elements ≡ r.elements → q ≡ r
same_row q r counts rests elements =
    ap (λ n. made n q.rest q.elements) counts ∙ ap (λ o. made r.count o q.elements) rests ∙ ap (made r.count r.rest) elements

module _ (rows : List Row) (r : Row) (are : AreRows rows) (room : length rows < 4294967295) (rest : IsRow (lists_of rows) r.rest)
    (elements : r.elements ≡ r.count * elements_of (list_at (lists_of rows) r.rest)) (some : 0 < r.elements) (few : r.elements ≤ biggest)
    (fresh : (place : ℕ) → slice_get rows place ≡ Some r → ⊥) where
  abbrev old : Lists
  old = lists_of rows

  abbrev new : Lists
  new = lists_of (rows ++ r ∷ [])

  -- its list has no row yet
  new_list : (i : ℕ) → i < length rows → get_or old i [] ≡ listed old r → ⊥
  new_list i within same =
      let q = get_or rows i r in
      let at : slice_get rows i ≡ Some q = slice_get-get_or rows i r within in
      let s = are.stand i q at in
      let both : q.count ∷ list_at old q.rest ≡ r.count ∷ list_at old r.rest = sym s.list ∙ same in
      let counts : q.count ≡ r.count = same_head _ _ _ _ both in
      let rests : q.rest ≡ r.rest = rest_once rows are q.rest r.rest s.rest rest (same_tail _ _ _ _ both) in
      let all : q.elements ≡ r.elements = s.elements ∙ ap elements_of same ∙ sym elements in
      fresh i (at ∙ ap Some (same_row q r counts rests all))

  grown : new ≡ old ++ listed old r ∷ []
  grown = lists_of-push rows r

  last : get_or new (length rows) [] ≡ listed old r
  last = ap (λ ls. get_or ls (length rows) []) grown
      ∙ ap (λ n. get_or (old ++ listed old r ∷ []) n []) (sym (length-lists_of rows)) ∙ get_or-append_seam old (listed old r) [] []

  before : (i : ℕ) → i < length rows → get_or new i [] ≡ get_or old i []
  before i within = ap (λ ls. get_or ls i []) grown ∙ get_or-append old (listed old r ∷ []) [] i (omega (arith, length-lists_of rows))

  rest_still : list_at new r.rest ≡ list_at old r.rest
  rest_still = ap (λ ls. list_at ls r.rest) grown ∙ list_at-more old (listed old r ∷ []) r.rest rest

  last_stands : StandsAt new (length rows) r
  last_stands = record {
    list = last ∙ ap (λ ls. r.count ∷ ls) (sym rest_still);
    rest = subst (λ ls. IsRow ls r.rest) (sym grown) (IsRow-more old (listed old r ∷ []) r.rest rest);
    elements = elements ∙ sym (ap elements_of last);
    some = some;
    few = few;
  }

  pub AreRows-push : AreRows (rows ++ r ∷ [])
  AreRows-push = record {
    few = omega (arith, length-append rows (r ∷ []));
    stand = λ place q at. elim (at_push rows r q place at) [
      | inl h ↦ subst (λ ls. StandsAt ls place q) (sym grown) (StandsAt-more old (listed old r ∷ []) place q (omega (arith, h.0, length-lists_of rows)) (are.stand place q h.1))
      | inr h ↦ subst (λ p. StandsAt new p q) (sym h.0) (subst (λ x. StandsAt new (length rows) x) h.1 last_stands)
    ];
    once = λ i j wi wj same.
        let total : length (rows ++ r ∷ []) ≡ length rows + 1 = length-append rows (r ∷ []) in
        elim (cases_lt i (length rows)) [
          | inl bi ↦ elim (cases_lt j (length rows)) [
            | inl bj ↦ are.once i j bi bj (sym (before i bi) ∙ same ∙ before j bj)
            | inr pj ↦ let ej : j ≡ length rows = omega (arith, total, wj, pj) in
                absurd (new_list i bi (sym (before i bi) ∙ same ∙ ap (λ n. get_or new n []) ej ∙ last))
          ]
          | inr pi ↦ let ei : i ≡ length rows = omega (arith, total, wi, pi) in
              elim (cases_lt j (length rows)) [
                | inl bj ↦ absurd (new_list j bj (sym (before j bj) ∙ sym same ∙ ap (λ n. get_or new n []) ei ∙ last))
                | inr pj ↦ omega (arith, total, wi, wj, pi, pj)
              ]
        ];
  }

pub lists_once : (rows : List Row) → AreRows rows → IsOnce (lists_of rows)
lists_once rows are = λ i j wi wj same. are.once i j (omega (arith, wi, length-lists_of rows)) (omega (arith, wj, length-lists_of rows)) same

-- ---- a row that is inserted

module _ (eq : Row → Row → Bool) (same : (x y : Row) → eq x y ≡ true → x ≡ y) (self : (x : Row) → eq x x ≡ true) where
  fresh_from : (rows : List Row) (r : Row) → list_any (eq r) rows ≡ false → (place : ℕ) → slice_get rows place ≡ Some r → ⊥
  fresh_from rows r none place at =
      let within : place < length rows = slice_get_within rows place r at in
      let is : get_or rows place r ≡ r = get_or_from_slice_get rows place r r at in
      let yes : list_any (eq r) rows ≡ true = list_any_at (eq r) rows place r within (ap (eq r) is ∙ self r) in
      true≢false (sym yes ∙ none)

  module _ (rows : List Row) (r : Row) (are : AreRows rows) (room : length rows < 4294967295) (rest : IsRow (lists_of rows) r.rest)
      (elements : r.elements ≡ r.count * elements_of (list_at (lists_of rows) r.rest)) (some : 0 < r.elements) (few : r.elements ≤ biggest) where
    pub AreRows-insert : AreRows (insert_key eq rows r)
    AreRows-insert = by (list_any (eq r) rows) refl where
      by : (b : Bool) → list_any (eq r) rows ≡ b → AreRows (if b then rows else rows ++ r ∷ [])
      by true e = are
      by false e = AreRows-push rows r are room rest elements some few (fresh_from rows r e)

    -- what stood stands still
    pub insert_kept : (i : ℕ) → i < length rows → get_or (lists_of (insert_key eq rows r)) i [] ≡ get_or (lists_of rows) i []
    insert_kept i within = by (list_any (eq r) rows) where
      by : (b : Bool) → get_or (lists_of (if b then rows else rows ++ r ∷ [])) i [] ≡ get_or (lists_of rows) i []
      by true = refl
      by false = ap (λ ls. get_or ls i []) (lists_of-push rows r) ∙ get_or-append (lists_of rows) (listed (lists_of rows) r ∷ []) [] i (omega (arith, within, length-lists_of rows))

    pub insert_longer : length rows ≤ length (insert_key eq rows r)
    insert_longer = by (list_any (eq r) rows) where
      by : (b : Bool) → length rows ≤ length (if b then rows else rows ++ r ∷ [])
      by true = omega arith
      by false = omega (arith, length-append rows (r ∷ []))

    list_at_insert : list_at (lists_of (insert_key eq rows r)) r.rest ≡ list_at (lists_of rows) r.rest
    list_at_insert = by r.rest rest where
      by : (o : Option ℕ) → IsRow (lists_of rows) o → list_at (lists_of (insert_key eq rows r)) o ≡ list_at (lists_of rows) o
      by None is = refl
      by (Some i) is = insert_kept i (omega (arith, is, length-lists_of rows))

    -- the row that is found has its list
    pub insert_list : (place : ℕ) (k : Row) → slice_get (insert_key eq rows r) place ≡ Some k → eq r k ≡ true
        → get_or (lists_of (insert_key eq rows r)) place [] ≡ r.count ∷ list_at (lists_of rows) r.rest
    insert_list place k at e =
        let is : r ≡ k = same r k e in
        let s : StandsAt (lists_of (insert_key eq rows r)) place r = AreRows-insert.stand place r (at ∙ ap Some (sym is)) in
        s.list ∙ ap (λ ls. r.count ∷ ls) list_at_insert

-- ---- the test of equal rows

abbrev pub row_eq : Row → Row → Bool
row_eq a b = (a.count == b.count) && (option_eq eqb a.rest b.rest && (a.elements == b.elements))

same_option : (a b : Option ℕ) → option_eq eqb a b ≡ true → a ≡ b
same_option None None e = refl
same_option None (Some y) e = absurd (cc)
same_option (Some x) None e = absurd (cc)
same_option (Some x) (Some y) e = ap Some ((Decides-eqb x y).0 e)

self_option : (a : Option ℕ) → option_eq eqb a a ≡ true
self_option None = refl
self_option (Some x) = (Decides-eqb x x).1 refl

pub row_same : (a b : Row) → row_eq a b ≡ true → a ≡ b
row_same a b e =
    let p = and_parts (a.count == b.count) (option_eq eqb a.rest b.rest && (a.elements == b.elements)) e in
    let q = and_parts (option_eq eqb a.rest b.rest) (a.elements == b.elements) p.1 in
    same_row a b ((Decides-eqb a.count b.count).0 p.0) (same_option a.rest b.rest q.0) ((Decides-eqb a.elements b.elements).0 q.1)

pub row_self : (a : Row) → row_eq a a ≡ true
row_self a =
    and_from (a.count == a.count) (option_eq eqb a.rest a.rest && (a.elements == a.elements)) ((Decides-eqb a.count a.count).1 refl)
    (and_from (option_eq eqb a.rest a.rest) (a.elements == a.elements) (self_option a.rest) ((Decides-eqb a.elements a.elements).1 refl))
