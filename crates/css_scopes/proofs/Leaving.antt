-- The table when a name is declared, and when the newest binding goes.
use Rattle.std.proofs.Common.{◌≡◌, ◌≢◌, ℕ, ◌+◌, ◌-◌, ◌<◌, Bool, true, false, List, [], ◌∷◌, ◌++◌, length, nat_le, set, bytes_eq, get_or, slice_get, Option, Some, None, if◌then◌else◌, refl, sym, ap, ◌∙◌, subst, arith, append_assoc, length-set}
use Rattle.std.proofs.lemmas.List.{get_or_default, get_or-set_same, get_or-set_other, append-nil}
use Rattle.std.proofs.lemmas.Option.{none-some, slice_get-get_or}
use Rattle.std.proofs.lemmas.List.Quantifiers.{position-Some}
use Rattle.std.proofs.lemmas.Slice.Eq.{bytes_eq-Decides}
use Rattle.css_scopes.specs.declared.scope.Entry.{Entry}
use Rattle.css_scopes.specs.Scopes.{Binding, older, is_inside}
use Rattle.css_scopes.specs.Names.{number_of}
use Rattle.css_scopes.specs.Tables.{binding, stacked_on, newest_place, place_of, at_number, IsIndexed, AreHiding, restored}

-- names of one number are one
one_name : (names : List (List ℕ)) (n : ℕ) (p q : List ℕ) → number_of names p ≡ Some n → number_of names q ≡ Some n → p ≡ q
one_name names n p q e e' =
    let is = position-Some (bytes_eq p) names n [] e in
    let is' = position-Some (bytes_eq q) names n [] e' in
    (bytes_eq-Decides p (get_or names n [])).0 is.1 ∙ sym ((bytes_eq-Decides q (get_or names n [])).0 is'.1)

module _ (names : List (List ℕ)) (newest : List (Option ℕ)) (n : ℕ) (text : List ℕ) (at : number_of names text ≡ Some n) (within : n < length newest) (now : Option ℕ) where
  -- the table's entry of a name is another now
  at_same : (name : List ℕ) → text ≡ name → at_number (set newest n now) (number_of names name) ≡ now
  at_same name e = ap (at_number (set newest n now)) (ap (number_of names) (sym e) ∙ at) ∙ get_or-set_same newest n now None within

  some_other : (name : List ℕ) (m : ℕ) → number_of names name ≡ Some m → (text ≡ name → ⊥) → m ≢ n
  some_other name m e differ = λ same. differ (one_name names n text name at (e ∙ ap Some same))

  at_other_number : (name : List ℕ) (o : Option ℕ) → number_of names name ≡ o → (text ≡ name → ⊥) → at_number (set newest n now) o ≡ at_number newest o
  at_other_number name None e differ = refl
  at_other_number name (Some m) e differ = get_or-set_other newest n m now None (some_other name m e differ)

  at_other : (name : List ℕ) → (text ≡ name → ⊥) → at_number (set newest n now) (number_of names name) ≡ at_number newest (number_of names name)
  at_other name differ = at_other_number name (number_of names name) refl differ

no_true : (b : Bool) → b ≡ false → b ≡ true → ⊥
no_true b e e' = absurd cc

module _ {M : Type 0} where
  newest_place-last : (at : ℕ) (best : Option ℕ) (bs : List (Entry M)) (b : Entry M) (name : List ℕ) (end : ℕ) → end ≡ at + length bs
      → newest_place at best (bs ++ b ∷ []) name ≡ (if bytes_eq b.name.now name then Some end else newest_place at best bs name)
  newest_place-last at best [] b name end e = let same : at ≡ end = omega (arith, e) in ap (λ n. if bytes_eq b.name.now name then Some n else best) same
  newest_place-last at best (x ∷ bs) b name end e =
      newest_place-last (at + 1) (if bytes_eq x.name.now name then Some at else best) bs b name end (omega (arith, e))

  pub place_of-last : (bs : List (Entry M)) (b : Entry M) (name : List ℕ)
      → place_of (bs ++ b ∷ []) name ≡ (if bytes_eq b.name.now name then Some (length bs) else place_of bs name)
  place_of-last bs b name = newest_place-last 0 None bs b name (length bs) (omega arith)

  pub stacked_on-last : (before : List (Binding M)) (bs : List (Entry M)) (b : Entry M) → stacked_on before (bs ++ b ∷ []) ≡ binding b ∷ stacked_on before bs
  stacked_on-last before [] b = refl
  stacked_on-last before (x ∷ bs) b = stacked_on-last (binding x ∷ before) bs b

  -- the last binding is of this name
  at_last : (bs : List (Entry M)) (b : Entry M) (name : List ℕ) → bytes_eq b.name.now name ≡ true → place_of (bs ++ b ∷ []) name ≡ Some (length bs)
  at_last bs b name e = place_of-last bs b name ∙ ap (λ (t : Bool). if t then Some (length bs) else place_of bs name) e

  -- it is of another
  before_last : (bs : List (Entry M)) (b : Entry M) (name : List ℕ) → bytes_eq b.name.now name ≡ false → place_of (bs ++ b ∷ []) name ≡ place_of bs name
  before_last bs b name e = place_of-last bs b name ∙ ap (λ (t : Bool). if t then Some (length bs) else place_of bs name) e

  -- the newest binding goes
  pub left_indexed : (names : List (List ℕ)) (newest : List (Option ℕ)) (bs : List (Entry M)) (b : Entry M) (n : ℕ) → number_of names b.name.now ≡ Some n → n < length newest
      → IsIndexed names newest (bs ++ b ∷ []) → b.hidden ≡ place_of bs b.name.now → IsIndexed names (set newest n b.hidden) bs
  left_indexed names newest bs b n at within ix hides name = by_test (bytes_eq b.name.now name) refl where
    by_test : (t : Bool) → bytes_eq b.name.now name ≡ t → at_number (set newest n b.hidden) (number_of names name) ≡ place_of bs name
    by_test true e =
        let same = (bytes_eq-Decides b.name.now name).0 e in
        at_same names newest n b.name.now at within b.hidden name same ∙ hides ∙ ap (place_of bs) same
    by_test false e =
        at_other names newest n b.name.now at within b.hidden name (λ same. no_true (bytes_eq b.name.now name) e ((bytes_eq-Decides b.name.now name).1 same))
        ∙ ix name ∙ before_last bs b name e

  -- a name is declared
  pub declared_indexed : (names : List (List ℕ)) (newest : List (Option ℕ)) (bs : List (Entry M)) (b : Entry M) (n : ℕ) → number_of names b.name.now ≡ Some n → n < length newest
      → IsIndexed names newest bs → IsIndexed names (set newest n (Some (length bs))) (bs ++ b ∷ [])
  declared_indexed names newest bs b n at within ix name = by_test (bytes_eq b.name.now name) refl where
    by_test : (t : Bool) → bytes_eq b.name.now name ≡ t → at_number (set newest n (Some (length bs))) (number_of names name) ≡ place_of (bs ++ b ∷ []) name
    by_test true e =
        at_same names newest n b.name.now at within (Some (length bs)) name ((bytes_eq-Decides b.name.now name).0 e) ∙ sym (at_last bs b name e)
    by_test false e =
        at_other names newest n b.name.now at within (Some (length bs)) name (λ same. no_true (bytes_eq b.name.now name) e ((bytes_eq-Decides b.name.now name).1 same))
        ∙ ix name ∙ sym (before_last bs b name e)

  -- the last binding knows which one it hides
  pub hiding_last : (before bs : List (Entry M)) (b : Entry M) → AreHiding before (bs ++ b ∷ []) → AreHiding before bs × (b.hidden ≡ place_of (before ++ bs) b.name.now)
  hiding_last before [] b h = (tt, h.0 ∙ ap (λ l. place_of l b.name.now) (sym (append-nil before)))
  hiding_last before (x ∷ bs) b h =
      let rest = hiding_last (before ++ x ∷ []) bs b h.1 in
      ((h.0, rest.0), rest.1 ∙ ap (λ l. place_of l b.name.now) (append_assoc before (x ∷ []) bs))

  pub hiding_more : (before bs : List (Entry M)) (b : Entry M) → AreHiding before bs → b.hidden ≡ place_of (before ++ bs) b.name.now → AreHiding before (bs ++ b ∷ [])
  hiding_more before [] b h e = (e ∙ ap (λ l. place_of l b.name.now) (append-nil before), tt)
  hiding_more before (x ∷ bs) b h e =
      (h.0, hiding_more (before ++ x ∷ []) bs b h.1 (e ∙ ap (λ l. place_of l b.name.now) (sym (append_assoc before (x ∷ []) bs))))

  -- what the table and the bindings are once a name is declared
  pub declared_table : (names : List (List ℕ)) (newest entries : List (Option ℕ)) (bs all : List (Entry M)) (b : Entry M) (n place : ℕ) (text : List ℕ)
      → number_of names text ≡ Some n → n < length newest → length newest ≡ length names → IsIndexed names newest bs → AreHiding [] bs
      → b.name.now ≡ text → b.hidden ≡ at_number entries (Some n) → entries ≡ newest → place ≡ length bs → all ≡ bs ++ b ∷ []
      → (length (set newest n (Some place)) ≡ length names) × IsIndexed names (set newest n (Some place)) all × AreHiding [] all
  declared_table names newest entries bs all b n place text at within long ix hiding named hides kept placed added =
      let number : number_of names b.name.now ≡ Some n = ap (number_of names) named ∙ at in
      let hidden : b.hidden ≡ place_of bs b.name.now = hides ∙ ap (λ l. at_number l (Some n)) kept ∙ ap (at_number newest) (sym number) ∙ ix b.name.now in
      let indexed : IsIndexed names (set newest n (Some place)) all =
      λ q. ap (λ p. at_number (set newest n (Some p)) (number_of names q)) placed ∙ declared_indexed names newest bs b n number within ix q ∙ ap (λ l. place_of l q) (sym added) in
      (length-set newest n (Some place) ∙ long, indexed, subst (AreHiding []) (sym added) (hiding_more [] bs b hiding hidden))

  -- what they are once the newest binding is gone
  pub forgotten_table : (names : List (List ℕ)) (newest : List (Option ℕ)) (bs all : List (Entry M)) (b : Entry M) (text : List ℕ) (left : List (Option ℕ))
      → length newest ≡ length names → IsIndexed names newest all → AreHiding [] all → all ≡ bs ++ b ∷ [] → text ≡ b.name.now
      → left ≡ restored newest (number_of names text) b.hidden
      → (length left ≡ length names) × IsIndexed names left bs × AreHiding [] bs
  forgotten_table names newest bs all b text left long ix hiding added named is =
      let ix' = subst (IsIndexed names newest) added ix in
      let hides = hiding_last [] bs b (subst (AreHiding []) added hiding) in
      let left' : left ≡ restored newest (number_of names b.name.now) b.hidden = is ∙ ap (λ t. restored newest (number_of names t) b.hidden) named in
      subst (λ l. (length l ≡ length names) × IsIndexed names l bs × AreHiding [] bs) (sym left') (by_number ix' hides (number_of names b.name.now) refl) where
        by_number : IsIndexed names newest (bs ++ b ∷ []) → AreHiding [] bs × (b.hidden ≡ place_of bs b.name.now) → (o : Option ℕ) → number_of names b.name.now ≡ o
            → (length (restored newest o b.hidden) ≡ length names) × IsIndexed names (restored newest o b.hidden) bs × AreHiding [] bs
        by_number ix hides None e =
            absurd (none-some (length bs) (ap (at_number newest) (sym e) ∙ ix b.name.now ∙ at_last bs b b.name.now ((bytes_eq-Decides b.name.now b.name.now).1 refl)))
        by_number ix hides (Some n) e =
            let within : n < length newest = omega (arith, long, (position-Some (bytes_eq b.name.now) names n [] e).0) in
            (length-set newest n b.hidden ∙ long, left_indexed names newest bs b n e within ix hides.1, hides.0)

  pub stacked_on-older : (bs all : List (Entry M)) (b : Entry M) → all ≡ bs ++ b ∷ [] → stacked_on [] bs ≡ older (stacked_on [] all)
  stacked_on-older bs all b added = sym (ap (λ l. older (stacked_on [] l)) added ∙ ap older (stacked_on-last [] bs b))

  pub length-stacked_on : (before : List (Binding M)) (bs : List (Entry M)) → length (stacked_on before bs) ≡ length before + length bs
  length-stacked_on before [] = omega arith
  length-stacked_on before (b ∷ bs) = let rest = length-stacked_on (binding b ∷ before) bs in omega (arith, rest)

  -- the newest binding is the last one of the table
  pub inside-last : (depth : ℕ) (before : List (Binding M)) (x : Entry M) (bs : List (Entry M)) → is_inside depth (stacked_on before (x ∷ bs)) ≡ nat_le depth (get_or (x ∷ bs) (length bs) x).depth
  inside-last depth before x [] = refl
  inside-last depth before x (y ∷ bs) =
      inside-last depth (binding x ∷ before) y bs ∙ ap (λ (e : Entry M). nat_le depth e.depth) (get_or_default (y ∷ bs) (length bs) y x (omega arith))

  pub inside_by : (depth : ℕ) (bs : List (Entry M)) (e : Entry M) → Some e ≡ slice_get bs (length bs - 1) → is_inside depth (stacked_on [] bs) ≡ nat_le depth e.depth
  inside_by depth [] e is = absurd (none-some e (sym is))
  inside_by depth (x ∷ bs) e is =
      let last : length (x ∷ bs) - 1 ≡ length bs = omega arith in
      let found : Some e ≡ Some (get_or (x ∷ bs) (length bs) x) = is ∙ ap (slice_get (x ∷ bs)) last ∙ slice_get-get_or (x ∷ bs) (length bs) x (omega arith) in
      inside-last depth [] x bs ∙ ap (λ (o : Option (Entry M)). nat_le depth (or_else x o).depth) (sym found) where
        or_else : Entry M → Option (Entry M) → Entry M
        or_else d None = d
        or_else d (Some a) = a
