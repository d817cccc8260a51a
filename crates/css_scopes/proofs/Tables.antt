-- The table of a scope finds what the list of its bindings has.
use Rattle.std.proofs.Common.{◌≡◌, ℕ, ◌+◌, ◌<◌, Bool, true, false, List, [], ◌∷◌, ◌++◌, length, bytes_eq, slice_get, get_or, Option, Some, None, if◌then◌else◌, refl, sym, ap, ◌∙◌, subst, arith, append_assoc, length-append}
use Rattle.std.specs.Option.{option_map}
use Rattle.std.proofs.lemmas.Option.{slice_get-get_or}
use Rattle.std.proofs.lemmas.List.{get_or_append_left, append-nil}
use Rattle.std.proofs.Math.Seq.{get_or-append_seam}
use Rattle.css_scopes.specs.declared.scope.Entry.{Entry}
use Rattle.css_scopes.specs.Scopes.{Binding, found}
use Rattle.css_scopes.specs.Tables.{binding, stacked_on, newest_place, place_of, at_number, IsIndexed}
use Rattle.css_scopes.specs.Names.{number_of}

module _ {M : Type 0} where
  -- the newest binding of a name, from the oldest on
  abbrev pub newest_of : Option (Binding M) → List (Entry M) → List ℕ → Option (Binding M)
  newest_of best [] name = best
  newest_of best (b ∷ bs) name = newest_of (if bytes_eq b.name.now name then Some (binding b) else best) bs name

  pub found-stacked_on : (older : List (Binding M)) (bs : List (Entry M)) (name : List ℕ) → found (stacked_on older bs) name ≡ newest_of (found older name) bs name
  found-stacked_on older [] name = refl
  found-stacked_on older (b ∷ bs) name = found-stacked_on (binding b ∷ older) bs name

  -- a place is that of this binding
  abbrev pub Agrees : List (Entry M) → Option ℕ → Option (Binding M) → Type 0
  Agrees all None best = best ≡ None
  Agrees all (Some k) best = (k < length all) × (best ≡ option_map binding (slice_get all k))

  one_more : (all : List (Entry M)) (b : Entry M) → length (all ++ b ∷ []) ≡ length all + 1
  one_more all b = length-append all (b ∷ [])

  get-more : (all : List (Entry M)) (b : Entry M) (k : ℕ) → k < length all → slice_get (all ++ b ∷ []) k ≡ slice_get all k
  get-more all b k below =
      let n = one_more all b in
      slice_get-get_or (all ++ b ∷ []) k b (omega (arith, n, below)) ∙ ap Some (get_or_append_left all (b ∷ []) b k below) ∙ sym (slice_get-get_or all k b below)

  get-last : (all : List (Entry M)) (b : Entry M) → slice_get (all ++ b ∷ []) (length all) ≡ Some b
  get-last all b =
      let n = one_more all b in
      slice_get-get_or (all ++ b ∷ []) (length all) b (omega (arith, n)) ∙ ap Some (get_or-append_seam all b [] b)

  Agrees-more : (all : List (Entry M)) (b : Entry M) (p : Option ℕ) (best : Option (Binding M)) → Agrees all p best → Agrees (all ++ b ∷ []) p best
  Agrees-more all b None best h = h
  Agrees-more all b (Some k) best h = let n = one_more all b in (omega (arith, n, h.0), h.1 ∙ ap (option_map binding) (sym (get-more all b k h.0)))

  Agrees-last : (all : List (Entry M)) (b : Entry M) → Agrees (all ++ b ∷ []) (Some (length all)) (Some (binding b))
  Agrees-last all b = let n = one_more all b in (omega (arith, n), ap (option_map binding) (sym (get-last all b)))

  Agrees-next : (test : Bool) (all : List (Entry M)) (b : Entry M) (p : Option ℕ) (best : Option (Binding M)) → Agrees all p best
      → Agrees (all ++ b ∷ []) (if test then Some (length all) else p) (if test then Some (binding b) else best)
  Agrees-next true all b p best h = Agrees-last all b
  Agrees-next false all b p best h = Agrees-more all b p best h

  Agrees-all : (before bs : List (Entry M)) (p : Option ℕ) (best : Option (Binding M)) (name : List ℕ) → Agrees before p best
      → Agrees (before ++ bs) (newest_place (length before) p bs name) (newest_of best bs name)
  Agrees-all before [] p best name h = subst (λ l. Agrees l p best) (sym (append-nil before)) h
  Agrees-all before (b ∷ bs) p best name h =
      let test = bytes_eq b.name.now name in
      let rest = Agrees-all (before ++ b ∷ []) bs (if test then Some (length before) else p) (if test then Some (binding b) else best) name (Agrees-next test before b p best h) in
      let at = subst (λ n. Agrees ((before ++ b ∷ []) ++ bs) (newest_place n (if test then Some (length before) else p) bs name) (newest_of (if test then Some (binding b) else best) bs name)) (one_more before b) rest in
      subst (λ l. Agrees l (newest_place (length before + 1) (if test then Some (length before) else p) bs name) (newest_of (if test then Some (binding b) else best) bs name)) (append_assoc before (b ∷ []) bs) at

  pub place_agrees : (bs : List (Entry M)) (name : List ℕ) → Agrees bs (place_of bs name) (found (stacked_on [] bs) name)
  place_agrees bs name = subst (Agrees bs (place_of bs name)) (sym (found-stacked_on [] bs name)) (Agrees-all [] bs None None name refl)

  pub none_found : (bs : List (Entry M)) (name : List ℕ) → place_of bs name ≡ None → found (stacked_on [] bs) name ≡ None
  none_found bs name e = subst (λ p. Agrees bs p (found (stacked_on [] bs) name)) e (place_agrees bs name)

  one_found : (bs : List (Entry M)) (name : List ℕ) (k : ℕ) → place_of bs name ≡ Some k → Agrees bs (Some k) (found (stacked_on [] bs) name)
  one_found bs name k e = subst (λ p. Agrees bs p (found (stacked_on [] bs) name)) e (place_agrees bs name)

  pub is_within : (bs : List (Entry M)) (name : List ℕ) (k : ℕ) → place_of bs name ≡ Some k → k < length bs
  is_within bs name k e = (one_found bs name k e).0

  pub is_found : (bs : List (Entry M)) (name : List ℕ) (k : ℕ) (b : Entry M) → place_of bs name ≡ Some k → b ≡ get_or bs k b → found (stacked_on [] bs) name ≡ Some (binding b)
  is_found bs name k b e is =
      let at = one_found bs name k e in
      at.1 ∙ ap (option_map binding) (slice_get-get_or bs k b at.0) ∙ ap (λ x. Some (binding x)) (sym is)

  -- what the table says
  pub looked_up : (names : List (List ℕ)) (newest l : List (Option ℕ)) (bs : List (Entry M)) (name : List ℕ) (p : Option ℕ) → IsIndexed names newest bs → l ≡ newest → p ≡ at_number l (number_of names name) → place_of bs name ≡ p
  looked_up names newest l bs name p ix e is = sym (ix name) ∙ ap (λ x. at_number x (number_of names name)) (sym e) ∙ sym is
