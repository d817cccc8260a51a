-- The views of all seats go on to agree with the history, where one changes, one comes or one is spent.
use Rattle.std.proofs.Common.{◌≡◌, ◌≢◌, ℕ, zero, suc, ◌<◌, true, false, true≢false, List, [], ◌∷◌, ◌++◌, length, set, ap, sym, ◌∙◌, subst, ⊎_elim, arith}
use Rattle.std.proofs.lemmas.List.Elements.{All-nil}
use mathlib.Core.Logic.{dite}
use mathlib.Core.Option.{some, some-injective, some-ne-none}
use native.Mathlib.Decide.{ℕ_discrete}
use lib.ListN.{get_elem?}
use Rattle.atomic_table.proofs.Lists.{at_set, set_here, set_else, at_longer}
use Rattle.css_seen.specs.declared.seat_view.SeatView.{SeatView}
use Rattle.css_seen.specs.Entries.{entries_of}
use Rattle.css_seen.specs.Seats.{seat_spent}
use Rattle.css_seen.specs.Rule.{AllOutside, AllApart, IsFirstPass, Agrees, AllAgree}
use Rattle.css_seen.proofs.Lists.{at_end}

module _ {E F : Type 0} where
  pub there : (views : List (SeatView E F)) (j : ℕ) (v : SeatView E F) → get_elem? views j ≡ some v → j < length views
  there [] j v e = absurd (some-ne-none v (sym e))
  there (x ∷ xs) zero v e = omega arith
  there (x ∷ xs) (suc j) v e = let h = there xs j v e in omega arith

  pub outside_set : (views : List (SeatView E F)) (i : ℕ) (w : SeatView E F) → AllOutside views → w.inside ≡ false → AllOutside (set views i w)
  outside_set views i w all out j v at =
      ⊎_elim (λ (h : (j ≡ i) × (w ≡ v)). subst (λ (u : SeatView E F). u.inside ≡ false) h.1 out)
      (λ (h : (j ≢ i) × (get_elem? views j ≡ some v)). all j v h.1) (at_set views i j w v at)

  pub outside_more : (views : List (SeatView E F)) (w : SeatView E F) → AllOutside views → w.inside ≡ false → AllOutside (views ++ w ∷ [])
  outside_more views w all out j v at =
      ⊎_elim (λ (h : get_elem? views j ≡ some v). all j v h)
      (λ (h : (j ≡ length views) × (w ≡ v)). subst (λ (u : SeatView E F). u.inside ≡ false) h.1 out) (at_end views w v j at)

  -- the pass keeps its number and its splits
  pub first_kept : (n : ℕ) (views : List (SeatView E F)) (i : ℕ) (v w : SeatView E F) → IsFirstPass n views → get_elem? views i ≡ some v → w.number ≡ v.number → w.spent ≡ false → w.splits ≡ v.splits → IsFirstPass n (set views i w)
  first_kept n views i v w top at number live splits = dite (ℕ_discrete 0 i)
      (λ here.
      let at0 : get_elem? views 0 ≡ some v = subst (λ (k : ℕ). get_elem? views k ≡ some v) (sym here) at in
      let same : v ≡ top.0 = some-injective v top.0 (sym at0 ∙ top.1) in
      let set0 : get_elem? (set views i w) 0 ≡ some w = subst (λ (k : ℕ). get_elem? (set views k w) 0 ≡ some w) here (set_here views 0 w (there views 0 v at0)) in
      (w, set0, number ∙ (ap (λ (u : SeatView E F). u.number) same ∙ top.2), live, splits ∙ (ap (λ (u : SeatView E F). u.splits) same ∙ top.4)))
      (λ away. (top.0, set_else views i 0 w away ∙ top.1, top.2, top.3, top.4))

  module _ (maker : E → ℕ) (f : F) where
    -- one pass knows something else, and the history may have seat_after_leave on
    pub one_changed : (log log' : List E) (n n' : ℕ) (views : List (SeatView E F)) (i : ℕ) (v w : SeatView E F)
        → AllAgree maker f log n views → get_elem? views i ≡ some v → v.spent ≡ false → w.number ≡ v.number
        → Agrees maker f log' n' w
        → ((j : ℕ) (u : SeatView E F) → get_elem? views j ≡ some u → j ≢ i → u.spent ≡ false → Agrees maker f log' n' u)
        → ((j : ℕ) (u : SeatView E F) → get_elem? views j ≡ some u → j ≢ i → w.inside ≡ true → u.inside ≡ false)
        → ((k : ℕ) (u : SeatView E F) → get_elem? views k ≡ some u → u.spent ≡ false → AllApart u.number w.joined)
        → IsFirstPass n' (set views i w)
        → ((k : ℕ) → n' < k → entries_of maker k log' ≡ [])
        → AllAgree maker f log' n' (set views i w)
    one_changed log log' n n' views i v w seats at live number fits others alone apart top none = record {
      each_view = λ j u at' live'. ⊎_elim (λ (h : (j ≡ i) × (w ≡ u)). subst (Agrees maker f log' n') h.1 fits)
          (λ (h : (j ≢ i) × (get_elem? views j ≡ some u)). others j u h.1 h.0 live') (at_set views i j w u at');
      one_inside = λ j k u t atj atk a b. ⊎_elim
          (λ (h : (j ≡ i) × (w ≡ u)). ⊎_elim (λ (h' : (k ≡ i) × (w ≡ t)). h.0 ∙ sym h'.0)
          (λ (h' : (k ≢ i) × (get_elem? views k ≡ some t)). absurd (true≢false (sym b ∙ alone k t h'.1 h'.0 (ap (λ (x : SeatView E F). x.inside) h.1 ∙ a)))) (at_set views i k w t atk))
          (λ (h : (j ≢ i) × (get_elem? views j ≡ some u)). ⊎_elim (λ (h' : (k ≡ i) × (w ≡ t)). absurd (true≢false (sym a ∙ alone j u h.1 h.0 (ap (λ (x : SeatView E F). x.inside) h'.1 ∙ b))))
          (λ (h' : (k ≢ i) × (get_elem? views k ≡ some t)). seats.one_inside j k u t h.1 h'.1 a b) (at_set views i k w t atk))
          (at_set views i j w u atj);
      distinct = λ j k u t atj atk a b same. ⊎_elim
          (λ (h : (j ≡ i) × (w ≡ u)). ⊎_elim (λ (h' : (k ≡ i) × (w ≡ t)). h.0 ∙ sym h'.0)
          (λ (h' : (k ≢ i) × (get_elem? views k ≡ some t)). h.0 ∙ seats.distinct i k v t at h'.1 live b (sym number ∙ (ap (λ (x : SeatView E F). x.number) h.1 ∙ same))) (at_set views i k w t atk))
          (λ (h : (j ≢ i) × (get_elem? views j ≡ some u)). ⊎_elim (λ (h' : (k ≡ i) × (w ≡ t)). seats.distinct j i u v h.1 at a live (same ∙ (sym (ap (λ (x : SeatView E F). x.number) h'.1) ∙ number)) ∙ sym h'.0)
          (λ (h' : (k ≢ i) × (get_elem? views k ≡ some t)). seats.distinct j k u t h.1 h'.1 a b same) (at_set views i k w t atk))
          (at_set views i j w u atj);
      apart = λ j k u t atj atk a b. ⊎_elim
          (λ (h' : (k ≡ i) × (w ≡ t)).
          let num : v.number ≡ t.number = sym number ∙ ap (λ (x : SeatView E F). x.number) h'.1 in
          subst (λ (m : ℕ). AllApart m u.joined) num
          (⊎_elim (λ (h : (j ≡ i) × (w ≡ u)). subst (λ (x : SeatView E F). AllApart v.number x.joined) h.1 (apart i v at live))
          (λ (h : (j ≢ i) × (get_elem? views j ≡ some u)). seats.apart j i u v h.1 at a live) (at_set views i j w u atj)))
          (λ (h' : (k ≢ i) × (get_elem? views k ≡ some t)).
          ⊎_elim (λ (h : (j ≡ i) × (w ≡ u)). subst (λ (x : SeatView E F). AllApart t.number x.joined) h.1 (apart k t h'.1 b))
          (λ (h : (j ≢ i) × (get_elem? views j ≡ some u)). seats.apart j k u t h.1 h'.1 a b) (at_set views i j w u atj))
          (at_set views i k w t atk);
      first = top;
      not_given = none;
    }

    -- a new pass, with a number of its own
    pub one_more : (log : List E) (n : ℕ) (views : List (SeatView E F)) (w : SeatView E F)
        → AllAgree maker f log n views → w.inside ≡ false → Agrees maker f log n w
        → ((j : ℕ) (u : SeatView E F) → get_elem? views j ≡ some u → u.spent ≡ false → u.number ≢ w.number)
        → ((j : ℕ) (u : SeatView E F) → get_elem? views j ≡ some u → u.spent ≡ false → AllApart w.number u.joined)
        → w.joined ≡ []
        → AllAgree maker f log n (views ++ w ∷ [])
    one_more log n views w seats out fits apart apart' none = record {
      each_view = λ j u at live. ⊎_elim (λ (h : get_elem? views j ≡ some u). seats.each_view j u h live)
          (λ (h : (j ≡ length views) × (w ≡ u)). subst (Agrees maker f log n) h.1 fits) (at_end views w u j at);
      one_inside = λ j k u t atj atk a b. ⊎_elim
          (λ (h : get_elem? views j ≡ some u). ⊎_elim (λ (h' : get_elem? views k ≡ some t). seats.one_inside j k u t h h' a b)
          (λ (h' : (k ≡ length views) × (w ≡ t)). absurd (true≢false (sym b ∙ (sym (ap (λ (x : SeatView E F). x.inside) h'.1) ∙ out)))) (at_end views w t k atk))
          (λ (h : (j ≡ length views) × (w ≡ u)). absurd (true≢false (sym a ∙ (sym (ap (λ (x : SeatView E F). x.inside) h.1) ∙ out))))
          (at_end views w u j atj);
      distinct = λ j k u t atj atk a b same. ⊎_elim
          (λ (h : get_elem? views j ≡ some u). ⊎_elim (λ (h' : get_elem? views k ≡ some t). seats.distinct j k u t h h' a b same)
          (λ (h' : (k ≡ length views) × (w ≡ t)). absurd (apart j u h a (same ∙ sym (ap (λ (x : SeatView E F). x.number) h'.1)))) (at_end views w t k atk))
          (λ (h : (j ≡ length views) × (w ≡ u)). ⊎_elim (λ (h' : get_elem? views k ≡ some t). absurd (apart k t h' b (sym same ∙ sym (ap (λ (x : SeatView E F). x.number) h.1))))
          (λ (h' : (k ≡ length views) × (w ≡ t)). h.0 ∙ sym h'.0) (at_end views w t k atk))
          (at_end views w u j atj);
      apart = λ j k u t atj atk a b. ⊎_elim
          (λ (h : get_elem? views j ≡ some u). ⊎_elim (λ (h' : get_elem? views k ≡ some t). seats.apart j k u t h h' a b)
          (λ (h' : (k ≡ length views) × (w ≡ t)). subst (λ (x : SeatView E F). AllApart x.number u.joined) h'.1 (apart' j u h a)) (at_end views w t k atk))
          (λ (h : (j ≡ length views) × (w ≡ u)). subst (λ l. AllApart t.number l) (sym none ∙ ap (λ (x : SeatView E F). x.joined) h.1) (All-nil (λ (c : ℕ × List E). c.0 ≢ t.number)))
          (at_end views w u j atj);
      first = let t = seats.first in (t.0, at_longer views (w ∷ []) 0 t.0 t.1, t.2, t.3, t.4);
      not_given = seats.not_given;
    }

    -- a pass other than the first is spent
    pub one_spent : (log : List E) (n : ℕ) (views : List (SeatView E F)) (o : ℕ) (w : SeatView E F)
        → AllAgree maker f log n views → get_elem? views o ≡ some w → w.number ≢ 0
        → AllAgree maker f log n (set views o seat_spent)
    one_spent log n views o w seats at apart = record {
      each_view = λ j u at' live. ⊎_elim (λ (h : (j ≡ o) × (seat_spent ≡ u)). absurd (true≢false (ap (λ (x : SeatView E F). x.spent) h.1 ∙ live)))
          (λ (h : (j ≢ o) × (get_elem? views j ≡ some u)). seats.each_view j u h.1 live) (at_set views o j seat_spent u at');
      one_inside = λ j k u t atj atk a b. ⊎_elim
          (λ (h : (j ≡ o) × (seat_spent ≡ u)). absurd (true≢false (sym (ap (λ (x : SeatView E F). x.inside) h.1 ∙ a))))
          (λ (h : (j ≢ o) × (get_elem? views j ≡ some u)). ⊎_elim (λ (h' : (k ≡ o) × (seat_spent ≡ t)). absurd (true≢false (sym (ap (λ (x : SeatView E F). x.inside) h'.1 ∙ b))))
          (λ (h' : (k ≢ o) × (get_elem? views k ≡ some t)). seats.one_inside j k u t h.1 h'.1 a b) (at_set views o k seat_spent t atk))
          (at_set views o j seat_spent u atj);
      distinct = λ j k u t atj atk a b same. ⊎_elim
          (λ (h : (j ≡ o) × (seat_spent ≡ u)). absurd (true≢false (ap (λ (x : SeatView E F). x.spent) h.1 ∙ a)))
          (λ (h : (j ≢ o) × (get_elem? views j ≡ some u)). ⊎_elim (λ (h' : (k ≡ o) × (seat_spent ≡ t)). absurd (true≢false (ap (λ (x : SeatView E F). x.spent) h'.1 ∙ b)))
          (λ (h' : (k ≢ o) × (get_elem? views k ≡ some t)). seats.distinct j k u t h.1 h'.1 a b same) (at_set views o k seat_spent t atk))
          (at_set views o j seat_spent u atj);
      apart = λ j k u t atj atk a b. ⊎_elim
          (λ (h : (j ≡ o) × (seat_spent ≡ u)). absurd (true≢false (ap (λ (x : SeatView E F). x.spent) h.1 ∙ a)))
          (λ (h : (j ≢ o) × (get_elem? views j ≡ some u)). ⊎_elim (λ (h' : (k ≡ o) × (seat_spent ≡ t)). absurd (true≢false (ap (λ (x : SeatView E F). x.spent) h'.1 ∙ b)))
          (λ (h' : (k ≢ o) × (get_elem? views k ≡ some t)). seats.apart j k u t h.1 h'.1 a b) (at_set views o k seat_spent t atk))
          (at_set views o j seat_spent u atj);
      first = let t = seats.first in (
        t.0,
        set_else views o 0 seat_spent (λ here. apart (ap (λ (x : SeatView E F). x.number) (some-injective w t.0 (sym at ∙ (ap (λ (k : ℕ). get_elem? views k) (sym here) ∙ t.1))) ∙ t.2)) ∙ t.1,
        t.2,
        t.3,
        t.4,
      );
      not_given = seats.not_given;
    }
