-- What every legal history has, and what a seat goes on to know: by one entry at a time.
use Rattle.std.proofs.Common.{◌≡◌, ◌≢◌, ℕ, ◌==◌, Bool, true, false, true≢false, List, [], ◌∷◌, ◌++◌, length, drop, refl, ap, sym, subst, ◌∙◌, inl, inr, append_assoc, eq-eqb, cond, arith, length-append}
use Rattle.std.proofs.lemmas.List.{append-nil}
use Rattle.std.proofs.lemmas.List.Elements.{filter-append}
use mathlib.Core.List.{IsPrefix}
use Rattle.css_seen.specs.Entries.{entries_of, AddsAtMostOne}
use Rattle.css_seen.specs.Legal.{LegalAfter, Legal}
use Rattle.css_seen.specs.Facts.{OthersAdd, Lasts, Stays}

module _ {E : Type 0} (maker : E → ℕ) (MayFollow : List E → E → Type 0) where
  legal_end : (log xs : List E) (e : E) → LegalAfter MayFollow log xs → MayFollow (log ++ xs) e → LegalAfter MayFollow log (xs ++ e ∷ [])
  legal_end log [] e legal may = (subst (λ l. MayFollow l e) (append-nil log) may, tt)
  legal_end log (x ∷ xs) e legal may = (legal.0, legal_end (log ++ x ∷ []) xs e legal.1 (subst (λ l. MayFollow l e) (sym (append_assoc log (x ∷ []) xs)) may))

  pub legal_more : (log : List E) (e : E) → Legal MayFollow log → MayFollow log e → Legal MayFollow (log ++ e ∷ [])
  legal_more log e legal may = legal_end [] log e legal may

  pub legal_split : (log xs ys : List E) → LegalAfter MayFollow log (xs ++ ys) → LegalAfter MayFollow log xs × LegalAfter MayFollow (log ++ xs) ys
  legal_split log [] ys legal = (tt, subst (λ l. LegalAfter MayFollow l ys) (sym (append-nil log)) legal)
  legal_split log (x ∷ xs) ys legal =
      let rest = legal_split (log ++ x ∷ []) xs ys legal.1 in
      ((legal.0, rest.0), subst (λ l. LegalAfter MayFollow l ys) (append_assoc log (x ∷ []) xs) rest.1)

  -- what every entry leaves true lasts
  pub lasting : (Fact : List E → Type 0) → Lasts maker MayFollow Fact → (log rest : List E) → Legal MayFollow log → LegalAfter MayFollow log rest → Fact log → Fact (log ++ rest)
  lasting Fact step log [] was legal h = subst Fact (sym (append-nil log)) h
  lasting Fact step log (e ∷ rest) was legal h =
      subst Fact (append_assoc log (e ∷ []) rest) (lasting Fact step (log ++ e ∷ []) rest (legal_more log e was legal.0) legal.1 (step log e was legal.0 h))

  -- what is true at first and left true by every entry is true of each legal history
  pub of_legal : (Fact : List E → Type 0) → Fact [] → Lasts maker MayFollow Fact → (log : List E) → Legal MayFollow log → Fact log
  of_legal Fact none step log legal = lasting Fact step [] log tt legal none

  not_head : (seat : ℕ) (e : E) (more : List E) (b : Bool) → (maker e == seat) ≡ b → cond b (e ∷ more) more ≡ [] → (maker e ≢ seat) × (more ≡ [])
  not_head seat e more true is h = absurd (cc)
  not_head seat e more false is h = ((λ same. true≢false (sym (eq-eqb (maker e) seat same) ∙ is)), h)

  -- what the others' entries leave true stays
  pub staying : (seat : ℕ) (Fact : List E → Type 0) → Stays maker MayFollow seat Fact → (log rest : List E) → Legal MayFollow log → LegalAfter MayFollow log rest → entries_of maker seat rest ≡ [] → Fact log → Fact (log ++ rest)
  staying seat Fact step log [] was legal none h = subst Fact (sym (append-nil log)) h
  staying seat Fact step log (e ∷ rest) was legal none h =
      let apart = not_head seat e (entries_of maker seat rest) (maker e == seat) refl none in
      subst Fact (append_assoc log (e ∷ []) rest) (staying seat Fact step (log ++ e ∷ []) rest (legal_more log e was legal.0) legal.1 apart.1 (step log e was legal.0 apart.0 h))

  -- a seat's fact about what it saw is still true when it looks again
  pub still : (seat : ℕ) (Fact : List E → Type 0) → Stays maker MayFollow seat Fact → (old new : List E) → OthersAdd maker seat old new → Legal MayFollow new → Fact old → Fact new
  still seat Fact step old new more legal h =
      let whole : Legal MayFollow (old ++ more.rest) = subst (Legal MayFollow) (sym more.goes_on) legal in
      let parts = legal_split [] old more.rest whole in
      subst Fact more.goes_on (staying seat Fact step old more.rest parts.0 parts.1 more.not_mine h)

  pub still_lasts : (seat : ℕ) (Fact : List E → Type 0) → Lasts maker MayFollow Fact → (old new : List E) → OthersAdd maker seat old new → Legal MayFollow new → Fact old → Fact new
  still_lasts seat Fact step old new more legal h = still seat Fact (λ log e was may apart. step log e was may) old new more legal h

module _ {E : Type 0} where
  nothing_more : (xs ys : List E) → xs ++ ys ≡ xs → ys ≡ []
  nothing_more xs [] e = refl
  nothing_more xs (y ∷ ys) e = absurd (omega (arith, ap length e, length-append xs (y ∷ ys)))

  -- what a lock tells a pass as it enters, whose seen list has just its own entries
  pub others_add : (maker : E → ℕ) (seat : ℕ) (seen log made : List E) → IsPrefix seen log → entries_of maker seat seen ≡ made → entries_of maker seat log ≡ made → OthersAdd maker seat seen log
  others_add maker seat seen log made prefix own now = record {
    rest = prefix.0;
    goes_on = prefix.1;
    not_mine = nothing_more made (entries_of maker seat prefix.0)
        (ap (λ l. l ++ entries_of maker seat prefix.0) (sym own) ∙ (sym (filter-append (λ e. maker e == seat) seen prefix.0) ∙ (ap (entries_of maker seat) prefix.1 ∙ now)));
  }

  drop_all : (xs ys : List E) → drop (length xs) (xs ++ ys) ≡ ys
  drop_all [] ys = refl
  drop_all (x ∷ xs) ys = drop_all xs ys

  -- as a pass leaves, its seen list again has just its own entries
  pub own_after : (maker : E → ℕ) (seat : ℕ) (old new made : List E) → entries_of maker seat old ≡ made → AddsAtMostOne maker seat old new → entries_of maker seat new ≡ made ++ drop (length old) new
  own_after maker seat old new made own (inl same) =
      let none : drop (length old) new ≡ [] = ap (λ l. drop (length old) l) (same ∙ sym (append-nil old)) ∙ drop_all old [] in
      ap (entries_of maker seat) same ∙ (own ∙ (sym (append-nil made) ∙ ap (λ l. made ++ l) (sym none)))
  own_after maker seat old new made own (inr (e, by, is)) =
      let one : drop (length old) new ≡ e ∷ [] = ap (λ l. drop (length old) l) is ∙ drop_all old (e ∷ []) in
      let mine : entries_of maker seat (e ∷ []) ≡ e ∷ [] = ap (λ b. cond b (e ∷ []) []) (eq-eqb (maker e) seat by) in
      ap (entries_of maker seat) is ∙ (filter-append (λ d. maker d == seat) old (e ∷ []) ∙ (ap (λ l. l ++ entries_of maker seat (e ∷ [])) own ∙ ap (λ l. made ++ l) (mine ∙ sym one)))
