-- What a history says once it has one entry more.
use Rattle.std.proofs.Common.{◌≡◌, ◌≢◌, ℕ, ◌+◌, ◌==◌, ◌||◌, Bool, true, false, cond, List, [], ◌∷◌, ◌++◌, Contains, refl, ap, sym, ◌∙◌, subst}
use Rattle.std.specs.List.{flat_map, list_any}
use Rattle.std.proofs.lemmas.List.{append-nil}
use Rattle.std.proofs.lemmas.List.Elements.{Contains-append_left}
use Rattle.std.proofs.lemmas.List.Folds.{list_any-append}
use Rattle.std.proofs.lemmas.Grind.{flat_map-append}
use Rattle.std.proofs.lemmas.Bool.{ne_eqb}
use Rattle.css_yard.specs.Values.{Submit}
use Rattle.css_graph.specs.Tasks.{is_among}
use Rattle.css_history.specs.declared.entry.Entry.{Entry}
use Rattle.css_history.specs.declared.entry.Entry.TheVariants as entries
use Rattle.css_history.specs.Histories.{maker, submitted, submits, Standing, Waiting, named, comes, after, standing_after, standing, without, holding, holding_after, held, closes, hungry, is_worker, is_closed, has_starved}
use Rattle.css_history.specs.Rules.{IsSubmit}
use Rattle.css_history.proofs.Bools.{both_false}

pub submits_more : (log : List Entry) (e : Entry) → submits (log ++ e ∷ []) ≡ submits log ++ submitted e
submits_more log e = flat_map-append submitted log (e ∷ []) ∙ ap (λ l. submits log ++ l) (append-nil (submitted e))

pub submits_same : (log : List Entry) (e : Entry) → submitted e ≡ [] → submits (log ++ e ∷ []) ≡ submits log
submits_same log e none = submits_more log e ∙ (ap (λ l. submits log ++ l) none ∙ append-nil (submits log))

pub still_there : (log : List Entry) (e : Entry) (s : Submit) → Contains (submits log) s → Contains (submits (log ++ e ∷ [])) s
still_there log e s has = subst (λ l. Contains l s) (sym (submits_more log e)) (Contains-append_left (submits log) (submitted e) s has)

pub still_submit : (log : List Entry) (e : Entry) (n : ℕ) (s : Submit) → IsSubmit log n s → IsSubmit (log ++ e ∷ []) n s
still_submit log e n s is = record { is_there = still_there log e s is.is_there; number = is.number }

-- ---- standings

pub standing_more : (n : ℕ) (s : Standing) (log : List Entry) (e : Entry) → standing_after n s (log ++ e ∷ []) ≡ after n (standing_after n s log) e
standing_more n s [] e = refl
standing_more n s (x ∷ log) e = standing_more n (after n s x) log e

pub not_named : (log : List Entry) (e : Entry) (n : ℕ) → is_among (named e) n ≡ false → standing n (log ++ e ∷ []) ≡ standing n log
not_named log e n none = standing_more n Waiting log e ∙ ap (λ b. cond b (comes e) (standing n log)) none

pub is_named : (log : List Entry) (e : Entry) (n : ℕ) → is_among (named e) n ≡ true → standing n (log ++ e ∷ []) ≡ comes e
is_named log e n is = standing_more n Waiting log e ∙ ap (λ b. cond b (comes e) (standing n log)) is

-- ---- what a worker holds

pub holding_more : (w : ℕ) (numbers : List ℕ) (log : List Entry) (e : Entry) → holding_after w numbers (log ++ e ∷ []) ≡ holding w (holding_after w numbers log) e
holding_more w numbers [] e = refl
holding_more w numbers (x ∷ log) e = holding_more w (holding w numbers x) log e

pub held_more : (w : ℕ) (log : List Entry) (e : Entry) → held w (log ++ e ∷ []) ≡ holding w (held w log) e
held_more w log e = holding_more w [] log e

-- of other numbers
not_worker : (v w : ℕ) → v + 1 ≢ w + 1 → (v == w) ≡ false
not_worker v w apart = ne_eqb v w (λ same. apart (ap (λ (m : ℕ). m + 1) same))

-- what others enter changes nothing of it
pub other_holding : (w : ℕ) (numbers : List ℕ) (e : Entry) → maker e ≢ w + 1 → holding w numbers e ≡ numbers
other_holding w numbers (entries.Submit rec given) apart = refl
other_holding w numbers (entries.Take v more) apart = ap (λ b. cond b (numbers ++ more) numbers) (not_worker v w apart)
other_holding w numbers (entries.Finish v n outs) apart = ap (λ b. cond b (without n numbers) numbers) (not_worker v w apart)
other_holding w numbers (entries.Stop v n stop line) apart = ap (λ b. cond b (without n numbers) numbers) (not_worker v w apart)
other_holding w numbers (entries.Back v all) apart = ap (λ b. cond b [] numbers) (not_worker v w apart)
other_holding w numbers (entries.Starved v) apart = refl
other_holding w numbers entries.Close apart = refl

pub held_same : (w : ℕ) (log : List Entry) (e : Entry) → maker e ≢ w + 1 → held w (log ++ e ∷ []) ≡ held w log
held_same w log e apart = held_more w log e ∙ other_holding w (held w log) e apart

-- ---- closed, starved

pub any_more : (test : Entry → Bool) (log : List Entry) (e : Entry) → list_any test (log ++ e ∷ []) ≡ (list_any test log || (test e || false))
any_more test log e = list_any-append test log (e ∷ [])

pub none_more : (test : Entry → Bool) (log : List Entry) (e : Entry) → list_any test log ≡ false → test e ≡ false → list_any test (log ++ e ∷ []) ≡ false
none_more test log e was is = any_more test log e ∙ both_false (list_any test log) (test e || false) was (both_false (test e) false is refl)

pub other_fed : (w : ℕ) (e : Entry) → maker e ≢ w + 1 → is_worker w (hungry e) ≡ false
other_fed w (entries.Submit rec given) apart = refl
other_fed w (entries.Take v more) apart = refl
other_fed w (entries.Finish v n outs) apart = refl
other_fed w (entries.Stop v n stop line) apart = refl
other_fed w (entries.Back v all) apart = refl
other_fed w (entries.Starved v) apart = not_worker v w apart
other_fed w entries.Close apart = refl
