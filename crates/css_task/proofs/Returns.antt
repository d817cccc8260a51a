-- A task returns exactly where no byte is left that it has yet to write.
use Rattle.std.proofs.Common.{◌≡◌, ℕ, Bool, true, false, not, ◌&&◌, ◌||◌, List, [], ◌∷◌, refl, ap}
use Rattle.std.specs.List.{list_any}
use Rattle.std.proofs.lemmas.Bool.{and_parts}
use Rattle.css_base.specs.declared.limits.Limits.{Limits}
use Rattle.css_base.specs.declared.rule.Rule.TheVariants as rules
use Rattle.css_semantics.specs.Dialogue.{Returns, Says, Refuses}
use Rattle.css_semantics.specs.Tasks.{Use, has_byte, reads}
use Rattle.css_semantics.specs.Rules.{check, first_broken, judged_reply, all_of_window, is_unwritten, is_given_for, has_stored}
use Rattle.css_semantics.specs.Alone.{Solitude, alone_reply}
use Rattle.css_semantics.proofs.Windows.{window_by, window_gives}

module _ (limits : Limits) (s : Solitude) where
  none_left : (some : List Use) → ((at : ℕ) → is_unwritten s.body at ≡ false) → list_any (λ u. not (all_of_window (λ at. not (is_unwritten s.body at)) u.window)) some ≡ false
  none_left [] none = refl
  none_left (u ∷ some) none = rw (window_by (λ at. not (is_unwritten s.body at)) u.window (λ at has. ap not (none at)), none_left some none)

  -- where each byte is written it does
  pub returns : ((at : ℕ) → is_unwritten s.body at ≡ false) → alone_reply limits s Returns ≡ Says 0
  returns none =
      ap (λ b. judged_reply (first_broken (check rules.OutsideArguments false ∷ check rules.WroteInput false ∷ check rules.ReadUnwritten false ∷ check rules.LeftUnwritten b ∷ check rules.TaskStack false ∷ check rules.Units false ∷ [])) (Says 0)) (none_left s.body.uses none)

  still_by : (u : Use) (at : ℕ) → is_unwritten s.body at ≡ true → has_byte u.window at ≡ true → (b : Bool) → all_of_window (λ at. not (is_unwritten s.body at)) u.window ≡ b → not b ≡ true
  still_by u at left has true all = absurd (cc (ap not left, window_gives (λ at. not (is_unwritten s.body at)) u.window all at has))
  still_by u at left has false all = refl

  or_from : (a b : Bool) → (a ≡ false → b ≡ true) → (a || b) ≡ true
  or_from true b later = refl
  or_from false b later = later refl

  one_left_by : (u : Use) (some : List Use) (at : ℕ) (here : Bool) → (not (reads u.direction) && has_byte u.window at) ≡ here → is_unwritten s.body at ≡ true
      → (list_any (λ u. not (reads u.direction) && has_byte u.window at) some ≡ true → list_any (λ u. not (all_of_window (λ at. not (is_unwritten s.body at)) u.window)) some ≡ true)
      → (here || list_any (λ u. not (reads u.direction) && has_byte u.window at) some) ≡ true
      → list_any (λ u. not (all_of_window (λ at. not (is_unwritten s.body at)) u.window)) (u ∷ some) ≡ true
  one_left_by u some at true is left later any =
      let parts = and_parts (not (reads u.direction)) (has_byte u.window at) is in
      ap (λ b. b || list_any (λ u. not (all_of_window (λ at. not (is_unwritten s.body at)) u.window)) some) (still_by u at left parts.1 (all_of_window (λ at. not (is_unwritten s.body at)) u.window) refl)
  one_left_by u some at false is left later any =
      or_from (not (all_of_window (λ at. not (is_unwritten s.body at)) u.window)) (list_any (λ u. not (all_of_window (λ at. not (is_unwritten s.body at)) u.window)) some) (λ out. later any)

  one_left : (some : List Use) (at : ℕ) → is_unwritten s.body at ≡ true → list_any (λ u. not (reads u.direction) && has_byte u.window at) some ≡ true
      → list_any (λ u. not (all_of_window (λ at. not (is_unwritten s.body at)) u.window)) some ≡ true
  one_left [] at left any = absurd (cc)
  one_left (u ∷ some) at left any = one_left_by u some at (not (reads u.direction) && has_byte u.window at) refl left (λ later. one_left some at left later) any

  -- and where one isn't, the rule refuses it
  pub refused : (at : ℕ) → is_unwritten s.body at ≡ true → alone_reply limits s Returns ≡ Refuses rules.LeftUnwritten
  refused at left =
      let given = (and_parts (is_given_for (λ d. not (reads d)) s.body at) (not (has_stored s.body at)) left).0 in
      ap (λ b. judged_reply (first_broken (check rules.OutsideArguments false ∷ check rules.WroteInput false ∷ check rules.ReadUnwritten false ∷ check rules.LeftUnwritten b ∷ check rules.TaskStack false ∷ check rules.Units false ∷ [])) (Says 0)) (one_left s.body.uses at left given)
