-- The rules on what a call is given.
use Rattle.std.proofs.Common.{◌≡◌, ℕ, ◌+◌, ◌*◌, ◌^◌, ◌<◌, ◌≤◌, Bool, true, false, List, [], ◌∷◌, drop, slice_get, Option, Some, Ok, Err, refl, ap, subst, arith}
use Rattle.std.specs.List.{list_any}
use Rattle.std.proofs.lemmas.Bool.{or_left, or_right, or_from}
use Rattle.css_base.specs.declared.rule.Rule.{Rule}
use Rattle.css_base.specs.declared.rule.Rule.TheVariants as rules
use Rattle.css_semantics.specs.Dialogue.{Argument}
use Rattle.css_semantics.specs.Tasks.{Window, window}
use Rattle.css_semantics.specs.Pending.{Object}
use Rattle.css_semantics.specs.Rules.{check, first_broken, overlap, overlaps_partly}
use Rattle.css_arguments.specs.declared.argument.Argument as code
use Rattle.css_objects.specs.Found.{TakesAtMost}
use Rattle.css_arguments.specs.Arguments.{is_unfit, HaveElements, AreFit}
use Rattle.css_objects.specs.Judged.{steps_of, judgement}
use Rattle.css_arguments.proofs.Looking.{drop_at}
use Rattle.css_objects.proofs.Stores.{none_any}

-- ---- the first rule that is broken

abbrev pub broken : (x3 x4 x5 x6 x7 : Bool) → Option Rule
broken x3 x4 x5 x6 x7 =
    first_broken (check rules.Dimension x3 ∷ check rules.TooLarge x4 ∷ check rules.DeadArgument x5 ∷ check rules.PartialOverlap x6 ∷ check rules.AliasedArguments x7 ∷ [])

module _ (x3 x4 x5 x6 x7 : Bool) where
  pub third : x3 ≡ true → Err rules.Dimension ≡ judgement (broken x3 x4 x5 x6 x7)
  third h = rw h refl

  module _ (no3 : x3 ≡ false) where
    pub fourth : x4 ≡ true → Err rules.TooLarge ≡ judgement (broken x3 x4 x5 x6 x7)
    fourth h = rw (no3, h) refl

    module _ (no4 : x4 ≡ false) where
      pub fifth : x5 ≡ true → Err rules.DeadArgument ≡ judgement (broken x3 x4 x5 x6 x7)
      fifth h = rw (no3, no4, h) refl

      module _ (no5 : x5 ≡ false) where
        pub sixth : x6 ≡ true → Err rules.PartialOverlap ≡ judgement (broken x3 x4 x5 x6 x7)
        sixth h = rw (no3, no4, no5, h) refl

        pub seventh : x6 ≡ false → x7 ≡ true → Err rules.AliasedArguments ≡ judgement (broken x3 x4 x5 x6 x7)
        seventh no6 h = rw (no3, no4, no5, no6, h) refl

        pub none_broken : x6 ≡ false → x7 ≡ false → Ok tt ≡ judgement (broken x3 x4 x5 x6 x7)
        none_broken no6 no7 = rw (no3, no4, no5, no6, no7) refl

pub all_fit : (arguments : List code.Argument) → HaveElements arguments → list_any is_unfit arguments ≡ false → AreFit arguments
all_fit arguments elements none = record {
  elements = elements;
  fit = λ i a at. none_any is_unfit arguments i a none at;
}

-- ---- steps

-- the steps so far, and those of the windows from a place on
pub StepsLeft : (rows scanned : ℕ) → List Window → (place old new : ℕ) → Type 0
StepsLeft rows scanned windows place old new = (depth : ℕ) → 2 * rows + 1 < 2 ^ (depth + 1) → new + steps_of scanned depth (drop place windows) ≤ old + steps_of scanned depth windows

pub steps_begin : (rows scanned : ℕ) (windows : List Window) (old : ℕ) → StepsLeft rows scanned windows 0 old old
unfolding StepsLeft
steps_begin rows scanned windows old depth enough = omega arith

pub steps_next : (rows scanned : ℕ) (windows : List Window) (place old middle new : ℕ) (w : Window) → StepsLeft rows scanned windows place old middle → slice_get windows place ≡ Some w
    → TakesAtMost rows scanned w.rows middle new → StepsLeft rows scanned windows (place + 1) old new
unfolding StepsLeft
steps_next rows scanned windows place old middle new w left at takes depth enough =
    let first : steps_of scanned depth (drop place windows) ≡ scanned + w.rows * depth + steps_of scanned depth (drop (place + 1) windows) = ap (steps_of scanned depth) (drop_at windows place w at) in
    omega (arith, left depth enough, first, takes depth enough)

pub steps_end : (rows scanned : ℕ) (windows : List Window) (place old new : ℕ) → StepsLeft rows scanned windows place old new
    → (depth : ℕ) → 2 * rows + 1 < 2 ^ (depth + 1) → new ≤ old + steps_of scanned depth windows
unfolding StepsLeft
steps_end rows scanned windows place old new left depth enough = omega (arith, left depth enough)

-- ---- windows that overlap an object or another window

module _ (os : List Object) (all : List Argument) (a : Argument) (w : Window) (of : w ≡ window a) where
  pub by_object : list_any (λ o. overlap w o.window) os ≡ true → overlaps_partly os all a ≡ true
  by_object h =
      or_left (list_any (λ o. overlap (window a) o.window) os) (list_any (λ b. overlap (window a) (window b)) all)
      (subst (λ (v : Window). list_any (λ o. overlap v o.window) os ≡ true) of h)

  pub by_given : list_any (λ b. overlap w (window b)) all ≡ true → overlaps_partly os all a ≡ true
  by_given h =
      or_right (list_any (λ o. overlap (window a) o.window) os) (list_any (λ b. overlap (window a) (window b)) all)
      (subst (λ (v : Window). list_any (λ b. overlap v (window b)) all ≡ true) of h)

  pub by_neither : list_any (λ o. overlap w o.window) os ≡ false → list_any (λ b. overlap w (window b)) all ≡ false → overlaps_partly os all a ≡ false
  by_neither h k =
      or_from (list_any (λ o. overlap (window a) o.window) os) (list_any (λ b. overlap (window a) (window b)) all)
      (subst (λ (v : Window). list_any (λ o. overlap v o.window) os ≡ false) of h) (subst (λ (v : Window). list_any (λ b. overlap v (window b)) all ≡ false) of k)
