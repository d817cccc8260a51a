-- Pieces of a plan: the spots of operators of one line, with the heights along them and with ranks that count down.
use Rattle.std.proofs.Common.{◌≡◌, ℕ, zero, suc, ◌+◌, ◌-◌, ◌<◌, ◌≤◌, List, [], ◌∷◌, ◌++◌, length, Some, refl, sym, ap, ◌∙◌, subst, ⊎_elim, arith, length-append}
use Rattle.std.specs.Prelude.{slice_get}
use Rattle.std.proofs.lemmas.Bool.{cases_lt}
use Rattle.std.proofs.lemmas.Option.{same_Some}
use Rattle.css_vm.specs.declared.code.Instr.{Instr}
use Rattle.css_vm.specs.declared.code.Op.{Op}
use Rattle.css_vm.specs.declared.code.Op.TheVariants as ops
use Rattle.css_vm.specs.Code.{Code}
use Rattle.css_vm.specs.Soundness.{Spot, Stays, Leads, takes, gives, GoesOn, IsFine}
use Rattle.css_small_code.specs.Code.{in_line}
use Rattle.css_small_code.proofs.Stands.{Stands}
use Rattle.css_small_code.proofs.Heights.{leaves, behind, Lands, AllFit, HeightsStand, first_height}
use Rattle.css_small_code.proofs.Inside.{Ahead, Inside}

abbrev pub spot : (height rank : ℕ) → Spot
spot height rank = record { height = height; rank = rank }

-- each rank is at most this
abbrev pub AllAtMost : ℕ → List Spot → Type 0
AllAtMost most [] = Unit {0}
AllAtMost most (s ∷ rest) = (s.rank ≤ most) × AllAtMost most rest

pub both_at_most : (most : ℕ) (xs ys : List Spot) → AllAtMost most xs → AllAtMost most ys → AllAtMost most (xs ++ ys)
both_at_most most [] ys a b = b
both_at_most most (x ∷ xs) ys a b = (a.0, both_at_most most xs ys a.1 b)

-- the first stack is empty
abbrev pub BeginsEmpty : List Spot → Type 0
BeginsEmpty [] = Unit {0}
BeginsEmpty (s ∷ rest) = s.height ≡ 0

pub begins_with : (xs ys : List Spot) → BeginsEmpty xs → BeginsEmpty ys → BeginsEmpty (xs ++ ys)
begins_with [] ys a b = b
begins_with (x ∷ xs) ys a b = a

module _ (code : Code) where
  -- operators' spots from a height, whose ranks count down to the one next above this
  abbrev pub spots : (above height : ℕ) → List Op → List Spot
  spots above height [] = []
  spots above height (op ∷ all) = spot height (above + suc (length all)) ∷ spots above (leaves code op height) all

  pub length-spots : (above height : ℕ) (all : List Op) → length (spots above height all) ≡ length all
  length-spots above height [] = refl
  length-spots above height (op ∷ all) = ap suc (length-spots above (leaves code op height) all)

  pub spots-append : (above height mid : ℕ) (xs ys : List Op) → behind code height xs ≡ mid → spots above height (xs ++ ys) ≡ spots (above + length ys) height xs ++ spots above mid ys
  spots-append above height mid [] ys e = ap (λ h. spots above h ys) e
  spots-append above height mid (op ∷ xs) ys e =
      let same : above + suc (length (xs ++ ys)) ≡ above + length ys + suc (length xs) = omega (arith, length-append xs ys) in
      ap (λ rank. spot height rank ∷ spots above (leaves code op height) (xs ++ ys)) same
      ∙ ap (λ rest. spot height (above + length ys + suc (length xs)) ∷ rest) (spots-append above (leaves code op height) mid xs ys e)

  pub spots_at_most : (above height most : ℕ) (all : List Op) → above + length all ≤ most → AllAtMost most (spots above height all)
  spots_at_most above height most [] le = tt
  spots_at_most above height most (op ∷ all) le = (omega (arith, le), spots_at_most above (leaves code op height) most all (omega (arith, le)))

  pub spots_begin : (above : ℕ) (all : List Op) → BeginsEmpty (spots above 0 all)
  spots_begin above [] = tt
  spots_begin above (op ∷ all) = refl

  module _ (plan : List Spot) where
    -- the place has this height, and a rank of at most this
    abbrev pub At : (place height most : ℕ) → Type 0
    At place height most = (next : Spot) × (slice_get plan place ≡ Some next) × (next.height ≡ height) × (next.rank ≤ most)

    pub at_more : (place height most more : ℕ) → most ≤ more → At place height most → At place height more
    at_more place height most more le at = (at.0, at.1, at.2, omega (arith, at.3, le))

    -- the same place, under another name
    pub at_there : (place place' height most : ℕ) → place ≡ place' → At place height most → At place' height most
    at_there place place' height most e at = subst (λ p. At p height most) e at

    -- the rank at a place is at most this, or below this
    abbrev RankAt : (place most : ℕ) → Type 0
    RankAt place most = (next : Spot) × (slice_get plan place ≡ Some next) × (next.rank ≤ most)

    abbrev Below : (place rank : ℕ) → Type 0
    Below place rank = (next : Spot) × (slice_get plan place ≡ Some next) × (next.rank < rank)

    pub leads_at : (to height most : ℕ) (s : Spot) → most < s.rank → At to height most → Leads plan to s height
    leads_at to height most s less at = (at.0, at.1, at.2, omega (arith, less, at.3))

    leads : (to height : ℕ) (s : Spot) → Stays plan to height → Below to s.rank → Leads plan to s height
    leads to height s stay lower =
        let same : lower.0 ≡ stay.0 = same_Some lower.0 stay.0 (sym lower.1 ∙ stay.1) in
        (stay.0, stay.1, stay.2, subst (λ x. x.rank < s.rank) same lower.2)

    -- ---- the spots at a place where operators' spots stand

    pub heights_stand : (above place height : ℕ) (all : List Op) → Stands plan place (spots above height all) → HeightsStand code plan place height all
    heights_stand above place height [] h = tt
    heights_stand above place height (op ∷ all) h = ((spot height (above + suc (length all)), h.0, refl), heights_stand above (place + 1) (leaves code op height) all h.1)

    -- the rank at a place among ranks that count down, or right behind them
    counted : (above height : ℕ) (all : List Op) (place to : ℕ) → Stands plan place (spots above height all) → RankAt (place + length all) above → place ≤ to → to ≤ place + length all → RankAt to (above + length all)
    counted above height [] place to stands end low high =
        let same : place + 0 ≡ to = omega arith in
        let there = subst (λ p. RankAt p above) same end in
        (there.0, there.1, omega (arith, there.2))
    counted above height (op ∷ all) place to stands end low high =
        ⊎_elim
        (λ lt. let same : place ≡ to = omega (arith, low, lt) in subst (λ p. RankAt p (above + suc (length all))) same (spot height (above + suc (length all)), stands.0, omega arith))
        (λ le.
        let there : place + suc (length all) ≡ place + 1 + length all = omega arith in
        let later = counted above (leaves code op height) all (place + 1) to stands.1 (subst (λ p. RankAt p above) there end) le (omega (arith, high)) in
        (later.0, later.1, omega (arith, later.2)))
        (cases_lt to (place + 1))

    -- ---- instructions that go on as the plan says

    abbrev pub AllFine : ℕ → List Spot → List Instr → Type 0
    AllFine place [] [] = Unit {0}
    AllFine place [] (i ∷ is) = ⊥
    AllFine place (s ∷ rest) [] = ⊥
    AllFine place (s ∷ rest) (i ∷ is) = IsFine code plan place s i.op × AllFine (place + 1) rest is

    -- one part behind another
    pub both_fine : (place : ℕ) (ss ss' : List Spot) (xs ys : List Instr) → AllFine place ss xs → AllFine (place + length xs) ss' ys → AllFine place (ss ++ ss') (xs ++ ys)
    both_fine place [] ss' [] ys a b = let here : place + 0 ≡ place = omega arith in subst (λ p. AllFine p ss' ys) here b
    both_fine place [] ss' (x ∷ xs) ys a b = absurd a
    both_fine place (s ∷ ss) ss' [] ys a b = absurd a
    both_fine place (s ∷ ss) ss' (x ∷ xs) ys a b =
        let there : place + length (x ∷ xs) ≡ place + 1 + length xs = omega arith in
        (a.0, both_fine (place + 1) ss ss' xs ys a.1 (subst (λ p. AllFine p ss' ys) there b))

    pub fine_at : (start k : ℕ) (ss : List Spot) (is : List Instr) (s : Spot) → AllFine start ss is → slice_get ss k ≡ Some s → (i : Instr) × (slice_get is k ≡ Some i) × IsFine code plan (start + k) s i.op
    fine_at start k [] is s all h = cc
    fine_at start k (t ∷ ss) [] s all h = absurd all
    fine_at start zero (t ∷ ss) (i ∷ is) s all h =
        let here : start ≡ start + 0 = omega arith in
        (i, refl, subst (λ p. IsFine code plan p s i.op) here (subst (λ x. IsFine code plan start x i.op) (same_Some t s h) all.0))
    fine_at start (suc k) (t ∷ ss) (i ∷ is) s all h =
        let there : start + 1 + k ≡ start + suc k = omega arith in
        let later = fine_at (start + 1) k ss is s all.1 h in
        (later.0, later.1, subst (λ p. IsFine code plan p s later.0.op) there later.2)

    goes_on : (end place : ℕ) (s : Spot) (op : Op) → Lands code plan s.height op → Ahead end place op → ((to : ℕ) → place < to → to ≤ end → Below to s.rank) → place < end → Stays plan (place + 1) (leaves code op s.height) → GoesOn code plan place s op
    goes_on end place s ops.Ret lands ahead lower room next = tt
    goes_on end place s ops.Turn lands ahead lower room next =
        let same : s.height - 0 + 0 ≡ s.height = omega arith in
        subst (Stays plan (place + 1)) same next
    goes_on end place s (ops.Call k) lands ahead lower room next = next
    goes_on end place s (ops.Jump to) lands ahead lower room next = leads to s.height s lands (lower to ahead.0 ahead.1)
    goes_on end place s (ops.Jumpz to) lands ahead lower room next =
        let same : s.height - 1 + 0 ≡ s.height - 1 = omega arith in
        (leads to (s.height - 1) s lands (lower to ahead.0 ahead.1), leads (place + 1) (s.height - 1) s (subst (Stays plan (place + 1)) same next) (lower (place + 1) (omega arith) (omega (arith, room))))
    goes_on end place s op lands ahead lower room next = leads (place + 1) (s.height - takes code op + gives code op) s next (lower (place + 1) (omega arith) (omega (arith, room)))

    -- operators of one line whose jumps lead ahead, and not further than right behind them
    pub line_fine : (above height end place line : ℕ) (all : List Op) → place + length all ≡ end → Stands plan place (spots above height all) → At end (behind code height all) above → AllFit code plan height all → Inside end place all →
        AllFine place (spots above height all) (in_line line all)
    line_fine above height end place line [] is stands last fit inside = tt
    line_fine above height end place line (op ∷ all) is stands last fit inside =
        let next : place + 1 + length all ≡ end = omega (arith, is) in
        let after = leaves code op height in
        let rank : RankAt (place + 1 + length all) above = subst (λ p. RankAt p above) (sym next) (last.0, last.1, last.3) in
        let stay : Stays plan (place + 1 + length all) (behind code after all) = subst (λ p. Stays plan p (behind code after all)) (sym next) (last.0, last.1, last.2) in
        let ahead = first_height code plan (place + 1) after all (heights_stand above (place + 1) after all stands.1) stay in
        let lower : (to : ℕ) → place < to → to ≤ end → Below to (above + suc (length all)) =
        λ to low high. let r = counted above after all (place + 1) to stands.1 rank (omega (arith, low)) (omega (arith, high, next)) in (r.0, r.1, omega (arith, r.2)) in
        let here = spot height (above + suc (length all)) in
        let fine : IsFine code plan place here op = record {
          finds = fit.0;
          names = fit.1;
          goes_on = goes_on end place here op fit.2 inside.0 lower (omega (arith, is)) ahead;
        } in
        (fine, line_fine above after end (place + 1) line all next stands.1 last fit.3 inside.1)

    -- the spot at the place of a piece that begins with an empty stack, by the one behind it
    pub begins_at : (place above most : ℕ) (ss : List Spot) (is : List Instr) → length ss ≡ length is → Stands plan place ss → AllAtMost most ss → BeginsEmpty ss → above ≤ most → At (place + length is) 0 above → At place 0 most
    begins_at place above most [] [] e stands all empty le end = at_more place 0 above most le (at_there (place + 0) place 0 above (omega arith) end)
    begins_at place above most [] (i ∷ is) e stands all empty le end = cc
    begins_at place above most (s ∷ ss) is e stands all empty le end = (s, stands.0, empty, all.0)
