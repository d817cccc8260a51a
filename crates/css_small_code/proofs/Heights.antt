-- Stack heights along operators, and what has to be shown of them.
use Rattle.std.proofs.Common.{◌≡◌, ℕ, suc, ◌+◌, ◌-◌, ◌≤◌, List, [], ◌∷◌, ◌++◌, length, refl, sym, subst, arith}
use Rattle.css_vm.specs.declared.code.Op.{Op}
use Rattle.css_vm.specs.declared.code.Op.TheVariants as ops
use Rattle.css_vm.specs.Code.{Code}
use Rattle.css_vm.specs.Soundness.{Spot, Stays, takes, gives, needs, Names}

module _ (code : Code) where
  -- The height at the next place. What stands behind a jump is reached from elsewhere, without what the jump has on top.
  abbrev pub leaves : Op → ℕ → ℕ
  leaves (ops.Jump to) height = height - 1
  leaves op height = height - takes code op + gives code op

  -- the height behind operators
  abbrev pub behind : ℕ → List Op → ℕ
  behind height [] = height
  behind height (op ∷ all) = behind (leaves op height) all

  pub behind-append : (height : ℕ) (xs ys : List Op) → behind height (xs ++ ys) ≡ behind (behind height xs) ys
  behind-append height [] ys = refl
  behind-append height (op ∷ xs) ys = behind-append (leaves op height) xs ys

  module _ (plan : List Spot) where
    -- a jump leads to a place with the height that it leaves there
    abbrev pub Lands : ℕ → Op → Type 0
    Lands height (ops.Jump to) = Stays plan to height
    Lands height (ops.Jumpz to) = Stays plan to (height - 1)
    Lands height _ = Unit {0}

    -- each operator finds its cells and its function, and its jump leads to the right height
    abbrev pub AllFit : ℕ → List Op → Type 0
    AllFit height [] = Unit {0}
    AllFit height (op ∷ all) = (needs code op ≤ height) × Names code op × Lands height op × AllFit (leaves op height) all

    -- one part behind another
    pub both_fit : (height mid : ℕ) (xs ys : List Op) → behind height xs ≡ mid → AllFit height xs → AllFit mid ys → AllFit height (xs ++ ys)
    both_fit height mid [] ys e a b = subst (λ h. AllFit h ys) (sym e) b
    both_fit height mid (op ∷ xs) ys e a b = (a.0, a.1, a.2, both_fit (leaves op height) mid xs ys e a.3 b)

    -- the heights of operators stand in the plan at a place
    abbrev pub HeightsStand : ℕ → ℕ → List Op → Type 0
    HeightsStand place height [] = Unit {0}
    HeightsStand place height (op ∷ all) = Stays plan place height × HeightsStand (place + 1) (leaves op height) all

    pub heights_front : (place height : ℕ) (xs ys : List Op) → HeightsStand place height (xs ++ ys) → HeightsStand place height xs
    heights_front place height [] ys h = tt
    heights_front place height (op ∷ xs) ys h = (h.0, heights_front (place + 1) (leaves op height) xs ys h.1)

    pub heights_back : (place height mid : ℕ) (xs ys : List Op) → behind height xs ≡ mid → HeightsStand place height (xs ++ ys) → HeightsStand (place + length xs) mid ys
    heights_back place height mid [] ys e h =
        let here : place ≡ place + 0 = omega arith in
        subst (λ p. HeightsStand p mid ys) here (subst (λ k. HeightsStand place k ys) e h)
    heights_back place height mid (op ∷ xs) ys e h =
        let there : place + 1 + length xs ≡ place + suc (length xs) = omega arith in
        subst (λ p. HeightsStand p mid ys) there (heights_back (place + 1) (leaves op height) mid xs ys e h.1)

    -- the height at the place of operators, which is the height behind them where there are none
    pub first_height : (place height : ℕ) (all : List Op) → HeightsStand place height all → Stays plan (place + length all) (behind height all) → Stays plan place height
    first_height place height [] h end = let e : place + 0 ≡ place = omega arith in subst (λ p. Stays plan p height) e end
    first_height place height (op ∷ all) h end = h.0
