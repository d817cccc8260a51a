-- The levels and ranks of a piece, and that its instructions go on as they say: each piece once.
use Rattle.std.proofs.Common.{◌≡◌, ℕ, zero, suc, ◌+◌, ◌-◌, ◌<◌, ◌≤◌, pos, List, [], ◌∷◌, ◌++◌, length, map, true, Some, refl, sym, ap, ◌∙◌, subst, arith, length-append, max}
use Rattle.std.specs.Prelude.{slice_get}
use Rattle.css_semantics.specs.Dialogue.{Plain}
use Rattle.css_isa.specs.declared.code.Instr.{Instr}
use Rattle.css_isa.specs.declared.code.Op.TheVariants as ops
use Rattle.css_isa.specs.Code.{Code}
use Rattle.css_isa.specs.Roles.{Role, Straight, Turning, Outward, Telling, Awaiting, Changing, Testing, Jumping, Branching, Calling, Submitting, Returning, role_of}
use Rattle.css_isa.specs.Soundness.{Spot, Plan, spot_at, Stays, Leads, arguments_taken, dimensions_taken, dimensions_of_task, height_behind, AreNamed, LeadsOn, IsFine, IsSoundBody}
use Rattle.css_blocks.specs.declared.part.Way.{Way}
use Rattle.css_blocks.specs.declared.part.Way.TheVariants.{Breaks, Continues}
use Rattle.css_blocks.specs.Pieces.{Piece, Skip, Then, Do, Choice, When, Loop, Catch, Exit, Unless, Invoke, Submit, Leave, is_plain, Ways, at_way, both, aimed}
use Rattle.css_blocks.specs.Layout.{size, instr, lower, Function, routine_of}
use Rattle.css_blocks.specs.Finds.{Level, level, ground, below, mode_behind, behind, Finds, AreFound}
use Rattle.css_blocks.proofs.Stands.{HasAt, has_front, has_back, has_all}
use Rattle.css_blocks.proofs.Pieces.{length-lower}

-- ---- ranks, from the rank behind a piece and those at the ways out

abbrev pub rank : Piece → ℕ → Ways ℕ → ℕ
rank Skip after rs = after
rank (Then p q) after rs = rank p (rank q after rs) rs
rank (Do line op) after rs = suc after
rank (Choice line p q) after rs = suc (max (rank p (suc after) rs) (rank q after rs))
rank (When line p) after rs = suc (max (rank p after rs) after)
rank (Loop line p q) after rs = rank p 0 rs
rank (Catch way p) after rs = rank p after (aimed way after rs)
rank (Exit line way) after rs = suc (at_way rs way)
rank (Unless line way) after rs = suc (max (at_way rs way) after)
rank (Invoke line f count) after rs = 0
rank (Submit line f count dims) after rs = suc after
rank (Leave line) after rs = 0

-- ---- the spots of a piece at a level

abbrev pub spot : Level → ℕ → Spot
spot l r = record { height = l.height; mode = l.mode; rank = r }

module _ (code : Code) where
  abbrev pub plan : Piece → Level → ℕ → Ways ℕ → List Spot
  plan Skip l after rs = []
  plan (Then p q) l after rs = plan p l (rank q after rs) rs ++ plan q (behind code p l) after rs
  plan (Do line op) l after rs = spot l (suc after) ∷ []
  plan (Choice line p q) l after rs =
      spot l (rank (Choice line p q) after rs) ∷ (plan p (below l) (suc after) rs ++ spot (behind code p (below l)) (suc after) ∷ plan q (below l) after rs)
  plan (When line p) l after rs = spot l (rank (When line p) after rs) ∷ plan p (below l) after rs
  plan (Loop line p q) l after rs =
      let start = rank p 0 rs in
      plan p l 0 rs ++ spot (behind code p l) 0 ∷ (plan q (behind code p l) (suc start) rs ++ spot l (suc start) ∷ [])
  plan (Catch way p) l after rs = plan p l after (aimed way after rs)
  plan (Exit line way) l after rs = spot l (suc (at_way rs way)) ∷ []
  plan (Unless line way) l after rs = spot l (rank (Unless line way) after rs) ∷ []
  plan (Invoke line f count) l after rs = spot l 0 ∷ []
  plan (Submit line f count dims) l after rs = spot l (suc after) ∷ []
  plan (Leave line) l after rs = spot l 0 ∷ []

  pub length-plan : (p : Piece) (l : Level) (after : ℕ) (rs : Ways ℕ) → length (plan p l after rs) ≡ size p
  length-plan Skip l after rs = refl
  length-plan (Then p q) l after rs = omega (arith, length-append (plan p l (rank q after rs) rs) (plan q (behind code p l) after rs), length-plan p l (rank q after rs) rs, length-plan q (behind code p l) after rs)
  length-plan (Do line op) l after rs = refl
  length-plan (Choice line p q) l after rs =
      omega (arith, length-append (plan p (below l) (suc after) rs) (spot (behind code p (below l)) (suc after) ∷ plan q (below l) after rs), length-plan p (below l) (suc after) rs, length-plan q (below l) after rs)
  length-plan (When line p) l after rs = omega (arith, length-plan p (below l) after rs)
  length-plan (Loop line p q) l after rs =
      let start = rank p 0 rs in
      let last : List Spot = plan q (behind code p l) (suc start) rs ++ spot l (suc start) ∷ [] in
      omega (arith, length-append (plan p l 0 rs) (spot (behind code p l) 0 ∷ last), length-append (plan q (behind code p l) (suc start) rs) (spot l (suc start) ∷ []), length-plan p l 0 rs, length-plan q (behind code p l) (suc start) rs)
  length-plan (Catch way p) l after rs = length-plan p l after (aimed way after rs)
  length-plan (Exit line way) l after rs = refl
  length-plan (Unless line way) l after rs = refl
  length-plan (Invoke line f count) l after rs = refl
  length-plan (Submit line f count dims) l after rs = refl
  length-plan (Leave line) l after rs = refl

-- a spot for each place
abbrev pub planned : List Spot → Plan
planned ss = map Some ss

pub planned_at : (ss : List Spot) (place : ℕ) → spot_at (planned ss) place ≡ slice_get ss place
planned_at [] place = refl
planned_at (s ∷ ss) zero = refl
planned_at (s ∷ ss) (suc place) = planned_at ss place

-- ---- in a whole plan

module _ (code : Code) (whole : List Spot) where
  abbrev pub SpotAt : ℕ → Level → ℕ → Type 0
  SpotAt at l r = slice_get whole at ≡ Some (spot l r)

  abbrev pub PlanAt : ℕ → List Spot → Type 0
  PlanAt at ss = HasAt whole at ss

  plan_next : (p : Piece) (at : ℕ) (l : Level) (after : ℕ) (rs : Ways ℕ) (b : List Spot) → PlanAt at (plan code p l after rs ++ b) → PlanAt (at + size p) b
  plan_next p at l after rs b has = subst (λ n. PlanAt (at + n) b) (length-plan code p l after rs) (has_back whole at (plan code p l after rs) b has)

  -- a piece's first spot, or that behind it where it has none
  pub begins : (p : Piece) (at : ℕ) (l : Level) (after : ℕ) (ls : Ways Level) (rs : Ways ℕ) → Finds code ls p l → PlanAt at (plan code p l after rs) → SpotAt (at + size p) (behind code p l) after → SpotAt at l (rank p after rs)
  begins Skip at l after ls rs finds has end = let z : at + 0 ≡ at = omega arith in subst (λ k. SpotAt k l after) z end
  begins (Then p q) at l after ls rs finds has end =
      let z : at + (size p + size q) ≡ at + size p + size q = omega arith in
      let second = begins q (at + size p) (behind code p l) after ls rs finds.1 (plan_next p at l (rank q after rs) rs _ has) (subst (λ k. SpotAt k (behind code q (behind code p l)) after) z end) in
      begins p at l (rank q after rs) ls rs finds.0 (has_front whole at (plan code p l (rank q after rs) rs) _ has) second
  begins (Do line op) at l after ls rs finds has end = has.0
  begins (Choice line p q) at l after ls rs finds has end = has.0
  begins (When line p) at l after ls rs finds has end = has.0
  begins (Loop line p q) at l after ls rs finds has end =
      let turn = plan_next p at l 0 rs _ has in
      begins p at l 0 ls rs finds.0 (has_front whole at (plan code p l 0 rs) _ has) turn.0
  begins (Catch way p) at l after ls rs finds has end = begins p at l after _ (aimed way after rs) finds has end
  begins (Exit line way) at l after ls rs finds has end = has.0
  begins (Unless line way) at l after ls rs finds has end = has.0
  begins (Invoke line f count) at l after ls rs finds has end = has.0
  begins (Submit line f count dims) at l after ls rs finds has end = has.0
  begins (Leave line) at l after ls rs finds has end = has.0

  abbrev pub Fine : ℕ → Spot → Instr → Type 0
  Fine at s i = IsFine code (planned whole) at s i.op

  -- spots that go on as their instructions do
  abbrev pub AllFine : ℕ → List Spot → List Instr → Type 0
  AllFine at [] is = Unit {0}
  AllFine at (s ∷ ss) [] = Unit {0}
  AllFine at (s ∷ ss) (i ∷ is) = Fine at s i × AllFine (at + 1) ss is

  pub both_fine : (at n : ℕ) (s1 s2 : List Spot) (i1 i2 : List Instr) → length s1 ≡ n → length i1 ≡ n → AllFine at s1 i1 → AllFine (at + n) s2 i2 → AllFine at (s1 ++ s2) (i1 ++ i2)
  both_fine at n [] s2 [] i2 e1 e2 h1 h2 = let z : at + n ≡ at = omega arith in subst (λ k. AllFine k s2 i2) z h2
  both_fine at n [] s2 (i ∷ i1) i2 e1 e2 h1 h2 = absurd (omega arith)
  both_fine at n (s ∷ s1) s2 [] i2 e1 e2 h1 h2 = absurd (omega arith)
  both_fine at n (s ∷ s1) s2 (i ∷ i1) i2 e1 e2 h1 h2 =
      let z : at + n ≡ at + 1 + (n - 1) = omega arith in
      (h1.0, both_fine (at + 1) (n - 1) s1 s2 i1 i2 (omega arith) (omega arith) h1.1 (subst (λ k. AllFine k s2 i2) z h2))

  then_fine : (p : Piece) (at : ℕ) (l : Level) (after : ℕ) (rs ts : Ways ℕ) (ss : List Spot) (is : List Instr) → AllFine at (plan code p l after rs) (lower p at ts) → AllFine (at + size p) ss is → AllFine at (plan code p l after rs ++ ss) (lower p at ts ++ is)
  then_fine p at l after rs ts ss is h1 h2 = both_fine at (size p) (plan code p l after rs) ss (lower p at ts) is (length-plan code p l after rs) (length-lower p at ts) h1 h2

  stays : (at : ℕ) (l l' : Level) (r : ℕ) → SpotAt at l r → l ≡ l' → Stays (planned whole) at l'.height l'.mode
  stays at l l' r there e = (spot l r, planned_at whole at ∙ there, ap (λ l. l.height) e, ap (λ l. l.mode) e)

  leads : (at : ℕ) (l l' : Level) (r : ℕ) (above : Spot) → SpotAt at l r → l ≡ l' → r < above.rank → Leads (planned whole) at above l'.height l'.mode
  leads at l l' r above there e lt = (spot l r, planned_at whole at ∙ there, ap (λ l. l.height) e, ap (λ l. l.mode) e, lt)

  -- the places to which the ways out lead have their levels and ranks
  pub record TargetsAt (ts : Ways ℕ) (ls : Ways Level) (rs : Ways ℕ) : Type 0 where
    pub at : (way : Way) → SpotAt (at_way ts way) (at_way ls way) (at_way rs way)

  aimed_at : (ts : Ways ℕ) (ls : Ways Level) (rs : Ways ℕ) (way : Way) (end : ℕ) (l : Level) (after : ℕ) → SpotAt end l after → TargetsAt ts ls rs → (other : Way) → SpotAt (at_way (aimed way end ts) other) (at_way (aimed way l ls) other) (at_way (aimed way after rs) other)
  aimed_at ts ls rs Breaks end l after here there Breaks = here
  aimed_at ts ls rs Breaks end l after here there Continues = there.at Continues
  aimed_at ts ls rs Continues end l after here there Breaks = there.at Breaks
  aimed_at ts ls rs Continues end l after here there Continues = here

  did_goes : (role : Role) (at : ℕ) (l : Level) (after : ℕ) → is_plain role ≡ true → SpotAt (at + 1) (level (height_behind code role l.height) (mode_behind role l.mode)) after → LeadsOn code (planned whole) at (spot l (suc after)) role
  did_goes (Straight needed taken gives) at l after plain there = leads (at + 1) _ _ after (spot l (suc after)) there refl (omega arith)
  did_goes Turning at l after plain there = stays (at + 1) _ _ after there refl
  did_goes (Outward taken gives) at l after plain there = leads (at + 1) _ _ after (spot l (suc after)) there refl (omega arith)
  did_goes Telling at l after plain there = leads (at + 1) _ _ after (spot l (suc after)) there refl (omega arith)
  did_goes Awaiting at l after plain there = leads (at + 1) _ _ after (spot l (suc after)) there refl (omega arith)
  did_goes (Changing mode) at l after plain there = leads (at + 1) _ _ after (spot l (suc after)) there refl (omega arith)
  did_goes Testing at l after plain there = leads (at + 1) _ _ after (spot l (suc after)) there refl (omega arith)
  did_goes (Jumping to) at l after plain there = cc
  did_goes (Branching to) at l after plain there = cc
  did_goes (Calling k) at l after plain there = cc
  did_goes (Submitting k) at l after plain there = cc
  did_goes Returning at l after plain there = cc

  did_names : (role : Role) → is_plain role ≡ true → AreNamed code role
  did_names (Straight needed taken gives) plain = tt
  did_names Turning plain = tt
  did_names (Outward taken gives) plain = tt
  did_names Telling plain = tt
  did_names Awaiting plain = tt
  did_names (Changing mode) plain = tt
  did_names Testing plain = tt
  did_names (Jumping to) plain = tt
  did_names (Branching to) plain = tt
  did_names (Calling k) plain = cc
  did_names (Submitting k) plain = cc
  did_names Returning plain = tt

  fine_jump : (line at to : ℕ) (l l' : Level) (r : ℕ) (s : Spot) → SpotAt to l' r → l' ≡ level s.height s.mode → r < s.rank → Fine at s (instr line (ops.Jump to))
  fine_jump line at to l l' r s there e lt = record { finds = omega arith; names = tt; is_plain = tt; goes_on = leads to l' (level s.height s.mode) r s there e lt }

  fine_branch : (line at to : ℕ) (l : Level) (l1 l2 : Level) (r r1 r2 : ℕ) → SpotAt to l1 r1 → SpotAt (at + 1) l2 r2 → 1 ≤ l.height → l1 ≡ below l → l2 ≡ below l → r1 < r → r2 < r → Fine at (spot l r) (instr line (ops.Jumpz to))
  fine_branch line at to l l1 l2 r r1 r2 there next has e1 e2 lt1 lt2 =
      record { finds = has; names = tt; is_plain = tt; goes_on = (leads to l1 (below l) r1 (spot l r) there e1 lt1, leads (at + 1) l2 (below l) r2 (spot l r) next e2 lt2) }

  -- a piece's instructions go on as its plan says
  pub fine : (p : Piece) (at : ℕ) (l : Level) (after : ℕ) (ts : Ways ℕ) (ls : Ways Level) (rs : Ways ℕ) → Finds code ls p l → TargetsAt ts ls rs → PlanAt at (plan code p l after rs) → SpotAt (at + size p) (behind code p l) after → AllFine at (plan code p l after rs) (lower p at ts)
  fine Skip at l after ts ls rs finds there has end = tt
  fine (Then p q) at l after ts ls rs finds there has end =
      let z : at + (size p + size q) ≡ at + size p + size q = omega arith in
      let end' = subst (λ k. SpotAt k (behind code q (behind code p l)) after) z end in
      let has_q = plan_next p at l (rank q after rs) rs _ has in
      let has_p = has_front whole at (plan code p l (rank q after rs) rs) _ has in
      then_fine p at l (rank q after rs) rs ts _ _
      (fine p at l (rank q after rs) ts ls rs finds.0 there has_p (begins q (at + size p) (behind code p l) after ls rs finds.1 has_q end'))
      (fine q (at + size p) (behind code p l) after ts ls rs finds.1 there has_q end')
  fine (Do line op) at l after ts ls rs finds there has end =
      (record { finds = finds.1; names = did_names (role_of op) finds.0; is_plain = finds.2; goes_on = did_goes (role_of op) at l after finds.0 end }, tt)
  fine (Choice line p q) at l after ts ls rs finds there has end =
      let first = at + 1 in
      let jump = first + size p in
      let second = jump + 1 in
      let z : at + (size p + size q + 2) ≡ second + size q = omega arith in
      let end' : SpotAt (second + size q) (behind code p (below l)) after = subst (λ k. SpotAt k (behind code p (below l)) after) z end in
      let has_p = has_front whole first (plan code p (below l) (suc after) rs) _ has.1 in
      let over = plan_next p first (below l) (suc after) rs _ has.1 in
      let end_q = subst (λ k. SpotAt (second + size q) k after) (sym finds.3) end' in
      let begin_p = begins p first (below l) (suc after) ls rs finds.1 has_p over.0 in
      let begin_q = begins q second (below l) after ls rs finds.2 over.1 end_q in (
        fine_branch line at second l (below l) (below l) _ _ _ begin_q begin_p finds.0 refl refl (omega arith) (omega arith),
        then_fine p first (below l) (suc after) rs ts _ _ (fine p first (below l) (suc after) ts ls rs finds.1 there has_p over.0)
            (fine_jump line jump (second + size q) l _ after _ end' refl (omega arith), fine q second (below l) after ts ls rs finds.2 there over.1 end_q),
      )
  fine (When line p) at l after ts ls rs finds there has end =
      let first = at + 1 in
      let z : at + (size p + 1) ≡ first + size p = omega arith in
      let end' : SpotAt (first + size p) (below l) after = subst (λ k. SpotAt k (below l) after) z end in
      let end_p = subst (λ k. SpotAt (first + size p) k after) (sym finds.2) end' in
      let begin_p = begins p first (below l) after ls rs finds.1 has.1 end_p in (
        fine_branch line at (first + size p) l (below l) (below l) _ _ _ end' begin_p finds.0 refl refl (omega arith) (omega arith),
        fine p first (below l) after ts ls rs finds.1 there has.1 end_p,
      )
  fine (Loop line p q) at l after ts ls rs finds there has end =
      let start = rank p 0 rs in
      let turn = at + size p in
      let second = turn + 1 in
      let has_p = has_front whole at (plan code p l 0 rs) _ has in
      let has_turn = plan_next p at l 0 rs _ has in
      let has_q = has_front whole second (plan code q (behind code p l) (suc start) rs) _ has_turn.1 in
      let has_last = plan_next q second (behind code p l) (suc start) rs _ has_turn.1 in
      let begin_p = begins p at l 0 ls rs finds.0 has_p has_turn.0 in
      let end_q = subst (λ k. SpotAt (second + size q) k (suc start)) (sym finds.2) has_last.0 in
      let begin_q = begins q second (behind code p l) (suc start) ls rs finds.1 has_q end_q in
      then_fine p at l 0 rs ts _ _ (fine p at l 0 ts ls rs finds.0 there has_p has_turn.0) (
        record { finds = omega arith; names = tt; is_plain = tt; goes_on = stays second (behind code p l) (behind code p l) _ begin_q refl },
        then_fine q second (behind code p l) (suc start) rs ts _ _ (fine q second (behind code p l) (suc start) ts ls rs finds.1 there has_q end_q)
            (fine_jump line (second + size q) at l l start _ begin_p refl (omega arith), tt),
      )
  fine (Catch way p) at l after ts ls rs finds there has end =
      fine p at l after (aimed way (at + size p) ts) _ (aimed way after rs) finds (record { at = aimed_at ts ls rs way (at + size p) (behind code p l) after end there }) has end
  fine (Exit line way) at l after ts ls rs finds there has end = (fine_jump line at (at_way ts way) l _ _ _ (there.at way) finds (omega arith), tt)
  fine (Unless line way) at l after ts ls rs finds there has end =
      (fine_branch line at (at_way ts way) l _ _ _ _ _ (there.at way) end finds.0 finds.1 refl (omega arith) (omega arith), tt)
  fine (Invoke line f count) at l after ts ls rs finds there has end =
      let takes = finds.0 in
      let e : arguments_taken (slice_get code.functions f) ≡ count = ap arguments_taken takes.1 ∙ takes.2 in
      let same : level (l.height - count + 1) l.mode ≡ level (l.height - arguments_taken (slice_get code.functions f) + 1) l.mode = ap (λ n. level (l.height - n + 1) l.mode) (sym e) in
      (record { finds = omega (arith, e, finds.1); names = (takes.0, takes.1); is_plain = finds.2; goes_on = stays (at + 1) _ _ after end same }, tt)
  fine (Submit line f count dims) at l after ts ls rs finds there has end =
      let task = finds.0 in
      let e : arguments_taken (slice_get code.functions f) ≡ count = ap arguments_taken task.2 ∙ task.3 in
      let d : dimensions_taken (slice_get code.functions f) ≡ dims = ap dimensions_taken task.2 ∙ ap dimensions_of_task task.4 ∙ task.5 in
      let n : count + dims ≡ arguments_taken (slice_get code.functions f) + dimensions_taken (slice_get code.functions f) = omega (arith, e, d) in
      let same : level (l.height - (count + dims) + 1) l.mode ≡ level (l.height - (arguments_taken (slice_get code.functions f) + dimensions_taken (slice_get code.functions f)) + 1) l.mode = ap (λ n. level (l.height - n + 1) l.mode) n in
      (record { finds = omega (arith, n, finds.1); names = (task.0, task.1, task.2, task.4); is_plain = tt; goes_on = leads (at + 1) _ _ after (spot l (suc after)) end same (omega arith) }, tt)
  fine (Leave line) at l after ts ls rs finds there has end = (record { finds = finds.0; names = tt; is_plain = finds.1; goes_on = tt }, tt)

-- ---- no rank is above the number of instructions

abbrev pub AllBelow : ℕ → List Spot → Type 0
AllBelow m [] = Unit {0}
AllBelow m (s ∷ ss) = (s.rank ≤ m) × AllBelow m ss

pub both_below : (m : ℕ) (a b : List Spot) → AllBelow m a → AllBelow m b → AllBelow m (a ++ b)
both_below m [] b ha hb = hb
both_below m (s ∷ a) b ha hb = (ha.0, both_below m a b ha.1 hb)

pub more_below : (m n : ℕ) (a : List Spot) → m ≤ n → AllBelow m a → AllBelow n a
more_below m n [] le h = tt
more_below m n (s ∷ a) le h = (omega (arith, h.0), more_below m n a le h.1)

abbrev WaysBelow : ℕ → Ways ℕ → Type 0
WaysBelow m rs = (way : Way) → at_way rs way ≤ m

more_ways : (m n : ℕ) (rs : Ways ℕ) → m ≤ n → WaysBelow m rs → WaysBelow n rs
more_ways m n rs le h way = omega (arith, h way)

aimed_below : (m after : ℕ) (rs : Ways ℕ) (way : Way) → after ≤ m → WaysBelow m rs → WaysBelow m (aimed way after rs)
aimed_below m after rs Breaks le h Breaks = le
aimed_below m after rs Breaks le h Continues = h Continues
aimed_below m after rs Continues le h Breaks = h Breaks
aimed_below m after rs Continues le h Continues = le

rank_below : (p : Piece) (m after : ℕ) (rs : Ways ℕ) → after ≤ m → WaysBelow m rs → rank p after rs ≤ m + size p
rank_below Skip m after rs a b = omega arith
rank_below (Then p q) m after rs a b =
    let second = rank_below q m after rs a b in
    let first = rank_below p (m + size q) (rank q after rs) rs second (more_ways m (m + size q) rs (omega arith) b) in omega arith
rank_below (Do line op) m after rs a b = omega arith
rank_below (Choice line p q) m after rs a b =
    let first = rank_below p (m + 1) (suc after) rs (omega arith) (more_ways m (m + 1) rs (omega arith) b) in
    let second = rank_below q m after rs a b in omega arith
rank_below (When line p) m after rs a b = let first = rank_below p m after rs a b in omega arith
rank_below (Loop line p q) m after rs a b = let first = rank_below p m 0 rs (omega arith) b in omega arith
rank_below (Catch way p) m after rs a b = rank_below p m after (aimed way after rs) a (aimed_below m after rs way a b)
rank_below (Exit line way) m after rs a b = omega (arith, b way)
rank_below (Unless line way) m after rs a b = omega (arith, b way)
rank_below (Invoke line f count) m after rs a b = omega arith
rank_below (Submit line f count dims) m after rs a b = omega arith
rank_below (Leave line) m after rs a b = omega arith

module _ (code : Code) where
  plan_below : (p : Piece) (m : ℕ) (l : Level) (after : ℕ) (rs : Ways ℕ) → after ≤ m → WaysBelow m rs → AllBelow (m + size p) (plan code p l after rs)
  plan_below Skip m l after rs a b = tt
  plan_below (Then p q) m l after rs a b =
      let second = rank_below q m after rs a b in
      both_below _ (plan code p l (rank q after rs) rs) _
      (more_below _ _ _ (omega arith) (plan_below p (m + size q) l (rank q after rs) rs second (more_ways m (m + size q) rs (omega arith) b)))
      (more_below _ _ _ (omega arith) (plan_below q m (behind code p l) after rs a b))
  plan_below (Do line op) m l after rs a b = (omega arith, tt)
  plan_below (Choice line p q) m l after rs a b =
      let whole = rank_below (Choice line p q) m after rs a b in
      (whole, both_below _ (plan code p (below l) (suc after) rs) _ (more_below _ _ _ (omega arith) (plan_below p (m + 1) (below l) (suc after) rs (omega arith) (more_ways m (m + 1) rs (omega arith) b))) (omega arith, more_below _ _ _ (omega arith) (plan_below q m (below l) after rs a b)))
  plan_below (When line p) m l after rs a b =
      let whole = rank_below (When line p) m after rs a b in (whole, more_below _ _ _ (omega arith) (plan_below p m (below l) after rs a b))
  plan_below (Loop line p q) m l after rs a b =
      let start = rank p 0 rs in
      let r_start : start ≤ m + size p = rank_below p m 0 rs (omega arith) b in
      both_below _ (plan code p l 0 rs) _ (more_below _ _ _ (omega arith) (plan_below p m l 0 rs (omega arith) b)) (
        omega arith,
        both_below _ (plan code q (behind code p l) (suc start) rs) _ (more_below _ _ _ (omega arith) (plan_below q (m + size p + 1) (behind code p l) (suc start) rs (omega arith) (more_ways m (m + size p + 1) rs (omega arith) b))) (omega arith, tt),
      )
  plan_below (Catch way p) m l after rs a b = plan_below p m l after (aimed way after rs) a (aimed_below m after rs way a b)
  plan_below (Exit line way) m l after rs a b = (omega (arith, b way), tt)
  plan_below (Unless line way) m l after rs a b = (omega (arith, b way), tt)
  plan_below (Invoke line f count) m l after rs a b = (omega arith, tt)
  plan_below (Submit line f count dims) m l after rs a b = (omega arith, tt)
  plan_below (Leave line) m l after rs a b = (omega arith, tt)

  -- ---- a function

  each_of : (whole : List Spot) (m at : ℕ) (ss : List Spot) (is : List Instr) → length ss ≡ length is → AllFine code whole at ss is → AllBelow m ss → (k : ℕ) (s : Spot) → slice_get ss k ≡ Some s → (i : Instr) × (slice_get is k ≡ Some i) × Fine code whole (at + k) s i × (s.rank ≤ m)
  each_of whole m at [] is e f b k s there = cc
  each_of whole m at (x ∷ ss) [] e f b k s there = absurd (omega arith)
  each_of whole m at (x ∷ ss) (i ∷ is) e f b zero s there =
      let same : x ≡ s = cc in
      let z : at ≡ at + 0 = omega arith in
      (i, refl, subst (λ p. Fine code whole p s i) z (subst (λ y. Fine code whole at y i) same f.0), subst (λ y. y.rank ≤ m) same b.0)
  each_of whole m at (x ∷ ss) (i ∷ is) e f b (suc k) s there =
      let z : at + 1 + k ≡ at + suc k = omega arith in
      let r = each_of whole m (at + 1) ss is (omega arith) f.1 b.1 k s there in
      (r.0, r.1, subst (λ p. Fine code whole p s r.0) z r.2, r.3)

  both_ones : (way : Way) → at_way (both 1) way ≤ 1
  both_ones Breaks = omega arith
  both_ones Continues = omega arith

  both_at : (whole : List Spot) (end : ℕ) → SpotAt code whole end ground 1 → (way : Way) → SpotAt code whole (at_way (both end) way) (at_way (both ground) way) (at_way (both 1) way)
  both_at whole end here Breaks = here
  both_at whole end here Continues = here

  abbrev pub plan_of : Function → Plan
  plan_of f = planned (plan code f.body ground 1 (both 1) ++ spot ground 1 ∷ spot (level 1 Plain) 0 ∷ [])

  pub body_sound : (f : Function) → AreFound code f.body → IsSoundBody code (routine_of f) (plan_of f)
  body_sound f found =
      let p = f.body in
      let one : Ways ℕ = both 1 in
      let spots = plan code p ground 1 one in
      let last : List Spot = spot ground 1 ∷ spot (level 1 Plain) 0 ∷ [] in
      let whole = spots ++ last in
      let ts = both (size p) in
      let is = lower p 0 ts in
      let ends : List Instr = instr f.end (ops.Push (pos 0)) ∷ instr f.end ops.Ret ∷ [] in
      let all = has_all whole [] in
      let z : 0 + length spots ≡ size p = omega (arith, length-plan code p ground 1 one) in
      let has_last : HasAt whole (size p) last = subst (λ k. HasAt whole k last) z (has_back whole 0 spots last all) in
      let has_spots = has_front whole 0 spots last all in
      let y : size p ≡ 0 + size p = omega arith in
      let end : SpotAt code whole (0 + size p) (behind code p ground) 1 = subst (λ k. SpotAt code whole k (behind code p ground) 1) y (subst (λ l. SpotAt code whole (size p) l 1) (sym found.ends) has_last.0) in
      let there : TargetsAt code whole ts (both ground) one = record { at = both_at whole (size p) has_last.0 } in
      let fine_spots = fine code whole p 0 ground 1 ts (both ground) one found.finds there has_spots end in
      let fine_last : AllFine code whole (size p) last ends = (
        record { finds = omega arith; names = tt; is_plain = tt; goes_on = (spot (level 1 Plain) 0, planned_at whole (size p + 1) ∙ has_last.1.0, refl, refl, omega arith) },
        (record { finds = omega arith; names = tt; is_plain = refl; goes_on = tt }, tt),
      ) in
      let all_fine = both_fine code whole 0 (size p) spots last is ends (length-plan code p ground 1 one) (length-lower p 0 ts) fine_spots (subst (λ k. AllFine code whole k last ends) y fine_last) in
      let long : length (is ++ ends) ≡ size p + 2 = omega (arith, length-append is ends, length-lower p 0 ts) in
      let low : AllBelow (size p + 2) whole = both_below _ spots last (more_below (1 + size p) (size p + 2) spots (omega arith) (plan_below p 1 ground 1 one (omega arith) both_ones)) (omega arith, (omega arith, tt)) in
      let even : length whole ≡ length (is ++ ends) = omega (arith, length-append spots last, length-plan code p ground 1 one) in
      record {
        first = (rank p 1 one, planned_at whole 0 ∙ begins code whole p 0 ground 1 (both ground) one found.finds has_spots end);
        each = λ place s at.
            let r = each_of whole (length (is ++ ends)) 0 whole (is ++ ends) even all_fine (subst (λ m. AllBelow m whole) (sym long) low) place s (sym (planned_at whole place) ∙ at) in
            let x : 0 + place ≡ place = omega arith in
            (r.0, r.1, subst (λ q. Fine code whole q s r.0) x r.2, r.3);
      }
