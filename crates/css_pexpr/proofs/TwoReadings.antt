-- What the two readings give: the longest expression.
use Rattle.std.proofs.Common.{◌≡◌, ◌⊎◌, ℕ, zero, suc, ◌+◌, ◌<◌, ◌≤◌, Bool, true, false, nat_le, List, [], ◌∷◌, ◌++◌, length, take, drop, Option, Some, None, inl, inr, refl, sym, ap, ap₂, ◌∙◌, subst, arith, if◌then◌else◌}
use Rattle.std.specs.Prelude.{option_and_then}
use Rattle.std.proofs.lemmas.Bool.{leb-true, leb-false, le-leb}
use Rattle.std.proofs.lemmas.List.{length-append, take_at}
use Rattle.std.proofs.Math.Seq.{drop-append_seam}
use Rattle.css_base.specs.Tokens.{Lexeme}
use Rattle.css_tree.specs.declared.scope.Scope.{Scope}
use Rattle.css_tree.specs.Syntax.{Expression}
use Rattle.css_tree.specs.Expressions.{SpellsExpression}
use Rattle.css_tree.specs.Heights.{height}
use Rattle.css_pexpr.specs.declared.level.Level.{Level}
use Rattle.css_pexpr.specs.declared.level.Level.TheVariants as levels
use Rattle.css_pexpr.specs.declared.manner.Manner.{Manner}
use Rattle.css_pexpr.specs.Frames.{Node, capped}
use Rattle.css_pexpr.specs.Reading.{State, step, run, start, is_whole, node_of, finished, built, longest_from}
use Rattle.css_pexpr.specs.Longest.{level_number, IsLongest, IsPart}
use Rattle.css_pexpr.proofs.Caps.{capped_low, capped_high}
use Rattle.css_pexpr.proofs.Longest.{Whole, spelled_whole, Spelled, whole_spelled}
use Rattle.css_pexpr.proofs.Search.{IsNotWhole, Later, None_later, search, whole_against}

leb_or : (n k : ℕ) → (n ≤ k) ⊎ (k < n)
leb_or n k = by (nat_le n k) refl
  where
    by : (b : Bool) → nat_le n k ≡ b → (n ≤ k) ⊎ (k < n)
    by true e = inl (leb-true n k e)
    by false e = inr (leb-false n k e)

le_from_not_lt : (n k : ℕ) → (k < n → ⊥) → n ≤ k
le_from_not_lt n k h = by (leb_or n k)
  where
    by : (n ≤ k) ⊎ (k < n) → n ≤ k
    by (inl low) = low
    by (inr high) = absurd (h high)

pub level_low : (l : Level) → level_number l ≤ 2
level_low levels.Expr = omega arith
level_low levels.Assign = omega arith
level_low levels.Cond = omega arith

chained : (m : Manner) (ts : List Lexeme) (o : Option State) → ((next : State) → built m next ts ≡ option_and_then (finished m) (run m next ts))
    → option_and_then (λ n. built m n ts) o ≡ option_and_then (finished m) (option_and_then (λ n. run m n ts) o)
chained m ts None h = refl
chained m ts (Some next) h = h next

built_run : (m : Manner) (ts : List Lexeme) (s : State) → built m s ts ≡ option_and_then (finished m) (run m s ts)
built_run m [] s = refl
built_run m (t ∷ ts) s = chained m ts (step m s t) (λ next. built_run m ts next)

-- a tree that is kept has few enough levels
capped_some : (most : ℕ) (e f : Expression) → Some e ≡ capped most f → (e ≡ f) × (height f ≤ most)
capped_some most e f h = by (nat_le (height f) most) refl
  where
    by : (b : Bool) → nat_le (height f) most ≡ b → (e ≡ f) × (height f ≤ most)
    by true k = let x = capped_low most f k in (cc, leb-true (height f) most k)
    by false k = absurd (let x = capped_high most f k in cc)

above : (n most : ℕ) → nat_le n most ≡ false → most < n
above n most k = leb-false n most k

capped_none : (most : ℕ) (f : Expression) → None ≡ capped most f → most < height f
capped_none most f h = by (nat_le (height f) most) refl
  where
    by : (b : Bool) → nat_le (height f) most ≡ b → most < height f
    by true k = absurd (let x = capped_low most f k in cc)
    by false k = above (height f) most k

-- a list of lists that begin the same list, of which one isn't longer
front_of : (us vs more behind : List Lexeme) → us ++ vs ≡ more ++ behind → length us ≡ length more → us ≡ more
front_of us vs more behind e long =
    sym (take_at us vs (length us) refl) ∙ ap (take (length us)) e ∙ take_at more behind (length us) (sym long)

module _ (scope : Scope) (l : Level) (ts : List Lexeme) where
  manner : ℕ → Manner
  manner most = record { scope = scope; level = level_number l; most = most }

  -- what is spelled is whole, without any tree kept
  against : (more : List Lexeme) (e : Expression) → IsNotWhole (record { scope = scope; level = level_number l; most = 0 }) more → SpellsExpression scope (level_number l) more e → ⊥
  against more e none d =
      let w = spelled_whole (record { scope = scope; level = level_number l; most = 0 }) (level_low l) more e d in
      whole_against (record { scope = scope; level = level_number l; most = 0 }) more none w.last w.runs w.whole

  not_empty : (e : Expression) → SpellsExpression scope (level_number l) [] e → ⊥
  not_empty e d =
      let w = spelled_whole (record { scope = scope; level = level_number l; most = 0 }) (level_low l) [] e d in
      let runs = w.runs in
      let same : start ≡ w.last = cc in
      absurd (let x = ap is_whole same in let y = w.whole in cc)

  some_token : (front : List Lexeme) (e : Expression) → SpellsExpression scope (level_number l) front e → 0 < length front
  some_token [] e d = absurd (not_empty e d)
  some_token (t ∷ front) e d = omega arith

  pub part_some : (count : ℕ) (e : Expression) → longest_from (record { scope = scope; level = level_number l; most = 0 }) start 0 None ts ≡ Some count
      → built (record { scope = scope; level = level_number l; most = 500 }) start (take count ts) ≡ Some e → IsPart scope l ts e count
  part_some count e found made = by (search (record { scope = scope; level = level_number l; most = 0 }) ts [] 0 None start refl)
    where
      m : Manner
      m = record { scope = scope; level = level_number l; most = 500 }

      whole_of : (us : List Lexeme) (o : Option State) → run m start us ≡ o → option_and_then (finished m) o ≡ Some e → Spelled m (level_low l) us (Some e)
      whole_of us None h k = absurd cc
      whole_of us (Some last) h k =
          let f = from_node (is_whole last) (node_of m last) k in
          subst (λ n. Spelled m (level_low l) us n) f.1 (whole_spelled m (level_low l) us last h f.0)
        where
          from_node : (b : Bool) (n : Node) → (if b then n else None) ≡ Some e → (b ≡ true) × (n ≡ Some e)
          from_node true n h = (refl, h)
          from_node false n h = absurd cc

      by : Later (record { scope = scope; level = level_number l; most = 0 }) [] ts 0 (longest_from (record { scope = scope; level = level_number l; most = 0 }) start 0 None ts)
          ⊎ None_later (record { scope = scope; level = level_number l; most = 0 }) [] ts None (longest_from (record { scope = scope; level = level_number l; most = 0 }) start 0 None ts) → IsPart scope l ts e count
      by (inr r) = absurd (let x = r.found_is in cc)
      by (inl r) =
          let x = r.found_is in
          let same : Some count ≡ Some (0 + length r.front) = sym found ∙ x in
          let counted : count ≡ 0 + length r.front = cc in
          let long : count ≡ length r.front = omega arith in
          let taken : take count ts ≡ r.front = ap (take count) r.parts ∙ take_at r.front r.back count (sym long) in
          let left : drop count ts ≡ r.back = ap₂ drop long r.parts ∙ drop-append_seam r.front r.back in
          let made_here = sym (built_run m r.front start) ∙ ap (built m start) (sym taken) ∙ made in
          let s = whole_of r.front (run m start r.front) refl made_here in
          let c = capped_some 500 e s.tree s.node_is in
          let some = r.some in
          let all = ap length r.parts ∙ length-append r.front r.back in
          record {
            some = omega arith;
            within = omega arith;
            longest = record {
              front = r.front;
              parts = r.parts ∙ ap (λ z. r.front ++ z) (sym left);
              spells = subst (λ z. SpellsExpression scope (level_number l) r.front z) (sym c.0) s.spells;
              longest = λ more behind other p d. no_longer r more behind other p d;
            };
            low = subst (λ z. height z ≤ 500) (sym c.0) c.1;
          }
        where
          no_longer : (r : Later (record { scope = scope; level = level_number l; most = 0 }) [] ts 0 (longest_from (record { scope = scope; level = level_number l; most = 0 }) start 0 None ts))
              → (more behind : List Lexeme) (other : Expression) → ts ≡ more ++ behind → SpellsExpression scope (level_number l) more other → length more ≤ length r.front
          no_longer r more behind other p d = le_from_not_lt (length more) (length r.front) (λ h. against more other (r.longest more behind p h) d)

  pub part_none : longest_from (record { scope = scope; level = level_number l; most = 0 }) start 0 None ts ≡ None → (e : Expression) (rest : List Lexeme) → IsLongest scope l ts e rest → ⊥
  part_none found e rest d = by (search (record { scope = scope; level = level_number l; most = 0 }) ts [] 0 None start refl)
    where
      by : Later (record { scope = scope; level = level_number l; most = 0 }) [] ts 0 (longest_from (record { scope = scope; level = level_number l; most = 0 }) start 0 None ts)
          ⊎ None_later (record { scope = scope; level = level_number l; most = 0 }) [] ts None (longest_from (record { scope = scope; level = level_number l; most = 0 }) start 0 None ts) → ⊥
      by (inl r) = absurd (let x = r.found_is in cc)
      by (inr r) = against d.front e (r.none d.front rest d.parts (some_token d.front e d.spells)) d.spells

  pub part_high : (count : ℕ) → longest_from (record { scope = scope; level = level_number l; most = 0 }) start 0 None ts ≡ Some count
      → built (record { scope = scope; level = level_number l; most = 500 }) start (take count ts) ≡ None → (e : Expression) (rest : List Lexeme) → IsLongest scope l ts e rest → 500 < height e
  part_high count found made e rest d = by (search (record { scope = scope; level = level_number l; most = 0 }) ts [] 0 None start refl)
    where
      m : Manner
      m = record { scope = scope; level = level_number l; most = 500 }

      by : Later (record { scope = scope; level = level_number l; most = 0 }) [] ts 0 (longest_from (record { scope = scope; level = level_number l; most = 0 }) start 0 None ts)
          ⊎ None_later (record { scope = scope; level = level_number l; most = 0 }) [] ts None (longest_from (record { scope = scope; level = level_number l; most = 0 }) start 0 None ts) → 500 < height e
      by (inr r) = absurd (let x = r.found_is in cc)
      by (inl r) =
          let x = r.found_is in
          let same : Some count ≡ Some (0 + length r.front) = sym found ∙ x in
          let counted : count ≡ 0 + length r.front = cc in
          let long : count ≡ length r.front = omega arith in
          let taken : take count ts ≡ r.front = ap (take count) r.parts ∙ take_at r.front r.back count (sym long) in
          let other = whole_spelled (record { scope = scope; level = level_number l; most = 0 }) (level_low l) r.front r.last r.runs r.whole in
          let at_least = d.longest r.front r.back other.tree r.parts other.spells in
          let at_most = le_from_not_lt (length d.front) (length r.front) (λ h. against d.front e (r.longest d.front rest d.parts h) d.spells) in
          let equal : d.front ≡ r.front = front_of d.front rest r.front r.back (sym d.parts ∙ r.parts) (omega arith) in
          let w = spelled_whole m (level_low l) d.front e d.spells in
          let runs : run m start (take count ts) ≡ Some w.last = ap (run m start) (taken ∙ sym equal) ∙ w.runs in
          let gives : built m start (take count ts) ≡ capped 500 e =
          built_run m (take count ts) start ∙ ap (option_and_then (finished m)) runs ∙ ap (λ b. if b then node_of m w.last else None) w.whole ∙ w.node_is in
          capped_none 500 e (sym made ∙ gives)
