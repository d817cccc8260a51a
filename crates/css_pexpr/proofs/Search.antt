-- The search for the last place where what was read is whole.
use Rattle.std.proofs.Common.{◌≡◌, ◌⊎◌, ℕ, ◌+◌, ◌<◌, ◌≤◌, Bool, true, false, List, [], ◌∷◌, ◌++◌, length, Option, Some, None, inl, inr, refl, sym, ap, ◌∙◌, subst, arith, append_assoc, append-nil, if◌then◌else◌}
use Rattle.std.specs.Prelude.{option_and_then}
use Rattle.css_base.specs.Tokens.{Lexeme}
use Rattle.css_pexpr.specs.declared.manner.Manner.{Manner}
use Rattle.css_pexpr.specs.Reading.{State, step, run, start, is_whole, longest_from, next_best, finished, built}
use Rattle.css_pexpr.proofs.Runs.{run-append, goes, one}
use Rattle.css_pexpr.proofs.Longest.{refused}

module _ (m : Manner) where
  -- these tokens aren't read as something whole
  pub IsNotWhole : List Lexeme → Type 0
  IsNotWhole us = (s : State) → run m start us ≡ Some s → is_whole s ≡ true → ⊥

  pub record Later (us ts : List Lexeme) (count : ℕ) (found : Option ℕ) : Type 0 where
    pub front : List Lexeme
    pub back : List Lexeme
    pub parts : ts ≡ front ++ back
    pub some : 0 < length front
    pub found_is : found ≡ Some (count + length front)
    pub last : State
    pub runs : run m start (us ++ front) ≡ Some last
    pub whole : is_whole last ≡ true
    pub longest : (more behind : List Lexeme) → ts ≡ more ++ behind → length front < length more → IsNotWhole (us ++ more)

  pub whole_against : (us : List Lexeme) → IsNotWhole us → (s : State) → run m start us ≡ Some s → is_whole s ≡ true → ⊥
  unfolding IsNotWhole
  whole_against us h s r w = h s r w

  -- no further place is whole
  pub record None_later (us ts : List Lexeme) (best found : Option ℕ) : Type 0 where
    pub found_is : found ≡ best
    pub none : (more behind : List Lexeme) → ts ≡ more ++ behind → 0 < length more → IsNotWhole (us ++ more)

  no_state : (us : List Lexeme) → run m start us ≡ None → IsNotWhole us
  unfolding IsNotWhole
  no_state us none s h w = absurd cc

  not_whole : (us : List Lexeme) (s : State) → run m start us ≡ Some s → is_whole s ≡ false → IsNotWhole us
  unfolding IsNotWhole
  not_whole us s h w t k x = absurd (let same : s ≡ t = cc in let y = ap is_whole same in cc)

  pub search : (ts us : List Lexeme) (count : ℕ) (best : Option ℕ) (s : State) → run m start us ≡ Some s → Later us ts count (longest_from m s count best ts) ⊎ None_later us ts best (longest_from m s count best ts)
  search [] us count best s h = inr (record { found_is = refl; none = λ more behind e some. absurd (let l = ap length e in nothing more behind e some) })
    where
      nothing : (more behind : List Lexeme) → [] ≡ more ++ behind → 0 < length more → ⊥
      nothing [] behind e some = omega arith
      nothing (x ∷ more) behind e some = absurd cc
  search (t ∷ ts) us count best s h = by (step m s t) refl (λ next b k. search ts (us ++ t ∷ []) (count + 1) b next k)
    where
      run_next : (next : State) → step m s t ≡ Some next → run m start (us ++ t ∷ []) ≡ Some next
      run_next next e = goes m start us (t ∷ []) h ∙ one m s t [] e

      -- a front of these tokens that isn't empty begins with the first
      stopped : (more behind : List Lexeme) → t ∷ ts ≡ more ++ behind → 0 < length more → step m s t ≡ None → IsNotWhole (us ++ more)
      stopped [] behind e some k = absurd (omega arith)
      stopped (x ∷ more) behind e some k =
          let same : t ≡ x = cc in
          no_state (us ++ x ∷ more) (subst (λ z. run m start (us ++ z ∷ more) ≡ None) same (refused m us t more s h k))

      here_not : (next : State) → step m s t ≡ Some next → is_whole next ≡ false → IsNotWhole (us ++ t ∷ [])
      here_not next e w = not_whole (us ++ t ∷ []) next (run_next next e) w

      later : (next : State) (b : Bool) → step m s t ≡ Some next → is_whole next ≡ b
          → Later (us ++ t ∷ []) ts (count + 1) (longest_from m next (count + 1) (if b then Some (count + 1) else best) ts) ⊎ None_later (us ++ t ∷ []) ts (if b then Some (count + 1) else best) (longest_from m next (count + 1) (if b then Some (count + 1) else best) ts)
          → Later us (t ∷ ts) count (longest_from m next (count + 1) (if b then Some (count + 1) else best) ts) ⊎ None_later us (t ∷ ts) best (longest_from m next (count + 1) (if b then Some (count + 1) else best) ts)
      later next b e w (inl r) =
          inl (record {
            front = t ∷ r.front;
            back = r.back;
            parts = ap (λ l. t ∷ l) r.parts;
            some = omega arith;
            found_is = r.found_is ∙ ap Some (omega arith);
            last = r.last;
            runs = ap (run m start) (sym (append_assoc us (t ∷ []) r.front)) ∙ r.runs;
            whole = r.whole;
            longest = λ more behind p long. beyond more behind p long;
          })
        where
          beyond : (more behind : List Lexeme) → t ∷ ts ≡ more ++ behind → length (t ∷ r.front) < length more → IsNotWhole (us ++ more)
          beyond [] behind p long = absurd (omega arith)
          beyond (x ∷ more) behind p long =
              let same : t ≡ x = cc in
              let rest : ts ≡ more ++ behind = cc in
              subst (λ z. IsNotWhole (us ++ z ∷ more)) same (subst IsNotWhole (append_assoc us (t ∷ []) more) (r.longest more behind rest (omega arith)))
      later next true e w (inr r) =
          inl (record {
            front = t ∷ [];
            back = ts;
            parts = refl;
            some = omega arith;
            found_is = r.found_is;
            last = next;
            runs = run_next next e;
            whole = w;
            longest = λ more behind p long. beyond more behind p long;
          })
        where
          beyond : (more behind : List Lexeme) → t ∷ ts ≡ more ++ behind → 1 < length more → IsNotWhole (us ++ more)
          beyond [] behind p long = absurd (omega arith)
          beyond (x ∷ more) behind p long =
              let same : t ≡ x = cc in
              let rest : ts ≡ more ++ behind = cc in
              subst (λ z. IsNotWhole (us ++ z ∷ more)) same (subst IsNotWhole (append_assoc us (t ∷ []) more) (r.none more behind rest (omega arith)))
      later next false e w (inr r) = inr (record { found_is = r.found_is; none = λ more behind p some. beyond more behind p some })
        where
          beyond : (more behind : List Lexeme) → t ∷ ts ≡ more ++ behind → 0 < length more → IsNotWhole (us ++ more)
          beyond [] behind p some = absurd (omega arith)
          beyond (x ∷ []) behind p some =
              let same : t ≡ x = cc in
              subst (λ z. IsNotWhole (us ++ z ∷ [])) same (here_not next e w)
          beyond (x ∷ y ∷ more) behind p some =
              let same : t ≡ x = cc in
              let rest : ts ≡ (y ∷ more) ++ behind = cc in
              subst (λ z. IsNotWhole (us ++ z ∷ y ∷ more)) same (subst IsNotWhole (append_assoc us (t ∷ []) (y ∷ more)) (r.none (y ∷ more) behind rest (omega arith)))

      by : (o : Option State) → step m s t ≡ o → ((next : State) (b : Option ℕ) → run m start (us ++ t ∷ []) ≡ Some next → Later (us ++ t ∷ []) ts (count + 1) (longest_from m next (count + 1) b ts) ⊎ None_later (us ++ t ∷ []) ts b (longest_from m next (count + 1) b ts))
          → Later us (t ∷ ts) count (next_best best (λ next. longest_from m next (count + 1) (if is_whole next then Some (count + 1) else best) ts) o) ⊎ None_later us (t ∷ ts) best (next_best best (λ next. longest_from m next (count + 1) (if is_whole next then Some (count + 1) else best) ts) o)
      by None e rest = inr (record { found_is = refl; none = λ more behind p some. stopped more behind p some e })
      by (Some next) e rest = later next (is_whole next) e refl (rest next (if is_whole next then Some (count + 1) else best) (run_next next e))
