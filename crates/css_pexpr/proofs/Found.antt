-- What the two passes over the tokens find is the longest expression.
use Rattle.std.proofs.Common.{◌≡◌, ◌⊎◌, ℕ, ◌+◌, ◌-◌, ◌<◌, ◌≤◌, Bool, true, false, nat_le, List, [], ◌∷◌, ◌++◌, length, min, take, drop, Option, Some, None, inl, inr, refl, sym, ap, ◌∙◌, subst, arith, take-append-drop, length-append, if◌then◌else◌}
use Rattle.std.specs.Prelude.{option_and_then}
use Rattle.std.proofs.lemmas.Bool.{cases_lt, leb-true, leb-false}
use Rattle.std.proofs.lemmas.List.{take_at, length-take-le, length-map, length-drop, drop-map, drop_min, drop-drop}
use Rattle.css_base.specs.declared.token.Token.{Token}
use Rattle.css_base.specs.Tokens.{Lexeme, lexeme, lexemes}
use Rattle.css_tree.specs.declared.scope.Scope.{Scope}
use Rattle.css_tree.specs.Syntax.{Expression}
use Rattle.css_tree.specs.Expressions.{SpellsExpression}
use Rattle.css_tree.specs.Heights.{height}
use Rattle.css_pexpr.specs.declared.level.Level.{Level}
use Rattle.css_pexpr.specs.declared.level.Level.TheVariants as levels
use Rattle.css_pexpr.specs.declared.manner.Manner.{Manner}
use Rattle.css_pexpr.specs.Frames.{Node, capped}
use Rattle.css_pexpr.specs.Longest.{level_number, IsLongest, IsPart, IsRead}
use Rattle.css_pexpr.specs.Reading.{State, step, run, start, is_whole, node_of, finished, built, longest_from}
use Rattle.css_pexpr.proofs.Caps.{capped_low, capped_high}
use Rattle.css_pexpr.proofs.Longest.{Whole, spelled_whole, whole_spelled, one_tree}
use Rattle.css_pexpr.proofs.Search.{IsNotWhole, Later, None_later, search, whole_against}

abbrev pub manner : Scope → Level → ℕ → Manner
manner scope level most = record { scope = scope; level = level_number level; most = most }

level_low : (level : Level) → level_number level ≤ 2
level_low levels.Expr = omega arith
level_low levels.Assign = omega arith
level_low levels.Cond = omega arith

-- ---- the first pass

-- so many of the first tokens are the longest expression
pub record Counted (scope : Scope) (level : Level) (ts : List Lexeme) (count : ℕ) : Type 0 where
  pub tree : Expression
  pub some : 0 < count
  pub within : count ≤ length ts
  pub spells : SpellsExpression scope (level_number level) (take count ts) tree
  pub longest : (more behind : List Lexeme) (other : Expression) → ts ≡ more ++ behind → SpellsExpression scope (level_number level) more other → length more ≤ count

whole_some : (m : Manner) (us : List Lexeme) (last : State) → run m start us ≡ Some last → is_whole last ≡ true → 0 < length us
whole_some m [] last h w = absurd (let same : start ≡ last = cc in let b = ap is_whole same in cc)
whole_some m (t ∷ us) last h w = omega arith

module _ (scope : Scope) (level : Level) (ts : List Lexeme) where
  pub counted : (count : ℕ) → Some count ≡ longest_from (manner scope level 0) start 0 None ts → Counted scope level ts count
  counted count e = by (search m ts [] 0 None start refl)
    where
      m : Manner
      m = manner scope level 0

      not_more : (us more : List Lexeme) (other : Expression) → length us ≡ count → (length us < length more → IsNotWhole m more) → SpellsExpression scope (level_number level) more other → length more ≤ count
      not_more us more other e none d = order (cases_lt count (length more))
        where
          order : (count < length more) ⊎ (length more ≤ count) → length more ≤ count
          order (inl h) = let w = spelled_whole m (level_low level) more other d in absurd (whole_against m more (none (omega arith)) w.last w.runs w.whole)
          order (inr h) = h

      by : Later m [] ts 0 (longest_from m start 0 None ts) ⊎ None_later m [] ts None (longest_from m start 0 None ts) → Counted scope level ts count
      by (inl r) =
          let s = whole_spelled m (level_low level) r.front r.last r.runs r.whole in
          let found : Some count ≡ Some (0 + length r.front) = e ∙ r.found_is in
          let sum : count ≡ 0 + length r.front = cc in
          let long = ap length r.parts ∙ length-append r.front r.back in
          let some = r.some in
          let front_is : take count ts ≡ r.front = ap (take count) r.parts ∙ take_at r.front r.back count (omega arith) in
          record {
            tree = s.tree;
            some = omega arith;
            within = omega arith;
            spells = subst (λ l. SpellsExpression scope (level_number level) l s.tree) (sym front_is) s.spells;
            longest = λ more behind other p d. not_more r.front more other (omega arith) (r.longest more behind p) d;
          }
      by (inr r) = absurd (let none : Some count ≡ None = e ∙ r.found_is in cc)

  pub none_spelled : None ≡ longest_from (manner scope level 0) start 0 None ts → (e : Expression) (rest : List Lexeme) → IsLongest scope level ts e rest → 500 < height e
  none_spelled none e rest x = by (search m ts [] 0 None start refl)
    where
      m : Manner
      m = manner scope level 0

      by : Later m [] ts 0 (longest_from m start 0 None ts) ⊎ None_later m [] ts None (longest_from m start 0 None ts) → 500 < height e
      by (inl r) = absurd (let some : None ≡ Some (0 + length r.front) = none ∙ r.found_is in cc)
      by (inr r) =
          let w = spelled_whole m (level_low level) x.front e x.spells in
          absurd (whole_against m x.front (r.none x.front rest x.parts (whole_some m x.front w.last w.runs w.whole)) w.last w.runs w.whole)

-- ---- the second pass

built_run : (m : Manner) (s : State) (ts : List Lexeme) → built m s ts ≡ option_and_then (finished m) (run m s ts)
built_run m s [] = refl
built_run m s (t ∷ ts) = by (step m s t) (λ n. built_run m n ts)
  where
    by : (o : Option State) → ((n : State) → built m n ts ≡ option_and_then (finished m) (run m n ts))
        → option_and_then (λ next. built m next ts) o ≡ option_and_then (finished m) (option_and_then (λ next. run m next ts) o)
    by None h = refl
    by (Some n) h = h n

built_spelled : (scope : Scope) (level : Level) (most : ℕ) (us : List Lexeme) (e : Expression) → SpellsExpression scope (level_number level) us e → built (manner scope level most) start us ≡ capped most e
built_spelled scope level most us e d =
    let m = manner scope level most in
    let w = spelled_whole m (level_low level) us e d in
    built_run m start us ∙ ap (option_and_then (finished m)) w.runs ∙ ap (λ b. if b then node_of m w.last else None) w.whole ∙ w.node_is

module _ (scope : Scope) (level : Level) (ts : List Lexeme) (count : ℕ) (c : Counted scope level ts count) where
  longest_counted : IsLongest scope level ts c.tree (drop count ts)
  longest_counted =
      let long = length-take-le count ts c.within in
      record {
        front = take count ts;
        parts = sym (take-append-drop count ts);
        spells = c.spells;
        longest = λ more behind other p d. let l = c.longest more behind other p d in omega arith;
      }

  pub part : (x : Expression) → Some x ≡ built (manner scope level 500) start (take count ts) → IsPart scope level ts x count
  part x h = by (nat_le (height c.tree) 500) refl
    where
      kept : Some x ≡ capped 500 c.tree
      kept = h ∙ built_spelled scope level 500 (take count ts) c.tree c.spells

      by : (b : Bool) → nat_le (height c.tree) 500 ≡ b → IsPart scope level ts x count
      by true e =
          let found : Some x ≡ Some c.tree = kept ∙ capped_low 500 c.tree e in
          let same : c.tree ≡ x = cc in
          subst (λ z. IsPart scope level ts z count) same (record { some = c.some; within = c.within; longest = longest_counted; low = leb-true (height c.tree) 500 e })
      by false e = absurd (let found : Some x ≡ None = kept ∙ capped_high 500 c.tree e in cc)

  pub too_high : None ≡ built (manner scope level 500) start (take count ts) → (e : Expression) (rest : List Lexeme) → IsLongest scope level ts e rest → 500 < height e
  too_high h e rest x = subst (λ z. 500 < height z) same (by (nat_le (height c.tree) 500) refl)
    where
      kept : None ≡ capped 500 c.tree
      kept = h ∙ built_spelled scope level 500 (take count ts) c.tree c.spells

      by : (b : Bool) → nat_le (height c.tree) 500 ≡ b → 500 < height c.tree
      by true e = absurd (let found : None ≡ Some c.tree = kept ∙ capped_low 500 c.tree e in cc)
      by false e = leb-false (height c.tree) 500 e

      front_is : take count ts ≡ x.front
      front_is =
          let low = c.longest x.front rest e x.parts x.spells in
          let high = x.longest (take count ts) (drop count ts) c.tree (sym (take-append-drop count ts)) c.spells in
          let long = length-take-le count ts c.within in
          ap (take count) x.parts ∙ take_at x.front rest count (omega arith)

      same : c.tree ≡ e
      same = one_tree scope (level_number level) (level_number level) (take count ts) c.tree e c.spells (subst (λ l. SpellsExpression scope (level_number level) l e) (sym front_is) x.spells)

-- ---- from a place on

pub rest_from : (tokens : List Token) (from first : ℕ) → first ≡ min from (length tokens) → lexemes (drop first tokens) ≡ drop from (lexemes tokens)
rest_from tokens from first e = ap (λ n. lexemes (drop n tokens)) e ∙ ap lexemes (drop_min from tokens) ∙ sym (drop-map lexeme from tokens)

pub read_from : (scope : Scope) (level : Level) (tokens : List Token) (from first count : ℕ) (x : Expression) → first ≡ min from (length tokens) → IsPart scope level (lexemes (drop first tokens)) x count
    → IsRead scope level (lexemes tokens) from x (first + count)
read_from scope level tokens from first count x e p =
    let ts = lexemes tokens in
    let some = p.some in
    let fits = p.within in
    let long : length ts ≡ length tokens = length-map tokens lexeme in
    let left : length (lexemes (drop first tokens)) ≡ length tokens - first = length-map (drop first tokens) lexeme ∙ length-drop first tokens in
    let rest : drop count (lexemes (drop first tokens)) ≡ drop (first + count) ts = ap (drop count) (sym (drop-map lexeme first tokens)) ∙ drop-drop count first ts in
    record {
      forward = omega arith;
      within = omega arith;
      longest = subst (λ l. IsLongest scope level l x (drop (first + count) ts)) (rest_from tokens from first e) (subst (λ l. IsLongest scope level (lexemes (drop first tokens)) x l) rest p.longest);
      low = p.low;
    }
