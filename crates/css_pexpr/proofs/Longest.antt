-- The longest expression, and that there is one.
use Rattle.std.proofs.Common.{◌≡◌, ℕ, ◌+◌, ◌<◌, ◌≤◌, max, Bool, true, false, nat_le, List, [], ◌∷◌, ◌++◌, length, Option, Some, None, refl, sym, ap, ◌∙◌, subst, arith, append-nil, if◌then◌else◌, le_trans}
use Rattle.std.specs.Prelude.{option_and_then}
use Rattle.std.proofs.lemmas.Bool.{le-leb}
use Rattle.css_base.specs.Tokens.{Lexeme}
use Rattle.css_tree.specs.declared.scope.Scope.{Scope}
use Rattle.css_tree.specs.Syntax.{Expression}
use Rattle.css_tree.specs.TokenParts.{first_line}
use Rattle.css_tree.specs.Expressions.{SpellsExpression}
use Rattle.css_tree.specs.Heights.{height}
use Rattle.css_pexpr.specs.declared.manner.Manner.{Manner}
use Rattle.css_pexpr.specs.Frames.{Node, capped, Operand, operand, Frame, Stack, is_open, frame_level, applied, pops, Reduced, reduce, is_closed}
use Rattle.css_pexpr.specs.Reading.{State, Wants, Has, Types, step, run, start, is_whole, node_of}
use Rattle.css_pexpr.proofs.Caps.{capped_low}
use Rattle.css_pexpr.proofs.Runs.{run-append, reduce_pop, reduce_stop}
use Rattle.css_pexpr.proofs.Completeness.{complete}
use Rattle.css_pexpr.proofs.Holding.{looser, Read, Valid}
use Rattle.css_pexpr.proofs.Soundness.{reduce_read}
use Rattle.css_pexpr.proofs.Validity.{run_valid}

-- ---- where nothing has to be closed, all is put together

reduce_all : (most : ℕ) (frames : Stack) (x : Operand) → is_closed frames ≡ true → (reduce most 0 frames x).stack ≡ []
reduce_all most [] x h = refl
reduce_all most (f ∷ frames) x h = by (is_open f) refl (λ y k. reduce_all most frames y k)
  where
    by : (b : Bool) → is_open f ≡ b → ((y : Operand) → is_closed frames ≡ true → (reduce most 0 frames y).stack ≡ []) → (reduce most 0 (f ∷ frames) x).stack ≡ []
    by true e later = absurd (let k : is_closed (f ∷ frames) ≡ false = ap (λ b. if b then false else is_closed frames) e in cc)
    by false e later =
        let popped : pops 0 f ≡ true = ap (λ b. if b then false else nat_le 0 (frame_level f)) e ∙ le-leb 0 (frame_level f) (omega arith) in
        let rest : is_closed frames ≡ true = sym (ap (λ b. if b then false else is_closed frames) e) ∙ h in
        ap (λ (z : Reduced). z.stack) (reduce_pop most 0 f frames x popped) ∙ later (applied most f x) rest

closed_all : (most : ℕ) (frames : Stack) (x : Operand) → (reduce most 0 frames x).stack ≡ [] → is_closed frames ≡ true
closed_all most [] x h = refl
closed_all most (f ∷ frames) x h = by (is_open f) refl (λ y k. closed_all most frames y k)
  where
    by : (b : Bool) → is_open f ≡ b → ((y : Operand) → (reduce most 0 frames y).stack ≡ [] → is_closed frames ≡ true) → is_closed (f ∷ frames) ≡ true
    by true e later = absurd (let k : pops 0 f ≡ false = ap (λ b. if b then false else nat_le 0 (frame_level f)) e in let r = ap (λ (z : Reduced). z.stack) (reduce_stop most 0 f frames x k) in cc)
    by false e later =
        let popped : pops 0 f ≡ true = ap (λ b. if b then false else nat_le 0 (frame_level f)) e ∙ le-leb 0 (frame_level f) (omega arith) in
        let r = ap (λ (z : Reduced). z.stack) (reduce_pop most 0 f frames x popped) in
        ap (λ b. if b then false else is_closed frames) e ∙ later (applied most f x) (sym r ∙ h)

module _ (m : Manner) where
  -- where a token can't be read, no more tokens can
  pub refused : (us : List Lexeme) (t : Lexeme) (ts : List Lexeme) (s : State) → run m start us ≡ Some s → step m s t ≡ None → run m start (us ++ t ∷ ts) ≡ None
  refused us t ts s h k = run-append m us (t ∷ ts) start ∙ ap (option_and_then (λ n. run m n (t ∷ ts))) h ∙ ap (option_and_then (λ n. run m n ts)) k

-- ---- what is spelled is read whole, and the other way round

pub record Whole (m : Manner) (ts : List Lexeme) (e : Expression) : Type 0 where
  pub last : State
  pub runs : run m start ts ≡ Some last
  pub whole : is_whole last ≡ true
  pub node_is : node_of m last ≡ capped m.most e

module _ (m : Manner) (low : m.level ≤ 2) where
  pub spelled_whole : (ts : List Lexeme) (e : Expression) → SpellsExpression m.scope m.level ts e → Whole m ts e
  spelled_whole ts e d =
      let r = complete m d (omega arith) [] (omega arith) in
      let all = r.collapses 0 (omega arith) (omega arith) in
      record {
        last = Has r.stack r.is_name r.x;
        runs = r.runs;
        whole = closed_all m.most r.stack r.x (ap (λ (z : Reduced). z.stack) all);
        node_is = ap (λ (z : Reduced). z.operand.node) all;
      }

  pub record Spelled (ts : List Lexeme) (n : Node) : Type 0 where
    pub tree : Expression
    pub spells : SpellsExpression m.scope m.level ts tree
    pub node_is : n ≡ capped m.most tree

  read_spelled : (frames : Stack) (x : Operand) (ts : List Lexeme) → is_closed frames ≡ true → Read m frames x ts → Spelled ts (reduce m.most 0 frames x).operand.node
  read_spelled frames x ts closed r =
      let q = reduce_read m low 0 frames x ts r in
      let s = subst (λ f. Read m f (reduce m.most 0 frames x).operand ts) (reduce_all m.most frames x closed) q in
      record {
        tree = s.tree;
        spells = subst (λ l. SpellsExpression m.scope m.level l s.tree) (sym (s.parts ∙ ap (λ l. l ++ s.back) s.holds)) (looser s.wants s.spells);
        node_is = s.node_is;
      }

  pub whole_spelled : (ts : List Lexeme) (last : State) → run m start ts ≡ Some last → is_whole last ≡ true → Spelled ts (node_of m last)
  whole_spelled ts (Wants frames) h w = absurd cc
  whole_spelled ts (Types frames line type) h w = absurd cc
  whole_spelled ts (Has frames true x) h w = let v = run_valid m low start [] ts (Has frames true x) refl h in read_spelled frames x ts w v.0
  whole_spelled ts (Has frames false x) h w = read_spelled frames x ts w (run_valid m low start [] ts (Has frames false x) refl h)

-- ---- one tree

at_most_one : (scope : Scope) (ts : List Lexeme) (e f : Expression) → SpellsExpression scope 0 ts e → SpellsExpression scope 0 ts f → e ≡ f
at_most_one scope ts e f x y =
    let most = max (height e) (height f) in
    let m : Manner = record { scope = scope; level = 0; most = most } in
    let p = spelled_whole m (omega arith) ts e x in
    let q = spelled_whole m (omega arith) ts f y in
    let state : p.last ≡ q.last = (let a = p.runs in let b = q.runs in cc) in
    let first = capped_low most e (le-leb (height e) most (omega arith)) in
    let second = capped_low most f (le-leb (height f) most (omega arith)) in
    let same : Some e ≡ Some f = sym (p.node_is ∙ first) ∙ ap (node_of m) state ∙ q.node_is ∙ second in
    cc

pub one_tree : (scope : Scope) (k n : ℕ) (ts : List Lexeme) (e f : Expression) → SpellsExpression scope k ts e → SpellsExpression scope n ts f → e ≡ f
one_tree scope k n ts e f x y = at_most_one scope ts e f (looser (omega arith) x) (looser (omega arith) y)
