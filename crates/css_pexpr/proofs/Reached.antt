-- Operands that are read behind frames.
use Rattle.std.proofs.Common.{◌≡◌, ℕ, ◌+◌, ◌<◌, ◌≤◌, Bool, true, false, nat_le, List, [], ◌∷◌, ◌++◌, codes, Option, Some, None, refl, sym, ap, ap₂, ◌∙◌, subst, arith, append_assoc, if◌then◌else◌, le_trans}
use Rattle.std.specs.Prelude.{option_and_then}
use Rattle.std.proofs.lemmas.Bool.{le-leb}
use Rattle.css_base.specs.Tokens.{Kind, Punctuator, Lexeme}
use Rattle.css_tree.specs.Syntax.{TypeName, Expression, Comma, Assign, Conditional, Binary, Cast, PreIncrement, PreDecrement, Unary, SizeofExpression, SizeofType, Index, PostIncrement, PostDecrement, Call, Name, Number, Text}
use Rattle.css_tree.specs.TokenParts.{kind_at, line_of, first_line}
use Rattle.css_tree.specs.Heights.{height}
use Rattle.css_pexpr.specs.declared.follow.Joint.{Joint}
use Rattle.css_pexpr.specs.declared.follow.Joint.TheVariants as joints
use Rattle.css_pexpr.specs.declared.follow.Follow.TheVariants as follows
use Rattle.css_pexpr.specs.Signs.{joint_text, own_level, left_level, reduce_level}
use Rattle.css_pexpr.specs.Frames.{Node, capped, made_of_two, Operand, operand, Frame, Otherwise, Group, Element, Question, Passing, Stack, is_open, frame_level, frame_line, frame_node, wanted, Reduced, reduce, joint_frame}
use Rattle.css_pexpr.specs.declared.manner.Manner.{Manner}
use Rattle.css_pexpr.specs.Reading.{State, Wants, Has, step, joined, divided, run}
use Rattle.css_pexpr.proofs.Caps.{made_of_two_capped}
use Rattle.css_pexpr.proofs.Runs.{behind, one, goes, first_stays, reduce_pop, pops_yes, stays, joints_apart, reduce_level_bounds, joined_goes}

-- Behind some frames the tokens were read as an expression of a level, which what is put together afterwards gives.
pub record Reached (m : Manner) (frames : Stack) (k : ℕ) (ts : List Lexeme) (e : Expression) : Type 0 where
  pub stack : Stack
  pub is_name : Bool
  pub x : Operand
  pub level : ℕ
  pub runs : run m (Wants frames) ts ≡ Some (Has stack is_name x)
  pub low : k ≤ level
  pub collapses : (n : ℕ) → n ≤ k → n ≤ 13 → reduce m.most n stack x ≡ reduce m.most n frames (operand level (first_line ts) (capped m.most e))
  pub tight : 15 ≤ k → (stack ≡ frames) × (x ≡ operand 15 (first_line ts) (capped m.most e))

module _ (m : Manner) where
  -- what was read is the operand itself
  pub settled : (frames : Stack) (k level : ℕ) (ts : List Lexeme) (e : Expression) (is_name : Bool) → k ≤ level → (15 ≤ k → level ≡ 15)
      → run m (Wants frames) ts ≡ Some (Has frames is_name (operand level (first_line ts) (capped m.most e))) → Reached m frames k ts e
  settled frames k level ts e is_name low tight h = record {
    stack = frames;
    is_name = is_name;
    x = operand level (first_line ts) (capped m.most e);
    level = level;
    runs = h;
    low = low;
    collapses = λ n l b. refl;
    tight = λ l. (refl, ap (λ k. operand k (first_line ts) (capped m.most e)) (tight l));
  }

  -- a frame that isn't open, and its operand
  pub through : (f : Frame) (frames : Stack) (k inner : ℕ) (front vs : List Lexeme) (b e : Expression) → is_open f ≡ false → k ≤ frame_level f → k ≤ 14
      → ((n : ℕ) → n ≤ k → n ≤ 13 → n ≤ inner) → frame_line f ≡ first_line (front ++ vs) → frame_node m.most f (capped m.most b) ≡ capped m.most e
      → run m (Wants frames) front ≡ Some (Wants (f ∷ frames)) → Reached m (f ∷ frames) inner vs b → Reached m frames k (front ++ vs) e
  through f frames k inner front vs b e closed fits loose lower line node before r = record {
    stack = r.stack;
    is_name = r.is_name;
    x = r.x;
    level = frame_level f;
    runs = goes m (Wants frames) front vs before ∙ r.runs;
    low = fits;
    collapses = λ n l h.
        r.collapses n (lower n l h) h ∙ reduce_pop m.most n f frames (operand r.level (first_line vs) (capped m.most b)) (pops_yes n f closed (le_trans l fits))
        ∙ ap₂ (λ l x. reduce m.most n frames (operand (frame_level f) l x)) line node;
    tight = λ h. absurd (omega arith);
  }

  -- a left operand and the joint behind it
  pub after_joint : (j : Joint) (frames : Stack) (us : List Lexeme) (t : Lexeme) (a : Expression) → kind_at t ≡ Punctuator (joint_text j) → wanted m.level frames ≤ own_level j
      → Reached m frames (left_level j) us a → run m (Wants frames) (us ++ t ∷ []) ≡ Some (Wants (joint_frame j (first_line us) (capped m.most a) ∷ frames))
  after_joint j frames us t a is want r =
      let b = reduce_level_bounds j in
      let x = operand r.level (first_line us) (capped m.most a) in
      let there : reduce m.most (reduce_level j) r.stack r.x ≡ record { stack = frames; operand = x } =
      r.collapses (reduce_level j) b.0 b.1 ∙ stays m.most m.level (reduce_level j) (own_level j) frames x (joints_apart j) want in
      let next : step m (Has r.stack r.is_name r.x) t ≡ Some (Wants (joint_frame j (first_line us) (capped m.most a) ∷ frames)) =
      behind m r.stack r.is_name r.x t (follows.Joint j) is ∙ ap (λ (z : Reduced). joined m j z.stack z.operand) there ∙ joined_goes m j frames x r.low want in
      goes m (Wants frames) us (t ∷ []) r.runs ∙ one m (Has r.stack r.is_name r.x) t [] next

  -- an operator between two operands
  pub infix_reached : (j : Joint) (make : ℕ → Expression → Expression → Expression) → ((l : ℕ) (x y : Node) → frame_node m.most (joint_frame j l x) y ≡ made_of_two m.most (make l) x y)
      → ((l : ℕ) (x : Node) → (frame_line (joint_frame j l x) ≡ l) × (is_open (joint_frame j l x) ≡ false) × (frame_level (joint_frame j l x) ≡ own_level j))
      → ((l : ℕ) (a b : Expression) → (height a ≤ height (make l a b)) × (height b ≤ height (make l a b)))
      → (frames : Stack) (k inner line : ℕ) (ts us vs : List Lexeme) (t : Lexeme) (a b : Expression) → k ≤ own_level j → own_level j ≤ inner → own_level j ≤ 12
      → first_line ts ≡ line → ts ≡ us ++ t ∷ vs → kind_at t ≡ Punctuator (joint_text j) → wanted m.level frames ≤ own_level j
      → Reached m frames (left_level j) us a → Reached m (joint_frame j (first_line us) (capped m.most a) ∷ frames) inner vs b → Reached m frames k ts (make line a b)
  infix_reached j make node kept heights frames k inner line ts us vs t a b low inner_low loose line_is parts is want ra rb =
      let front = us ++ t ∷ [] in
      let before = after_joint j frames us t a is want ra in
      let whole : ts ≡ front ++ vs = parts ∙ sym (append_assoc us (t ∷ []) vs) in
      let first : first_line (front ++ vs) ≡ first_line us = ap first_line (append_assoc us (t ∷ []) vs) ∙ first_stays m frames ra.stack ra.is_name ra.x us (t ∷ vs) ra.runs in
      let line_here : first_line us ≡ line = sym first ∙ ap first_line (sym whole) ∙ line_is in
      let f = joint_frame j (first_line us) (capped m.most a) in
      let k_ = kept (first_line us) (capped m.most a) in
      let h = heights (first_line us) a b in
      let made : frame_node m.most f (capped m.most b) ≡ capped m.most (make line a b) =
      node (first_line us) (capped m.most a) (capped m.most b) ∙ made_of_two_capped m.most (make (first_line us)) a b h.0 h.1 ∙ ap (λ l. capped m.most (make l a b)) line_here in
      let level_is = k_.2 in
      subst (λ l. Reached m frames k l (make line a b)) (sym whole)
      (through f frames k inner front vs b (make line a b) k_.1 (omega arith) (omega arith) (λ n l b. omega arith) (k_.0 ∙ sym first) made before rb)

  -- a condition with the expression up to the colon
  pub after_colon : (frames : Stack) (us vs : List Lexeme) (t c : Lexeme) (a b : Expression) → kind_at t ≡ Punctuator (codes "?") → kind_at c ≡ Punctuator (codes ":")
      → wanted m.level frames ≤ 2 → Reached m frames 3 us a → Reached m (Question (first_line us) (capped m.most a) ∷ frames) 0 vs b
      → run m (Wants frames) ((us ++ t ∷ []) ++ (vs ++ c ∷ [])) ≡ Some (Wants (Otherwise (first_line us) (capped m.most a) (capped m.most b) ∷ frames))
  after_colon frames us vs t c a b is colon want ra rb =
      let question = Question (first_line us) (capped m.most a) in
      let before = after_joint joints.Question frames us t a is want ra in
      let next : step m (Has rb.stack rb.is_name rb.x) c ≡ Some (Wants (Otherwise (first_line us) (capped m.most a) (capped m.most b) ∷ frames)) =
      behind m rb.stack rb.is_name rb.x c follows.Colon colon ∙ ap (λ (z : Reduced). divided z.stack z.operand) (rb.collapses 0 (omega arith) (omega arith)) in
      goes m (Wants frames) (us ++ t ∷ []) (vs ++ c ∷ []) before
      ∙ goes m (Wants (question ∷ frames)) vs (c ∷ []) rb.runs ∙ one m (Has rb.stack rb.is_name rb.x) c [] next
