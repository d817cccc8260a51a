-- What is spelled is read.
use Rattle.std.proofs.Common.{◌≡◌, ℕ, ◌+◌, ◌<◌, ◌≤◌, Bool, true, false, nat_le, List, [], ◌∷◌, ◌++◌, codes, bytes_eq, Option, Some, None, refl, sym, ap, ap₂, ◌∙◌, subst, arith, append_assoc, append-nil, if◌then◌else◌, le_trans}
use Rattle.std.specs.Prelude.{option_and_then}
use Rattle.std.proofs.lemmas.Bool.{le-leb}
use Rattle.css_base.specs.Tokens as tokens
use Rattle.css_base.specs.Tokens.{Kind, Word, Punctuator, Lexeme, At}
use Rattle.css_tree.specs.Syntax as tree
use Rattle.css_tree.specs.Syntax.{TypeName, Expression, Expressions, End, More}
use Rattle.css_tree.specs.TokenParts.{One, These, Are, kind_at, line_of, first_line}
use Rattle.css_tree.specs.Words.{is_keyword, IsName}
use Rattle.css_tree.specs.Expressions.{level_of, unary_text, SpellsExpression, Comma, Assign, Conditional, Binary, Cast, PreIncrement, PreDecrement, Unary, SizeofExpression, SizeofType, Index, PostIncrement, PostDecrement, Call, Name, Constant, Character, String, Parentheses, SpellsArguments, NoArguments, Arguments, SpellsFurther, NoFurther, Further}
use Rattle.css_tree.specs.Heights.{height}
use Rattle.css_pexpr.specs.declared.prefix.Prefix.{Prefix}
use Rattle.css_pexpr.specs.declared.prefix.Prefix.TheVariants as prefixes
use Rattle.css_pexpr.specs.declared.prefix.Lead.{Lead}
use Rattle.css_pexpr.specs.declared.prefix.Lead.TheVariants as leads
use Rattle.css_pexpr.specs.declared.follow.Joint.TheVariants as joints
use Rattle.css_pexpr.specs.declared.follow.Follow.TheVariants as follows
use Rattle.css_base.specs.declared.int_type.IntType.TheVariants as types
use Rattle.css_pexpr.specs.Signs.{lead_text, lead_spelled, specifier_of}
use Rattle.css_pexpr.specs.Arguments.{in_order}
use Rattle.css_pexpr.specs.Frames.{capped, made_of, Operand, operand, Frame, Pre, Casting, Infix, Otherwise, Assigning, Sequence, Group, Element, Question, Passing, Stack, operand_level, wanted, prefixed, Reduced, reduce, with_argument, called}
use Rattle.css_pexpr.specs.declared.manner.Manner.{Manner}
use Rattle.css_pexpr.specs.Reading.{State, Wants, Has, Types, takes_type, ended, led, begun, named, step, step_wanting, followed, joined, grouped, indexed, run}
use Rattle.css_pexpr.proofs.Signs.{unary_found, increment_found, decrement_found, open_found, close_found, name_no_sizeof, sizeof_keyword}
use Rattle.css_pexpr.proofs.Caps.{made_of_capped, made_of_two_capped, made_of_three_capped, capped_list, prepend, in_order-prepend, prepend-last, no_arguments, with_argument_capped, called_capped}
use Rattle.css_pexpr.proofs.Runs.{step_at_wanting, behind, one, goes, first_stays, level_bounds, operand_level_bounds}
use Rattle.css_pexpr.proofs.Types.{type_read}
use Rattle.css_pexpr.proofs.Reached.{Reached, settled, through, after_joint, infix_reached, after_colon}

-- ---- parts

pub record Parted (ts us : List Lexeme) (k : Kind) (vs : List Lexeme) : Type 0 where
  pub token : Lexeme
  pub parts : ts ≡ us ++ token ∷ vs
  pub is : kind_at token ≡ k

pub parted : (ts us vs : List Lexeme) (k : Kind) → Are ts (These us ∷ One k ∷ These vs ∷ []) → Parted ts us k vs
parted ts us vs k (rest, e, (t, behind, f, is, g)) = record { token = t; parts = e ∙ ap (λ l. us ++ l) (f ∙ ap (λ l. t ∷ l) g); is = is }

pub record Led (ts : List Lexeme) (k : Kind) (us : List Lexeme) : Type 0 where
  pub token : Lexeme
  pub parts : ts ≡ token ∷ us
  pub is : kind_at token ≡ k

pub led_by : (ts us : List Lexeme) (k : Kind) → Are ts (One k ∷ These us ∷ []) → Led ts k us
led_by ts us k (t, rest, e, is, f) = record { token = t; parts = e ∙ ap (λ l. t ∷ l) f; is = is }

pub alone : (ts : List Lexeme) (k : Kind) → Are ts (One k ∷ []) → Led ts k []
alone ts k (t, rest, e, is, f) = record { token = t; parts = e ∙ ap (λ l. t ∷ l) f; is = is }

-- ---- where a type may stand

cast_takes : (level : ℕ) (frames : Stack) → wanted level frames ≤ 13 → takes_type level frames ≡ true
cast_takes level (Pre line prefixes.Sizeof ∷ frames) low = refl
cast_takes level (Pre line op ∷ frames) low = le-leb (operand_level op) 13 low
cast_takes level [] low = le-leb level 13 low
cast_takes level (f ∷ frames) low = le-leb (wanted level (f ∷ frames)) 13 low

cast_ends : (m : Manner) (frames : Stack) (line : ℕ) (type : TypeName) → wanted m.level frames ≤ 13 → ended m frames line type ≡ Wants (Casting line type ∷ frames)
cast_ends m (Pre first prefixes.Sizeof ∷ frames) line type low = absurd (omega arith)
cast_ends m [] line type low = refl
cast_ends m (f ∷ frames) line type low = refl

module _ (m : Manner) where
  -- ---- single steps

  lead_goes : (frames : Stack) (t : Lexeme) (bytes : List ℕ) (lead : Lead) → kind_at t ≡ Punctuator bytes → lead_spelled bytes ≡ Some lead
      → step m (Wants frames) t ≡ led m frames (line_of t) (Some lead)
  lead_goes frames t bytes lead is found = step_at_wanting m frames t ∙ ap (step_wanting m frames (line_of t)) is ∙ ap (led m frames (line_of t)) found

  open_goes : (frames : Stack) (t : Lexeme) → kind_at t ≡ Punctuator (codes "(") → step m (Wants frames) t ≡ Some (Wants (Group (line_of t) ∷ frames))
  open_goes frames t is = lead_goes frames t (codes "(") leads.Open is open_found

  sizeof_goes : (frames : Stack) (t : Lexeme) → kind_at t ≡ Word (codes "sizeof") → step m (Wants frames) t ≡ Some (Wants (Pre (line_of t) prefixes.Sizeof ∷ frames))
  sizeof_goes frames t is = step_at_wanting m frames t ∙ ap (step_wanting m frames (line_of t)) is

  name_goes : (frames : Stack) (t : Lexeme) (name : List ℕ) → kind_at t ≡ Word name → IsName name
      → step m (Wants frames) t ≡ Some (Has frames true (operand 15 (line_of t) (capped m.most (tree.Name (line_of t) name))))
  name_goes frames t name is name_is =
      step_at_wanting m frames t ∙ ap (step_wanting m frames (line_of t)) is
      ∙ ap (λ b. if b then Some (Wants (Pre (line_of t) prefixes.Sizeof ∷ frames)) else (if is_keyword name then begun m frames (specifier_of m.scope name) else named m frames (line_of t) name)) (name_no_sizeof name name_is)
      ∙ ap (λ b. if b then begun m frames (specifier_of m.scope name) else named m frames (line_of t) name) name_is
      ∙ ap (λ b. if b then None else Some (Has frames true (operand 15 (line_of t) (capped m.most (tree.Name (line_of t) name))))) name_is

  -- a token alone
  atom : (frames : Stack) (k : ℕ) (ts : List Lexeme) (kind : Kind) (e : ℕ → Expression) (line : ℕ) (is_name : Bool) → k ≤ 15 → (h : Led ts kind [])
      → first_line ts ≡ line → step m (Wants frames) h.token ≡ Some (Has frames is_name (operand 15 (line_of h.token) (capped m.most (e (line_of h.token)))))
      → Reached m frames k ts (e line)
  atom frames k ts kind e line is_name low h line_is next =
      let here : line_of h.token ≡ line = sym (ap first_line h.parts) ∙ line_is in
      subst (λ l. Reached m frames k l (e line)) (sym h.parts)
      (subst (λ l. Reached m frames k (h.token ∷ []) (e l)) here
      (settled m frames k 15 (h.token ∷ []) (e (line_of h.token)) is_name low (λ l. refl) (one m (Wants frames) h.token [] next)))

  -- an operator before its operand
  prefix_reached : (op : Prefix) (frames : Stack) (k line : ℕ) (ts us : List Lexeme) (kind : Kind) (a : Expression) → k ≤ 14 → (h : Led ts kind us) → first_line ts ≡ line
      → height a ≤ height (prefixed op line a) → step m (Wants frames) h.token ≡ Some (Wants (Pre (line_of h.token) op ∷ frames))
      → Reached m (Pre (line_of h.token) op ∷ frames) (operand_level op) us a → Reached m frames k ts (prefixed op line a)
  prefix_reached op frames k line ts us kind a low h line_is high next r =
      let here : line_of h.token ≡ line = sym (ap first_line h.parts) ∙ line_is in
      let b = operand_level_bounds op in
      let f = Pre (line_of h.token) op in
      subst (λ l. Reached m frames k l (prefixed op line a)) (sym h.parts)
      (through m f frames k (operand_level op) (h.token ∷ []) us a (prefixed op line a) refl low low (λ n l t. omega arith) refl
      (ap (λ l. made_of m.most (prefixed op l) (capped m.most a)) here ∙ made_of_capped m.most (prefixed op line) a high) (one m (Wants frames) h.token [] next) r)

  -- an operand that was read whole
  operand_is : (frames : Stack) (k : ℕ) (ts us : List Lexeme) (e : ℕ → Expression) (l line : ℕ) → k ≤ 15 → ts ≡ us → first_line ts ≡ l → first_line ts ≡ line
      → run m (Wants frames) us ≡ Some (Has frames false (operand 15 l (capped m.most (e l)))) → Reached m frames k ts (e line)
  operand_is frames k ts us e l line low parts first line_is runs =
      let here : l ≡ line = sym first ∙ line_is in
      settled m frames k 15 ts (e line) false low (λ _. refl)
      (ap (run m (Wants frames)) parts ∙ runs ∙ ap₂ (λ x y. Some (Has frames false (operand 15 x (capped m.most (e y))))) (sym first) here)

  -- ---- calls

  -- a comma behind an argument, and the closing parenthesis behind the last one
  argument_goes : (frames : Stack) (line : ℕ) (other : ℕ) (name : List ℕ) (es : List Expression) (us : List Lexeme) (t : Lexeme) (e : Expression) → kind_at t ≡ Punctuator (codes ",")
      → Reached m (Passing line (capped m.most (tree.Name other name)) (capped_list m.most es) ∷ frames) 1 us e
      → run m (Wants (Passing line (capped m.most (tree.Name other name)) (capped_list m.most es) ∷ frames)) (us ++ t ∷ [])
      ≡ Some (Wants (Passing line (capped m.most (tree.Name other name)) (capped_list m.most (es ++ e ∷ [])) ∷ frames))
  argument_goes frames line other name es us t e is r =
      let callee = capped m.most (tree.Name other name) in
      let next : step m (Has r.stack r.is_name r.x) t ≡ Some (Wants (Passing line callee (capped_list m.most (es ++ e ∷ [])) ∷ frames)) =
      behind m r.stack r.is_name r.x t (follows.Joint joints.Comma) is ∙ ap (λ (z : Reduced). joined m joints.Comma z.stack z.operand) (r.collapses 0 (omega arith) (omega arith))
      ∙ ap (λ b. Some (Wants (Passing line callee b ∷ frames))) (with_argument_capped m.most es e) in
      goes m (Wants (Passing line callee (capped_list m.most es) ∷ frames)) us (t ∷ []) r.runs ∙ one m (Has r.stack r.is_name r.x) t [] next

  call_goes : (frames : Stack) (line : ℕ) (other : ℕ) (name : List ℕ) (es : List Expression) (us : List Lexeme) (c : Lexeme) (e : Expression) → kind_at c ≡ Punctuator (codes ")")
      → Reached m (Passing line (capped m.most (tree.Name other name)) (capped_list m.most es) ∷ frames) 1 us e
      → run m (Wants (Passing line (capped m.most (tree.Name other name)) (capped_list m.most es) ∷ frames)) (us ++ c ∷ [])
      ≡ Some (Has frames false (operand 15 line (capped m.most (tree.Call line name (in_order (es ++ e ∷ []))))))
  call_goes frames line other name es us c e is r =
      let callee = capped m.most (tree.Name other name) in
      let next : step m (Has r.stack r.is_name r.x) c ≡ Some (Has frames false (operand 15 line (capped m.most (tree.Call line name (in_order (es ++ e ∷ [])))))) =
      behind m r.stack r.is_name r.x c follows.CloseParenthesis is ∙ ap (λ (z : Reduced). grouped m z.stack z.operand) (r.collapses 0 (omega arith) (omega arith))
      ∙ ap (λ b. Some (Has frames false (operand 15 line (called m.most line callee b)))) (with_argument_capped m.most es e)
      ∙ ap (λ n. Some (Has frames false (operand 15 line n))) (called_capped m.most line other name (es ++ e ∷ [])) in
      goes m (Wants (Passing line callee (capped_list m.most es) ∷ frames)) us (c ∷ []) r.runs ∙ one m (Has r.stack r.is_name r.x) c [] next

  -- ---- expressions

  mutual
    pub complete : {k : ℕ} {ts : List Lexeme} {e : Expression} → SpellsExpression m.scope k ts e → k ≤ 15 → (frames : Stack) → wanted m.level frames ≤ k → Reached m frames k ts e
    complete {k} {ts} (Comma {line = line} {a = a} {b = b} us vs low line_is are x y) top frames want =
        let p = parted ts us vs _ are in
        infix_reached m joints.Comma tree.Comma (λ l x y. refl) (λ l x. (refl, refl, refl)) (λ l a b. (omega arith, omega arith)) frames k 1 line ts us vs p.token a b
        low (omega arith) (omega arith) line_is p.parts p.is (le_trans want low)
        (complete x (omega arith) frames (le_trans want low)) (complete y (omega arith) (Sequence (first_line us) (capped m.most a) ∷ frames) (omega arith))
    complete {k} {ts} (Assign {line = line} {a = a} {b = b} op us vs low line_is are x y) top frames want =
        let p = parted ts us vs _ are in
        infix_reached m (joints.Assign op) (λ l a b. tree.Assign l a op b) (λ l x y. refl) (λ l x. (refl, refl, refl)) (λ l a b. (omega arith, omega arith)) frames k 1 line ts us vs p.token a b
        low (omega arith) (omega arith) line_is p.parts p.is (le_trans want low)
        (complete x (omega arith) frames (omega arith)) (complete y (omega arith) (Assigning (first_line us) (capped m.most a) op ∷ frames) (omega arith))
    complete {k} {ts} (Binary {line = line} {a = a} {b = b} op us vs low line_is are x y) top frames want =
        let p = parted ts us vs _ are in
        let bounds = level_bounds op in
        infix_reached m (joints.Binary op) (λ l a b. tree.Binary l a op b) (λ l x y. refl) (λ l x. (refl, refl, refl)) (λ l a b. (omega arith, omega arith)) frames k (level_of op + 1) line ts us vs p.token a b
        low (omega arith) (omega arith) line_is p.parts p.is (le_trans want low)
        (complete x (omega arith) frames (omega arith)) (complete y (omega arith) (Infix (first_line us) (capped m.most a) op ∷ frames) (omega arith))
    complete {k} {ts} (Conditional {line = line} {a = a} {b = b} {c = c} us vs ws low line_is (r, e, (t, s, f, is, (u, g, (d, w, h, colon, i)))) x y z) top frames want =
        let whole : ts ≡ us ++ t ∷ (vs ++ d ∷ ws) = e ∙ ap (λ l. us ++ l) (f ∙ ap (λ l. t ∷ l) (g ∙ ap (λ l. vs ++ l) (h ∙ ap (λ l. d ∷ l) i))) in
        let front = (us ++ t ∷ []) ++ (vs ++ d ∷ []) in
        let parts : ts ≡ front ++ ws = whole ∙ sym (append_assoc (us ++ t ∷ []) (vs ++ d ∷ []) ws ∙ append_assoc us (t ∷ []) ((vs ++ d ∷ []) ++ ws) ∙ ap (λ l. us ++ t ∷ l) (append_assoc vs (d ∷ []) ws)) in
        let ra = complete x (omega arith) frames (omega arith) in
        let rb = complete y (omega arith) (Question (first_line us) (capped m.most a) ∷ frames) (omega arith) in
        let rc = complete z (omega arith) (Otherwise (first_line us) (capped m.most a) (capped m.most b) ∷ frames) (omega arith) in
        let before = after_colon m frames us vs t d a b is colon (omega arith) ra rb in
        let first : first_line ts ≡ first_line us = ap first_line whole ∙ first_stays m frames ra.stack ra.is_name ra.x us (t ∷ (vs ++ d ∷ ws)) ra.runs in
        let made = made_of_three_capped m.most (tree.Conditional (first_line us)) a b c (omega arith) (omega arith) (omega arith) ∙ ap (λ l. capped m.most (tree.Conditional l a b c)) (sym first ∙ line_is) in
        subst (λ l. Reached m frames k l (tree.Conditional line a b c)) (sym parts)
        (through m (Otherwise (first_line us) (capped m.most a) (capped m.most b)) frames k 2 front ws c (tree.Conditional line a b c) refl low (omega arith) (λ n l b. omega arith)
        (sym (sym (ap first_line parts) ∙ first)) made before rc)
    complete {k} {ts} (Cast {line = line} {a = a} type us vs low line_is (o, r, e, is, (s, f, (c, u, g, closes, h))) type_is x) top frames want =
        let parts : ts ≡ (o ∷ (us ++ c ∷ [])) ++ vs = e ∙ ap (λ l. o ∷ l) (f ∙ ap (λ l. us ++ l) (g ∙ ap (λ l. c ∷ l) h) ∙ sym (append_assoc us (c ∷ []) vs)) in
        let first : line_of o ≡ line = sym (ap first_line e) ∙ line_is in
        let before : run m (Wants frames) (o ∷ (us ++ c ∷ [])) ≡ Some (Wants (Casting (line_of o) type ∷ frames)) =
        one m (Wants frames) o (us ++ c ∷ []) (open_goes frames o is) ∙ type_read m frames (line_of o) type us c type_is closes (cast_takes m.level frames (le_trans want low))
        ∙ ap Some (cast_ends m frames (line_of o) type (le_trans want low)) in
        let rest = complete x (omega arith) (Casting (line_of o) type ∷ frames) (omega arith) in
        let made = made_of_capped m.most (tree.Cast (line_of o) type) a (omega arith) ∙ ap (λ l. capped m.most (tree.Cast l type a)) first in
        subst (λ l. Reached m frames k l (tree.Cast line type a)) (sym parts)
        (through m (Casting (line_of o) type) frames k 13 (o ∷ (us ++ c ∷ [])) vs a (tree.Cast line type a) refl low (omega arith) (λ n l b. omega arith) refl made before rest)
    complete {k} {ts} (PreIncrement {line = line} {a = a} us low line_is are x) top frames want =
        let h = led_by ts us _ are in
        prefix_reached prefixes.Increment frames k line ts us _ a low h line_is (omega arith) (lead_goes frames h.token (codes "++") (leads.Prefix prefixes.Increment) h.is increment_found)
        (complete x (omega arith) (Pre (line_of h.token) prefixes.Increment ∷ frames) (omega arith))
    complete {k} {ts} (PreDecrement {line = line} {a = a} us low line_is are x) top frames want =
        let h = led_by ts us _ are in
        prefix_reached prefixes.Decrement frames k line ts us _ a low h line_is (omega arith) (lead_goes frames h.token (codes "--") (leads.Prefix prefixes.Decrement) h.is decrement_found)
        (complete x (omega arith) (Pre (line_of h.token) prefixes.Decrement ∷ frames) (omega arith))
    complete {k} {ts} (Unary {line = line} {a = a} op us low line_is are x) top frames want =
        let h = led_by ts us _ are in
        prefix_reached (prefixes.Operator op) frames k line ts us _ a low h line_is (omega arith) (lead_goes frames h.token (unary_text op) (leads.Prefix (prefixes.Operator op)) h.is (unary_found op))
        (complete x (omega arith) (Pre (line_of h.token) (prefixes.Operator op) ∷ frames) (omega arith))
    complete {k} {ts} (SizeofExpression {line = line} {a = a} us low line_is are x) top frames want =
        let h = led_by ts us _ are in
        prefix_reached prefixes.Sizeof frames k line ts us _ a low h line_is (omega arith) (sizeof_goes frames h.token h.is)
        (complete x (omega arith) (Pre (line_of h.token) prefixes.Sizeof ∷ frames) (omega arith))
    complete {k} {ts} (SizeofType {line = line} type us low line_is (t, r, e, is, (o, s, f, opens, (u, g, (c, w, h, closes, i)))) type_is) top frames want =
        let parts : ts ≡ t ∷ o ∷ (us ++ c ∷ []) = e ∙ ap (λ l. t ∷ l) (f ∙ ap (λ l. o ∷ l) (g ∙ ap (λ l. us ++ l) (h ∙ ap (λ l. c ∷ l) i))) in
        let first : line_of t ≡ line = sym (ap first_line e) ∙ line_is in
        let inner = Pre (line_of t) prefixes.Sizeof ∷ frames in
        let runs : run m (Wants frames) (t ∷ o ∷ (us ++ c ∷ [])) ≡ Some (Has frames false (operand 14 (line_of t) (capped m.most (tree.SizeofType (line_of t) type)))) =
        one m (Wants frames) t (o ∷ (us ++ c ∷ [])) (sizeof_goes frames t is) ∙ one m (Wants inner) o (us ++ c ∷ []) (open_goes inner o opens)
        ∙ type_read m inner (line_of o) type us c type_is closes refl in
        subst (λ l. Reached m frames k l (tree.SizeofType line type)) (sym parts)
        (subst (λ l. Reached m frames k (t ∷ o ∷ (us ++ c ∷ [])) (tree.SizeofType l type)) first
        (settled m frames k 14 (t ∷ o ∷ (us ++ c ∷ [])) (tree.SizeofType (line_of t) type) false low (λ l. absurd (omega arith)) runs))
    complete {k} {ts} (Index {line = line} {a = a} {b = b} us vs low line_is (r, e, (o, s, f, is, (u, g, (c, w, h, closes, i)))) x y) top frames want =
        let whole : ts ≡ us ++ o ∷ (vs ++ c ∷ []) = e ∙ ap (λ l. us ++ l) (f ∙ ap (λ l. o ∷ l) (g ∙ ap (λ l. vs ++ l) (h ∙ ap (λ l. c ∷ l) i))) in
        let ra = complete x (omega arith) frames (omega arith) in
        let tight = ra.tight (omega arith) in
        let l = first_line us in
        let opened : step m (Has ra.stack ra.is_name ra.x) o ≡ Some (Wants (Element l (capped m.most a) ∷ frames)) =
        behind m ra.stack ra.is_name ra.x o follows.OpenBracket is ∙ ap₂ (λ s x. followed m s ra.is_name x (Some follows.OpenBracket)) tight.0 tight.1 in
        let rb = complete y (omega arith) (Element l (capped m.most a) ∷ frames) (omega arith) in
        let closed : step m (Has rb.stack rb.is_name rb.x) c ≡ Some (Has frames false (operand 15 l (capped m.most (tree.Index l a b)))) =
        behind m rb.stack rb.is_name rb.x c follows.CloseBracket closes ∙ ap (λ (z : Reduced). indexed m z.stack z.operand) (rb.collapses 0 (omega arith) (omega arith))
        ∙ ap (λ n. Some (Has frames false (operand 15 l n))) (made_of_two_capped m.most (tree.Index l) a b (omega arith) (omega arith)) in
        let runs : run m (Wants frames) (us ++ o ∷ (vs ++ c ∷ [])) ≡ Some (Has frames false (operand 15 l (capped m.most (tree.Index l a b)))) =
        goes m (Wants frames) us (o ∷ (vs ++ c ∷ [])) ra.runs ∙ one m (Has ra.stack ra.is_name ra.x) o (vs ++ c ∷ []) opened
        ∙ goes m (Wants (Element l (capped m.most a) ∷ frames)) vs (c ∷ []) rb.runs ∙ one m (Has rb.stack rb.is_name rb.x) c [] closed in
        let first : first_line ts ≡ l = ap first_line whole ∙ first_stays m frames ra.stack ra.is_name ra.x us (o ∷ (vs ++ c ∷ [])) ra.runs in
        operand_is frames k ts (us ++ o ∷ (vs ++ c ∷ [])) (λ l. tree.Index l a b) l line top whole first line_is runs
    complete {k} {ts} (PostIncrement {line = line} {a = a} us low line_is (r, e, (o, s, f, is, g)) x) top frames want =
        let whole : ts ≡ us ++ o ∷ [] = e ∙ ap (λ l. us ++ l) (f ∙ ap (λ l. o ∷ l) g) in
        let ra = complete x (omega arith) frames (omega arith) in
        let tight = ra.tight (omega arith) in
        let l = first_line us in
        let next : step m (Has ra.stack ra.is_name ra.x) o ≡ Some (Has frames false (operand 15 l (capped m.most (tree.PostIncrement l a)))) =
        behind m ra.stack ra.is_name ra.x o follows.Increment is ∙ ap₂ (λ s x. followed m s ra.is_name x (Some follows.Increment)) tight.0 tight.1
        ∙ ap (λ n. Some (Has frames false (operand 15 l n))) (made_of_capped m.most (tree.PostIncrement l) a (omega arith)) in
        let first : first_line ts ≡ l = ap first_line whole ∙ first_stays m frames ra.stack ra.is_name ra.x us (o ∷ []) ra.runs in
        operand_is frames k ts (us ++ o ∷ []) (λ l. tree.PostIncrement l a) l line top whole first line_is
        (goes m (Wants frames) us (o ∷ []) ra.runs ∙ one m (Has ra.stack ra.is_name ra.x) o [] next)
    complete {k} {ts} (PostDecrement {line = line} {a = a} us low line_is (r, e, (o, s, f, is, g)) x) top frames want =
        let whole : ts ≡ us ++ o ∷ [] = e ∙ ap (λ l. us ++ l) (f ∙ ap (λ l. o ∷ l) g) in
        let ra = complete x (omega arith) frames (omega arith) in
        let tight = ra.tight (omega arith) in
        let l = first_line us in
        let next : step m (Has ra.stack ra.is_name ra.x) o ≡ Some (Has frames false (operand 15 l (capped m.most (tree.PostDecrement l a)))) =
        behind m ra.stack ra.is_name ra.x o follows.Decrement is ∙ ap₂ (λ s x. followed m s ra.is_name x (Some follows.Decrement)) tight.0 tight.1
        ∙ ap (λ n. Some (Has frames false (operand 15 l n))) (made_of_capped m.most (tree.PostDecrement l) a (omega arith)) in
        let first : first_line ts ≡ l = ap first_line whole ∙ first_stays m frames ra.stack ra.is_name ra.x us (o ∷ []) ra.runs in
        operand_is frames k ts (us ++ o ∷ []) (λ l. tree.PostDecrement l a) l line top whole first line_is
        (goes m (Wants frames) us (o ∷ []) ra.runs ∙ one m (Has ra.stack ra.is_name ra.x) o [] next)
    complete {k} {ts} (Call {line = line} {arguments = all} name us low line_is (t, r, e, is, (o, s, f, opens, (u, g, (c, w, h, closes, i)))) name_is args) top frames want =
        let whole : ts ≡ t ∷ o ∷ (us ++ c ∷ []) = e ∙ ap (λ l. t ∷ l) (f ∙ ap (λ l. o ∷ l) (g ∙ ap (λ l. us ++ l) (h ∙ ap (λ l. c ∷ l) i))) in
        let l = line_of t in
        let callee = capped m.most (tree.Name l name) in
        let opened : step m (Has frames true (operand 15 l callee)) o ≡ Some (Wants (Passing l callee (Some []) ∷ frames)) =
        behind m frames true (operand 15 l callee) o follows.OpenParenthesis opens in
        operand_is frames k ts (t ∷ o ∷ (us ++ c ∷ [])) (λ l. tree.Call l name all) l line top whole (ap first_line whole) line_is
        (one m (Wants frames) t (o ∷ (us ++ c ∷ [])) (name_goes frames t name is name_is) ∙ one m (Has frames true (operand 15 l callee)) o (us ++ c ∷ []) opened
        ∙ arguments args frames l l name c closes)
    complete {k} {ts} (Name {line = line} name line_is are name_is) top frames want =
        let h = alone ts _ are in
        atom frames k ts _ (λ l. tree.Name l name) line true top h line_is (name_goes frames h.token name h.is name_is)
    complete {k} {ts} (Constant {line = line} type value line_is are) top frames want =
        let h = alone ts _ are in
        atom frames k ts _ (λ l. tree.Number l type value) line false top h line_is (step_at_wanting m frames h.token ∙ ap (step_wanting m frames (line_of h.token)) h.is)
    complete {k} {ts} (Character {line = line} byte line_is are) top frames want =
        let h = alone ts _ are in
        atom frames k ts _ (λ l. tree.Number l types.Int byte) line false top h line_is (step_at_wanting m frames h.token ∙ ap (step_wanting m frames (line_of h.token)) h.is)
    complete {k} {ts} (String {line = line} bytes line_is are) top frames want =
        let h = alone ts _ are in
        atom frames k ts _ (λ l. tree.Text l bytes) line false top h line_is (step_at_wanting m frames h.token ∙ ap (step_wanting m frames (line_of h.token)) h.is)
    complete {k} {ts} {e} (Parentheses us (o, r, p, is, (s, f, (c, w, g, closes, h))) x) top frames want =
        let whole : ts ≡ o ∷ (us ++ c ∷ []) = p ∙ ap (λ l. o ∷ l) (f ∙ ap (λ l. us ++ l) (g ∙ ap (λ l. c ∷ l) h)) in
        let l = line_of o in
        let inner = complete x (omega arith) (Group l ∷ frames) (omega arith) in
        let closed : step m (Has inner.stack inner.is_name inner.x) c ≡ Some (Has frames false (operand 15 l (capped m.most e))) =
        behind m inner.stack inner.is_name inner.x c follows.CloseParenthesis closes ∙ ap (λ (z : Reduced). grouped m z.stack z.operand) (inner.collapses 0 (omega arith) (omega arith)) in
        subst (λ l. Reached m frames k l e) (sym whole)
        (settled m frames k 15 (o ∷ (us ++ c ∷ [])) e false top (λ l. refl)
        (one m (Wants frames) o (us ++ c ∷ []) (open_goes frames o is) ∙ goes m (Wants (Group l ∷ frames)) us (c ∷ []) inner.runs ∙ one m (Has inner.stack inner.is_name inner.x) c [] closed))

    arguments : {us : List Lexeme} {all : Expressions} → SpellsArguments m.scope us all → (frames : Stack) (line other : ℕ) (name : List ℕ) (c : Lexeme) → kind_at c ≡ Punctuator (codes ")")
        → run m (Wants (Passing line (capped m.most (tree.Name other name)) (Some []) ∷ frames)) (us ++ c ∷ []) ≡ Some (Has frames false (operand 15 line (capped m.most (tree.Call line name all))))
    arguments (NoArguments none) frames line other name c closes =
        let callee = capped m.most (tree.Name other name) in
        let next = lead_goes (Passing line callee (Some []) ∷ frames) c (codes ")") leads.Close closes close_found in
        ap (λ l. run m (Wants (Passing line callee (Some []) ∷ frames)) (l ++ c ∷ [])) none ∙ one m (Wants (Passing line callee (Some []) ∷ frames)) c [] next
        ∙ ap (λ b. Some (Has frames false (operand 15 line (called m.most line callee b)))) (sym (no_arguments m.most))
        ∙ ap (λ n. Some (Has frames false (operand 15 line n))) (called_capped m.most line other name [])
    arguments {us} (Arguments {e = e} {others = others} vs ws parts x more) frames line other name c closes =
        let callee = capped m.most (tree.Name other name) in
        let r = complete x (omega arith) (Passing line callee (capped_list m.most []) ∷ frames) (omega arith) in
        ap (λ b. run m (Wants (Passing line callee b ∷ frames)) (us ++ c ∷ [])) (sym (no_arguments m.most))
        ∙ ap (λ l. run m (Wants (Passing line callee (capped_list m.most []) ∷ frames)) (l ++ c ∷ [])) parts
        ∙ further more frames line other name c closes [] vs e r

    further : {ws : List Lexeme} {others : Expressions} → SpellsFurther m.scope ws others → (frames : Stack) (line other : ℕ) (name : List ℕ) (c : Lexeme) → kind_at c ≡ Punctuator (codes ")")
        → (es : List Expression) (vs : List Lexeme) (e : Expression) → Reached m (Passing line (capped m.most (tree.Name other name)) (capped_list m.most es) ∷ frames) 1 vs e
        → run m (Wants (Passing line (capped m.most (tree.Name other name)) (capped_list m.most es) ∷ frames)) ((vs ++ ws) ++ c ∷ [])
        ≡ Some (Has frames false (operand 15 line (capped m.most (tree.Call line name (prepend es (More e others))))))
    further (NoFurther none) frames line other name c closes es vs e r =
        let here = Wants (Passing line (capped m.most (tree.Name other name)) (capped_list m.most es) ∷ frames) in
        ap (λ l. run m here (l ++ c ∷ [])) (ap (λ l. vs ++ l) none ∙ append-nil vs) ∙ call_goes frames line other name es vs c e closes r
        ∙ ap (λ l. Some (Has frames false (operand 15 line (capped m.most (tree.Call line name l))))) (in_order-prepend (es ++ e ∷ []) ∙ prepend-last es e End)
    further {ws} (Further {e = next} {others = rest} us xs (t, s, p, is, (u, q, z)) x more) frames line other name c closes es vs e r =
        let callee = capped m.most (tree.Name other name) in
        let here = Wants (Passing line callee (capped_list m.most es) ∷ frames) in
        let behind_comma = Passing line callee (capped_list m.most (es ++ e ∷ [])) ∷ frames in
        let parts : (vs ++ ws) ++ c ∷ [] ≡ (vs ++ t ∷ []) ++ ((us ++ xs) ++ c ∷ []) =
        ap (λ l. (vs ++ l) ++ c ∷ []) (p ∙ ap (λ l. t ∷ l) (q ∙ ap (λ l. us ++ l) z)) ∙ ap (λ l. l ++ c ∷ []) (sym (append_assoc vs (t ∷ []) (us ++ xs))) ∙ append_assoc (vs ++ t ∷ []) (us ++ xs) (c ∷ []) in
        let again = complete x (omega arith) behind_comma (omega arith) in
        ap (run m here) parts ∙ goes m here (vs ++ t ∷ []) ((us ++ xs) ++ c ∷ []) (argument_goes frames line other name es vs t e is r)
        ∙ further more frames line other name c closes (es ++ e ∷ []) us next again
        ∙ ap (λ l. Some (Has frames false (operand 15 line (capped m.most (tree.Call line name l))))) (prepend-last es e (More next rest))
