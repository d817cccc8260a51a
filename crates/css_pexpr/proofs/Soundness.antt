-- What is read is spelled.
use Rattle.std.proofs.Common.{◌≡◌, ℕ, ◌+◌, ◌<◌, ◌≤◌, Bool, true, false, ◌&&◌, nat_le, List, [], ◌∷◌, ◌++◌, map, length, All, codes, bytes_eq, Option, Some, None, refl, sym, ap, ap₂, ◌∙◌, subst, arith, append_assoc, append-nil, if◌then◌else◌, le_trans}
use Rattle.std.specs.Prelude.{option_and_then}
use Rattle.std.proofs.lemmas.Bool.{leb-true, and_parts}
use Rattle.std.proofs.lemmas.List.{map-append}
use Rattle.std.proofs.lemmas.List.Elements.{All-append}
use Rattle.std.proofs.lemmas.Slice.Eq.{bytes_eq-Decides}
use Rattle.css_base.specs.declared.int_type.IntType.TheVariants as types
use Rattle.css_base.specs.Tokens as tokens
use Rattle.css_base.specs.Tokens.{Kind, Word, Punctuator, Lexeme, At}
use Rattle.css_tree.specs.declared.words.Specifier.{Specifier}
use Rattle.css_tree.specs.declared.words.Qualifier.{Qualifier}
use Rattle.css_tree.specs.Syntax as tree
use Rattle.css_tree.specs.Syntax.{Stars, TypeName, Expression, Expressions, End, More}
use Rattle.css_tree.specs.TokenParts.{kind_at, line_of, first_line, kinds, One, These, Are}
use Rattle.css_tree.specs.Words.{is_keyword, IsName, IsAllowed, specifier_kind, qualifier_kind, stars_kinds, SpellsTypeName}
use Rattle.css_tree.specs.Expressions.{SpellsExpression, SizeofType, Index, PostIncrement, PostDecrement, Call, Name, Constant, Character, String, Parentheses, SpellsArguments, NoArguments, SpellsFurther, NoFurther, Further}
use Rattle.css_pexpr.specs.declared.prefix.Prefix.{Prefix}
use Rattle.css_pexpr.specs.declared.prefix.Prefix.TheVariants as prefixes
use Rattle.css_pexpr.specs.declared.prefix.Lead.{Lead}
use Rattle.css_pexpr.specs.declared.prefix.Lead.TheVariants as leads
use Rattle.css_pexpr.specs.declared.follow.Joint.{Joint}
use Rattle.css_pexpr.specs.declared.follow.Joint.TheVariants as joints
use Rattle.css_pexpr.specs.declared.follow.Follow.{Follow}
use Rattle.css_pexpr.specs.declared.follow.Follow.TheVariants as follows
use Rattle.css_pexpr.specs.Signs.{joint_text, follow_text, follow_spelled, lead_spelled, specifier_of, qualifier_spelled, own_level, left_level, reduce_level}
use Rattle.css_pexpr.specs.Arguments.{in_order}
use Rattle.css_pexpr.specs.Frames.{Node, capped, made_of, made_of_two, with_argument, called, Operand, operand, Frame, Pre, Casting, Infix, Otherwise, Assigning, Sequence, Group, Element, Question, Passing, Stack, is_open, frame_level, frame_node, wanted, applied, pops, Reduced, reduce, joint_frame}
use Rattle.css_pexpr.specs.declared.manner.Manner.{Manner}
use Rattle.css_pexpr.specs.Reading.{State, Wants, Has, Types, with_specifier, with_star, with_qualifier, at_last, takes_type, begun, ended, type_word, type_mark, step_type, led, named, step_word, step_wanting, joined, divided, grouped, indexed, followed, step_having, step, run}
use Rattle.css_pexpr.proofs.Signs.{follow_token, lead_token, lead_no_sizeof, specifier_token, qualifier_token}
use Rattle.css_pexpr.proofs.Caps.{made_of_capped, made_of_two_capped, capped_list, prepend, in_order-prepend, prepend-last, no_arguments, no_arguments_so, with_argument_capped, called_capped}
use Rattle.css_pexpr.proofs.Runs.{reduce_pop, reduce_stop, operand_level_bounds, level_bounds}
use Rattle.css_pexpr.proofs.Types.{none_left}
use Rattle.css_pexpr.proofs.Holding.{looser, prefix_kind, Left, Token, InParentheses, Chosen, Before, Passes, FrameHolds, Holds, Read, IsNamed, IsTyped, Valid, spelled_first, makes}

-- ---- tests

pub from_if : {A : Type 0} (b : Bool) (x y : A) → (if b then Some x else None) ≡ Some y → (b ≡ true) × (x ≡ y)
from_if true x y h = (refl, cc)
from_if false x y h = absurd cc

module _ (m : Manner) (low_level : m.level ≤ 2) where
  -- behind frames at most a unary expression is asked for
  pub wanted_bound : (frames : Stack) → wanted m.level frames ≤ 14
  wanted_bound [] = omega arith
  wanted_bound (Pre line op ∷ frames) = let b = operand_level_bounds op in b.1
  wanted_bound (Casting line type ∷ frames) = omega arith
  wanted_bound (Infix line left op ∷ frames) = let b = level_bounds op in omega arith
  wanted_bound (Otherwise line condition first ∷ frames) = omega arith
  wanted_bound (Assigning line place op ∷ frames) = omega arith
  wanted_bound (Sequence line left ∷ frames) = omega arith
  wanted_bound (Group line ∷ frames) = omega arith
  wanted_bound (Element line array ∷ frames) = omega arith
  wanted_bound (Question line condition ∷ frames) = omega arith
  wanted_bound (Passing line callee before ∷ frames) = omega arith

  -- ---- putting together

  wanted_alone : (f : Frame) (frames : Stack) → wanted m.level (f ∷ frames) ≡ wanted m.level (f ∷ [])
  wanted_alone (Pre line op) frames = refl
  wanted_alone (Casting line type) frames = refl
  wanted_alone (Infix line left op) frames = refl
  wanted_alone (Otherwise line condition first) frames = refl
  wanted_alone (Assigning line place op) frames = refl
  wanted_alone (Sequence line left) frames = refl
  wanted_alone (Group line) frames = refl
  wanted_alone (Element line array) frames = refl
  wanted_alone (Question line condition) frames = refl
  wanted_alone (Passing line callee before) frames = refl

  frame_level_bound : (f : Frame) → frame_level f ≤ 15
  frame_level_bound (Pre line op) = omega arith
  frame_level_bound (Casting line type) = omega arith
  frame_level_bound (Infix line left op) = let b = level_bounds op in omega arith
  frame_level_bound (Otherwise line condition first) = omega arith
  frame_level_bound (Assigning line place op) = omega arith
  frame_level_bound (Sequence line left) = omega arith
  frame_level_bound (Group line) = omega arith
  frame_level_bound (Element line array) = omega arith
  frame_level_bound (Question line condition) = omega arith
  frame_level_bound (Passing line callee before) = omega arith

  applied_read : (f : Frame) (frames : Stack) (x : Operand) (us : List Lexeme) → is_open f ≡ false → Read m (f ∷ frames) x us → Read m frames (applied m.most f x) us
  applied_read f frames x us closed r =
      let h = r.holds in
      let fits : wanted m.level (f ∷ []) ≤ x.level = subst (λ n. n ≤ x.level) (wanted_alone f frames) r.wants in
      let made = makes m f m.level h.1 r.back r.tree closed h.4 (looser fits r.spells) in
      record {
        front = h.0;
        back = h.1 ++ r.back;
        tree = made.whole;
        parts = r.parts ∙ ap (λ l. l ++ r.back) h.2 ∙ append_assoc h.0 h.1 r.back;
        holds = h.3;
        spells = made.spells;
        node_is = ap (frame_node m.most f) r.node_is ∙ made.node_is;
        line_is = made.line_is;
        wants = h.5;
        most_is = frame_level_bound f;
      }

  pub reduce_read : (n : ℕ) (frames : Stack) (x : Operand) (us : List Lexeme) → Read m frames x us → Read m (reduce m.most n frames x).stack (reduce m.most n frames x).operand us
  reduce_read n [] x us r = r
  reduce_read n (f ∷ frames) x us r = by (pops n f) refl (λ y q. reduce_read n frames y us q)
    where
      closed_from : (b : Bool) → is_open f ≡ b → pops n f ≡ true → is_open f ≡ false
      closed_from true e h = absurd (let k : pops n f ≡ false = ap (λ b. if b then false else nat_le n (frame_level f)) e in cc)
      closed_from false e h = e

      by : (b : Bool) → pops n f ≡ b → ((y : Operand) → Read m frames y us → Read m (reduce m.most n frames y).stack (reduce m.most n frames y).operand us)
          → Read m (reduce m.most n (f ∷ frames) x).stack (reduce m.most n (f ∷ frames) x).operand us
      by true e later =
          subst (λ (z : Reduced). Read m z.stack z.operand us) (sym (reduce_pop m.most n f frames x e))
          (later (applied m.most f x) (applied_read f frames x us (closed_from (is_open f) refl e) r))
      by false e later = subst (λ (z : Reduced). Read m z.stack z.operand us) (sym (reduce_stop m.most n f frames x e)) r

  -- ---- behind an operand

  -- a joint
  left_of : (k : ℕ) (text : List ℕ) (frames : Stack) (x : Operand) (us : List Lexeme) (t : Lexeme) → k ≤ x.level → kind_at t ≡ Punctuator text → (r : Read m frames x us)
      → Left m k text x.line x.node (r.back ++ t ∷ [])
  left_of k text frames x us t low is r = record { tree = r.tree; front = r.back; token = t; parts = refl; is = is; spells = looser low r.spells; node_is = r.node_is; line_is = r.line_is }

  joint_holds : (j : Joint) (frames : Stack) (x : Operand) (us : List Lexeme) (t : Lexeme) → left_level j ≤ x.level → wanted m.level frames ≤ own_level j → kind_at t ≡ Punctuator (joint_text j)
      → Read m frames x us → Holds m (joint_frame j x.line x.node ∷ frames) (us ++ t ∷ [])
  joint_holds joints.Comma frames x us t left own is r =
      (r.front, r.back ++ t ∷ [], ap (λ l. l ++ t ∷ []) r.parts ∙ append_assoc r.front r.back (t ∷ []), r.holds, left_of 0 (codes ",") frames x us t left is r, own)
  joint_holds (joints.Assign op) frames x us t left own is r =
      (r.front, r.back ++ t ∷ [], ap (λ l. l ++ t ∷ []) r.parts ∙ append_assoc r.front r.back (t ∷ []), r.holds, left_of 14 (joint_text (joints.Assign op)) frames x us t left is r, own)
  joint_holds joints.Question frames x us t left own is r =
      (r.front, r.back ++ t ∷ [], ap (λ l. l ++ t ∷ []) r.parts ∙ append_assoc r.front r.back (t ∷ []), r.holds, left_of 3 (codes "?") frames x us t left is r, own)
  joint_holds (joints.Binary op) frames x us t left own is r =
      (r.front, r.back ++ t ∷ [], ap (λ l. l ++ t ∷ []) r.parts ∙ append_assoc r.front r.back (t ∷ []), r.holds, left_of (left_level (joints.Binary op)) (joint_text (joints.Binary op)) frames x us t left is r, own)

  joint_valid : (j : Joint) (frames : Stack) (x : Operand) (us : List Lexeme) (t : Lexeme) (next : State) → kind_at t ≡ Punctuator (joint_text j) → Read m frames x us
      → (if nat_le (left_level j) x.level && nat_le (wanted m.level frames) (own_level j) then Some (Wants (joint_frame j x.line x.node ∷ frames)) else None) ≡ Some next → Valid m next (us ++ t ∷ [])
  joint_valid j frames x us t next is r h =
      let f = from_if (nat_le (left_level j) x.level && nat_le (wanted m.level frames) (own_level j)) (Wants (joint_frame j x.line x.node ∷ frames)) next h in
      let b = and_parts (nat_le (left_level j) x.level) (nat_le (wanted m.level frames) (own_level j)) f.0 in
      subst (λ s. Valid m s (us ++ t ∷ [])) f.1 (joint_holds j frames x us t (leb-true (left_level j) x.level b.0) (leb-true (wanted m.level frames) (own_level j) b.1) is r)

  -- the tokens of a call so far, with an argument behind them
  passed : (us vs : List Lexeme) (t : Lexeme) (es : List Expression) (e : Expression) → kind_at t ≡ Punctuator (codes ",") → Before m us es → SpellsExpression m.scope 1 vs e → Before m (us ++ (vs ++ t ∷ [])) (es ++ e ∷ [])
  passed us vs t es e is b x = record { none = λ h. absurd (no_end es h); goes_on = more }
    where
      no_end : (l : List Expression) → l ++ e ∷ [] ≡ [] → ⊥
      no_end [] h = absurd cc
      no_end (y ∷ l) h = absurd cc

      more : (ws : List Lexeme) (f : Expression) (tail : List Lexeme) (others : Expressions) → SpellsExpression m.scope 1 ws f → SpellsFurther m.scope tail others
          → SpellsArguments m.scope ((us ++ (vs ++ t ∷ [])) ++ (ws ++ tail)) (prepend (es ++ e ∷ []) (More f others))
      more ws f tail others y z =
          let all = b.goes_on vs e (t ∷ (ws ++ tail)) (More f others) x (Further ws tail (t, ws ++ tail, refl, is, (tail, refl, refl)) y z) in
          let parts : us ++ (vs ++ t ∷ (ws ++ tail)) ≡ (us ++ (vs ++ t ∷ [])) ++ (ws ++ tail) =
          sym (append_assoc us (vs ++ t ∷ []) (ws ++ tail) ∙ ap (λ l. us ++ l) (append_assoc vs (t ∷ []) (ws ++ tail))) in
          subst (λ l. SpellsArguments m.scope l (prepend (es ++ e ∷ []) (More f others))) parts
          (subst (λ l. SpellsArguments m.scope (us ++ (vs ++ t ∷ (ws ++ tail))) l) (sym (prepend-last es e (More f others))) all)

  comma_valid : (frames : Stack) (x : Operand) (us : List Lexeme) (t : Lexeme) (next : State) → kind_at t ≡ Punctuator (codes ",") → Read m frames x us → joined m joints.Comma frames x ≡ Some next → Valid m next (us ++ t ∷ [])
  comma_valid [] x us t next is r h = joint_valid joints.Comma [] x us t next is r h
  comma_valid (Passing line callee before ∷ frames) x us t next is r h =
      let same : Wants (Passing line callee (with_argument before x.node) ∷ frames) ≡ next = cc in
      let hold = r.holds in
      let p = hold.4 in
      let argument = looser r.wants r.spells in
      let rest = p.us ++ (r.back ++ t ∷ []) in
      let parts : us ++ t ∷ [] ≡ hold.0 ++ p.token ∷ p.first ∷ rest =
      ap (λ l. l ++ t ∷ []) (r.parts ∙ ap (λ l. l ++ r.back) (hold.2 ∙ ap (λ l. hold.0 ++ l) p.parts))
      ∙ ap (λ l. l ++ t ∷ []) (append_assoc hold.0 (p.token ∷ p.first ∷ p.us) r.back) ∙ append_assoc hold.0 ((p.token ∷ p.first ∷ p.us) ++ r.back) (t ∷ [])
      ∙ ap (λ l. hold.0 ++ p.token ∷ p.first ∷ l) (append_assoc p.us r.back (t ∷ [])) in
      subst (λ s. Valid m s (us ++ t ∷ [])) same (
        hold.0,
        p.token ∷ p.first ∷ rest,
        parts,
        hold.3,
        record {
          token = p.token;
          first = p.first;
          us = rest;
          name = p.name;
          all = p.all ++ r.tree ∷ [];
          parts = refl;
          is = p.is;
          named = p.named;
          opens = p.opens;
          line_is = p.line_is;
          callee_is = p.callee_is;
          before_is = ap₂ with_argument p.before_is r.node_is ∙ with_argument_capped m.most p.all r.tree;
          spells = passed p.us r.back t p.all r.tree is p.spells argument;
        },
        hold.5,
      )
  comma_valid (f ∷ frames) x us t next is r h = joint_valid joints.Comma (f ∷ frames) x us t next is r h

  pub joined_valid : (j : Joint) (frames : Stack) (x : Operand) (us : List Lexeme) (t : Lexeme) (next : State) → kind_at t ≡ Punctuator (joint_text j) → Read m frames x us → joined m j frames x ≡ Some next → Valid m next (us ++ t ∷ [])
  joined_valid joints.Comma frames x us t next is r h = comma_valid frames x us t next is r h
  joined_valid (joints.Assign op) frames x us t next is r h = joint_valid (joints.Assign op) frames x us t next is r h
  joined_valid joints.Question frames x us t next is r h = joint_valid joints.Question frames x us t next is r h
  joined_valid (joints.Binary op) frames x us t next is r h = joint_valid (joints.Binary op) frames x us t next is r h

  pub divided_valid : (frames : Stack) (x : Operand) (us : List Lexeme) (t : Lexeme) (next : State) → kind_at t ≡ Punctuator (codes ":") → Read m frames x us → divided frames x ≡ Some next → Valid m next (us ++ t ∷ [])
  divided_valid (Question line condition ∷ frames) x us t next is r h =
      let same : Wants (Otherwise line condition x.node ∷ frames) ≡ next = cc in
      let hold = r.holds in
      let parts : us ++ t ∷ [] ≡ hold.0 ++ (hold.1 ++ (r.back ++ t ∷ [])) =
      ap (λ l. l ++ t ∷ []) (r.parts ∙ ap (λ l. l ++ r.back) hold.2) ∙ append_assoc (hold.0 ++ hold.1) r.back (t ∷ []) ∙ append_assoc hold.0 hold.1 (r.back ++ t ∷ []) in
      subst (λ s. Valid m s (us ++ t ∷ [])) same (
        hold.0,
        hold.1 ++ (r.back ++ t ∷ []),
        parts,
        hold.3,
        record {
          front = hold.1;
          back = r.back ++ t ∷ [];
          parts = refl;
          asks = hold.4;
          gives = r.tree;
          middle = r.back;
          colon = t;
          back_parts = refl;
          is = is;
          spells = looser (omega arith) r.spells;
          node_is = r.node_is;
        },
        hold.5,
      )
  divided_valid frames x us t next is r h = absurd cc

  -- an operand that was closed
  pub closed_read : (frames : Stack) (us vs ws : List Lexeme) (line : ℕ) (n : Node) (e : Expression) → us ≡ vs ++ ws → Holds m frames vs → SpellsExpression m.scope 15 ws e → n ≡ capped m.most e → first_line ws ≡ line
      → Read m frames (operand 15 line n) us
  closed_read frames us vs ws line n e parts holds spells node_is line_is = record {
    front = vs;
    back = ws;
    tree = e;
    parts = parts;
    holds = holds;
    spells = spells;
    node_is = node_is;
    line_is = line_is;
    wants = let b = wanted_bound frames in omega arith;
    most_is = omega arith;
  }

  pub grouped_valid : (frames : Stack) (x : Operand) (us : List Lexeme) (t : Lexeme) (next : State) → kind_at t ≡ Punctuator (codes ")") → Read m frames x us → grouped m frames x ≡ Some next → Valid m next (us ++ t ∷ [])
  grouped_valid (Group line ∷ frames) x us t next is r h =
      let same : Has frames false (operand 15 line x.node) ≡ next = cc in
      let hold = r.holds in
      let o = hold.4 in
      let ws = o.token ∷ (r.back ++ t ∷ []) in
      let parts : us ++ t ∷ [] ≡ hold.0 ++ ws =
      ap (λ l. l ++ t ∷ []) (r.parts ∙ ap (λ l. l ++ r.back) (hold.2 ∙ ap (λ l. hold.0 ++ l) o.parts) ∙ append_assoc hold.0 (o.token ∷ []) r.back) ∙ append_assoc hold.0 (o.token ∷ r.back) (t ∷ []) in
      subst (λ s. Valid m s (us ++ t ∷ [])) same
      (closed_read frames (us ++ t ∷ []) hold.0 ws line x.node r.tree parts hold.3
      (Parentheses r.back (o.token, r.back ++ t ∷ [], refl, o.is, (t ∷ [], refl, (t, [], refl, is, refl))) (looser (omega arith) r.spells)) r.node_is o.line_is)
  grouped_valid (Passing line callee before ∷ frames) x us t next is r h =
      let same : Has frames false (operand 15 line (called m.most line callee (with_argument before x.node))) ≡ next = cc in
      let hold = r.holds in
      let p = hold.4 in
      let inside = p.us ++ r.back in
      let ws = p.token ∷ p.first ∷ (inside ++ t ∷ []) in
      let parts : us ++ t ∷ [] ≡ hold.0 ++ ws =
      ap (λ l. l ++ t ∷ []) (r.parts ∙ ap (λ l. l ++ r.back) (hold.2 ∙ ap (λ l. hold.0 ++ l) p.parts) ∙ append_assoc hold.0 (p.token ∷ p.first ∷ p.us) r.back)
      ∙ append_assoc hold.0 (p.token ∷ p.first ∷ inside) (t ∷ []) in
      let all : SpellsArguments m.scope inside (in_order (p.all ++ r.tree ∷ [])) =
      subst (λ l. SpellsArguments m.scope inside l) (sym (in_order-prepend (p.all ++ r.tree ∷ []) ∙ prepend-last p.all r.tree End))
      (subst (λ l. SpellsArguments m.scope (p.us ++ l) (prepend p.all (More r.tree End))) (append-nil r.back) (p.spells.goes_on r.back r.tree [] End (looser r.wants r.spells) (NoFurther refl))) in
      let made : called m.most line callee (with_argument before x.node) ≡ capped m.most (tree.Call line p.name (in_order (p.all ++ r.tree ∷ []))) =
      ap₂ (called m.most line) p.callee_is (ap₂ with_argument p.before_is r.node_is ∙ with_argument_capped m.most p.all r.tree) ∙ called_capped m.most line line p.name (p.all ++ r.tree ∷ []) in
      subst (λ s. Valid m s (us ++ t ∷ [])) same
      (closed_read frames (us ++ t ∷ []) hold.0 ws line (called m.most line callee (with_argument before x.node)) (tree.Call line p.name (in_order (p.all ++ r.tree ∷ []))) parts hold.3
      (Call p.name inside (omega arith) p.line_is (p.token, p.first ∷ (inside ++ t ∷ []), refl, p.is, (p.first, inside ++ t ∷ [], refl, p.opens, (t ∷ [], refl, (t, [], refl, is, refl)))) p.named all) made p.line_is)
  grouped_valid frames x us t next is r h = absurd cc

  pub indexed_valid : (frames : Stack) (x : Operand) (us : List Lexeme) (t : Lexeme) (next : State) → kind_at t ≡ Punctuator (codes "]") → Read m frames x us → indexed m frames x ≡ Some next → Valid m next (us ++ t ∷ [])
  indexed_valid (Element line array ∷ frames) x us t next is r h =
      let same : Has frames false (operand 15 line (made_of_two m.most (tree.Index line) array x.node)) ≡ next = cc in
      let hold = r.holds in
      let l = hold.4 in
      let ws = l.front ++ l.token ∷ (r.back ++ t ∷ []) in
      let parts : us ++ t ∷ [] ≡ hold.0 ++ ws =
      ap (λ l. l ++ t ∷ []) (r.parts ∙ ap (λ l. l ++ r.back) hold.2) ∙ append_assoc (hold.0 ++ hold.1) r.back (t ∷ []) ∙ append_assoc hold.0 hold.1 (r.back ++ t ∷ [])
      ∙ ap (λ z. hold.0 ++ z) (ap (λ z. z ++ (r.back ++ t ∷ [])) l.parts ∙ append_assoc l.front (l.token ∷ []) (r.back ++ t ∷ [])) in
      let first : first_line ws ≡ line = spelled_first m (l.token ∷ (r.back ++ t ∷ [])) (omega arith) l.spells ∙ l.line_is in
      subst (λ s. Valid m s (us ++ t ∷ [])) same
      (closed_read frames (us ++ t ∷ []) hold.0 ws line (made_of_two m.most (tree.Index line) array x.node) (tree.Index line l.tree r.tree) parts hold.3
      (Index l.front r.back (omega arith) first (l.token ∷ (r.back ++ t ∷ []), refl, (l.token, r.back ++ t ∷ [], refl, l.is, (t ∷ [], refl, (t, [], refl, is, refl)))) l.spells (looser (omega arith) r.spells))
      (ap₂ (made_of_two m.most (tree.Index line)) l.node_is r.node_is ∙ made_of_two_capped m.most (tree.Index line) l.tree r.tree (omega arith) (omega arith)) first)
  indexed_valid frames x us t next is r h = absurd cc
