-- Every step keeps what the state holds.
use Rattle.std.proofs.Common.{◌≡◌, ℕ, ◌+◌, ◌<◌, ◌≤◌, Bool, true, false, nat_le, List, [], ◌∷◌, ◌++◌, map, length, All, codes, bytes_eq, Option, Some, None, refl, sym, ap, ap₂, ◌∙◌, subst, arith, append_assoc, append-nil, if◌then◌else◌, le_trans}
use Rattle.std.specs.Prelude.{option_and_then}
use Rattle.std.proofs.lemmas.Bool.{leb-true}
use Rattle.std.proofs.lemmas.List.{map-append}
use Rattle.std.proofs.lemmas.List.Elements.{All-append, All-cons, All-nil}
use Rattle.std.proofs.lemmas.Slice.Eq.{bytes_eq-Decides}
use Rattle.css_base.specs.declared.int_type.IntType.TheVariants as types
use Rattle.css_base.specs.Tokens as tokens
use Rattle.css_base.specs.Tokens.{Kind, Word, Punctuator, Lexeme, At}
use Rattle.css_tree.specs.declared.scope.Scope.{Scope}
use Rattle.css_tree.specs.declared.words.Specifier.{Specifier}
use Rattle.css_tree.specs.declared.words.Qualifier.{Qualifier}
use Rattle.css_tree.specs.Syntax as tree
use Rattle.css_tree.specs.Syntax.{Stars, TypeName, Expression}
use Rattle.css_tree.specs.TokenParts.{kind_at, line_of, first_line, kinds}
use Rattle.css_tree.specs.Words.{is_keyword, IsName, IsAllowed, specifier_kind, qualifier_kind, stars_kinds, SpellsTypeName}
use Rattle.css_tree.specs.Expressions.{SpellsExpression, SizeofType, PostIncrement, PostDecrement, Call, Name, Constant, Character, String, SpellsArguments, NoArguments, Arguments, SpellsFurther}
use Rattle.css_pexpr.specs.declared.prefix.Prefix.{Prefix}
use Rattle.css_pexpr.specs.declared.prefix.Prefix.TheVariants as prefixes
use Rattle.css_pexpr.specs.declared.prefix.Lead.{Lead}
use Rattle.css_pexpr.specs.declared.prefix.Lead.TheVariants as leads
use Rattle.css_pexpr.specs.declared.follow.Joint.{Joint}
use Rattle.css_pexpr.specs.declared.follow.Follow.{Follow}
use Rattle.css_pexpr.specs.declared.follow.Follow.TheVariants as follows
use Rattle.css_pexpr.specs.Signs.{prefix_text, lead_text, follow_text, follow_spelled, lead_spelled, specifier_of, qualifier_spelled, reduce_level}
use Rattle.css_pexpr.specs.Frames.{Node, capped, made_of, called, Operand, operand, Frame, Pre, Casting, Infix, Otherwise, Assigning, Sequence, Group, Element, Question, Passing, Stack, wanted, Reduced, reduce}
use Rattle.css_pexpr.specs.declared.manner.Manner.{Manner}
use Rattle.css_pexpr.specs.Reading.{State, Wants, Has, Types, with_specifier, with_star, with_qualifier, at_last, takes_type, begun, ended, type_word, type_mark, step_type, led, named, step_word, step_wanting, followed, step_having, step, run}
use Rattle.css_pexpr.proofs.Signs.{follow_token, lead_token, lead_no_sizeof, specifier_token, qualifier_token}
use Rattle.css_pexpr.proofs.Caps.{made_of_capped, capped_list, no_arguments, no_arguments_so, called_capped}
use Rattle.css_pexpr.proofs.Types.{none_left}
use Rattle.css_pexpr.proofs.Holding.{prefix_kind, Left, Token, InParentheses, Before, Passes, Holds, Read, IsNamed, IsTyped, Valid, spelled_first}
use Rattle.css_pexpr.proofs.Soundness.{from_if, reduce_read, closed_read, wanted_bound, joined_valid, divided_valid, grouped_valid, indexed_valid}

-- ---- words of types

stars_with_star : (stars : Stars) → stars_kinds (stars ++ [] ∷ []) ≡ stars_kinds stars ++ Punctuator (codes "*") ∷ []
stars_with_star [] = refl
stars_with_star (star ∷ stars) =
    ap (λ l. Punctuator (codes "*") ∷ (map qualifier_kind star ++ l)) (stars_with_star stars)
    ∙ ap (λ l. Punctuator (codes "*") ∷ l) (sym (append_assoc (map qualifier_kind star) (stars_kinds stars) (Punctuator (codes "*") ∷ [])))

stars_at_last : (stars : Stars) (q : Qualifier) → 0 < length stars → stars_kinds (at_last stars q) ≡ stars_kinds stars ++ qualifier_kind q ∷ []
stars_at_last [] q some = absurd (omega arith)
stars_at_last (star ∷ []) q some =
    ap (λ l. Punctuator (codes "*") ∷ (l ++ [])) (map-append qualifier_kind star (q ∷ []))
    ∙ ap (λ l. Punctuator (codes "*") ∷ l) (append-nil (map qualifier_kind star ++ qualifier_kind q ∷ []) ∙ ap (λ l. l ++ qualifier_kind q ∷ []) (sym (append-nil (map qualifier_kind star))))
stars_at_last (star ∷ next ∷ stars) q some =
    ap (λ l. Punctuator (codes "*") ∷ (map qualifier_kind star ++ l)) (stars_at_last (next ∷ stars) q (omega arith))
    ∙ ap (λ l. Punctuator (codes "*") ∷ l) (sym (append_assoc (map qualifier_kind star) (stars_kinds (next ∷ stars)) (qualifier_kind q ∷ [])))

All-one : (scope : Scope) (s : Specifier) → IsAllowed scope s → All (IsAllowed scope) (s ∷ [])
All-one scope s h = All-cons (IsAllowed scope) s [] h (All-nil (IsAllowed scope))

-- what a chained option gives came from the first one
from_chain : {A B : Type 0} (make : A → B) (o : Option A) (y : B) → option_and_then (λ x. Some (make x)) o ≡ Some y → (x : A) × (o ≡ Some x) × (make x ≡ y)
from_chain make None y h = absurd cc
from_chain make (Some x) y h = (x, refl, cc)

module _ (m : Manner) (low_level : m.level ≤ 2) where
  -- ---- behind an operand

  read_of : (frames : Stack) (is_name : Bool) (x : Operand) (us : List Lexeme) → Valid m (Has frames is_name x) us → Read m frames x us
  read_of frames true x us v = v.0
  read_of frames false x us v = v

  joint_step : (j : Joint) (frames : Stack) (x : Operand) (us : List Lexeme) (t : Lexeme) (next : State) (is_name : Bool) → kind_at t ≡ Punctuator (follow_text (follows.Joint j)) → Read m frames x us
      → followed m frames is_name x (Some (follows.Joint j)) ≡ Some next → Valid m next (us ++ t ∷ [])
  joint_step j frames x us t next is_name is r h =
      joined_valid m low_level j (reduce m.most (reduce_level j) frames x).stack (reduce m.most (reduce_level j) frames x).operand us t next is (reduce_read m low_level (reduce_level j) frames x us r) h

  -- `++` and `--` behind an operand
  suffix_valid : (text : List ℕ) (make : ℕ → Expression → Expression) (frames : Stack) (x : Operand) (us : List Lexeme) (t : Lexeme) (next : State) → kind_at t ≡ Punctuator text → Read m frames x us
      → ((back : List Lexeme) (e : Expression) → SpellsExpression m.scope 15 back e → first_line (back ++ t ∷ []) ≡ x.line → SpellsExpression m.scope 15 (back ++ t ∷ []) (make x.line e))
      → ((e : Expression) → made_of m.most (make x.line) (capped m.most e) ≡ capped m.most (make x.line e))
      → (if nat_le 15 x.level then Some (Has frames false (operand 15 x.line (made_of m.most (make x.line) x.node))) else None) ≡ Some next → Valid m next (us ++ t ∷ [])
  suffix_valid text make frames x us t next is r spells node h =
      let f = from_if (nat_le 15 x.level) (Has frames false (operand 15 x.line (made_of m.most (make x.line) x.node))) next h in
      let low = leb-true 15 x.level f.0 in
      let high = r.most_is in
      let at : x.level ≡ 15 = omega arith in
      let d : SpellsExpression m.scope 15 r.back r.tree = subst (λ n. SpellsExpression m.scope n r.back r.tree) at r.spells in
      let first : first_line (r.back ++ t ∷ []) ≡ x.line = spelled_first m (t ∷ []) (omega arith) d ∙ r.line_is in
      subst (λ s. Valid m s (us ++ t ∷ [])) f.1
      (closed_read m low_level frames (us ++ t ∷ []) r.front (r.back ++ t ∷ []) x.line (made_of m.most (make x.line) x.node) (make x.line r.tree)
      (ap (λ l. l ++ t ∷ []) r.parts ∙ append_assoc r.front r.back (t ∷ [])) r.holds (spells r.back r.tree d first) (ap (made_of m.most (make x.line)) r.node_is ∙ node r.tree) first)

  bracket_valid : (frames : Stack) (x : Operand) (us : List Lexeme) (t : Lexeme) (next : State) → kind_at t ≡ Punctuator (codes "[") → Read m frames x us
      → (if nat_le 15 x.level then Some (Wants (Element x.line x.node ∷ frames)) else None) ≡ Some next → Valid m next (us ++ t ∷ [])
  bracket_valid frames x us t next is r h =
      let f = from_if (nat_le 15 x.level) (Wants (Element x.line x.node ∷ frames)) next h in
      let low = leb-true 15 x.level f.0 in
      let high = r.most_is in
      let at : x.level ≡ 15 = omega arith in
      let d : SpellsExpression m.scope 15 r.back r.tree = subst (λ n. SpellsExpression m.scope n r.back r.tree) at r.spells in
      let b = wanted_bound m low_level frames in
      subst (λ s. Valid m s (us ++ t ∷ [])) f.1 (
        r.front,
        r.back ++ t ∷ [],
        ap (λ l. l ++ t ∷ []) r.parts ∙ append_assoc r.front r.back (t ∷ []),
        r.holds,
        record { tree = r.tree; front = r.back; token = t; parts = refl; is = is; spells = d; node_is = r.node_is; line_is = r.line_is },
        omega arith,
      )

  call_valid : (frames : Stack) (is_name : Bool) (x : Operand) (us : List Lexeme) (t : Lexeme) (next : State) → kind_at t ≡ Punctuator (codes "(") → Valid m (Has frames is_name x) us
      → (if is_name then Some (Wants (Passing x.line x.node (Some []) ∷ frames)) else None) ≡ Some next → Valid m next (us ++ t ∷ [])
  call_valid frames false x us t next is v h = absurd cc
  call_valid frames true x us t next is v h =
      let same : Wants (Passing x.line x.node (Some []) ∷ frames) ≡ next = cc in
      let n = v.1 in
      let b = wanted_bound m low_level frames in
      subst (λ s. Valid m s (us ++ t ∷ [])) same (
        n.front,
        n.token ∷ t ∷ [],
        ap (λ l. l ++ t ∷ []) n.parts ∙ append_assoc n.front (n.token ∷ []) (t ∷ []),
        v.2,
        record {
          token = n.token;
          first = t;
          us = [];
          name = n.name;
          all = [];
          parts = refl;
          is = n.is;
          named = n.named;
          opens = is;
          line_is = n.line_is;
          callee_is = n.node_is;
          before_is = sym (no_arguments m.most);
          spells = record { none = λ h. refl; goes_on = λ vs e tail others d more. first_argument vs tail e others d more };
        },
        omega arith,
      )
    where
      first_argument : (vs tail : List Lexeme) (e : Expression) (others : tree.Expressions) → SpellsExpression m.scope 1 vs e → SpellsFurther m.scope tail others → SpellsArguments m.scope (vs ++ tail) (tree.More e others)
      first_argument vs tail e others d more = Arguments vs tail refl d more

  followed_valid : (f : Follow) (frames : Stack) (is_name : Bool) (x : Operand) (us : List Lexeme) (t : Lexeme) (next : State) → kind_at t ≡ Punctuator (follow_text f) → Valid m (Has frames is_name x) us
      → followed m frames is_name x (Some f) ≡ Some next → Valid m next (us ++ t ∷ [])
  followed_valid (follows.Joint j) frames is_name x us t next is v h = joint_step j frames x us t next is_name is (read_of frames is_name x us v) h
  followed_valid follows.Colon frames is_name x us t next is v h =
      divided_valid m low_level (reduce m.most 0 frames x).stack (reduce m.most 0 frames x).operand us t next is (reduce_read m low_level 0 frames x us (read_of frames is_name x us v)) h
  followed_valid follows.CloseParenthesis frames is_name x us t next is v h =
      grouped_valid m low_level (reduce m.most 0 frames x).stack (reduce m.most 0 frames x).operand us t next is (reduce_read m low_level 0 frames x us (read_of frames is_name x us v)) h
  followed_valid follows.CloseBracket frames is_name x us t next is v h =
      indexed_valid m low_level (reduce m.most 0 frames x).stack (reduce m.most 0 frames x).operand us t next is (reduce_read m low_level 0 frames x us (read_of frames is_name x us v)) h
  followed_valid follows.OpenBracket frames is_name x us t next is v h = bracket_valid frames x us t next is (read_of frames is_name x us v) h
  followed_valid follows.OpenParenthesis frames is_name x us t next is v h = call_valid frames is_name x us t next is v h
  followed_valid follows.Increment frames is_name x us t next is v h =
      suffix_valid (codes "++") tree.PostIncrement frames x us t next is (read_of frames is_name x us v)
      (λ back e d first. PostIncrement back (omega arith) first (t ∷ [], refl, (t, [], refl, is, refl)) d) (λ e. made_of_capped m.most (tree.PostIncrement x.line) e (omega arith)) h
  followed_valid follows.Decrement frames is_name x us t next is v h =
      suffix_valid (codes "--") tree.PostDecrement frames x us t next is (read_of frames is_name x us v)
      (λ back e d first. PostDecrement back (omega arith) first (t ∷ [], refl, (t, [], refl, is, refl)) d) (λ e. made_of_capped m.most (tree.PostDecrement x.line) e (omega arith)) h

  spelled_valid : (o : Option Follow) (bytes : List ℕ) (frames : Stack) (is_name : Bool) (x : Operand) (us : List Lexeme) (t : Lexeme) (next : State) → follow_spelled bytes ≡ o → kind_at t ≡ Punctuator bytes
      → Valid m (Has frames is_name x) us → followed m frames is_name x o ≡ Some next → Valid m next (us ++ t ∷ [])
  spelled_valid None bytes frames is_name x us t next found is v h = absurd cc
  spelled_valid (Some f) bytes frames is_name x us t next found is v h = followed_valid f frames is_name x us t next (is ∙ ap Punctuator (follow_token bytes f found)) v h

  having_valid : (kind : Kind) (frames : Stack) (is_name : Bool) (x : Operand) (us : List Lexeme) (t : Lexeme) (next : State) → kind_at t ≡ kind → Valid m (Has frames is_name x) us
      → step_having m frames is_name x kind ≡ Some next → Valid m next (us ++ t ∷ [])
  having_valid (Punctuator bytes) frames is_name x us t next is v h = spelled_valid (follow_spelled bytes) bytes frames is_name x us t next refl is v h
  having_valid (tokens.Word bytes) frames is_name x us t next is v h = absurd cc
  having_valid (tokens.Number type value) frames is_name x us t next is v h = absurd cc
  having_valid (tokens.Character byte) frames is_name x us t next is v h = absurd cc
  having_valid (tokens.Text bytes) frames is_name x us t next is v h = absurd cc
  having_valid (tokens.Directive words) frames is_name x us t next is v h = absurd cc

  -- ---- where an operand is wanted

  -- one token that is an operand
  token_read : (frames : Stack) (us : List Lexeme) (t : Lexeme) (e : Expression) → Holds m frames us → SpellsExpression m.scope 15 (t ∷ []) e → Read m frames (operand 15 (line_of t) (capped m.most e)) (us ++ t ∷ [])
  token_read frames us t e holds d = closed_read m low_level frames (us ++ t ∷ []) us (t ∷ []) (line_of t) (capped m.most e) e refl holds d refl refl

  pre_holds : (op : Prefix) (frames : Stack) (us : List Lexeme) (t : Lexeme) → kind_at t ≡ prefix_kind op → Holds m frames us → Holds m (Pre (line_of t) op ∷ frames) (us ++ t ∷ [])
  pre_holds op frames us t is holds = (us, t ∷ [], refl, holds, record { token = t; parts = refl; is = is; line_is = refl }, wanted_bound m low_level frames)

  -- a call without arguments
  empty_valid : (frames : Stack) (us : List Lexeme) (t : Lexeme) (next : State) → kind_at t ≡ Punctuator (codes ")") → Holds m frames us → led m frames (line_of t) (Some leads.Close) ≡ Some next → Valid m next (us ++ t ∷ [])
  empty_valid [] us t next is v h = absurd cc
  empty_valid (Passing line callee None ∷ frames) us t next is v h = absurd cc
  empty_valid (Passing line callee (Some (e ∷ es)) ∷ frames) us t next is v h = absurd cc
  empty_valid (Passing line callee (Some []) ∷ frames) us t next is v h =
      let same : Has frames false (operand 15 line (called m.most line callee (Some []))) ≡ next = cc in
      let p = v.4 in
      let none = p.spells.none (no_arguments_so m.most p.all (sym p.before_is)) in
      let ws = p.token ∷ p.first ∷ t ∷ [] in
      let parts : us ++ t ∷ [] ≡ v.0 ++ ws = ap (λ l. l ++ t ∷ []) (v.2 ∙ ap (λ l. v.0 ++ l) (p.parts ∙ ap (λ l. p.token ∷ p.first ∷ l) none)) ∙ append_assoc v.0 (p.token ∷ p.first ∷ []) (t ∷ []) in
      let made : called m.most line callee (Some []) ≡ capped m.most (tree.Call line p.name tree.End) =
      ap₂ (called m.most line) p.callee_is (sym (no_arguments m.most)) ∙ called_capped m.most line line p.name [] in
      subst (λ s. Valid m s (us ++ t ∷ [])) same
      (closed_read m low_level frames (us ++ t ∷ []) v.0 ws line (called m.most line callee (Some [])) (tree.Call line p.name tree.End) parts v.3
      (Call p.name [] (omega arith) p.line_is (p.token, p.first ∷ t ∷ [], refl, p.is, (p.first, t ∷ [], refl, p.opens, (t ∷ [], refl, (t, [], refl, is, refl)))) p.named (NoArguments refl)) made p.line_is)
  empty_valid (f ∷ frames) us t next is v h = absurd cc

  group_holds : (frames : Stack) (us : List Lexeme) (t : Lexeme) → kind_at t ≡ Punctuator (codes "(") → Holds m frames us → Holds m (Group (line_of t) ∷ frames) (us ++ t ∷ [])
  group_holds frames us t is holds = (us, t ∷ [], refl, holds, record { token = t; parts = refl; is = is; line_is = refl }, (let b = wanted_bound m low_level frames in omega arith))

  led_valid : (l : Lead) (bytes : List ℕ) (frames : Stack) (us : List Lexeme) (t : Lexeme) (next : State) → lead_spelled bytes ≡ Some l → kind_at t ≡ Punctuator bytes → Holds m frames us
      → led m frames (line_of t) (Some l) ≡ Some next → Valid m next (us ++ t ∷ [])
  led_valid (leads.Prefix prefixes.Sizeof) bytes frames us t next found is v h = absurd (lead_no_sizeof bytes found)
  led_valid (leads.Prefix prefixes.Increment) bytes frames us t next found is v h =
      let same : Wants (Pre (line_of t) prefixes.Increment ∷ frames) ≡ next = cc in
      subst (λ s. Valid m s (us ++ t ∷ [])) same (pre_holds prefixes.Increment frames us t (is ∙ ap Punctuator (lead_token bytes (leads.Prefix prefixes.Increment) found)) v)
  led_valid (leads.Prefix prefixes.Decrement) bytes frames us t next found is v h =
      let same : Wants (Pre (line_of t) prefixes.Decrement ∷ frames) ≡ next = cc in
      subst (λ s. Valid m s (us ++ t ∷ [])) same (pre_holds prefixes.Decrement frames us t (is ∙ ap Punctuator (lead_token bytes (leads.Prefix prefixes.Decrement) found)) v)
  led_valid (leads.Prefix (prefixes.Operator op)) bytes frames us t next found is v h =
      let same : Wants (Pre (line_of t) (prefixes.Operator op) ∷ frames) ≡ next = cc in
      subst (λ s. Valid m s (us ++ t ∷ [])) same (pre_holds (prefixes.Operator op) frames us t (is ∙ ap Punctuator (lead_token bytes (leads.Prefix (prefixes.Operator op)) found)) v)
  led_valid leads.Open bytes frames us t next found is v h =
      let same : Wants (Group (line_of t) ∷ frames) ≡ next = cc in
      subst (λ s. Valid m s (us ++ t ∷ [])) same (group_holds frames us t (is ∙ ap Punctuator (lead_token bytes leads.Open found)) v)
  led_valid leads.Close bytes frames us t next found is v h = empty_valid frames us t next (is ∙ ap Punctuator (lead_token bytes leads.Close found)) v h

  mark_valid : (o : Option Lead) (bytes : List ℕ) (frames : Stack) (us : List Lexeme) (t : Lexeme) (next : State) → lead_spelled bytes ≡ o → kind_at t ≡ Punctuator bytes → Holds m frames us
      → led m frames (line_of t) o ≡ Some next → Valid m next (us ++ t ∷ [])
  mark_valid None bytes frames us t next found is v h = absurd cc
  mark_valid (Some l) bytes frames us t next found is v h = led_valid l bytes frames us t next found is v h

  -- the first word of a type
  begun_valid : (o : Option Specifier) (bytes : List ℕ) (frames : Stack) (us : List Lexeme) (t : Lexeme) (next : State) → specifier_of m.scope bytes ≡ o → kind_at t ≡ Word bytes → Holds m frames us
      → begun m frames o ≡ Some next → Valid m next (us ++ t ∷ [])
  begun_valid (Some s) bytes (Group line ∷ frames) us t next found is v h =
      let f = from_if (takes_type m.level frames) (Types frames line (record { specifiers = s ∷ []; stars = [] })) next h in
      let g = specifier_token m.scope bytes s found in
      let o = v.4 in
      subst (λ z. Valid m z (us ++ t ∷ [])) f.1 (record {
        front = v.0;
        token = o.token;
        words = t ∷ [];
        parts = ap (λ l. l ++ t ∷ []) (v.2 ∙ ap (λ l. v.0 ++ l) o.parts) ∙ append_assoc v.0 (o.token ∷ []) (t ∷ []);
        holds = v.3;
        is = o.is;
        line_is = o.line_is;
        spells = record {
          front = t ∷ [];
          back = [];
          parts = ([], refl, refl);
          specifiers = record { some = omega arith; words = ap (λ k. k ∷ []) (is ∙ ap Word g.0); allowed = All-one m.scope s g.1 };
          stars = refl;
        };
        takes = f.0;
      })
  begun_valid None bytes frames us t next found is v h = absurd cc
  begun_valid (Some s) bytes [] us t next found is v h = absurd cc
  begun_valid (Some s) bytes (f ∷ frames) us t next found is v h = absurd cc

  named_valid : (b : Bool) (bytes : List ℕ) (frames : Stack) (us : List Lexeme) (t : Lexeme) (next : State) → is_keyword bytes ≡ b → kind_at t ≡ Word bytes → Holds m frames us
      → (if b then None else Some (Has frames true (operand 15 (line_of t) (capped m.most (tree.Name (line_of t) bytes))))) ≡ Some next → Valid m next (us ++ t ∷ [])
  named_valid true bytes frames us t next e is v h = absurd cc
  named_valid false bytes frames us t next e is v h =
      let same : Has frames true (operand 15 (line_of t) (capped m.most (tree.Name (line_of t) bytes))) ≡ next = cc in
      subst (λ s. Valid m s (us ++ t ∷ [])) same (
        token_read frames us t (tree.Name (line_of t) bytes) v (Name bytes refl (t, [], refl, is, refl) e),
        record { token = t; name = bytes; front = us; parts = refl; is = is; named = e; line_is = refl; node_is = refl },
        v,
      )

  keyed_valid : (b : Bool) (bytes : List ℕ) (frames : Stack) (us : List Lexeme) (t : Lexeme) (next : State) → kind_at t ≡ Word bytes → Holds m frames us
      → (if b then begun m frames (specifier_of m.scope bytes) else named m frames (line_of t) bytes) ≡ Some next → Valid m next (us ++ t ∷ [])
  keyed_valid true bytes frames us t next is v h = begun_valid (specifier_of m.scope bytes) bytes frames us t next refl is v h
  keyed_valid false bytes frames us t next is v h = named_valid (is_keyword bytes) bytes frames us t next refl is v h

  word_valid : (b : Bool) (bytes : List ℕ) (frames : Stack) (us : List Lexeme) (t : Lexeme) (next : State) → bytes_eq bytes (codes "sizeof") ≡ b → kind_at t ≡ Word bytes → Holds m frames us
      → (if b then Some (Wants (Pre (line_of t) prefixes.Sizeof ∷ frames)) else (if is_keyword bytes then begun m frames (specifier_of m.scope bytes) else named m frames (line_of t) bytes)) ≡ Some next
      → Valid m next (us ++ t ∷ [])
  word_valid true bytes frames us t next e is v h =
      let same : Wants (Pre (line_of t) prefixes.Sizeof ∷ frames) ≡ next = cc in
      subst (λ s. Valid m s (us ++ t ∷ [])) same (pre_holds prefixes.Sizeof frames us t (is ∙ ap Word ((bytes_eq-Decides bytes (codes "sizeof")).0 e)) v)
  word_valid false bytes frames us t next e is v h = keyed_valid (is_keyword bytes) bytes frames us t next is v h

  wanting_valid : (kind : Kind) (frames : Stack) (us : List Lexeme) (t : Lexeme) (next : State) → kind_at t ≡ kind → Holds m frames us → step_wanting m frames (line_of t) kind ≡ Some next → Valid m next (us ++ t ∷ [])
  wanting_valid (Punctuator bytes) frames us t next is v h = mark_valid (lead_spelled bytes) bytes frames us t next refl is v h
  wanting_valid (tokens.Word bytes) frames us t next is v h = word_valid (bytes_eq bytes (codes "sizeof")) bytes frames us t next refl is v h
  wanting_valid (tokens.Number type value) frames us t next is v h =
      let same : Has frames false (operand 15 (line_of t) (capped m.most (tree.Number (line_of t) type value))) ≡ next = cc in
      subst (λ s. Valid m s (us ++ t ∷ [])) same (token_read frames us t (tree.Number (line_of t) type value) v (Constant type value refl (t, [], refl, is, refl)))
  wanting_valid (tokens.Character byte) frames us t next is v h =
      let same : Has frames false (operand 15 (line_of t) (capped m.most (tree.Number (line_of t) types.Int byte))) ≡ next = cc in
      subst (λ s. Valid m s (us ++ t ∷ [])) same (token_read frames us t (tree.Number (line_of t) types.Int byte) v (Character byte refl (t, [], refl, is, refl)))
  wanting_valid (tokens.Text bytes) frames us t next is v h =
      let same : Has frames false (operand 15 (line_of t) (capped m.most (tree.Text (line_of t) bytes))) ≡ next = cc in
      subst (λ s. Valid m s (us ++ t ∷ [])) same (token_read frames us t (tree.Text (line_of t) bytes) v (String bytes refl (t, [], refl, is, refl)))
  wanting_valid (tokens.Directive words) frames us t next is v h = absurd cc

  -- ---- in a type

  cast_valid : (frames : Stack) (line : ℕ) (type : TypeName) (us : List Lexeme) (t : Lexeme) → kind_at t ≡ Punctuator (codes ")") → wanted m.level frames ≤ 13 → IsTyped m frames line type us
      → Holds m (Casting line type ∷ frames) (us ++ t ∷ [])
  cast_valid frames line type us t is low v = (
    v.front,
    v.token ∷ (v.words ++ t ∷ []),
    ap (λ l. l ++ t ∷ []) v.parts ∙ append_assoc v.front (v.token ∷ v.words) (t ∷ []),
    v.holds,
    record { first = v.token; words = v.words; last = t; parts = refl; is = v.is; line_is = v.line_is; spells = v.spells; ends = is },
    low,
  )

  ended_valid : (frames : Stack) (line : ℕ) (type : TypeName) (us : List Lexeme) (t : Lexeme) → kind_at t ≡ Punctuator (codes ")") → IsTyped m frames line type us → Valid m (ended m frames line type) (us ++ t ∷ [])
  ended_valid [] line type us t is v = cast_valid [] line type us t is (omega arith) v
  ended_valid (Pre first prefixes.Sizeof ∷ frames) line type us t is v =
      let hold = v.holds in
      let w = hold.4 in
      let ws = w.token ∷ v.token ∷ (v.words ++ t ∷ []) in
      let parts : us ++ t ∷ [] ≡ hold.0 ++ ws =
      ap (λ l. l ++ t ∷ []) (v.parts ∙ ap (λ l. l ++ v.token ∷ v.words) (hold.2 ∙ ap (λ l. hold.0 ++ l) w.parts) ∙ append_assoc hold.0 (w.token ∷ []) (v.token ∷ v.words))
      ∙ append_assoc hold.0 (w.token ∷ v.token ∷ v.words) (t ∷ []) in
      let b = wanted_bound m low_level frames in
      record {
        front = hold.0;
        back = ws;
        tree = tree.SizeofType first type;
        parts = parts;
        holds = hold.3;
        spells = SizeofType type v.words (omega arith) w.line_is (w.token, v.token ∷ (v.words ++ t ∷ []), refl, w.is, (v.token, v.words ++ t ∷ [], refl, v.is, (t ∷ [], refl, (t, [], refl, is, refl)))) v.spells;
        node_is = refl;
        line_is = w.line_is;
        wants = b;
        most_is = omega arith;
      }
  ended_valid (Pre first prefixes.Increment ∷ frames) line type us t is v = absurd (let k = leb-true 14 13 v.takes in omega arith)
  ended_valid (Pre first prefixes.Decrement ∷ frames) line type us t is v = absurd (let k = leb-true 14 13 v.takes in omega arith)
  ended_valid (Pre first (prefixes.Operator op) ∷ frames) line type us t is v = cast_valid (Pre first (prefixes.Operator op) ∷ frames) line type us t is (omega arith) v
  ended_valid (f ∷ frames) line type us t is v = cast_valid (f ∷ frames) line type us t is (leb-true (wanted m.level (f ∷ frames)) 13 v.takes) v

  type_word_valid : (stars : Stars) (frames : Stack) (line : ℕ) (type : TypeName) (us : List Lexeme) (t : Lexeme) (bytes : List ℕ) (next : State) → kind_at t ≡ Word bytes → type.stars ≡ stars → IsTyped m frames line type us
      → type_word m frames line type stars bytes ≡ Some next → Valid m next (us ++ t ∷ [])
  type_word_valid [] frames line type us t bytes next is none v h =
      let c = from_chain (λ s. Types frames line (with_specifier type s)) (specifier_of m.scope bytes) next h in
      let g = specifier_token m.scope bytes c.0 c.1 in
      let s = v.spells in
      let no_back : s.back ≡ [] = none_left s.back (s.stars ∙ ap stars_kinds none) in
      let whole : v.words ≡ s.front = s.parts.1 ∙ ap (λ l. s.front ++ l) (s.parts.2 ∙ no_back) ∙ append-nil s.front in
      subst (λ z. Valid m z (us ++ t ∷ [])) c.2 (record {
        front = v.front;
        token = v.token;
        words = v.words ++ t ∷ [];
        parts = ap (λ l. l ++ t ∷ []) v.parts ∙ append_assoc v.front (v.token ∷ v.words) (t ∷ []);
        holds = v.holds;
        is = v.is;
        line_is = v.line_is;
        spells = record {
          front = v.words ++ t ∷ [];
          back = [];
          parts = ([], sym (append-nil (v.words ++ t ∷ [])), refl);
          specifiers = record {
            some = longer type.specifiers c.0;
            words = map-append kind_at v.words (t ∷ []) ∙ ap₂ (λ a b. a ++ b ∷ []) (ap kinds whole ∙ s.specifiers.words) (is ∙ ap Word g.0) ∙ sym (map-append specifier_kind type.specifiers (c.0 ∷ []));
            allowed = All-append (IsAllowed m.scope) type.specifiers (c.0 ∷ []) s.specifiers.allowed (All-one m.scope c.0 g.1);
          };
          stars = sym (ap stars_kinds none);
        };
        takes = v.takes;
      })
    where
      longer : (l : List Specifier) (x : Specifier) → 0 < length (l ++ x ∷ [])
      longer [] x = omega arith
      longer (y ∷ l) x = omega arith
  type_word_valid (star ∷ stars) frames line type us t bytes next is some v h =
      let c = from_chain (λ q. Types frames line (with_qualifier type q)) (qualifier_spelled bytes) next h in
      let text = qualifier_token bytes c.0 c.1 in
      let s = v.spells in
      subst (λ z. Valid m z (us ++ t ∷ [])) c.2 (record {
        front = v.front;
        token = v.token;
        words = v.words ++ t ∷ [];
        parts = ap (λ l. l ++ t ∷ []) v.parts ∙ append_assoc v.front (v.token ∷ v.words) (t ∷ []);
        holds = v.holds;
        is = v.is;
        line_is = v.line_is;
        spells = record {
          front = s.front;
          back = s.back ++ t ∷ [];
          parts = (s.back ++ t ∷ [], ap (λ l. l ++ t ∷ []) (s.parts.1 ∙ ap (λ l. s.front ++ l) s.parts.2) ∙ append_assoc s.front s.back (t ∷ []), refl);
          specifiers = s.specifiers;
          stars = map-append kind_at s.back (t ∷ []) ∙ ap₂ (λ a b. a ++ b ∷ []) s.stars (is ∙ ap Word text) ∙ sym (stars_at_last type.stars c.0 (let l = ap length some in omega arith));
        };
        takes = v.takes;
      })

  close_valid : (b : Bool) (bytes : List ℕ) (frames : Stack) (line : ℕ) (type : TypeName) (us : List Lexeme) (t : Lexeme) (next : State) → bytes_eq bytes (codes ")") ≡ b → kind_at t ≡ Punctuator bytes
      → IsTyped m frames line type us → (if b then Some (ended m frames line type) else None) ≡ Some next → Valid m next (us ++ t ∷ [])
  close_valid true bytes frames line type us t next e is v h =
      let same : ended m frames line type ≡ next = cc in
      subst (λ s. Valid m s (us ++ t ∷ [])) same (ended_valid frames line type us t (is ∙ ap Punctuator ((bytes_eq-Decides bytes (codes ")")).0 e)) v)
  close_valid false bytes frames line type us t next e is v h = absurd cc

  type_mark_valid : (b : Bool) (bytes : List ℕ) (frames : Stack) (line : ℕ) (type : TypeName) (us : List Lexeme) (t : Lexeme) (next : State) → bytes_eq bytes (codes "*") ≡ b → kind_at t ≡ Punctuator bytes
      → IsTyped m frames line type us → (if b then Some (Types frames line (with_star type)) else (if bytes_eq bytes (codes ")") then Some (ended m frames line type) else None)) ≡ Some next → Valid m next (us ++ t ∷ [])
  type_mark_valid true bytes frames line type us t next e is v h =
      let same : Types frames line (with_star type) ≡ next = cc in
      let s = v.spells in
      subst (λ z. Valid m z (us ++ t ∷ [])) same (record {
        front = v.front;
        token = v.token;
        words = v.words ++ t ∷ [];
        parts = ap (λ l. l ++ t ∷ []) v.parts ∙ append_assoc v.front (v.token ∷ v.words) (t ∷ []);
        holds = v.holds;
        is = v.is;
        line_is = v.line_is;
        spells = record {
          front = s.front;
          back = s.back ++ t ∷ [];
          parts = (s.back ++ t ∷ [], ap (λ l. l ++ t ∷ []) (s.parts.1 ∙ ap (λ l. s.front ++ l) s.parts.2) ∙ append_assoc s.front s.back (t ∷ []), refl);
          specifiers = s.specifiers;
          stars = map-append kind_at s.back (t ∷ []) ∙ ap₂ (λ a b. a ++ b ∷ []) s.stars (is ∙ ap Punctuator ((bytes_eq-Decides bytes (codes "*")).0 e)) ∙ sym (stars_with_star type.stars);
        };
        takes = v.takes;
      })
  type_mark_valid false bytes frames line type us t next e is v h = close_valid (bytes_eq bytes (codes ")")) bytes frames line type us t next refl is v h

  typed_valid : (kind : Kind) (frames : Stack) (line : ℕ) (type : TypeName) (us : List Lexeme) (t : Lexeme) (next : State) → kind_at t ≡ kind → IsTyped m frames line type us
      → step_type m frames line type kind ≡ Some next → Valid m next (us ++ t ∷ [])
  typed_valid (Punctuator bytes) frames line type us t next is v h = type_mark_valid (bytes_eq bytes (codes "*")) bytes frames line type us t next refl is v h
  typed_valid (tokens.Word bytes) frames line type us t next is v h = type_word_valid type.stars frames line type us t bytes next is refl v h
  typed_valid (tokens.Number kind value) frames line type us t next is v h = absurd cc
  typed_valid (tokens.Character byte) frames line type us t next is v h = absurd cc
  typed_valid (tokens.Text bytes) frames line type us t next is v h = absurd cc
  typed_valid (tokens.Directive words) frames line type us t next is v h = absurd cc

  -- ---- all

  step_valid : (s : State) (us : List Lexeme) (t : Lexeme) (next : State) → Valid m s us → step m s t ≡ Some next → Valid m next (us ++ t ∷ [])
  step_valid (Wants frames) us (At kind line place end) next v h = wanting_valid kind frames us (At kind line place end) next refl v h
  step_valid (Has frames is_name x) us (At kind line place end) next v h = having_valid kind frames is_name x us (At kind line place end) next refl v h
  step_valid (Types frames line type) us (At kind other place end) next v h = typed_valid kind frames line type us (At kind other place end) next refl v h

  pub run_valid : (s : State) (us ts : List Lexeme) (last : State) → Valid m s us → run m s ts ≡ Some last → Valid m last (us ++ ts)
  run_valid s us [] last v h = let same : s ≡ last = cc in subst (λ z. Valid m z (us ++ [])) same (subst (Valid m s) (sym (append-nil us)) v)
  run_valid s us (t ∷ ts) last v h = by (step m s t) refl h (λ next w k. run_valid next (us ++ t ∷ []) ts last w k)
    where
      by : (o : Option State) → step m s t ≡ o → option_and_then (λ n. run m n ts) o ≡ Some last → ((next : State) → Valid m next (us ++ t ∷ []) → run m next ts ≡ Some last → Valid m last ((us ++ t ∷ []) ++ ts))
          → Valid m last (us ++ t ∷ ts)
      by None e k later = absurd cc
      by (Some next) e k later = subst (Valid m last) (append_assoc us (t ∷ []) ts) (later next (step_valid s us t next v e) k)
