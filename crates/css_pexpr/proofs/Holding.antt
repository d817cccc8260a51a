-- What frames and states hold: the tokens that were read, and what they spell.
use Rattle.std.proofs.Common.{◌≡◌, ℕ, ◌+◌, ◌<◌, ◌≤◌, Bool, true, false, List, [], ◌∷◌, ◌++◌, codes, Option, Some, None, refl, sym, ap, ◌∙◌, subst, arith, append_assoc, append-nil, le_trans}
use Rattle.css_base.specs.Tokens.{Kind, Word, Punctuator, Lexeme}
use Rattle.css_tree.specs.declared.scope.Scope.{Scope}
use Rattle.css_tree.specs.Syntax as tree
use Rattle.css_tree.specs.Syntax.{TypeName, Expression, Expressions, End, More}
use Rattle.css_tree.specs.TokenParts.{kind_at, line_of, first_line}
use Rattle.css_tree.specs.Words.{IsName, SpellsTypeName}
use Rattle.css_tree.specs.Expressions.{level_of, binary_text, assign_text, unary_text, SpellsExpression, Comma, Assign, Conditional, Binary, Cast, PreIncrement, PreDecrement, Unary, SizeofExpression, SizeofType, Index, PostIncrement, PostDecrement, Call, Name, Constant, Character, String, Parentheses, SpellsArguments, SpellsFurther}
use Rattle.css_pexpr.specs.declared.prefix.Prefix.{Prefix}
use Rattle.css_pexpr.specs.declared.prefix.Prefix.TheVariants as prefixes
use Rattle.css_pexpr.specs.Signs.{prefix_text}
use Rattle.css_pexpr.specs.Frames.{Node, capped, made_of, made_of_two, Operand, operand, Frame, Pre, Casting, Infix, Otherwise, Assigning, Sequence, Group, Element, Question, Passing, Stack, is_open, frame_level, frame_line, frame_node, operand_level, wanted, applied, prefixed, reduce}
use Rattle.css_pexpr.specs.declared.manner.Manner.{Manner}
use Rattle.css_pexpr.specs.Reading.{State, Wants, Has, Types, takes_type, run}
use Rattle.css_pexpr.proofs.Caps.{made_of_capped, made_of_two_capped, made_of_three_capped, capped_list, prepend}
use Rattle.css_pexpr.proofs.Runs.{first_stays, operand_level_bounds, level_bounds}
use Rattle.css_pexpr.proofs.Reached.{Reached}
use Rattle.css_pexpr.proofs.Completeness.{complete}

-- what a level spells, looser levels spell
pub looser : {scope : Scope} {n k : ℕ} {ts : List Lexeme} {e : Expression} → k ≤ n → SpellsExpression scope n ts e → SpellsExpression scope k ts e
looser low (Comma us vs l line are x y) = Comma us vs (le_trans low l) line are x y
looser low (Assign op us vs l line are x y) = Assign op us vs (le_trans low l) line are x y
looser low (Conditional us vs ws l line are x y z) = Conditional us vs ws (le_trans low l) line are x y z
looser low (Binary op us vs l line are x y) = Binary op us vs (le_trans low l) line are x y
looser low (Cast type us vs l line are t x) = Cast type us vs (le_trans low l) line are t x
looser low (PreIncrement us l line are x) = PreIncrement us (le_trans low l) line are x
looser low (PreDecrement us l line are x) = PreDecrement us (le_trans low l) line are x
looser low (Unary op us l line are x) = Unary op us (le_trans low l) line are x
looser low (SizeofExpression us l line are x) = SizeofExpression us (le_trans low l) line are x
looser low (SizeofType type us l line are t) = SizeofType type us (le_trans low l) line are t
looser low (Index us vs l line are x y) = Index us vs (le_trans low l) line are x y
looser low (PostIncrement us l line are x) = PostIncrement us (le_trans low l) line are x
looser low (PostDecrement us l line are x) = PostDecrement us (le_trans low l) line are x
looser low (Call name us l line are n all) = Call name us (le_trans low l) line are n all
looser low (Name name line are n) = Name name line are n
looser low (Constant type value line are) = Constant type value line are
looser low (Character byte line are) = Character byte line are
looser low (String bytes line are) = String bytes line are
looser low (Parentheses us are x) = Parentheses us are x

-- the token of an operator before its operand
abbrev pub prefix_kind : Prefix → Kind
prefix_kind prefixes.Sizeof = Word (codes "sizeof")
prefix_kind op = Punctuator (prefix_text op)

module _ (m : Manner) where
  -- ---- parts of frames

  -- a left operand of a level, which a token follows
  pub record Left (k : ℕ) (text : List ℕ) (line : ℕ) (node : Node) (ws : List Lexeme) : Type 0 where
    pub tree : Expression
    pub front : List Lexeme
    pub token : Lexeme
    pub parts : ws ≡ front ++ token ∷ []
    pub is : kind_at token ≡ Punctuator text
    pub spells : SpellsExpression m.scope k front tree
    pub node_is : node ≡ capped m.most tree
    pub line_is : first_line front ≡ line

  -- a token of a line
  pub record Token (kind : Kind) (line : ℕ) (ws : List Lexeme) : Type 0 where
    pub token : Lexeme
    pub parts : ws ≡ token ∷ []
    pub is : kind_at token ≡ kind
    pub line_is : line_of token ≡ line

  pub record InParentheses (line : ℕ) (type : TypeName) (ws : List Lexeme) : Type 0 where
    pub first : Lexeme
    pub words : List Lexeme
    pub last : Lexeme
    pub parts : ws ≡ first ∷ (words ++ last ∷ [])
    pub is : kind_at first ≡ Punctuator (codes "(")
    pub line_is : line_of first ≡ line
    pub spells : SpellsTypeName m.scope words type
    pub ends : kind_at last ≡ Punctuator (codes ")")

  pub record Chosen (line : ℕ) (condition first : Node) (ws : List Lexeme) : Type 0 where
    pub front : List Lexeme
    pub back : List Lexeme
    pub parts : ws ≡ front ++ back
    pub asks : Left 3 (codes "?") line condition front
    pub gives : Expression
    pub middle : List Lexeme
    pub colon : Lexeme
    pub back_parts : back ≡ middle ++ colon ∷ []
    pub is : kind_at colon ≡ Punctuator (codes ":")
    pub spells : SpellsExpression m.scope 0 middle gives
    pub node_is : first ≡ capped m.most gives

  -- arguments with a comma behind each
  pub record Before (us : List Lexeme) (es : List Expression) : Type 0 where
    pub none : es ≡ [] → us ≡ []
    pub goes_on : (vs : List Lexeme) (e : Expression) (tail : List Lexeme) (others : Expressions) → SpellsExpression m.scope 1 vs e → SpellsFurther m.scope tail others
        → SpellsArguments m.scope (us ++ (vs ++ tail)) (prepend es (More e others))

  pub record Passes (line : ℕ) (callee : Node) (before : Option (List Expression)) (ws : List Lexeme) : Type 0 where
    pub token : Lexeme
    pub first : Lexeme
    pub us : List Lexeme
    pub name : List ℕ
    pub all : List Expression
    pub parts : ws ≡ token ∷ first ∷ us
    pub is : kind_at token ≡ Word name
    pub named : IsName name
    pub opens : kind_at first ≡ Punctuator (codes "(")
    pub line_is : line_of token ≡ line
    pub callee_is : callee ≡ capped m.most (tree.Name line name)
    pub before_is : before ≡ capped_list m.most all
    pub spells : Before us all

  -- ---- frames

  abbrev pub FrameHolds : Frame → List Lexeme → Type 0
  FrameHolds (Pre line op) ws = Token (prefix_kind op) line ws
  FrameHolds (Casting line type) ws = InParentheses line type ws
  FrameHolds (Infix line left op) ws = Left (level_of op) (binary_text op) line left ws
  FrameHolds (Otherwise line condition first) ws = Chosen line condition first ws
  FrameHolds (Assigning line place op) ws = Left 14 (assign_text op) line place ws
  FrameHolds (Sequence line left) ws = Left 0 (codes ",") line left ws
  FrameHolds (Group line) ws = Token (Punctuator (codes "(")) line ws
  FrameHolds (Element line array) ws = Left 15 (codes "[") line array ws
  FrameHolds (Question line condition) ws = Left 3 (codes "?") line condition ws
  FrameHolds (Passing line callee before) ws = Passes line callee before ws

  -- the tokens up to a place, frame by frame
  abbrev pub Holds : Stack → List Lexeme → Type 0
  Holds [] us = us ≡ []
  Holds (f ∷ frames) us = (vs : List Lexeme) × (ws : List Lexeme) × (us ≡ vs ++ ws) × Holds frames vs × FrameHolds f ws × (wanted m.level frames ≤ frame_level f)

  -- an operand behind frames
  pub record Read (frames : Stack) (x : Operand) (us : List Lexeme) : Type 0 where
    pub front : List Lexeme
    pub back : List Lexeme
    pub tree : Expression
    pub parts : us ≡ front ++ back
    pub holds : Holds frames front
    pub spells : SpellsExpression m.scope x.level back tree
    pub node_is : x.node ≡ capped m.most tree
    pub line_is : first_line back ≡ x.line
    pub wants : wanted m.level frames ≤ x.level
    pub most_is : x.level ≤ 15

  -- a name alone
  pub record IsNamed (x : Operand) (us : List Lexeme) : Type 0 where
    pub token : Lexeme
    pub name : List ℕ
    pub front : List Lexeme
    pub parts : us ≡ front ++ token ∷ []
    pub is : kind_at token ≡ Word name
    pub named : IsName name
    pub line_is : line_of token ≡ x.line
    pub node_is : x.node ≡ capped m.most (tree.Name x.line name)

  pub record IsTyped (frames : Stack) (line : ℕ) (type : TypeName) (us : List Lexeme) : Type 0 where
    pub front : List Lexeme
    pub token : Lexeme
    pub words : List Lexeme
    pub parts : us ≡ front ++ token ∷ words
    pub holds : Holds frames front
    pub is : kind_at token ≡ Punctuator (codes "(")
    pub line_is : line_of token ≡ line
    pub spells : SpellsTypeName m.scope words type
    pub takes : takes_type m.level frames ≡ true

  abbrev pub Valid : State → List Lexeme → Type 0
  Valid (Wants frames) us = Holds frames us
  Valid (Has frames true x) us = Read frames x us × (named : IsNamed x us) × Holds frames named.front
  Valid (Has frames false x) us = Read frames x us
  Valid (Types frames line type) us = IsTyped frames line type us

  -- ---- a frame and its operand

  pub spelled_first : {k : ℕ} {us : List Lexeme} {e : Expression} (vs : List Lexeme) → k ≤ 15 → SpellsExpression m.scope k us e → first_line (us ++ vs) ≡ first_line us
  spelled_first {us = us} vs low x =
      let r = complete m x low (Group 0 ∷ []) (omega arith) in
      first_stays m (Group 0 ∷ []) r.stack r.is_name r.x us vs r.runs

  pub record Makes (f : Frame) (ws vs : List Lexeme) (e : Expression) : Type 0 where
    pub whole : Expression
    pub spells : SpellsExpression m.scope (frame_level f) (ws ++ vs) whole
    pub node_is : frame_node m.most f (capped m.most e) ≡ capped m.most whole
    pub line_is : first_line (ws ++ vs) ≡ frame_line f

  left_makes : (k : ℕ) (text : List ℕ) (line : ℕ) (x : Node) (ws vs : List Lexeme) → k ≤ 15 → (l : Left k text line x ws)
      → (ws ++ vs ≡ l.front ++ l.token ∷ vs) × (first_line (ws ++ vs) ≡ line)
  left_makes k text line x ws vs low l =
      let parts : ws ++ vs ≡ l.front ++ l.token ∷ vs = ap (λ z. z ++ vs) l.parts ∙ append_assoc l.front (l.token ∷ []) vs in
      (parts, ap first_line parts ∙ spelled_first (l.token ∷ vs) low l.spells ∙ l.line_is)

  prefix_makes : (op : Prefix) (line : ℕ) (ws vs : List Lexeme) (e : Expression) → Token (prefix_kind op) line ws → SpellsExpression m.scope (operand_level op) vs e
      → SpellsExpression m.scope 14 (ws ++ vs) (prefixed op line e)
  prefix_makes prefixes.Increment line ws vs e t x = PreIncrement vs (omega arith) (ap (λ z. first_line (z ++ vs)) t.parts ∙ t.line_is) (t.token, vs, ap (λ z. z ++ vs) t.parts, t.is, refl) x
  prefix_makes prefixes.Decrement line ws vs e t x = PreDecrement vs (omega arith) (ap (λ z. first_line (z ++ vs)) t.parts ∙ t.line_is) (t.token, vs, ap (λ z. z ++ vs) t.parts, t.is, refl) x
  prefix_makes prefixes.Sizeof line ws vs e t x = SizeofExpression vs (omega arith) (ap (λ z. first_line (z ++ vs)) t.parts ∙ t.line_is) (t.token, vs, ap (λ z. z ++ vs) t.parts, t.is, refl) x
  prefix_makes (prefixes.Operator op) line ws vs e t x = Unary op vs (omega arith) (ap (λ z. first_line (z ++ vs)) t.parts ∙ t.line_is) (t.token, vs, ap (λ z. z ++ vs) t.parts, t.is, refl) x

  prefix_node : (op : Prefix) (line : ℕ) (e : Expression) → made_of m.most (prefixed op line) (capped m.most e) ≡ capped m.most (prefixed op line e)
  prefix_node prefixes.Increment line e = made_of_capped m.most (prefixed prefixes.Increment line) e (omega arith)
  prefix_node prefixes.Decrement line e = made_of_capped m.most (prefixed prefixes.Decrement line) e (omega arith)
  prefix_node prefixes.Sizeof line e = made_of_capped m.most (prefixed prefixes.Sizeof line) e (omega arith)
  prefix_node (prefixes.Operator op) line e = made_of_capped m.most (prefixed (prefixes.Operator op) line) e (omega arith)

  pub makes : (f : Frame) (level : ℕ) (ws vs : List Lexeme) (e : Expression) → is_open f ≡ false → FrameHolds f ws → SpellsExpression m.scope (wanted level (f ∷ [])) vs e → Makes f ws vs e
  makes (Pre line op) level ws vs e closed t x = record {
    whole = prefixed op line e;
    spells = prefix_makes op line ws vs e t x;
    node_is = prefix_node op line e;
    line_is = ap (λ z. first_line (z ++ vs)) t.parts ∙ t.line_is;
  }
  makes (Casting line type) level ws vs e closed c x =
      let parts : ws ++ vs ≡ c.first ∷ (c.words ++ c.last ∷ vs) = ap (λ z. z ++ vs) c.parts ∙ ap (λ z. c.first ∷ z) (append_assoc c.words (c.last ∷ []) vs) in
      let first = ap first_line parts ∙ c.line_is in
      record {
        whole = tree.Cast line type e;
        spells = Cast type c.words vs (omega arith) first (c.first, c.words ++ c.last ∷ vs, parts, c.is, (c.last ∷ vs, refl, (c.last, vs, refl, c.ends, refl))) c.spells x;
        node_is = made_of_capped m.most (tree.Cast line type) e (omega arith);
        line_is = first;
      }
  makes (Infix line left op) level ws vs e closed l x =
      let bounds = level_bounds op in
      let p = left_makes (level_of op) (binary_text op) line left ws vs (omega arith) l in
      record {
        whole = tree.Binary line l.tree op e;
        spells = Binary op l.front vs (omega arith) p.1 (l.token ∷ vs, p.0, (l.token, vs, refl, l.is, refl)) l.spells x;
        node_is = ap (λ n. made_of_two m.most (λ a b. tree.Binary line a op b) n (capped m.most e)) l.node_is ∙ made_of_two_capped m.most (λ a b. tree.Binary line a op b) l.tree e (omega arith) (omega arith);
        line_is = p.1;
      }
  makes (Assigning line place op) level ws vs e closed l x =
      let p = left_makes 14 (assign_text op) line place ws vs (omega arith) l in
      record {
        whole = tree.Assign line l.tree op e;
        spells = Assign op l.front vs (omega arith) p.1 (l.token ∷ vs, p.0, (l.token, vs, refl, l.is, refl)) l.spells x;
        node_is = ap (λ n. made_of_two m.most (λ a b. tree.Assign line a op b) n (capped m.most e)) l.node_is ∙ made_of_two_capped m.most (λ a b. tree.Assign line a op b) l.tree e (omega arith) (omega arith);
        line_is = p.1;
      }
  makes (Sequence line left) level ws vs e closed l x =
      let p = left_makes 0 (codes ",") line left ws vs (omega arith) l in
      record {
        whole = tree.Comma line l.tree e;
        spells = Comma l.front vs (omega arith) p.1 (l.token ∷ vs, p.0, (l.token, vs, refl, l.is, refl)) l.spells x;
        node_is = ap (λ n. made_of_two m.most (tree.Comma line) n (capped m.most e)) l.node_is ∙ made_of_two_capped m.most (tree.Comma line) l.tree e (omega arith) (omega arith);
        line_is = p.1;
      }
  makes (Otherwise line condition first) level ws vs e closed c x =
      let l = c.asks in
      let p = left_makes 3 (codes "?") line condition c.front (c.back ++ vs) (omega arith) l in
      let parts : ws ++ vs ≡ l.front ++ l.token ∷ (c.back ++ vs) = ap (λ z. z ++ vs) c.parts ∙ append_assoc c.front c.back vs ∙ p.0 in
      let back : c.back ++ vs ≡ c.middle ++ c.colon ∷ vs = ap (λ z. z ++ vs) c.back_parts ∙ append_assoc c.middle (c.colon ∷ []) vs in
      let first : first_line (ws ++ vs) ≡ line = ap first_line (ap (λ z. z ++ vs) c.parts ∙ append_assoc c.front c.back vs) ∙ p.1 in
      record {
        whole = tree.Conditional line l.tree c.gives e;
        spells = Conditional l.front c.middle vs (omega arith) first (l.token ∷ (c.back ++ vs), parts, (l.token, c.back ++ vs, refl, l.is, (c.colon ∷ vs, back, (c.colon, vs, refl, c.is, refl)))) l.spells c.spells x;
        node_is = three l.tree c.gives l.node_is c.node_is ∙ made_of_three_capped m.most (tree.Conditional line) l.tree c.gives e (omega arith) (omega arith) (omega arith);
        line_is = first;
      }
    where
      three : {p q : Node} (a b : Expression) → p ≡ capped m.most a → q ≡ capped m.most b → frame_node m.most (Otherwise line p q) (capped m.most e) ≡ frame_node m.most (Otherwise line (capped m.most a) (capped m.most b)) (capped m.most e)
      three {p} {q} a b h k = ap (λ z. frame_node m.most (Otherwise line z q) (capped m.most e)) h ∙ ap (λ z. frame_node m.most (Otherwise line (capped m.most a) z) (capped m.most e)) k
  makes (Group line) level ws vs e closed l x = absurd cc
  makes (Element line array) level ws vs e closed l x = absurd cc
  makes (Question line condition) level ws vs e closed l x = absurd cc
  makes (Passing line callee before) level ws vs e closed l x = absurd cc
