-- Brackets are balanced in what is spelled.
use Rattle.std.proofs.Common.{◌≡◌, ℕ, ◌+◌, ◌-◌, List, [], ◌∷◌, ◌++◌, map, fold, codes, refl, sym, ap, ◌∙◌, subst, arith, append_assoc}
use Rattle.css_base.specs.declared.int_type.IntType.{IntType}
use Rattle.css_base.specs.Tokens as tokens
use Rattle.css_base.specs.Tokens.{Kind, Word, Punctuator, Lexeme}
use Rattle.css_tree.specs.declared.scope.Scope.{Scope}
use Rattle.css_tree.specs.declared.words.Specifier.{Specifier}
use Rattle.css_tree.specs.declared.words.Qualifier.{Qualifier}
use Rattle.css_tree.specs.declared.operators.UnaryOperator.{UnaryOperator}
use Rattle.css_tree.specs.declared.operators.UnaryOperator.TheVariants as unaries
use Rattle.css_tree.specs.declared.operators.BinaryOperator.{BinaryOperator}
use Rattle.css_tree.specs.declared.operators.BinaryOperator.TheVariants as binaries
use Rattle.css_tree.specs.declared.operators.AssignOperator.{AssignOperator}
use Rattle.css_tree.specs.declared.operators.AssignOperator.TheVariants as assignments
use Rattle.css_tree.specs.Syntax.{Stars, TypeName, Expression, Expressions}
use Rattle.css_tree.specs.TokenParts.{kind_at, kinds}
use Rattle.css_tree.specs.Words.{specifier_kind, qualifier_kind, stars_kinds, SpellsTypeName}
use Rattle.css_tree.specs.Expressions.{binary_text, assign_text, unary_text, SpellsExpression, Comma, Assign, Conditional, Binary, Cast, PreIncrement, PreDecrement, Unary, SizeofExpression, SizeofType, Index, PostIncrement, PostDecrement, Call, Name, Constant, Character, String, Parentheses, SpellsArguments, NoArguments, Arguments, SpellsFurther, NoFurther, Further}
use Rattle.css_tree.specs.Brackets.{open_behind, left_open, IsBalanced}
use Rattle.css_pexpr.proofs.Completeness.{parted, led_by, alone}

left_open-append : (n : ℕ) (us vs : List Lexeme) → left_open n (us ++ vs) ≡ left_open (left_open n us) vs
left_open-append n [] vs = refl
left_open-append n (t ∷ us) vs = left_open-append (open_behind n (kind_at t)) us vs

-- ---- kinds that are no brackets

KeepsOpen : Kind → Type 0
KeepsOpen kind = (n : ℕ) → open_behind n kind ≡ n

word_plain : (bytes : List ℕ) → KeepsOpen (Word bytes)
unfolding KeepsOpen open_behind
word_plain bytes n = refl

number_plain : (type : IntType) (value : ℕ) → KeepsOpen (tokens.Number type value)
unfolding KeepsOpen open_behind
number_plain type value n = refl

character_plain : (byte : ℕ) → KeepsOpen (tokens.Character byte)
unfolding KeepsOpen open_behind
character_plain byte n = refl

text_plain : (bytes : List ℕ) → KeepsOpen (tokens.Text bytes)
unfolding KeepsOpen open_behind
text_plain bytes n = refl

comma_plain : KeepsOpen (Punctuator (codes ","))
unfolding KeepsOpen open_behind
comma_plain n = refl

question_plain : KeepsOpen (Punctuator (codes "?"))
unfolding KeepsOpen open_behind
question_plain n = refl

colon_plain : KeepsOpen (Punctuator (codes ":"))
unfolding KeepsOpen open_behind
colon_plain n = refl

increment_plain : KeepsOpen (Punctuator (codes "++"))
unfolding KeepsOpen open_behind
increment_plain n = refl

decrement_plain : KeepsOpen (Punctuator (codes "--"))
unfolding KeepsOpen open_behind
decrement_plain n = refl

binary_plain : (op : BinaryOperator) → KeepsOpen (Punctuator (binary_text op))
unfolding KeepsOpen open_behind
binary_plain binaries.Multiply n = refl
binary_plain binaries.Divide n = refl
binary_plain binaries.Remainder n = refl
binary_plain binaries.Add n = refl
binary_plain binaries.Subtract n = refl
binary_plain binaries.ShiftLeft n = refl
binary_plain binaries.ShiftRight n = refl
binary_plain binaries.Less n = refl
binary_plain binaries.Greater n = refl
binary_plain binaries.LessOrEqual n = refl
binary_plain binaries.GreaterOrEqual n = refl
binary_plain binaries.Equal n = refl
binary_plain binaries.NotEqual n = refl
binary_plain binaries.BitAnd n = refl
binary_plain binaries.BitXor n = refl
binary_plain binaries.BitOr n = refl
binary_plain binaries.And n = refl
binary_plain binaries.Or n = refl

assign_plain : (op : AssignOperator) → KeepsOpen (Punctuator (assign_text op))
unfolding KeepsOpen open_behind
assign_plain assignments.Assign n = refl
assign_plain assignments.Multiply n = refl
assign_plain assignments.Divide n = refl
assign_plain assignments.Remainder n = refl
assign_plain assignments.Add n = refl
assign_plain assignments.Subtract n = refl
assign_plain assignments.ShiftLeft n = refl
assign_plain assignments.ShiftRight n = refl
assign_plain assignments.BitAnd n = refl
assign_plain assignments.BitXor n = refl
assign_plain assignments.BitOr n = refl

unary_plain : (op : UnaryOperator) → KeepsOpen (Punctuator (unary_text op))
unfolding KeepsOpen open_behind
unary_plain unaries.AddressOf n = refl
unary_plain unaries.Dereference n = refl
unary_plain unaries.Plus n = refl
unary_plain unaries.Minus n = refl
unary_plain unaries.Complement n = refl
unary_plain unaries.Not n = refl

opens_one : (n : ℕ) → open_behind n (Punctuator (codes "(")) ≡ n + 1
unfolding open_behind
opens_one n = refl

closes_one : (n : ℕ) → open_behind (n + 1) (Punctuator (codes ")")) ≡ n
unfolding open_behind
closes_one n = omega arith

opens_square : (n : ℕ) → open_behind n (Punctuator (codes "[")) ≡ n + 1
unfolding open_behind
opens_square n = refl

closes_square : (n : ℕ) → open_behind (n + 1) (Punctuator (codes "]")) ≡ n
unfolding open_behind
closes_square n = omega arith

-- ---- tokens

two : (us vs : List Lexeme) → IsBalanced us → IsBalanced vs → IsBalanced (us ++ vs)
two us vs a b n = left_open-append n us vs ∙ ap (λ k. left_open k vs) (a n) ∙ b n

plain : (t : Lexeme) (kind : Kind) → kind_at t ≡ kind → KeepsOpen kind → IsBalanced (t ∷ [])
unfolding KeepsOpen
plain t kind is h n = ap (open_behind n) is ∙ h n

led : (t : Lexeme) (us : List Lexeme) (kind : Kind) → kind_at t ≡ kind → KeepsOpen kind → IsBalanced us → IsBalanced (t ∷ us)
led t us kind is h a = two (t ∷ []) (us) (plain t kind is h) a

grouped : (o : Lexeme) (us : List Lexeme) (c : Lexeme) → kind_at o ≡ Punctuator (codes "(") → kind_at c ≡ Punctuator (codes ")") → IsBalanced us → IsBalanced (o ∷ (us ++ c ∷ []))
grouped o us c is ends a n =
    left_open-append (open_behind n (kind_at o)) us (c ∷ []) ∙ ap (λ k. open_behind k (kind_at c)) (a (open_behind n (kind_at o)) ∙ ap (open_behind n) is ∙ opens_one n)
    ∙ ap (open_behind (n + 1)) ends ∙ closes_one n

squared : (o : Lexeme) (us : List Lexeme) (c : Lexeme) → kind_at o ≡ Punctuator (codes "[") → kind_at c ≡ Punctuator (codes "]") → IsBalanced us → IsBalanced (o ∷ (us ++ c ∷ []))
squared o us c is ends a n =
    left_open-append (open_behind n (kind_at o)) us (c ∷ []) ∙ ap (λ k. open_behind k (kind_at c)) (a (open_behind n (kind_at o)) ∙ ap (open_behind n) is ∙ opens_square n)
    ∙ ap (open_behind (n + 1)) ends ∙ closes_square n

-- ---- types

fold-append : (n : ℕ) (ks ls : List Kind) → fold open_behind n (ks ++ ls) ≡ fold open_behind (fold open_behind n ks) ls
fold-append n [] ls = refl
fold-append n (k ∷ ks) ls = fold-append (open_behind n k) ks ls

specifier_words : (all : List Specifier) (n : ℕ) → fold open_behind n (map specifier_kind all) ≡ n
unfolding open_behind
specifier_words [] n = refl
specifier_words (s ∷ all) n = specifier_words all n

qualifier_words : (all : List Qualifier) (n : ℕ) → fold open_behind n (map qualifier_kind all) ≡ n
unfolding open_behind
qualifier_words [] n = refl
qualifier_words (q ∷ all) n = qualifier_words all n

star_plain : KeepsOpen (Punctuator (codes "*"))
unfolding KeepsOpen open_behind
star_plain n = refl

star_words : (stars : Stars) (n : ℕ) → fold open_behind n (stars_kinds stars) ≡ n
unfolding KeepsOpen
star_words [] n = refl
star_words (star ∷ stars) n =
    ap (λ k. fold open_behind k (map qualifier_kind star ++ stars_kinds stars)) (star_plain n) ∙ fold-append n (map qualifier_kind star) (stars_kinds stars)
    ∙ ap (λ k. fold open_behind k (stars_kinds stars)) (qualifier_words star n) ∙ star_words stars n

typed : {scope : Scope} {type : TypeName} {us : List Lexeme} → SpellsTypeName scope us type → IsBalanced us
typed {type = type} h =
    let front : IsBalanced h.front = λ n. ap (fold open_behind n) h.specifiers.words ∙ specifier_words type.specifiers n in
    let back : IsBalanced h.back = λ n. ap (fold open_behind n) h.stars ∙ star_words type.stars n in
    subst IsBalanced (sym (h.parts.1 ∙ ap (λ l. h.front ++ l) h.parts.2)) (two (h.front) (h.back) front back)

-- ---- expressions

mutual
  pub balanced : {scope : Scope} {k : ℕ} {ts : List Lexeme} {e : Expression} → SpellsExpression scope k ts e → IsBalanced ts
  balanced {ts = ts} (Comma us vs low line are x y) =
      let p = parted ts us vs _ are in
      subst IsBalanced (sym p.parts) (two (us) (p.token ∷ vs) (balanced x) (led p.token vs _ p.is (comma_plain) (balanced y)))
  balanced {ts = ts} (Assign op us vs low line are x y) =
      let p = parted ts us vs _ are in
      subst IsBalanced (sym p.parts) (two (us) (p.token ∷ vs) (balanced x) (led p.token vs _ p.is (assign_plain op) (balanced y)))
  balanced {ts = ts} (Binary op us vs low line are x y) =
      let p = parted ts us vs _ are in
      subst IsBalanced (sym p.parts) (two (us) (p.token ∷ vs) (balanced x) (led p.token vs _ p.is (binary_plain op) (balanced y)))
  balanced {ts = ts} (Conditional us vs ws low line (r, e, (t, q, f, is, (u, g, (c, w, h, colon, i)))) x y z) =
      subst IsBalanced (sym (e ∙ ap (λ l. us ++ l) (f ∙ ap (λ l. t ∷ l) (g ∙ ap (λ l. vs ++ l) (h ∙ ap (λ l. c ∷ l) i)))))
      (two (us) (t ∷ (vs ++ c ∷ ws)) (balanced x) (led t (vs ++ c ∷ ws) _ is question_plain (two (vs) (c ∷ ws) (balanced y) (led c ws _ colon colon_plain (balanced z)))))
  balanced {ts = ts} (Cast type us vs low line (o, r, e, is, (q, f, (c, u, g, ends, h))) t x) =
      subst IsBalanced (sym (e ∙ ap (λ l. o ∷ l) (f ∙ ap (λ l. us ++ l) (g ∙ ap (λ l. c ∷ l) h) ∙ sym (append_assoc us (c ∷ []) vs))))
      (two (o ∷ (us ++ c ∷ [])) (vs) (grouped o us c is ends (typed t)) (balanced x))
  balanced {ts = ts} (PreIncrement us low line are x) = let h = led_by ts us _ are in subst IsBalanced (sym h.parts) (led h.token us _ h.is (increment_plain) (balanced x))
  balanced {ts = ts} (PreDecrement us low line are x) = let h = led_by ts us _ are in subst IsBalanced (sym h.parts) (led h.token us _ h.is (decrement_plain) (balanced x))
  balanced {ts = ts} (Unary op us low line are x) = let h = led_by ts us _ are in subst IsBalanced (sym h.parts) (led h.token us _ h.is (unary_plain op) (balanced x))
  balanced {ts = ts} (SizeofExpression us low line are x) = let h = led_by ts us _ are in subst IsBalanced (sym h.parts) (led h.token us _ h.is (word_plain _) (balanced x))
  balanced {ts = ts} (SizeofType type us low line (t, r, e, is, (o, q, f, opens, (u, g, (c, w, h, ends, i)))) x) =
      subst IsBalanced (sym (e ∙ ap (λ l. t ∷ l) (f ∙ ap (λ l. o ∷ l) (g ∙ ap (λ l. us ++ l) (h ∙ ap (λ l. c ∷ l) i)))))
      (led t (o ∷ (us ++ c ∷ [])) _ is (word_plain _) (grouped o us c opens ends (typed x)))
  balanced {ts = ts} (Index us vs low line (r, e, (o, q, f, is, (u, g, (c, w, h, ends, i)))) x y) =
      subst IsBalanced (sym (e ∙ ap (λ l. us ++ l) (f ∙ ap (λ l. o ∷ l) (g ∙ ap (λ l. vs ++ l) (h ∙ ap (λ l. c ∷ l) i)))))
      (two (us) (o ∷ (vs ++ c ∷ [])) (balanced x) (squared o vs c is ends (balanced y)))
  balanced {ts = ts} (PostIncrement us low line (r, e, (o, q, f, is, g)) x) =
      subst IsBalanced (sym (e ∙ ap (λ l. us ++ l) (f ∙ ap (λ l. o ∷ l) g))) (two (us) (o ∷ []) (balanced x) (plain o _ is increment_plain))
  balanced {ts = ts} (PostDecrement us low line (r, e, (o, q, f, is, g)) x) =
      subst IsBalanced (sym (e ∙ ap (λ l. us ++ l) (f ∙ ap (λ l. o ∷ l) g))) (two (us) (o ∷ []) (balanced x) (plain o _ is decrement_plain))
  balanced {ts = ts} (Call name us low line (t, r, e, is, (o, q, f, opens, (u, g, (c, w, h, ends, i)))) n all) =
      subst IsBalanced (sym (e ∙ ap (λ l. t ∷ l) (f ∙ ap (λ l. o ∷ l) (g ∙ ap (λ l. us ++ l) (h ∙ ap (λ l. c ∷ l) i)))))
      (led t (o ∷ (us ++ c ∷ [])) _ is (word_plain _) (grouped o us c opens ends (balanced_arguments all)))
  balanced {ts = ts} (Name name line are n) = let h = alone ts _ are in subst IsBalanced (sym h.parts) (plain h.token _ h.is (word_plain _))
  balanced {ts = ts} (Constant type value line are) = let h = alone ts _ are in subst IsBalanced (sym h.parts) (plain h.token _ h.is (number_plain _ _))
  balanced {ts = ts} (Character byte line are) = let h = alone ts _ are in subst IsBalanced (sym h.parts) (plain h.token _ h.is (character_plain _))
  balanced {ts = ts} (String bytes line are) = let h = alone ts _ are in subst IsBalanced (sym h.parts) (plain h.token _ h.is (text_plain _))
  balanced {ts = ts} (Parentheses us (o, r, e, is, (q, f, (c, w, g, ends, h))) x) =
      subst IsBalanced (sym (e ∙ ap (λ l. o ∷ l) (f ∙ ap (λ l. us ++ l) (g ∙ ap (λ l. c ∷ l) h)))) (grouped o us c is ends (balanced x))

  balanced_arguments : {scope : Scope} {ts : List Lexeme} {all : Expressions} → SpellsArguments scope ts all → IsBalanced ts
  balanced_arguments (NoArguments none) = subst IsBalanced (sym none) (λ n. refl)
  balanced_arguments (Arguments us vs parts x more) = subst IsBalanced (sym parts) (two (us) (vs) (balanced x) (balanced_further more))

  balanced_further : {scope : Scope} {ts : List Lexeme} {all : Expressions} → SpellsFurther scope ts all → IsBalanced ts
  balanced_further (NoFurther none) = subst IsBalanced (sym none) (λ n. refl)
  balanced_further (Further us vs (t, r, e, is, (q, f, g)) x more) =
      subst IsBalanced (sym (e ∙ ap (λ l. t ∷ l) (f ∙ ap (λ l. us ++ l) g))) (led t (us ++ vs) _ is comma_plain (two (us) (vs) (balanced x) (balanced_further more)))
