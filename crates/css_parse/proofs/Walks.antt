-- Where an expression ends.
use Rattle.std.proofs.Common.{◌≡◌, ◌⊎◌, ℕ, zero, suc, ◌+◌, ◌<◌, ◌≤◌, Bool, true, false, ◌||◌, List, [], ◌∷◌, ◌++◌, length, map, codes, Option, Some, None, bytes_eq, refl, sym, ap, ◌∙◌, subst, inl, inr, arith, append_assoc, if◌then◌else◌}
use Rattle.std.specs.Prelude.{option_and_then}
use Rattle.css_base.specs.Tokens as tokens
use Rattle.css_base.specs.Tokens.{Kind, Word, Punctuator, Lexeme}
use Rattle.css_tree.specs.declared.scope.Scope.{Scope}
use Rattle.css_tree.specs.declared.words.Specifier.{Specifier}
use Rattle.css_tree.specs.declared.words.Qualifier.{Qualifier}
use Rattle.css_tree.specs.declared.operators.UnaryOperator.{UnaryOperator}
use Rattle.css_tree.specs.declared.operators.UnaryOperator.TheVariants as unaries
use Rattle.css_tree.specs.declared.operators.BinaryOperator.{BinaryOperator}
use Rattle.css_tree.specs.declared.operators.BinaryOperator.TheVariants as binaries
use Rattle.css_tree.specs.declared.operators.AssignOperator.{AssignOperator}
use Rattle.css_tree.specs.declared.operators.AssignOperator.TheVariants as assignments
use Rattle.css_tree.specs.Syntax.{TypeName, Expression, Expressions}
use Rattle.css_tree.specs.TokenParts.{kind_at, kinds, Part, One, These, mark, word, Are}
use Rattle.css_tree.specs.Words.{SpellsTypeName, specifier_kind, qualifier_kind, stars_kinds}
use Rattle.css_tree.specs.Expressions as spelled
use Rattle.css_tree.specs.Expressions.{expr, assign, cond, lor, unary, postfix, level_of, unary_text, binary_text, assign_text, SpellsExpression, SpellsArguments, SpellsFurther}
use Rattle.css_pexpr.specs.declared.level.Level.{Level}
use Rattle.css_pexpr.specs.declared.level.Level.TheVariants as levels
use Rattle.css_pexpr.specs.Longest.{IsLongest, level_number}

-- ---- how deep a token stands in what has to be closed

abbrev pub previous : ℕ → Option ℕ
previous zero = None
previous (suc n) = Some n

-- a comma is allowed where something is open
abbrev pub if_open : ℕ → Option ℕ
if_open zero = None
if_open (suc n) = Some (suc n)

-- behind a punctuator, where commas outside brackets are allowed or not: what closes needs something open, and some
-- punctuators stand in no expression
abbrev pub mark_step : Bool → ℕ → List ℕ → Option ℕ
mark_step commas n bytes =
    if bytes_eq bytes (codes "(") || bytes_eq bytes (codes "[") || bytes_eq bytes (codes "?") then Some (suc n)
    else (if bytes_eq bytes (codes ")") || bytes_eq bytes (codes "]") || bytes_eq bytes (codes ":") then previous n
    else (if bytes_eq bytes (codes ",") then (if commas then Some n else if_open n)
    else (if bytes_eq bytes (codes ";") || bytes_eq bytes (codes "{") || bytes_eq bytes (codes "}") then None else Some n)))

abbrev pub step : Bool → ℕ → Kind → Option ℕ
step commas n (Punctuator bytes) = mark_step commas n bytes
step commas n _ = Some n

abbrev walk : Bool → ℕ → List Lexeme → Option ℕ
walk commas n [] = Some n
walk commas n (t ∷ ts) = option_and_then (λ m. walk commas m ts) (step commas n (kind_at t))

-- the tokens lead from one depth to another
record Walks (commas : Bool) (n : ℕ) (ts : List Lexeme) (m : ℕ) : Type 0 where
  pub is : walk commas n ts ≡ Some m

walked_on : (commas : Bool) (n : ℕ) (us vs : List Lexeme) {m : ℕ} → walk commas n us ≡ Some m → walk commas n (us ++ vs) ≡ walk commas m vs
walked_on commas n [] vs {m} e = (let same : n ≡ m = cc in ap (λ k. walk commas k vs) same)
walked_on commas n (u ∷ us) vs {m} e = by (step commas n (kind_at u)) (λ l h. walked_on commas l us vs h) e
  where
    by : (o : Option ℕ) → ((l : ℕ) → walk commas l us ≡ Some m → walk commas l (us ++ vs) ≡ walk commas m vs) → option_and_then (λ l. walk commas l us) o ≡ Some m → option_and_then (λ l. walk commas l (us ++ vs)) o ≡ walk commas m vs
    by None later e = absurd cc
    by (Some l) later e = later l e

data WalksParts (commas : Bool) : (n : ℕ) (parts : List Part) (m : ℕ) → Type 0 where
  Done : {n : ℕ} → WalksParts commas n [] n
  At : {n m l : ℕ} {kind : Kind} {parts : List Part} → step commas n kind ≡ Some m → WalksParts commas m parts l → WalksParts commas n (One kind ∷ parts) l
  Over : {n m l : ℕ} {us : List Lexeme} {parts : List Part} → Walks commas n us m → WalksParts commas m parts l → WalksParts commas n (These us ∷ parts) l

are_walked : {commas : Bool} {n m : ℕ} {ts : List Lexeme} (parts : List Part) → Are ts parts → WalksParts commas n parts m → Walks commas n ts m
are_walked {commas} {n} [] a Done = record { is = ap (walk commas n) a }
are_walked {commas} {n} (These us ∷ []) a (Over w Done) = record { is = ap (walk commas n) a ∙ w.is }
are_walked {commas} {n} (These us ∷ part ∷ parts) (rest, e, a) (Over w more) = record { is = ap (walk commas n) e ∙ walked_on commas n us rest w.is ∙ (are_walked (part ∷ parts) a more).is }
are_walked {commas} {n} (One kind ∷ parts) (token, rest, e, is, a) (At {m = m} s more) =
    record { is = ap (walk commas n) e ∙ ap (option_and_then (λ k. walk commas k rest)) (ap (step commas n) is ∙ s) ∙ (are_walked parts a more).is }

-- ---- operators

binary_step : (commas : Bool) (n : ℕ) (op : BinaryOperator) → step commas n (Punctuator (binary_text op)) ≡ Some n
binary_step commas n binaries.Multiply = refl
binary_step commas n binaries.Divide = refl
binary_step commas n binaries.Remainder = refl
binary_step commas n binaries.Add = refl
binary_step commas n binaries.Subtract = refl
binary_step commas n binaries.ShiftLeft = refl
binary_step commas n binaries.ShiftRight = refl
binary_step commas n binaries.Less = refl
binary_step commas n binaries.Greater = refl
binary_step commas n binaries.LessOrEqual = refl
binary_step commas n binaries.GreaterOrEqual = refl
binary_step commas n binaries.Equal = refl
binary_step commas n binaries.NotEqual = refl
binary_step commas n binaries.BitAnd = refl
binary_step commas n binaries.BitXor = refl
binary_step commas n binaries.BitOr = refl
binary_step commas n binaries.And = refl
binary_step commas n binaries.Or = refl

assign_step : (commas : Bool) (n : ℕ) (op : AssignOperator) → step commas n (Punctuator (assign_text op)) ≡ Some n
assign_step commas n assignments.Assign = refl
assign_step commas n assignments.Multiply = refl
assign_step commas n assignments.Divide = refl
assign_step commas n assignments.Remainder = refl
assign_step commas n assignments.Add = refl
assign_step commas n assignments.Subtract = refl
assign_step commas n assignments.ShiftLeft = refl
assign_step commas n assignments.ShiftRight = refl
assign_step commas n assignments.BitAnd = refl
assign_step commas n assignments.BitXor = refl
assign_step commas n assignments.BitOr = refl

unary_step : (commas : Bool) (n : ℕ) (op : UnaryOperator) → step commas n (Punctuator (unary_text op)) ≡ Some n
unary_step commas n unaries.AddressOf = refl
unary_step commas n unaries.Dereference = refl
unary_step commas n unaries.Plus = refl
unary_step commas n unaries.Minus = refl
unary_step commas n unaries.Complement = refl
unary_step commas n unaries.Not = refl

-- ---- types

abbrev IsFlat : List Kind → Type 0
IsFlat [] = Unit {0}
IsFlat (k ∷ ks) = ((commas : Bool) (n : ℕ) → step commas n k ≡ Some n) × IsFlat ks

-- words lead nowhere, and neither do stars
flat : (commas : Bool) (n : ℕ) (ts : List Lexeme) (ks : List Kind) → kinds ts ≡ ks → IsFlat ks → walk commas n ts ≡ Some n
flat commas n [] ks e f = refl
flat commas n (t ∷ ts) [] e f = absurd cc
flat commas n (t ∷ ts) (k ∷ ks) e f =
    let first : kind_at t ≡ k = cc in
    let others : kinds ts ≡ ks = cc in
    ap (option_and_then (λ m. walk commas m ts)) (ap (step commas n) first ∙ f.0 commas n) ∙ flat commas n ts ks others f.1

specifiers_flat : (all : List Specifier) → IsFlat (map specifier_kind all)
specifiers_flat [] = tt
specifiers_flat (s ∷ all) = ((λ commas n. refl), specifiers_flat all)

qualifiers_flat : (all : List Qualifier) (others : List Kind) → IsFlat others → IsFlat (map qualifier_kind all ++ others)
qualifiers_flat [] others f = f
qualifiers_flat (q ∷ all) others f = ((λ commas n. refl), qualifiers_flat all others f)

stars_flat : (all : List (List Qualifier)) → IsFlat (stars_kinds all)
stars_flat [] = tt
stars_flat (star ∷ all) = ((λ commas n. refl), qualifiers_flat star (stars_kinds all) (stars_flat all))

type_walked : (commas : Bool) (n : ℕ) (scope : Scope) (ts : List Lexeme) (type : TypeName) → SpellsTypeName scope ts type → Walks commas n ts n
type_walked commas n scope ts type s =
    are_walked (These s.front ∷ These s.back ∷ []) s.parts
    (Over (record { is = flat commas n s.front (map specifier_kind type.specifiers) s.specifiers.words (specifiers_flat type.specifiers) })
    (Over (record { is = flat commas n s.back (stars_kinds type.stars) s.stars (stars_flat type.stars) }) Done))

-- ---- expressions

-- commas may stand outside brackets, or something is open, or the level has none
abbrev Allowed : Bool → ℕ → ℕ → Type 0
Allowed commas n level = (commas ≡ true) ⊎ ((0 < n) ⊎ (1 ≤ level))

comma_step : (commas : Bool) (n level : ℕ) → Allowed commas n level → level ≤ expr → step commas n (Punctuator (codes ",")) ≡ Some n
comma_step true n level a low = refl
comma_step false (suc n) level a low = refl
comma_step false zero level (inl a) low = absurd cc
comma_step false zero level (inr (inl a)) low = absurd (omega arith)
comma_step false zero level (inr (inr a)) low = absurd (omega arith)

inner : (commas : Bool) (n level : ℕ) → Allowed commas (suc n) level
inner commas n level = inr (inl (omega arith))

tight : (commas : Bool) (n level : ℕ) → 1 ≤ level → Allowed commas n level
tight commas n level h = inr (inr h)

looser : (commas : Bool) (n level : ℕ) → Allowed commas n level → level ≤ expr → Allowed commas n expr
looser commas n level (inl a) low = inl a
looser commas n level (inr (inl a)) low = inr (inl a)
looser commas n level (inr (inr a)) low = absurd (omega arith)

positive_level : (op : BinaryOperator) → 1 ≤ level_of op
positive_level binaries.Multiply = omega arith
positive_level binaries.Divide = omega arith
positive_level binaries.Remainder = omega arith
positive_level binaries.Add = omega arith
positive_level binaries.Subtract = omega arith
positive_level binaries.ShiftLeft = omega arith
positive_level binaries.ShiftRight = omega arith
positive_level binaries.Less = omega arith
positive_level binaries.Greater = omega arith
positive_level binaries.LessOrEqual = omega arith
positive_level binaries.GreaterOrEqual = omega arith
positive_level binaries.Equal = omega arith
positive_level binaries.NotEqual = omega arith
positive_level binaries.BitAnd = omega arith
positive_level binaries.BitXor = omega arith
positive_level binaries.BitOr = omega arith
positive_level binaries.And = omega arith
positive_level binaries.Or = omega arith

module _ (scope : Scope) (c : Bool) where
  mutual
    walked : {k : ℕ} {ts : List Lexeme} {e : Expression} (n : ℕ) → SpellsExpression scope k ts e → Allowed c n k → Walks c n ts n
    walked {k} n (spelled.Comma us vs low line a x y) ok = are_walked (These us ∷ mark (codes ",") ∷ These vs ∷ []) a (Over (walked n x (looser c n k ok low)) (At (comma_step c n k ok low) (Over (walked n y (tight c n assign (omega arith))) Done)))
    walked n (spelled.Assign op us vs low line a x y) ok = are_walked (These us ∷ mark (assign_text op) ∷ These vs ∷ []) a (Over (walked n x (tight c n unary (omega arith))) (At (assign_step c n op) (Over (walked n y (tight c n assign (omega arith))) Done)))
    walked n (spelled.Conditional us vs ws low line a x y z) ok =
        are_walked (These us ∷ mark (codes "?") ∷ These vs ∷ mark (codes ":") ∷ These ws ∷ []) a (Over (walked n x (tight c n lor (omega arith))) (At {m = suc n} refl (Over (walked (suc n) y (inner c n expr)) (At {m = n} refl (Over (walked n z (tight c n cond (omega arith))) Done)))))
    walked n (spelled.Binary op us vs low line a x y) ok =
        are_walked (These us ∷ mark (binary_text op) ∷ These vs ∷ []) a (Over (walked n x (tight c n (level_of op) (positive_level op))) (At (binary_step c n op) (Over (walked n y (tight c n (level_of op + 1) (omega arith))) Done)))
    walked n (spelled.Cast type us vs low line a x y) ok =
        are_walked (mark (codes "(") ∷ These us ∷ mark (codes ")") ∷ These vs ∷ []) a (At {m = suc n} refl (Over (type_walked c (suc n) scope us type x) (At {m = n} refl (Over (walked n y (tight c n spelled.cast (omega arith))) Done))))
    walked n (spelled.PreIncrement us low line a x) ok = are_walked (mark (codes "++") ∷ These us ∷ []) a (At {m = n} refl (Over (walked n x (tight c n unary (omega arith))) Done))
    walked n (spelled.PreDecrement us low line a x) ok = are_walked (mark (codes "--") ∷ These us ∷ []) a (At {m = n} refl (Over (walked n x (tight c n unary (omega arith))) Done))
    walked n (spelled.Unary op us low line a x) ok = are_walked (mark (unary_text op) ∷ These us ∷ []) a (At (unary_step c n op) (Over (walked n x (tight c n spelled.cast (omega arith))) Done))
    walked n (spelled.SizeofExpression us low line a x) ok = are_walked (word (codes "sizeof") ∷ These us ∷ []) a (At {m = n} refl (Over (walked n x (tight c n unary (omega arith))) Done))
    walked n (spelled.SizeofType type us low line a x) ok =
        are_walked (word (codes "sizeof") ∷ mark (codes "(") ∷ These us ∷ mark (codes ")") ∷ []) a (At {m = n} refl (At {m = suc n} refl (Over (type_walked c (suc n) scope us type x) (At {m = n} refl Done))))
    walked n (spelled.Index us vs low line a x y) ok =
        are_walked (These us ∷ mark (codes "[") ∷ These vs ∷ mark (codes "]") ∷ []) a (Over (walked n x (tight c n postfix (omega arith))) (At {m = suc n} refl (Over (walked (suc n) y (inner c n expr)) (At {m = n} refl Done))))
    walked n (spelled.PostIncrement us low line a x) ok = are_walked (These us ∷ mark (codes "++") ∷ []) a (Over (walked n x (tight c n postfix (omega arith))) (At {m = n} refl Done))
    walked n (spelled.PostDecrement us low line a x) ok = are_walked (These us ∷ mark (codes "--") ∷ []) a (Over (walked n x (tight c n postfix (omega arith))) (At {m = n} refl Done))
    walked n (spelled.Call name us low line a named x) ok =
        are_walked (word name ∷ mark (codes "(") ∷ These us ∷ mark (codes ")") ∷ []) a (At {m = n} refl (At {m = suc n} refl (Over (arguments_walked n x) (At {m = n} refl Done))))
    walked n (spelled.Name name line a named) ok = are_walked (word name ∷ []) a (At {m = n} refl Done)
    walked n (spelled.Constant type value line a) ok = are_walked (One (tokens.Number type value) ∷ []) a (At {m = n} refl Done)
    walked n (spelled.Character byte line a) ok = are_walked (One (tokens.Character byte) ∷ []) a (At {m = n} refl Done)
    walked n (spelled.String bytes line a) ok = are_walked (One (tokens.Text bytes) ∷ []) a (At {m = n} refl Done)
    walked n (spelled.Parentheses us a x) ok = are_walked (mark (codes "(") ∷ These us ∷ mark (codes ")") ∷ []) a (At {m = suc n} refl (Over (walked (suc n) x (inner c n expr)) (At {m = n} refl Done)))

    arguments_walked : {ts : List Lexeme} {es : Expressions} (n : ℕ) → SpellsArguments scope ts es → Walks c (suc n) ts (suc n)
    arguments_walked n (spelled.NoArguments e) = record { is = ap (walk c (suc n)) e }
    arguments_walked n (spelled.Arguments us vs e x more) = are_walked (These us ∷ These vs ∷ []) (vs, e, refl) (Over (walked (suc n) x (inner c n assign)) (Over (further_walked n more) Done))

    further_walked : {ts : List Lexeme} {es : Expressions} (n : ℕ) → SpellsFurther scope ts es → Walks c (suc n) ts (suc n)
    further_walked n (spelled.NoFurther e) = record { is = ap (walk c (suc n)) e }
    further_walked n (spelled.Further us vs a x more) =
        are_walked (mark (codes ",") ∷ These us ∷ These vs ∷ []) a (At (comma_step c (suc n) 0 (inner c n 0) (omega arith)) (Over (walked (suc n) x (inner c n assign)) (Over (further_walked n more) Done)))

-- ---- stops

abbrev pub commas_in : Level → Bool
commas_in levels.Expr = true
commas_in _ = false

-- no expression of the level goes on with this token behind another of the level
abbrev pub IsStop : Level → Kind → Type 0
IsStop level kind = step (commas_in level) 0 kind ≡ None

allowed_in : (level : Level) → Allowed (commas_in level) 0 (level_number level)
allowed_in levels.Expr = inl refl
allowed_in levels.Assign = inr (inr (omega arith))
allowed_in levels.Cond = inr (inr (omega arith))

stops : (scope : Scope) (level : Level) (us : List Lexeme) (t : Lexeme) (vs : List Lexeme) {e other : Expression} → IsStop level (kind_at t) → SpellsExpression scope (level_number level) us e
    → SpellsExpression scope (level_number level) (us ++ t ∷ vs) other → ⊥
stops scope level us t vs stop a b =
    let c = commas_in level in
    let short = walked scope c 0 a (allowed_in level) in
    let long = walked scope c 0 b (allowed_in level) in
    let none : walk c 0 (us ++ t ∷ vs) ≡ None = walked_on c 0 us (t ∷ vs) short.is ∙ ap (option_and_then (λ m. walk c m vs)) stop in
    let both : None ≡ Some 0 = sym none ∙ long.is in
    absurd cc

-- A longer front of some tokens than a front before a token has that token.
grown : (us : List Lexeme) (t : Lexeme) (rest more behind : List Lexeme) → us ++ t ∷ rest ≡ more ++ behind → length us < length more → (vs : List Lexeme) × (more ≡ us ++ t ∷ vs)
grown us t rest [] behind e long = absurd (omega arith)
grown [] t rest (m ∷ more) behind e long = (let same : m ≡ t = cc in (more, cc))
grown (u ∷ us) t rest (m ∷ more) behind e long =
    let same : m ≡ u = cc in
    let others : us ++ t ∷ rest ≡ more ++ behind = cc in
    let next = grown us t rest more behind others (omega arith) in
    let is = next.1 in
    (next.0, cc)

pub longest_before : {scope : Scope} {level : Level} {us : List Lexeme} {e : Expression} (t : Lexeme) (rest : List Lexeme) → IsStop level (kind_at t) → SpellsExpression scope (level_number level) us e
    → IsLongest scope level (us ++ t ∷ rest) e (t ∷ rest)
longest_before {scope} {level} {us} {e} t rest stop a = record {
  front = us;
  parts = refl;
  spells = a;
  longest = λ more behind other parts b. split (length us) (length more) (λ long. (let g = grown us t rest more behind parts long in stops scope level us t g.0 stop a (subst (λ l. SpellsExpression scope (level_number level) l other) g.1 b)));
}
  where
    split : (n m : ℕ) → (n < m → ⊥) → m ≤ n
    split n m other = grind arith
