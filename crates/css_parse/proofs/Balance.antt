-- Brackets are balanced in what is spelled.
use Rattle.std.proofs.Common.{◌≡◌, ◌⊎◌, ℕ, suc, ◌+◌, List, [], ◌∷◌, ◌++◌, map, fold, codes, Option, Some, None, refl, sym, ap, ◌∙◌, subst, inl, inr, arith}
use Rattle.css_base.specs.Tokens as tokens
use Rattle.css_base.specs.Tokens.{Kind, Word, Punctuator, Lexeme, Lexemes}
use Rattle.css_tree.specs.declared.scope.Scope.{Scope}
use Rattle.css_tree.specs.declared.words.Specifier.{Specifier}
use Rattle.css_tree.specs.declared.words.Qualifier.{Qualifier}
use Rattle.css_tree.specs.Syntax.{Stars, Expression, Dimensions, Initialiser, Value, String, Braces, Initialisers, NoParts, MoreParts, Declarator, Declaration}
use Rattle.css_tree.specs.Syntax.{Mark, ForStart, DeclareFirst, EvaluateFirst, Statement, Block, Evaluate, If, IfElse, While, Do, For, Break, Continue, Return, Entry, Declared, Marked, Stated, Entries, NoEntries, MoreEntries}
use Rattle.css_tree.specs.Syntax.{Parameter, Parameters, Empty, VoidAlone, Listed, Body, Function, Item, Define, Declare, Tree}
use Rattle.css_tree.specs.TokenParts.{kind_at, kinds, Part, One, These, Are}
use Rattle.css_tree.specs.Words.{specifier_kind, qualifier_kind, stars_kinds, SpellsSpecifiers, SpellsStars}
use Rattle.css_tree.specs.Expressions.{SpellsExpression}
use Rattle.css_tree.specs.Declarations.{SpellsOptional, SpellsDimensions, IsOptionalComma, SpellsInitialiser, SpellsParts, SpellsFurtherParts, SpellsInitial, SpellsDeclarator, SpellsBehindCommas, SpellsBetweenCommas, SpellsDeclaration}
use Rattle.css_tree.specs.Statements.{SpellsMark, SpellsForStart, SpellsStatement, SpellsEntries, SpellsEntry}
use Rattle.css_tree.specs.Items.{SpellsOptionalName, SpellsParameter, SpellsParameters, SpellsOptionalMark, SpellsBody, SpellsFunction, SpellsItem, SpellsProgram}
use Rattle.css_tree.specs.Brackets.{open_behind, left_open, IsBalanced}
use Rattle.css_parse.proofs.Nesting.{left_open-append}

-- ---- kinds

KeepsOpen : Kind → Type 0
KeepsOpen kind = (n : ℕ) → open_behind n kind ≡ n

IsOpening : Kind → Type 0
IsOpening kind = (n : ℕ) → open_behind n kind ≡ suc n

IsClosing : Kind → Type 0
IsClosing kind = (n : ℕ) → open_behind (suc n) kind ≡ n

word_plain : (bytes : List ℕ) → KeepsOpen (Word bytes)
unfolding KeepsOpen open_behind
word_plain bytes n = refl

text_plain : (bytes : List ℕ) → KeepsOpen (tokens.Text bytes)
unfolding KeepsOpen open_behind
text_plain bytes n = refl

directive_plain : (words : Lexemes) → KeepsOpen (tokens.Directive words)
unfolding KeepsOpen open_behind
directive_plain words n = refl

comma_plain : KeepsOpen (Punctuator (codes ","))
unfolding KeepsOpen open_behind
comma_plain n = refl

semicolon_plain : KeepsOpen (Punctuator (codes ";"))
unfolding KeepsOpen open_behind
semicolon_plain n = refl

equals_plain : KeepsOpen (Punctuator (codes "="))
unfolding KeepsOpen open_behind
equals_plain n = refl

star_plain : KeepsOpen (Punctuator (codes "*"))
unfolding KeepsOpen open_behind
star_plain n = refl

opens_round : IsOpening (Punctuator (codes "("))
unfolding IsOpening open_behind
opens_round n = omega arith

closes_round : IsClosing (Punctuator (codes ")"))
unfolding IsClosing open_behind
closes_round n = omega arith

opens_square : IsOpening (Punctuator (codes "["))
unfolding IsOpening open_behind
opens_square n = omega arith

closes_square : IsClosing (Punctuator (codes "]"))
unfolding IsClosing open_behind
closes_square n = omega arith

opens_curly : IsOpening (Punctuator (codes "{"))
unfolding IsOpening open_behind
opens_curly n = omega arith

closes_curly : IsClosing (Punctuator (codes "}"))
unfolding IsClosing open_behind
closes_curly n = omega arith

-- ---- parts

-- These parts close as many brackets as are open before them.
data Even : (d : ℕ) (parts : List Part) → Type 0 where
  Done : Even 0 []
  Tokens : {d : ℕ} {us : List Lexeme} {parts : List Part} → IsBalanced us → Even d parts → Even d (These us ∷ parts)
  Plain : {d : ℕ} {kind : Kind} {parts : List Part} → KeepsOpen kind → Even d parts → Even d (One kind ∷ parts)
  Opens : {d : ℕ} {kind : Kind} {parts : List Part} → IsOpening kind → Even (suc d) parts → Even d (One kind ∷ parts)
  Closes : {d : ℕ} {kind : Kind} {parts : List Part} → IsClosing kind → Even d parts → Even (suc d) (One kind ∷ parts)

level : (d n : ℕ) → suc d + n ≡ suc (d + n)
level d n = omega arith

even : {d : ℕ} {parts : List Part} → Even d parts → (ts : List Lexeme) → Are ts parts → (n : ℕ) → left_open (d + n) ts ≡ n
unfolding KeepsOpen IsOpening IsClosing
even Done ts e n = ap (left_open (0 + n)) e ∙ omega arith
even {d} (Tokens {us = us} {parts = []} b more) ts e n = ap (left_open (d + n)) e ∙ b (d + n) ∙ even more [] refl n
even {d} (Tokens {us = us} {parts = part ∷ parts} b more) ts (rest, e, a) n =
    ap (left_open (d + n)) e ∙ left_open-append (d + n) us rest ∙ ap (λ k. left_open k rest) (b (d + n)) ∙ even more rest a n
even {d} (Plain p more) ts (t, rest, e, is, a) n =
    ap (left_open (d + n)) e ∙ ap (λ k. left_open (open_behind (d + n) k) rest) is ∙ ap (λ k. left_open k rest) (p (d + n)) ∙ even more rest a n
even {d} (Opens o more) ts (t, rest, e, is, a) n =
    ap (left_open (d + n)) e ∙ ap (λ k. left_open (open_behind (d + n) k) rest) is ∙ ap (λ k. left_open k rest) (o (d + n) ∙ sym (level d n)) ∙ even more rest a n
even (Closes {d = d} {kind = kind} c more) ts (t, rest, e, is, a) n =
    ap (left_open (suc d + n)) e ∙ ap (λ k. left_open (open_behind (suc d + n) k) rest) is
    ∙ ap (λ k. left_open k rest) (ap (λ m. open_behind m kind) (level d n) ∙ c (d + n)) ∙ even more rest a n

shut : {parts : List Part} (ts : List Lexeme) → Even 0 parts → Are ts parts → IsBalanced ts
shut ts e a n = ap (λ m. left_open m ts) (zero_add n) ∙ even e ts a n
  where
    zero_add : (n : ℕ) → n ≡ 0 + n
    zero_add n = omega arith

nothing : {ts : List Lexeme} → ts ≡ [] → IsBalanced ts
nothing e = subst IsBalanced (sym e) (λ n. refl)

-- ---- words

fold-append : (n : ℕ) (ks ls : List Kind) → fold open_behind n (ks ++ ls) ≡ fold open_behind (fold open_behind n ks) ls
fold-append n [] ls = refl
fold-append n (k ∷ ks) ls = fold-append (open_behind n k) ks ls

specifier_words : (all : List Specifier) (n : ℕ) → fold open_behind n (map specifier_kind all) ≡ n
unfolding open_behind
specifier_words [] n = refl
specifier_words (s ∷ all) n = specifier_words all n

qualifier_words : (all : List Qualifier) (n : ℕ) → fold open_behind n (map qualifier_kind all) ≡ n
unfolding open_behind
qualifier_words [] n = refl
qualifier_words (q ∷ all) n = qualifier_words all n

star_words : (stars : Stars) (n : ℕ) → fold open_behind n (stars_kinds stars) ≡ n
unfolding KeepsOpen
star_words [] n = refl
star_words (star ∷ stars) n =
    ap (λ k. fold open_behind k (map qualifier_kind star ++ stars_kinds stars)) (star_plain n) ∙ fold-append n (map qualifier_kind star) (stars_kinds stars)
    ∙ ap (λ k. fold open_behind k (stars_kinds stars)) (qualifier_words star n) ∙ star_words stars n

specifiers_balanced : {scope : Scope} {ts : List Lexeme} {all : List Specifier} → SpellsSpecifiers scope ts all → IsBalanced ts
specifiers_balanced {all = all} s n = ap (fold open_behind n) s.words ∙ specifier_words all n

stars_balanced : (ts : List Lexeme) (stars : Stars) → SpellsStars ts stars → IsBalanced ts
stars_balanced ts stars s n = ap (fold open_behind n) s ∙ star_words stars n

-- ---- lists

module _ {A : Type 0} (Spells : List Lexeme → A → Type 0) (one : (ts : List Lexeme) (x : A) → Spells ts x → IsBalanced ts) where
  behind_balanced : (ts : List Lexeme) (xs : List A) → SpellsBehindCommas Spells ts xs → IsBalanced ts
  behind_balanced ts [] s = nothing s
  behind_balanced ts (x ∷ xs) (us, vs, a, s, more) = shut ts (Plain comma_plain (Tokens (one us x s) (Tokens (behind_balanced vs xs more) Done))) a

  between_balanced : (ts : List Lexeme) (xs : List A) → SpellsBetweenCommas Spells ts xs → IsBalanced ts
  between_balanced ts [] s = absurd s
  between_balanced ts (x ∷ xs) (us, vs, a, s, more) = shut ts (Tokens (one us x s) (Tokens (behind_balanced vs xs more) Done)) a

-- Where brackets are balanced in expressions, they are in all that holds them.
module _ (law : (scope : Scope) (k : ℕ) (ts : List Lexeme) (e : Expression) → SpellsExpression scope k ts e → IsBalanced ts) where
  balanced : {scope : Scope} {k : ℕ} {ts : List Lexeme} {e : Expression} → SpellsExpression scope k ts e → IsBalanced ts
  balanced {scope} {k} {ts} {e} d = law scope k ts e d

  -- ---- declarations

  optional_balanced : (scope : Scope) (k : ℕ) (ts : List Lexeme) (value : Option Expression) → SpellsOptional scope k ts value → IsBalanced ts
  optional_balanced scope k ts None s = nothing s
  optional_balanced scope k ts (Some e) s = balanced s

  dimensions_balanced : (scope : Scope) (ts : List Lexeme) (sizes : Dimensions) → SpellsDimensions scope ts sizes → IsBalanced ts
  dimensions_balanced scope ts [] s = nothing s
  dimensions_balanced scope ts (size ∷ sizes) (us, vs, a, s, more) =
      shut ts (Opens opens_square (Tokens (optional_balanced scope _ us size s) (Closes closes_square (Tokens (dimensions_balanced scope vs sizes more) Done)))) a

  comma_balanced : (ts : List Lexeme) → IsOptionalComma ts → IsBalanced ts
  comma_balanced ts (inl e) = nothing e
  comma_balanced ts (inr a) = shut ts (Plain comma_plain Done) a

  mutual
    initialiser_balanced : (scope : Scope) (ts : List Lexeme) (i : Initialiser) → SpellsInitialiser scope ts i → IsBalanced ts
    initialiser_balanced scope ts (Value e) s = balanced s.0
    initialiser_balanced scope ts (String line bytes) s = shut ts (Plain (text_plain bytes) Done) s.0
    initialiser_balanced scope ts (Braces line all) (us, vs, a, line_is, s, comma) =
        shut ts (Opens opens_curly (Tokens (parts_balanced scope us all s) (Tokens (comma_balanced vs comma) (Closes closes_curly Done)))) a

    parts_balanced : (scope : Scope) (ts : List Lexeme) (all : Initialisers) → SpellsParts scope ts all → IsBalanced ts
    parts_balanced scope ts NoParts s = absurd s
    parts_balanced scope ts (MoreParts first others) (us, vs, a, s, more) =
        shut ts (Tokens (initialiser_balanced scope us first s) (Tokens (further_parts_balanced scope vs others more) Done)) a

    further_parts_balanced : (scope : Scope) (ts : List Lexeme) (all : Initialisers) → SpellsFurtherParts scope ts all → IsBalanced ts
    further_parts_balanced scope ts NoParts s = nothing s
    further_parts_balanced scope ts (MoreParts first others) (us, vs, a, s, more) =
        shut ts (Plain comma_plain (Tokens (initialiser_balanced scope us first s) (Tokens (further_parts_balanced scope vs others more) Done))) a

  initial_balanced : (scope : Scope) (ts : List Lexeme) (i : Option Initialiser) → SpellsInitial scope ts i → IsBalanced ts
  initial_balanced scope ts None s = nothing s
  initial_balanced scope ts (Some i) (us, a, s) = shut ts (Plain equals_plain (Tokens (initialiser_balanced scope us i s) Done)) a

  declarator_balanced : (scope : Scope) (ts : List Lexeme) (d : Declarator) → SpellsDeclarator scope ts d → IsBalanced ts
  declarator_balanced scope ts d s =
      shut ts (Tokens (stars_balanced s.stars d.stars s.spells_stars) (Plain (word_plain d.name)
      (Tokens (dimensions_balanced scope s.dimensions d.dimensions s.spells_dimensions) (Tokens (initial_balanced scope s.initial d.initialiser s.spells_initial) Done)))) s.parts

  declaration_balanced : (scope : Scope) (ts : List Lexeme) (d : Declaration) → SpellsDeclaration scope ts d → IsBalanced ts
  declaration_balanced scope ts d s =
      shut ts (Tokens (specifiers_balanced s.spells_specifiers)
      (Tokens (between_balanced (SpellsDeclarator scope) (declarator_balanced scope) s.declarators d.declarators s.spells_declarators) (Plain semicolon_plain Done))) s.parts

  -- ---- statements

  mark_balanced : (ts : List Lexeme) (m : Mark) → SpellsMark ts m → IsBalanced ts
  mark_balanced ts m s = shut ts (Plain (directive_plain m.words) Done) s.is

  start_balanced : (ts : List Lexeme) (start : ForStart) → SpellsForStart ts start → IsBalanced ts
  start_balanced ts (DeclareFirst d) s = declaration_balanced _ ts d s
  start_balanced ts (EvaluateFirst value) (us, a, s) = shut ts (Tokens (optional_balanced _ _ us value s) (Plain semicolon_plain Done)) a

  mutual
    statement_balanced : (ts : List Lexeme) (s : Statement) → SpellsStatement ts s → IsBalanced ts
    statement_balanced ts (Block line entries) (us, a, line_is, s) = shut ts (Opens opens_curly (Tokens (entries_balanced us entries s) (Closes closes_curly Done))) a
    statement_balanced ts (Evaluate line value) (us, a, line_is, s) = shut ts (Tokens (optional_balanced _ _ us value s) (Plain semicolon_plain Done)) a
    statement_balanced ts (If line e inner) (us, vs, a, line_is, x, s) =
        shut ts (Plain (word_plain _) (Opens opens_round (Tokens (balanced x) (Closes closes_round (Tokens (statement_balanced vs inner s) Done))))) a
    statement_balanced ts (IfElse line e inner other) (us, vs, ws, a, line_is, x, s, none, z) =
        shut ts (Plain (word_plain _) (Opens opens_round (Tokens (balanced x) (Closes closes_round (Tokens (statement_balanced vs inner s)
        (Plain (word_plain _) (Tokens (statement_balanced ws other z) Done))))))) a
    statement_balanced ts (While line e inner) (us, vs, a, line_is, x, s) =
        shut ts (Plain (word_plain _) (Opens opens_round (Tokens (balanced x) (Closes closes_round (Tokens (statement_balanced vs inner s) Done))))) a
    statement_balanced ts (Do line inner e) (us, vs, a, line_is, s, x) =
        shut ts (Plain (word_plain _) (Tokens (statement_balanced us inner s) (Plain (word_plain _) (Opens opens_round (Tokens (balanced x) (Closes closes_round (Plain semicolon_plain Done))))))) a
    statement_balanced ts (For line start condition step inner) (us, vs, ws, xs, a, line_is, r, c, p, s) =
        shut ts (Plain (word_plain _) (Opens opens_round (Tokens (start_balanced us start r) (Tokens (optional_balanced _ _ vs condition c) (Plain semicolon_plain
        (Tokens (optional_balanced _ _ ws step p) (Closes closes_round (Tokens (statement_balanced xs inner s) Done)))))))) a
    statement_balanced ts (Break line) s = shut ts (Plain (word_plain _) (Plain semicolon_plain Done)) s.0
    statement_balanced ts (Continue line) s = shut ts (Plain (word_plain _) (Plain semicolon_plain Done)) s.0
    statement_balanced ts (Return line value) (us, a, line_is, s) = shut ts (Plain (word_plain _) (Tokens (optional_balanced _ _ us value s) (Plain semicolon_plain Done))) a

    entries_balanced : (ts : List Lexeme) (entries : Entries) → SpellsEntries ts entries → IsBalanced ts
    entries_balanced ts NoEntries s = nothing s
    entries_balanced ts (MoreEntries first others) (us, vs, a, s, more) = shut ts (Tokens (entry_balanced us first s) (Tokens (entries_balanced vs others more) Done)) a

    entry_balanced : (ts : List Lexeme) (e : Entry) → SpellsEntry ts e → IsBalanced ts
    entry_balanced ts (Declared d) s = declaration_balanced _ ts d s
    entry_balanced ts (Marked m) s = mark_balanced ts m s
    entry_balanced ts (Stated inner) s = statement_balanced ts inner s

  -- ---- items

  name_balanced : (ts : List Lexeme) (name : Option (List ℕ)) → SpellsOptionalName ts name → IsBalanced ts
  name_balanced ts None s = nothing s
  name_balanced ts (Some name) s = shut ts (Plain (word_plain name) Done) s.0

  parameter_balanced : (ts : List Lexeme) (p : Parameter) → SpellsParameter ts p → IsBalanced ts
  parameter_balanced ts p s =
      shut ts (Tokens (specifiers_balanced s.spells_specifiers) (Tokens (stars_balanced s.stars p.stars s.spells_stars)
      (Tokens (name_balanced s.name p.name s.spells_name) (Tokens (dimensions_balanced _ s.dimensions p.dimensions s.spells_dimensions) Done)))) s.parts

  parameters_balanced : (ts : List Lexeme) (all : Parameters) → SpellsParameters ts all → IsBalanced ts
  parameters_balanced ts Empty s = nothing s
  parameters_balanced ts VoidAlone s = shut ts (Plain (word_plain _) Done) s
  parameters_balanced ts (Listed all) s = between_balanced SpellsParameter parameter_balanced ts all s.0

  optional_mark_balanced : (ts : List Lexeme) (m : Option Mark) → SpellsOptionalMark ts m → IsBalanced ts
  optional_mark_balanced ts None s = nothing s
  optional_mark_balanced ts (Some m) s = mark_balanced ts m s

  body_balanced : (ts : List Lexeme) (body : Option Body) → SpellsBody ts body → IsBalanced ts
  body_balanced ts None s = shut ts (Plain semicolon_plain Done) s
  body_balanced ts (Some body) s = statement_balanced ts (Block body.line body.entries) s

  function_balanced : (ts : List Lexeme) (f : Function) → SpellsFunction ts f → IsBalanced ts
  function_balanced ts f s =
      let rest = shut s.rest (Tokens (specifiers_balanced s.spells_specifiers) (Tokens (stars_balanced s.stars f.stars s.spells_stars) (Plain (word_plain f.name)
      (Opens opens_round (Tokens (parameters_balanced s.parameters f.parameters s.spells_parameters) (Closes closes_round (Tokens (body_balanced s.body f.body s.spells_body) Done))))))) s.parts in
      shut ts (Tokens (optional_mark_balanced s.directive f.directive s.spells_directive) (Tokens rest Done)) s.begins

  item_balanced : (ts : List Lexeme) (i : Item) → SpellsItem ts i → IsBalanced ts
  item_balanced ts (Define f) s = function_balanced ts f s
  item_balanced ts (Declare d) s = declaration_balanced _ ts d s

  pub program_balanced : (ts : List Lexeme) (is : Tree) → SpellsProgram ts is → IsBalanced ts
  program_balanced ts [] s = nothing s
  program_balanced ts (i ∷ is) (us, vs, a, s, more) = shut ts (Tokens (item_balanced us i s) (Tokens (program_balanced vs is more) Done)) a
