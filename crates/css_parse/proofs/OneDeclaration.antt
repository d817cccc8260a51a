-- Declarations are read in one way.
use Rattle.std.proofs.Common.{◌≡◌, ℕ, ◌-◌, ◌<◌, ◌≤◌, List, [], ◌∷◌, ◌++◌, length, codes, Option, Some, None, refl, sym, ap, ap₂, ◌∙◌, subst, arith}
use Rattle.css_base.specs.Tokens.{Kind, Word, Punctuator, Lexeme}
use Rattle.css_tree.specs.declared.scope.Scope.{Scope}
use Rattle.css_tree.specs.declared.scope.Scope.TheVariants as scopes
use Rattle.css_tree.specs.declared.words.Specifier.{Specifier}
use Rattle.css_tree.specs.declared.words.Qualifier.{Qualifier}
use Rattle.css_tree.specs.Syntax.{Stars, Expression, Dimensions, Initialiser, Value, String, Braces, Initialisers, NoParts, MoreParts, Declarator, Declaration}
use Rattle.css_tree.specs.TokenParts.{kind_at, first_line}
use Rattle.css_pexpr.specs.declared.level.Level.{Level}
use Rattle.css_pexpr.specs.declared.level.Level.TheVariants as levels
use Rattle.css_parse.specs.Fronts.{Next}
use Rattle.css_parse.specs.Words.{specifier_of, next_specifier, IsSpecifierAt, TakesSpecifiers, ReadsSpecifiers, qualifier_of, next_qualifier, IsQualifierAt, TakesQualifiers, ReadsStars}
use Rattle.css_parse.specs.Readings as reads
use Rattle.css_parse.specs.Readings.{IsNoNext, ReadsExpression, ReadsOptional, ReadsCondition, ReadsDimensions, valued, ReadsInitialiser, ReadsParts, ReadsFurtherParts, ReadsInitial, ReadsName, ReadsHead, ReadsTail, ReadsDeclarator, ReadsFurtherDeclarators, ReadsDeclarators, ReadsDeclaration}
use Rattle.css_parse.proofs.FrontTokens.{one_next, one_kind, apart, one_longest}

-- ---- words

pub one_specifier : {scope : Scope} {ts us vs : List Lexeme} {x y : Specifier} → IsSpecifierAt scope ts x us → IsSpecifierAt scope ts y vs → (x ≡ y) × (us ≡ vs)
one_specifier {scope} {us = us} {vs} {x} {y} a b =
    let p = a.parts in
    let q = b.parts in
    let token : a.token ≡ b.token = cc in
    let rest : us ≡ vs = cc in
    let both : Some x ≡ Some y = sym a.is ∙ ap (λ z. specifier_of scope (kind_at z)) token ∙ b.is in
    (cc, rest)

pub no_specifier : {scope : Scope} {ts us : List Lexeme} {x : Specifier} → IsSpecifierAt scope ts x us → next_specifier scope ts ≡ None → ⊥
no_specifier {scope} {x = x} a none =
    let wrong : None ≡ Some x = sym none ∙ ap (next_specifier scope) a.parts ∙ a.is in
    absurd cc

pub one_specifiers_taken : (scope : Scope) (ts : List Lexeme) (xs ys : List Specifier) {us vs : List Lexeme} → TakesSpecifiers scope ts xs us → TakesSpecifiers scope ts ys vs → (xs ≡ ys) × (us ≡ vs)
one_specifiers_taken scope ts [] [] a b = (refl, sym a.0 ∙ b.0)
one_specifiers_taken scope ts [] (y ∷ ys) a (behind, is, more) = absurd (no_specifier is a.1)
one_specifiers_taken scope ts (x ∷ xs) [] (behind, is, more) b = absurd (no_specifier is b.1)
one_specifiers_taken scope ts (x ∷ xs) (y ∷ ys) {vs = vs} (behind, is, more) (behind', is', more') =
    let first = one_specifier is is' in
    let others = one_specifiers_taken scope behind xs ys more (subst (λ l. TakesSpecifiers scope l ys vs) (sym first.1) more') in
    (ap₂ ◌∷◌ first.0 others.0, others.1)

pub one_specifiers : {scope : Scope} {ts us vs : List Lexeme} {xs ys : List Specifier} → ReadsSpecifiers scope ts xs us → ReadsSpecifiers scope ts ys vs → (xs ≡ ys) × (us ≡ vs)
one_specifiers {scope} {ts} {xs = xs} {ys = ys} a b = one_specifiers_taken scope ts xs ys a.takes b.takes

pub one_qualifier : {ts us vs : List Lexeme} {x y : Qualifier} → IsQualifierAt ts x us → IsQualifierAt ts y vs → (x ≡ y) × (us ≡ vs)
one_qualifier {us = us} {vs} {x} {y} a b =
    let p = a.parts in
    let q = b.parts in
    let token : a.token ≡ b.token = cc in
    let rest : us ≡ vs = cc in
    let both : Some x ≡ Some y = sym a.is ∙ ap (λ z. qualifier_of (kind_at z)) token ∙ b.is in
    (cc, rest)

pub no_qualifier : {ts us : List Lexeme} {x : Qualifier} → IsQualifierAt ts x us → next_qualifier ts ≡ None → ⊥
no_qualifier {x = x} a none =
    let wrong : None ≡ Some x = sym none ∙ ap next_qualifier a.parts ∙ a.is in
    absurd cc

pub one_qualifiers : (ts : List Lexeme) (xs ys : List Qualifier) {us vs : List Lexeme} → TakesQualifiers ts xs us → TakesQualifiers ts ys vs → (xs ≡ ys) × (us ≡ vs)
one_qualifiers ts [] [] a b = (refl, sym a.0 ∙ b.0)
one_qualifiers ts [] (y ∷ ys) a (behind, is, more) = absurd (no_qualifier is a.1)
one_qualifiers ts (x ∷ xs) [] (behind, is, more) b = absurd (no_qualifier is b.1)
one_qualifiers ts (x ∷ xs) (y ∷ ys) {vs = vs} (behind, is, more) (behind', is', more') =
    let first = one_qualifier is is' in
    let others = one_qualifiers behind xs ys more (subst (λ l. TakesQualifiers l ys vs) (sym first.1) more') in
    (ap₂ ◌∷◌ first.0 others.0, others.1)

pub one_stars : (ts : List Lexeme) (xs ys : Stars) {us vs : List Lexeme} → ReadsStars ts xs us → ReadsStars ts ys vs → (xs ≡ ys) × (us ≡ vs)
one_stars ts [] [] a b = (refl, sym a.0 ∙ b.0)
one_stars ts [] (y ∷ ys) a (behind, next, n, q, more) = absurd (a.1 behind n)
one_stars ts (x ∷ xs) [] (behind, next, n, q, more) b = absurd (b.1 behind n)
one_stars ts (x ∷ xs) (y ∷ ys) {vs = vs} (behind, next, n, q, more) (behind', next', n', q', more') =
    let here = one_next n' n in
    let first = one_qualifiers behind x y q (subst (λ l. TakesQualifiers l y next') here q') in
    let others = one_stars next xs ys more (subst (λ l. ReadsStars l ys vs) (sym first.1) more') in
    (ap₂ ◌∷◌ first.0 others.0, others.1)

-- ---- expressions

pub one_read : {scope : Scope} {level : Level} {most : ℕ} {ts us vs : List Lexeme} {e other : Expression} → ReadsExpression scope level most ts e us → ReadsExpression scope level most ts other vs → (e ≡ other) × (us ≡ vs)
one_read a b = one_longest a.longest b.longest

pub one_optional : (scope : Scope) (level : Level) (close : List ℕ) (most : ℕ) (ts : List Lexeme) (x y : Option Expression) {us vs : List Lexeme} → ReadsOptional scope level close most ts x us → ReadsOptional scope level close most ts y vs → (x ≡ y) × (us ≡ vs)
one_optional scope level close most ts None None a b = (refl, one_next a b)
one_optional scope level close most ts None (Some e) {us} a (behind, none, r, n) = absurd (none us a)
one_optional scope level close most ts (Some e) None {vs = vs} (behind, none, r, n) b = absurd (none vs b)
one_optional scope level close most ts (Some e) (Some other) {us} {vs} (behind, none, r, n) (behind', none', r', n') =
    let same = one_read r r' in
    (ap Some same.0, one_next (subst (λ l. Next (Punctuator close) l us) same.1 n) n')

pub one_condition : {most : ℕ} {ts us vs : List Lexeme} {e other : Expression} → ReadsCondition most ts e us → ReadsCondition most ts other vs → (e ≡ other) × (us ≡ vs)
one_condition {most} {us = us} {other = other} (inside, behind, n, r, c) (inside', behind', n', r', c') =
    let same = one_read r (subst (λ l. ReadsExpression scopes.Block levels.Expr most l other behind') (one_next n' n) r') in
    (same.0, one_next (subst (λ l. Next (Punctuator (codes ")")) l us) same.1 c) c')

-- ---- declarators

pub one_dimensions : (scope : Scope) (most : ℕ) (ts : List Lexeme) (xs ys : Dimensions) {us vs : List Lexeme} → ReadsDimensions scope most ts xs us → ReadsDimensions scope most ts ys vs → (xs ≡ ys) × (us ≡ vs)
one_dimensions scope most ts [] [] a b = (refl, sym a.0 ∙ b.0)
one_dimensions scope most ts [] (y ∷ ys) a (inside, behind, n, r, more) = absurd (a.1 inside n)
one_dimensions scope most ts (x ∷ xs) [] (inside, behind, n, r, more) b = absurd (b.1 inside n)
one_dimensions scope most ts (x ∷ xs) (y ∷ ys) {vs = vs} (inside, behind, n, r, more) (inside', behind', n', r', more') =
    let first = one_optional scope levels.Cond (codes "]") most inside x y r (subst (λ l. ReadsOptional scope levels.Cond (codes "]") most l y behind') (one_next n' n) r') in
    let others = one_dimensions scope most behind xs ys more (subst (λ l. ReadsDimensions scope most l ys vs) (sym first.1) more') in
    (ap₂ ◌∷◌ first.0 others.0, others.1)

comma_no_brace : {ts us vs : List Lexeme} → Next (Punctuator (codes ",")) ts us → Next (Punctuator (codes "}")) ts vs → ⊥
comma_no_brace n m = apart n m refl

-- the brace that closes, with and without a comma before it
closed_one : {scope : Scope} {most : ℕ} {ts us vs : List Lexeme} {y : Initialisers} → Next (Punctuator (codes "}")) ts us → ReadsFurtherParts scope most ts y vs → (NoParts ≡ y) × (us ≡ vs)
closed_one n (reads.Closed m) = (refl, one_next n m)
closed_one n (reads.ClosedBehindComma behind c m) = absurd (comma_no_brace c n)
closed_one n (reads.Further behind c none q) = absurd (comma_no_brace c n)

comma_one : {scope : Scope} {most : ℕ} {ts behind us vs : List Lexeme} {y : Initialisers} → Next (Punctuator (codes ",")) ts behind → Next (Punctuator (codes "}")) behind us → ReadsFurtherParts scope most ts y vs → (NoParts ≡ y) × (us ≡ vs)
comma_one c n (reads.Closed m) = absurd (comma_no_brace c m)
comma_one {us = us} c n (reads.ClosedBehindComma behind' c' m) = (refl, one_next (subst (λ l. Next (Punctuator (codes "}")) l us) (one_next c c') n) m)
comma_one {us = us} c n (reads.Further behind' c' none q) = absurd (none us (subst (λ l. Next (Punctuator (codes "}")) l us) (one_next c c') n))

mutual
  pub one_initialiser : {scope : Scope} {most : ℕ} {ts us vs : List Lexeme} {x y : Initialiser} → ReadsInitialiser scope most ts x us → ReadsInitialiser scope most ts y vs → (x ≡ y) × (us ≡ vs)
  one_initialiser {ts = ts} (reads.Valued e none r is low) (reads.Valued e' none' r' is' low') =
      let same = one_longest r r' in
      (is ∙ ap (valued ts) same.0 ∙ sym is', same.1)
  one_initialiser (reads.Valued e none r is low) (reads.Braced inside n line q) = absurd (none inside n)
  one_initialiser (reads.Braced inside n line q) (reads.Valued e none r is low) = absurd (none inside n)
  one_initialiser {scope} {most} (reads.Braced {line = m} {parts = ps} inside n line q) (reads.Braced {rest = vs} {line = k} {parts = qs} inside' n' line' q') =
      let same = one_parts q (subst (λ l. ReadsParts scope most l qs vs) (one_next n' n) q') in
      let lines : m ≡ k = sym line ∙ line' in
      (ap₂ Braces lines same.0, same.1)

  pub one_parts : {scope : Scope} {most : ℕ} {ts us vs : List Lexeme} {x y : Initialisers} → ReadsParts scope most ts x us → ReadsParts scope most ts y vs → (x ≡ y) × (us ≡ vs)
  one_parts {scope} {most} (reads.Parts behind r more) (reads.Parts {rest = vs} {others = qs} behind' r' more') =
      let first = one_initialiser r r' in
      let others = one_further_parts more (subst (λ l. ReadsFurtherParts scope most l qs vs) (sym first.1) more') in
      (ap₂ MoreParts first.0 others.0, others.1)

  pub one_further_parts : {scope : Scope} {most : ℕ} {ts us vs : List Lexeme} {x y : Initialisers} → ReadsFurtherParts scope most ts x us → ReadsFurtherParts scope most ts y vs → (x ≡ y) × (us ≡ vs)
  one_further_parts (reads.Closed n) b = closed_one n b
  one_further_parts (reads.ClosedBehindComma behind c n) b = comma_one c n b
  one_further_parts (reads.Further behind c none q) (reads.Closed n') = absurd (comma_no_brace c n')
  one_further_parts (reads.Further behind c none q) (reads.ClosedBehindComma {rest = vs} behind' c' n') =
      absurd (none vs (subst (λ l. Next (Punctuator (codes "}")) l vs) (one_next c' c) n'))
  one_further_parts {scope} {most} (reads.Further behind c none q) (reads.Further {rest = vs} {parts = ps} behind' c' none' q') =
      one_parts q (subst (λ l. ReadsParts scope most l ps vs) (one_next c' c) q')

pub one_initial : (scope : Scope) (most : ℕ) (ts : List Lexeme) (x y : Option Initialiser) {us vs : List Lexeme} → ReadsInitial scope most ts x us → ReadsInitial scope most ts y vs → (x ≡ y) × (us ≡ vs)
one_initial scope most ts None None a b = (refl, sym a.0 ∙ b.0)
one_initial scope most ts None (Some y) a (behind, n, r) = absurd (a.1 behind n)
one_initial scope most ts (Some x) None (behind, n, r) b = absurd (b.1 behind n)
one_initial scope most ts (Some x) (Some y) {vs = vs} (behind, n, r) (behind', n', r') =
    let same = one_initialiser r (subst (λ l. ReadsInitialiser scope most l y vs) (one_next n' n) r') in
    (ap Some same.0, same.1)

pub one_name : {ts us vs : List Lexeme} {x y : List ℕ} → ReadsName ts x us → ReadsName ts y vs → (x ≡ y) × (us ≡ vs)
one_name {ts} {vs = vs} {x} {y} a b =
    let kinds : Word x ≡ Word y = one_kind a.word b.word in
    let same : x ≡ y = cc in
    (same, one_next a.word (subst (λ z. Next (Word z) ts vs) (sym same) b.word))

pub one_head : {ts us vs : List Lexeme} {xs ys : Stars} {x y : List ℕ} → ReadsHead ts xs x us → ReadsHead ts ys y vs → (xs ≡ ys) × (x ≡ y) × (us ≡ vs)
one_head {ts} {vs = vs} {xs} {ys} {y = y} a b =
    let stars = one_stars ts xs ys a.reads_stars b.reads_stars in
    let name = one_name a.reads_name (subst (λ l. ReadsName l y vs) (sym stars.1) b.reads_name) in
    (stars.0, name.0, name.1)

pub one_tail : {scope : Scope} {most : ℕ} {ts us vs : List Lexeme} {xs ys : Dimensions} {x y : Option Initialiser} → ReadsTail scope most ts xs x us → ReadsTail scope most ts ys y vs → (xs ≡ ys) × (x ≡ y) × (us ≡ vs)
one_tail {scope} {most} {ts} {vs = vs} {xs} {ys} {x} {y} a b =
    let sizes = one_dimensions scope most ts xs ys a.reads_dimensions b.reads_dimensions in
    let initial = one_initial scope most a.behind x y a.reads_initial (subst (λ l. ReadsInitial scope most l y vs) (sym sizes.1) b.reads_initial) in
    (sizes.0, initial.0, initial.1)

abbrev make_declarator : ℕ → Stars → List ℕ → Dimensions → Option Initialiser → Declarator
make_declarator line stars name sizes value = record { line = line; stars = stars; name = name; dimensions = sizes; initialiser = value }

pub same_declarator : (c d : Declarator) → c.line ≡ d.line → c.stars ≡ d.stars → c.name ≡ d.name → c.dimensions ≡ d.dimensions → c.initialiser ≡ d.initialiser → c ≡ d
same_declarator c d p q r s t =
    ap (λ x. make_declarator x c.stars c.name c.dimensions c.initialiser) p ∙ ap (λ x. make_declarator d.line x c.name c.dimensions c.initialiser) q
    ∙ ap (λ x. make_declarator d.line d.stars x c.dimensions c.initialiser) r ∙ ap (λ x. make_declarator d.line d.stars d.name x c.initialiser) s
    ∙ ap (λ x. make_declarator d.line d.stars d.name d.dimensions x) t

pub one_declarator : {scope : Scope} {most : ℕ} {ts us vs : List Lexeme} {c d : Declarator} → ReadsDeclarator scope most ts c us → ReadsDeclarator scope most ts d vs → (c ≡ d) × (us ≡ vs)
one_declarator {scope} {most} {vs = vs} {c} {d} a b =
    let head = one_head a.head b.head in
    let tail = one_tail a.tail (subst (λ l. ReadsTail scope most l d.dimensions d.initialiser vs) (sym head.2) b.tail) in
    (same_declarator c d (sym a.line_is ∙ b.line_is) head.0 head.1 tail.0 tail.1, tail.2)

pub one_further_declarators : (scope : Scope) (most : ℕ) (ts : List Lexeme) (xs ys : List Declarator) {us vs : List Lexeme} → ReadsFurtherDeclarators scope most ts xs us → ReadsFurtherDeclarators scope most ts ys vs → (xs ≡ ys) × (us ≡ vs)
one_further_declarators scope most ts [] [] a b = (refl, one_next a b)
one_further_declarators scope most ts [] (y ∷ ys) a (behind, next, n, r, more) = absurd (apart a n refl)
one_further_declarators scope most ts (x ∷ xs) [] (behind, next, n, r, more) b = absurd (apart b n refl)
one_further_declarators scope most ts (x ∷ xs) (y ∷ ys) {vs = vs} (behind, next, n, r, more) (behind', next', n', r', more') =
    let first = one_declarator r (subst (λ l. ReadsDeclarator scope most l y next') (one_next n' n) r') in
    let others = one_further_declarators scope most next xs ys more (subst (λ l. ReadsFurtherDeclarators scope most l ys vs) (sym first.1) more') in
    (ap₂ ◌∷◌ first.0 others.0, others.1)

pub one_declarators : (scope : Scope) (most : ℕ) (ts : List Lexeme) (xs ys : List Declarator) {us vs : List Lexeme} → ReadsDeclarators scope most ts xs us → ReadsDeclarators scope most ts ys vs → (xs ≡ ys) × (us ≡ vs)
one_declarators scope most ts [] ys a b = absurd a
one_declarators scope most ts (x ∷ xs) [] a b = absurd b
one_declarators scope most ts (x ∷ xs) (y ∷ ys) {vs = vs} (next, r, more) (next', r', more') =
    let first = one_declarator r r' in
    let others = one_further_declarators scope most next xs ys more (subst (λ l. ReadsFurtherDeclarators scope most l ys vs) (sym first.1) more') in
    (ap₂ ◌∷◌ first.0 others.0, others.1)

abbrev make_declaration : ℕ → List Specifier → List Declarator → Declaration
make_declaration line words all = record { line = line; specifiers = words; declarators = all }

pub same_declaration : (c d : Declaration) → c.line ≡ d.line → c.specifiers ≡ d.specifiers → c.declarators ≡ d.declarators → c ≡ d
same_declaration c d p q r =
    ap (λ x. make_declaration x c.specifiers c.declarators) p ∙ ap (λ x. make_declaration d.line x c.declarators) q ∙ ap (λ x. make_declaration d.line d.specifiers x) r

pub one_declaration : {scope : Scope} {most : ℕ} {ts us vs : List Lexeme} {c d : Declaration} → ReadsDeclaration scope most ts c us → ReadsDeclaration scope most ts d vs → (c ≡ d) × (us ≡ vs)
one_declaration {scope} {most} {vs = vs} {c} {d} a b =
    let words = one_specifiers a.reads_specifiers b.reads_specifiers in
    let others = one_declarators scope (most - 1) a.behind c.declarators d.declarators a.reads_declarators
    (subst (λ l. ReadsDeclarators scope (most - 1) l d.declarators vs) (sym words.1) b.reads_declarators) in
    (same_declaration c d (sym a.line_is ∙ b.line_is) words.0 others.0, others.1)
