-- Declarations that are read are spelled.
use Rattle.std.proofs.Common.{◌≡◌, ℕ, ◌+◌, ◌-◌, ◌<◌, ◌≤◌, max, List, [], ◌∷◌, ◌++◌, length, map, All, codes, Option, Some, None, refl, sym, ap, ap₂, ◌∙◌, subst, inl, inr, arith, append_assoc}
use Rattle.std.proofs.lemmas.List.{map-append}
use Rattle.std.proofs.lemmas.List.Elements.{All-nil, All-cons}
use Rattle.css_base.specs.Tokens as tokens
use Rattle.css_base.specs.Tokens.{Kind, Word, Punctuator, Lexeme, At}
use Rattle.css_tree.specs.declared.scope.Scope.{Scope}
use Rattle.css_tree.specs.declared.scope.Scope.TheVariants as scopes
use Rattle.css_tree.specs.declared.words.Specifier.{Specifier}
use Rattle.css_tree.specs.declared.words.Qualifier.{Qualifier}
use Rattle.css_tree.specs.Syntax as tree
use Rattle.css_tree.specs.Syntax.{Stars, Expression, Dimensions, Initialiser, Value, String, Braces, Initialisers, NoParts, MoreParts, Declarator, Declaration}
use Rattle.css_tree.specs.TokenParts.{kind_at, line_of, kinds, first_line}
use Rattle.css_tree.specs.Words.{specifier_kind, IsAllowed, SpellsSpecifiers, qualifier_kind, stars_kinds, SpellsStars}
use Rattle.css_tree.specs.Expressions as spelled
use Rattle.css_tree.specs.Expressions.{SpellsExpression}
use Rattle.css_tree.specs.Declarations.{SpellsOptional, SpellsDimensions, IsStringAlone, IsOptionalComma, SpellsInitialiser, SpellsParts, SpellsFurtherParts, SpellsInitial, SpellsDeclarator, SpellsBehindCommas, SpellsBetweenCommas, SpellsDeclaration}
use Rattle.css_tree.specs.Heights.{height, height_of_optional, height_of_dimensions, height_of_initialiser, height_of_parts, height_of_initial, height_of_declarator, height_of_declarators, height_of_declaration}
use Rattle.css_pexpr.specs.declared.level.Level.{Level}
use Rattle.css_pexpr.specs.declared.level.Level.TheVariants as levels
use Rattle.css_pexpr.specs.Longest.{level_number}
use Rattle.css_parse.specs.Fronts.{Next}
use Rattle.css_parse.specs.Words.{TakesSpecifiers, ReadsSpecifiers, TakesQualifiers, ReadsStars}
use Rattle.css_parse.specs.Readings as reads
use Rattle.css_parse.specs.Readings.{ReadsExpression, ReadsOptional, ReadsCondition, ReadsDimensions, valued, ReadsInitialiser, ReadsParts, ReadsFurtherParts, ReadsInitial, ReadsName, ReadsHead, ReadsTail, ReadsDeclarator, ReadsFurtherDeclarators, ReadsDeclarators, ReadsDeclaration}
use Rattle.css_parse.proofs.WordTexts.{specifier_is, qualifier_is}
use Rattle.css_parse.proofs.Expressions.{one_expression}
use Rattle.css_parse.proofs.Begins.{Begun, begun}

-- ---- fronts

-- A front of some tokens, and the rest.
pub record Cut (ts front rest : List Lexeme) : Type 0 where
  pub parts : ts ≡ front ++ rest

pub led : {ts us front rest : List Lexeme} (t : Lexeme) → ts ≡ t ∷ us → Cut us front rest → Cut ts (t ∷ front) rest
led t e f = record { parts = e ∙ ap (λ l. t ∷ l) f.parts }

pub followed : {ts us vs front rest : List Lexeme} → Cut ts front us → Cut us vs rest → Cut ts (front ++ vs) rest
followed {vs = vs} {front} {rest} e f = record { parts = e.parts ∙ ap (λ l. front ++ l) f.parts ∙ sym (append_assoc front vs rest) }

pub none_before : {ts rest : List Lexeme} → ts ≡ rest → Cut ts [] rest
none_before e = record { parts = e }

pub one_before : {ts rest : List Lexeme} {t : Lexeme} → ts ≡ t ∷ rest → Cut ts (t ∷ []) rest
one_before e = record { parts = e }

pub last_one : {rest : List Lexeme} (t : Lexeme) → Cut (t ∷ rest) (t ∷ []) rest
last_one t = record { parts = refl }

pub cut_at : (front rest : List Lexeme) → Cut (front ++ rest) front rest
cut_at front rest = record { parts = refl }

-- the first line of some tokens is that of their front
pub front_line : {ts front rest : List Lexeme} {line : ℕ} → Cut ts front rest → 0 < length front → first_line ts ≡ line → first_line front ≡ line
front_line {ts} {front} {rest} {line} cut some line_is = by front cut.parts some
  where
    by : (front : List Lexeme) → ts ≡ front ++ rest → 0 < length front → first_line front ≡ line
    by [] e some = absurd (omega arith)
    by (t ∷ front) e some = sym (ap first_line e) ∙ line_is

-- ---- words

pub record SpecifiersBefore (scope : Scope) (ts : List Lexeme) (all : List Specifier) (rest : List Lexeme) : Type 0 where
  pub front : List Lexeme
  pub parts : Cut ts front (rest)
  pub spells : SpellsSpecifiers scope front all

record Taken (scope : Scope) (ts : List Lexeme) (all : List Specifier) (rest : List Lexeme) : Type 0 where
  pub front : List Lexeme
  pub parts : Cut ts front (rest)
  pub words : kinds front ≡ map specifier_kind all
  pub allowed : All (IsAllowed scope) all

taken : (scope : Scope) (ts : List Lexeme) (all : List Specifier) {rest : List Lexeme} → TakesSpecifiers scope ts all rest → Taken scope ts all rest
taken scope ts [] r = record { front = []; parts = none_before r.0; words = refl; allowed = All-nil (IsAllowed scope) }
taken scope ts (s ∷ all) (behind, is, more) =
    let others = taken scope behind all more in
    let what = specifier_is scope (kind_at is.token) s is.is in
    record {
      front = is.token ∷ others.front;
      parts = led is.token is.parts others.parts;
      words = ap₂ ◌∷◌ what.0 others.words;
      allowed = All-cons (IsAllowed scope) s all what.1 others.allowed;
    }

pub specifiers_spelled : {scope : Scope} {ts rest : List Lexeme} {all : List Specifier} → ReadsSpecifiers scope ts all rest → SpecifiersBefore scope ts all rest
specifiers_spelled {scope} {ts} {all = all} r =
    let t = taken scope ts all r.takes in
    record { front = t.front; parts = t.parts; spells = record { some = r.some; words = t.words; allowed = t.allowed } }

pub some_words : {scope : Scope} {ts : List Lexeme} {all : List Specifier} → SpellsSpecifiers scope ts all → 0 < length ts
some_words {ts = ts} {all} s = by ts all s.words s.some
  where
    by : (ts : List Lexeme) (all : List Specifier) → kinds ts ≡ map specifier_kind all → 0 < length all → 0 < length ts
    by [] [] e some = absurd (omega arith)
    by [] (s ∷ all) e some = absurd cc
    by (t ∷ ts) all e some = omega arith

pub some_behind_front : (us vs : List Lexeme) → 0 < length vs → 0 < length (us ++ vs)
some_behind_front [] vs some = some
some_behind_front (u ∷ us) vs some = omega arith

pub some_front : (us vs : List Lexeme) → 0 < length us → 0 < length (us ++ vs)
some_front [] vs some = absurd (omega arith)
some_front (u ∷ us) vs some = omega arith

record QualifiersBefore (ts : List Lexeme) (all : List Qualifier) (rest : List Lexeme) : Type 0 where
  pub front : List Lexeme
  pub parts : Cut ts front (rest)
  pub words : kinds front ≡ map qualifier_kind all

qualifiers_taken : (ts : List Lexeme) (all : List Qualifier) {rest : List Lexeme} → TakesQualifiers ts all rest → QualifiersBefore ts all rest
qualifiers_taken ts [] r = record { front = []; parts = none_before r.0; words = refl }
qualifiers_taken ts (q ∷ all) (behind, is, more) =
    let others = qualifiers_taken behind all more in
    record { front = is.token ∷ others.front; parts = led is.token is.parts others.parts; words = ap₂ ◌∷◌ (qualifier_is (kind_at is.token) q is.is) others.words }

pub record StarsBefore (ts : List Lexeme) (all : Stars) (rest : List Lexeme) : Type 0 where
  pub front : List Lexeme
  pub parts : Cut ts front (rest)
  pub spells : SpellsStars front all

pub stars_spelled : (ts : List Lexeme) (all : Stars) {rest : List Lexeme} → ReadsStars ts all rest → StarsBefore ts all rest
stars_spelled ts [] r = record { front = []; parts = none_before r.0; spells = refl }
stars_spelled ts (star ∷ stars) (behind, next, n, q, more) =
    let here = qualifiers_taken behind star q in
    let others = stars_spelled next stars more in
    record {
      front = n.token ∷ (here.front ++ others.front);
      parts = led n.token n.parts (followed here.parts others.parts);
      spells = ap₂ ◌∷◌ n.is (map-append kind_at here.front others.front ∙ ap₂ ◌++◌ here.words others.spells);
    }

-- ---- expressions

-- an expression or nothing, and the token that closes it
pub record OptionalBefore (scope : Scope) (level : Level) (close : List ℕ) (most : ℕ) (ts : List Lexeme) (value : Option Expression) (rest : List Lexeme) : Type 0 where
  pub front : List Lexeme
  pub token : Lexeme
  pub parts : Cut ts front (token ∷ rest)
  pub is : kind_at token ≡ Punctuator close
  pub spells : SpellsOptional scope (level_number level) front value
  pub low : height_of_optional value ≤ most

pub optional_spelled : (scope : Scope) (level : Level) (close : List ℕ) (most : ℕ) (ts : List Lexeme) (value : Option Expression) {rest : List Lexeme} → ReadsOptional scope level close most ts value rest → OptionalBefore scope level close most ts value rest
optional_spelled scope level close most ts None n = record { front = []; token = n.token; parts = none_before n.parts; is = n.is; spells = refl; low = omega arith }
optional_spelled scope level close most ts (Some e) (behind, none, r, n) =
    let l = r.longest in
    record { front = l.front; token = n.token; parts = record { parts = l.parts ∙ ap (λ z. l.front ++ z) n.parts }; is = n.is; spells = l.spells; low = r.low }

-- an expression in parentheses
pub record ConditionBefore (most : ℕ) (ts : List Lexeme) (e : Expression) (rest : List Lexeme) : Type 0 where
  pub opening : Lexeme
  pub inside : List Lexeme
  pub first : ts ≡ opening ∷ inside
  pub front : List Lexeme
  pub closing : Lexeme
  pub parts : Cut inside front (closing ∷ rest)
  pub opens : kind_at opening ≡ Punctuator (codes "(")
  pub closes : kind_at closing ≡ Punctuator (codes ")")
  pub spells : SpellsExpression scopes.Block (level_number levels.Expr) front e
  pub low : height e ≤ most

pub condition_spelled : {most : ℕ} {ts rest : List Lexeme} {e : Expression} → ReadsCondition most ts e rest → ConditionBefore most ts e rest
condition_spelled (inside, behind, n, r, c) =
    let l = r.longest in
    record {
      opening = n.token;
      inside = inside;
      first = n.parts;
      front = l.front;
      closing = c.token;
      parts = record { parts = l.parts ∙ ap (λ z. l.front ++ z) c.parts };
      opens = n.is;
      closes = c.is;
      spells = l.spells;
      low = r.low;
    }

-- ---- declarators

pub record DimensionsBefore (scope : Scope) (most : ℕ) (ts : List Lexeme) (sizes : Dimensions) (rest : List Lexeme) : Type 0 where
  pub front : List Lexeme
  pub parts : Cut ts front (rest)
  pub spells : SpellsDimensions scope front sizes
  pub low : height_of_dimensions sizes ≤ most

pub dimensions_spelled : (scope : Scope) (most : ℕ) (ts : List Lexeme) (sizes : Dimensions) {rest : List Lexeme} → ReadsDimensions scope most ts sizes rest → DimensionsBefore scope most ts sizes rest
dimensions_spelled scope most ts [] r = record { front = []; parts = none_before r.0; spells = refl; low = omega arith }
dimensions_spelled scope most ts (size ∷ sizes) (inside, behind, n, r, more) =
    let here = optional_spelled scope levels.Cond (codes "]") most inside size r in
    let others = dimensions_spelled scope most behind sizes more in
    let a = here.low in
    let b = others.low in
    record {
      front = n.token ∷ (here.front ++ here.token ∷ others.front);
      parts = led n.token n.parts (followed here.parts (led here.token refl others.parts));
      spells = (here.front, others.front, (n.token, _, refl, n.is, (_, refl, (here.token, _, refl, here.is, refl))), here.spells, others.spells);
      low = omega arith;
    }

pub record InitialiserBefore (scope : Scope) (most : ℕ) (ts : List Lexeme) (i : Initialiser) (rest : List Lexeme) : Type 0 where
  pub front : List Lexeme
  pub parts : Cut ts front (rest)
  pub spells : SpellsInitialiser scope front i
  pub low : height_of_initialiser i ≤ most

-- an expression as an initialiser
valued_spelled : (scope : Scope) (front rest : List Lexeme) (e : Expression) → SpellsExpression scope (level_number levels.Assign) front e → SpellsInitialiser scope front (valued (front ++ rest) e)
valued_spelled scope front rest e s = by front (begun s) e s
  where
    text_alone : {us : List Lexeme} {line : ℕ} {bytes other : List ℕ} {k p q : ℕ} {vs : List Lexeme} → us ≡ At (tokens.Text other) k p q ∷ vs → SpellsExpression scope (level_number levels.Assign) us (tree.Text line bytes) → SpellsInitialiser scope us (String line bytes)
    text_alone parts (spelled.String bytes line a) = (a, line)
    text_alone {other = other} {k} {p} {q} parts (spelled.Parentheses us (o, r, first, is, a) x) =
        let token : At (tokens.Text other) k p q ≡ o = cc in
        let kind : tokens.Text other ≡ Punctuator (codes "(") = ap kind_at token ∙ is in
        absurd cc

    no_string : (front : List Lexeme) (e : Expression) → SpellsExpression scope (level_number levels.Assign) front e → ((line : ℕ) (bytes : List ℕ) → e ≡ tree.Text line bytes → ⊥) → IsStringAlone front → ⊥
    no_string front e s none (bytes, a) = none (first_line front) bytes (one_expression scope (level_number levels.Assign) front s (spelled.String bytes refl a))

    with_text : (us : List Lexeme) (other : List ℕ) (k p q : ℕ) (e : Expression) → SpellsExpression scope (level_number levels.Assign) (At (tokens.Text other) k p q ∷ us) e
        → SpellsInitialiser scope (At (tokens.Text other) k p q ∷ us) (valued ((At (tokens.Text other) k p q ∷ us) ++ rest) e)
    with_text us other k p q (tree.Text line bytes) s = text_alone refl s
    with_text us other k p q e s = (s, no_string (At (tokens.Text other) k p q ∷ us) e s (λ line bytes is. absurd cc))

    no_text : (kind : Kind) (us : List Lexeme) (k p q : ℕ) → ((bytes : List ℕ) → kind ≡ tokens.Text bytes → ⊥) → IsStringAlone (At kind k p q ∷ us) → ⊥
    no_text kind us k p q none (bytes, (o, r, e, is, last)) = none bytes (let token : At kind k p q ≡ o = cc in ap kind_at token ∙ is)

    by : (us : List Lexeme) → Begun us → (e : Expression) → SpellsExpression scope (level_number levels.Assign) us e → SpellsInitialiser scope us (valued (us ++ rest) e)
    by [] b e s = (let p = b.parts in absurd cc)
    by (At (tokens.Text other) k p q ∷ us) b e s = with_text us other k p q e s
    by (At kind k p q ∷ us) b e s = (s, no_text kind us k p q (λ bytes is. absurd cc))

-- initialisers, an optional comma and the closing brace
record PartsBefore (scope : Scope) (most : ℕ) (ts : List Lexeme) (parts_are : Initialisers) (rest : List Lexeme) : Type 0 where
  pub front : List Lexeme
  pub comma : List Lexeme
  pub token : Lexeme
  pub parts : Cut ts front ((comma ++ token ∷ rest))
  pub is : kind_at token ≡ Punctuator (codes "}")
  pub spells : SpellsParts scope front parts_are
  pub optional : IsOptionalComma comma
  pub low : height_of_parts parts_are ≤ most

record FurtherPartsBefore (scope : Scope) (most : ℕ) (ts : List Lexeme) (parts_are : Initialisers) (rest : List Lexeme) : Type 0 where
  pub front : List Lexeme
  pub comma : List Lexeme
  pub token : Lexeme
  pub parts : Cut ts front ((comma ++ token ∷ rest))
  pub is : kind_at token ≡ Punctuator (codes "}")
  pub spells : SpellsFurtherParts scope front parts_are
  pub optional : IsOptionalComma comma
  pub low : height_of_parts parts_are ≤ most

behind_comma : (scope : Scope) (c : Lexeme) (us : List Lexeme) (parts : Initialisers) → kind_at c ≡ Punctuator (codes ",") → SpellsParts scope us parts → SpellsFurtherParts scope (c ∷ us) parts
behind_comma scope c us NoParts is s = absurd s
behind_comma scope c us (MoreParts first others) is (xs, ys, a, s, more) = (xs, ys, (c, us, refl, is, a), s, more)

mutual
  pub initialiser_spelled : {scope : Scope} {most : ℕ} {ts : List Lexeme} {i : Initialiser} {rest : List Lexeme} → ReadsInitialiser scope most ts i rest → InitialiserBefore scope most ts i rest
  initialiser_spelled {scope} {rest = rest} (reads.Valued e none l is low) = record {
    front = l.front;
    parts = record { parts = l.parts };
    spells = subst (λ z. SpellsInitialiser scope l.front z) (sym (is ∙ ap (λ z. valued z e) l.parts)) (valued_spelled scope l.front rest e l.spells);
    low = low;
  }
  initialiser_spelled (reads.Braced inside n line q) =
      let x = parts_spelled q in
      record {
        front = n.token ∷ (x.front ++ (x.comma ++ x.token ∷ []));
        parts = led n.token n.parts (followed x.parts (followed (cut_at x.comma (x.token ∷ _)) (last_one x.token)));
        spells = (x.front, x.comma, (n.token, _, refl, n.is, (_, refl, (_, refl, (x.token, [], refl, x.is, refl)))), sym (ap first_line n.parts) ∙ line, x.spells, x.optional);
        low = x.low;
      }

  parts_spelled : {scope : Scope} {most : ℕ} {ts : List Lexeme} {parts_are : Initialisers} {rest : List Lexeme} → ReadsParts scope most ts parts_are rest → PartsBefore scope most ts parts_are rest
  parts_spelled (reads.Parts behind r more) =
      let x = initialiser_spelled r in
      let y = further_parts_spelled more in
      let a = x.low in
      let b = y.low in
      record {
        front = x.front ++ y.front;
        comma = y.comma;
        token = y.token;
        parts = followed x.parts y.parts;
        is = y.is;
        spells = (x.front, y.front, (_, refl, refl), x.spells, y.spells);
        optional = y.optional;
        low = omega arith;
      }

  further_parts_spelled : {scope : Scope} {most : ℕ} {ts : List Lexeme} {parts_are : Initialisers} {rest : List Lexeme} → ReadsFurtherParts scope most ts parts_are rest → FurtherPartsBefore scope most ts parts_are rest
  further_parts_spelled (reads.Closed n) = record { front = []; comma = []; token = n.token; parts = none_before n.parts; is = n.is; spells = refl; optional = inl refl; low = omega arith }
  further_parts_spelled (reads.ClosedBehindComma behind c n) = record {
    front = [];
    comma = c.token ∷ [];
    token = n.token;
    parts = none_before (c.parts ∙ ap (λ l. c.token ∷ l) n.parts);
    is = n.is;
    spells = refl;
    optional = inr (c.token, [], refl, c.is, refl);
    low = omega arith;
  }
  further_parts_spelled {scope} (reads.Further {parts = ps} behind c none q) =
      let x = parts_spelled q in
      record {
        front = c.token ∷ x.front;
        comma = x.comma;
        token = x.token;
        parts = led c.token c.parts x.parts;
        is = x.is;
        spells = behind_comma scope c.token x.front ps c.is x.spells;
        optional = x.optional;
        low = x.low;
      }

pub record InitialBefore (scope : Scope) (most : ℕ) (ts : List Lexeme) (i : Option Initialiser) (rest : List Lexeme) : Type 0 where
  pub front : List Lexeme
  pub parts : Cut ts front (rest)
  pub spells : SpellsInitial scope front i
  pub low : height_of_initial i ≤ most

pub initial_spelled : (scope : Scope) (most : ℕ) (ts : List Lexeme) (i : Option Initialiser) {rest : List Lexeme} → ReadsInitial scope most ts i rest → InitialBefore scope most ts i rest
initial_spelled scope most ts None r = record { front = []; parts = none_before r.0; spells = refl; low = omega arith }
initial_spelled scope most ts (Some i) (behind, n, r) =
    let here = initialiser_spelled r in
    record {
      front = n.token ∷ here.front;
      parts = led n.token n.parts here.parts;
      spells = (here.front, (n.token, _, refl, n.is, refl), here.spells);
      low = here.low;
    }

pub record DeclaratorBefore (scope : Scope) (most : ℕ) (ts : List Lexeme) (d : Declarator) (rest : List Lexeme) : Type 0 where
  pub front : List Lexeme
  pub parts : Cut ts front (rest)
  pub spells : SpellsDeclarator scope front d
  pub low : height_of_declarator d ≤ most
  pub some : 0 < length front

some_behind : (us : List Lexeme) (t : Lexeme) (vs : List Lexeme) → 0 < length (us ++ t ∷ vs)
some_behind [] t vs = omega arith
some_behind (u ∷ us) t vs = omega arith

pub declarator_spelled : {scope : Scope} {most : ℕ} {ts rest : List Lexeme} {d : Declarator} → ReadsDeclarator scope most ts d rest → DeclaratorBefore scope most ts d rest
declarator_spelled {scope} {most} {ts} {rest} {d} r =
    let stars = stars_spelled ts d.stars r.head.reads_stars in
    let name = r.head.reads_name in
    let sizes = dimensions_spelled scope most r.behind d.dimensions r.tail.reads_dimensions in
    let initial = initial_spelled scope most r.tail.behind d.initialiser r.tail.reads_initial in
    let word = name.word in
    let front = stars.front ++ word.token ∷ (sizes.front ++ initial.front) in
    let parts = followed stars.parts (led word.token word.parts (followed sizes.parts initial.parts)) in
    let a = sizes.low in
    let b = initial.low in
    let some = some_behind stars.front word.token (sizes.front ++ initial.front) in
    record {
      front = front;
      parts = parts;
      spells = record {
        stars = stars.front;
        dimensions = sizes.front;
        initial = initial.front;
        parts = (_, refl, (word.token, _, refl, word.is, (_, refl, refl)));
        line_is = front_line parts some r.line_is;
        spells_stars = stars.spells;
        named = name.named;
        spells_dimensions = sizes.spells;
        spells_initial = initial.spells;
      };
      low = omega arith;
      some = some;
    }

-- declarators behind commas, and the semicolon
pub record FurtherBefore (scope : Scope) (most : ℕ) (ts : List Lexeme) (ds : List Declarator) (rest : List Lexeme) : Type 0 where
  pub front : List Lexeme
  pub token : Lexeme
  pub parts : Cut ts front (token ∷ rest)
  pub is : kind_at token ≡ Punctuator (codes ";")
  pub spells : SpellsBehindCommas (SpellsDeclarator scope) front ds
  pub low : height_of_declarators ds ≤ most

further_spelled : (scope : Scope) (most : ℕ) (ts : List Lexeme) (ds : List Declarator) {rest : List Lexeme} → ReadsFurtherDeclarators scope most ts ds rest → FurtherBefore scope most ts ds rest
further_spelled scope most ts [] n = record { front = []; token = n.token; parts = none_before n.parts; is = n.is; spells = refl; low = omega arith }
further_spelled scope most ts (d ∷ ds) (behind, next, n, r, more) =
    let here = declarator_spelled r in
    let others = further_spelled scope most next ds more in
    let a = here.low in
    let b = others.low in
    record {
      front = n.token ∷ (here.front ++ others.front);
      token = others.token;
      parts = led n.token n.parts (followed here.parts others.parts);
      is = others.is;
      spells = (here.front, others.front, (n.token, _, refl, n.is, (_, refl, refl)), here.spells, others.spells);
      low = omega arith;
    }

pub record DeclarationBefore (scope : Scope) (most : ℕ) (ts : List Lexeme) (d : Declaration) (rest : List Lexeme) : Type 0 where
  pub front : List Lexeme
  pub parts : Cut ts front (rest)
  pub spells : SpellsDeclaration scope front d
  pub low : height_of_declaration d ≤ most
  pub some : 0 < length front

record DeclaratorsBefore (scope : Scope) (most : ℕ) (ts : List Lexeme) (ds : List Declarator) (rest : List Lexeme) : Type 0 where
  pub front : List Lexeme
  pub token : Lexeme
  pub parts : Cut ts front (token ∷ rest)
  pub is : kind_at token ≡ Punctuator (codes ";")
  pub spells : SpellsBetweenCommas (SpellsDeclarator scope) front ds
  pub low : height_of_declarators ds ≤ most

declarators_spelled : (scope : Scope) (most : ℕ) (ts : List Lexeme) (ds : List Declarator) {rest : List Lexeme} → ReadsDeclarators scope most ts ds rest → DeclaratorsBefore scope most ts ds rest
declarators_spelled scope most ts [] r = absurd r
declarators_spelled scope most ts (d ∷ ds) (next, r, more) =
    let here = declarator_spelled r in
    let others = further_spelled scope most next ds more in
    let a = here.low in
    let b = others.low in
    record {
      front = here.front ++ others.front;
      token = others.token;
      parts = followed here.parts others.parts;
      is = others.is;
      spells = (here.front, others.front, (_, refl, refl), here.spells, others.spells);
      low = omega arith;
    }

pub declaration_spelled : {scope : Scope} {most : ℕ} {ts rest : List Lexeme} {d : Declaration} → ReadsDeclaration scope most ts d rest → DeclarationBefore scope most ts d rest
declaration_spelled {scope} {most} {ts} {rest} {d} r =
    let words = specifiers_spelled r.reads_specifiers in
    let others = declarators_spelled scope (most - 1) r.behind d.declarators r.reads_declarators in
    let front = words.front ++ (others.front ++ others.token ∷ []) in
    let parts = followed words.parts (followed others.parts (last_one others.token)) in
    let some = some_words words.spells in
    let longer : 0 < length front = some_front words.front (others.front ++ others.token ∷ []) some in
    let a = others.low in
    let b = r.some in
    record {
      front = front;
      parts = parts;
      spells = record {
        specifiers = words.front;
        declarators = others.front;
        parts = (_, refl, (_, refl, (others.token, [], refl, others.is, refl)));
        line_is = front_line parts longer r.line_is;
        spells_specifiers = words.spells;
        spells_declarators = others.spells;
      };
      low = omega arith;
      some = longer;
    }
