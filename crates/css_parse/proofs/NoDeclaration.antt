-- What isn't read where a part of it isn't: expressions, declarations and parameters.
use Rattle.std.proofs.Common.{◌≡◌, ℕ, ◌-◌, ◌<◌, ◌≤◌, ◌+◌, List, [], ◌∷◌, ◌++◌, length, codes, Bool, true, false, Option, Some, None, refl, sym, ap, ◌∙◌, subst, arith}
use Rattle.std.proofs.lemmas.Bool.{false≢true}
use Rattle.std.proofs.lemmas.List.{length-append}
use Rattle.css_base.specs.Tokens.{Kind, Word, Punctuator, Lexeme}
use Rattle.css_tree.specs.declared.scope.Scope.{Scope}
use Rattle.css_tree.specs.declared.scope.Scope.TheVariants as scopes
use Rattle.css_tree.specs.declared.words.Specifier.{Specifier}
use Rattle.css_tree.specs.Syntax.{Stars, Expression, Dimensions, Initialiser, Declarator, Declaration, Parameter, Parameters, Empty, VoidAlone, Listed}
use Rattle.css_tree.specs.Words.{is_keyword}
use Rattle.css_pexpr.specs.declared.level.Level.{Level}
use Rattle.css_pexpr.specs.declared.level.Level.TheVariants as levels
use Rattle.css_parse.specs.Fronts.{Next}
use Rattle.css_parse.specs.Words.{TakesSpecifiers, ReadsSpecifiers, ReadsStars}
use Rattle.css_parse.specs.Readings.{IsNoNext, ReadsExpression, ReadsOptional, ReadsCondition, ReadsDimensions, ReadsInitialiser, ReadsInitial, ReadsName, ReadsHead, ReadsTail, ReadsDeclarator, ReadsFurtherDeclarators, ReadsDeclarators, ReadsDeclaration}
use Rattle.css_parse.specs.ItemReadings.{ReadsOptionalName, ReadsParameter, ReadsVoid, ReadsListed, ReadsParameters}
use Rattle.css_parse.proofs.FrontTokens.{one_next, one_kind, next_shorter}
use Rattle.css_parse.proofs.OneDeclaration.{one_specifiers, one_stars, one_read, one_dimensions, one_head, one_declarator}
use Rattle.css_parse.proofs.OneItem.{one_optional_name}
use Rattle.css_parse.proofs.SoundDeclaration.{stars_spelled}

-- ---- expressions

pub no_value : (scope : Scope) (level : Level) (close : List ℕ) (most : ℕ) (ts : List Lexeme) (value : Option Expression) (rest : List Lexeme) → IsNoNext (Punctuator close) ts
    → ((e : Expression) (behind : List Lexeme) → ReadsExpression scope level most ts e behind → ⊥) → ReadsOptional scope level close most ts value rest → ⊥
no_value scope level close most ts None rest none other r = none rest r
no_value scope level close most ts (Some e) rest none other (behind, not, x, n) = other e behind x

pub no_close : (scope : Scope) (level : Level) (close : List ℕ) (most : ℕ) (ts : List Lexeme) (value : Option Expression) (rest : List Lexeme) {e : Expression} {behind : List Lexeme} → IsNoNext (Punctuator close) ts
    → ReadsExpression scope level most ts e behind → IsNoNext (Punctuator close) behind → ReadsOptional scope level close most ts value rest → ⊥
no_close scope level close most ts None rest none x end r = none rest r
no_close scope level close most ts (Some other) rest none x end (next, not, y, n) = end rest (subst (λ l. Next (Punctuator close) l rest) (one_read y x).1 n)

pub no_condition : {most : ℕ} {ts inside rest : List Lexeme} {e : Expression} → Next (Punctuator (codes "(")) ts inside
    → ((other : Expression) (behind : List Lexeme) → ReadsExpression scopes.Block levels.Expr most inside other behind → ⊥) → ReadsCondition most ts e rest → ⊥
no_condition {most} {e = e} n none (next, behind, n', x, c) = none e behind (subst (λ l. ReadsExpression scopes.Block levels.Expr most l e behind) (one_next n' n) x)

pub no_condition_end : {most : ℕ} {ts inside behind rest : List Lexeme} {e other : Expression} → Next (Punctuator (codes "(")) ts inside
    → ReadsExpression scopes.Block levels.Expr most inside e behind → IsNoNext (Punctuator (codes ")")) behind → ReadsCondition most ts other rest → ⊥
no_condition_end {most} {rest = rest} {other = other} n x end (next, last, n', y, c) =
    end rest (subst (λ l. Next (Punctuator (codes ")")) l rest) (one_read (subst (λ l. ReadsExpression scopes.Block levels.Expr most l other last) (one_next n' n) y) x).1 c)

-- ---- declarations

pub no_size : (scope : Scope) (most : ℕ) (ts inside : List Lexeme) (sizes : Dimensions) (rest : List Lexeme) → Next (Punctuator (codes "[")) ts inside
    → ((value : Option Expression) (behind : List Lexeme) → ReadsOptional scope levels.Cond (codes "]") most inside value behind → ⊥) → ReadsDimensions scope most ts sizes rest → ⊥
no_size scope most ts inside [] rest n none r = r.1 inside n
no_size scope most ts inside (size ∷ sizes) rest n none (next, behind, n', o, more) =
    none size behind (subst (λ l. ReadsOptional scope levels.Cond (codes "]") most l size behind) (one_next n' n) o)

pub no_initial : (scope : Scope) (most : ℕ) (ts behind : List Lexeme) (value : Option Initialiser) (rest : List Lexeme) → Next (Punctuator (codes "=")) ts behind
    → ((i : Initialiser) (next : List Lexeme) → ReadsInitialiser scope most behind i next → ⊥) → ReadsInitial scope most ts value rest → ⊥
no_initial scope most ts behind None rest n none r = r.1 behind n
no_initial scope most ts behind (Some i) rest n none (next, n', r) = none i rest (subst (λ l. ReadsInitialiser scope most l i rest) (one_next n' n) r)

pub no_name : {ts us rest : List Lexeme} {word name : List ℕ} → Next (Word word) ts us → is_keyword word ≡ true → ReadsName ts name rest → ⊥
no_name {word = word} {name} n is r =
    let kinds : Word word ≡ Word name = one_kind n r.word in
    let same : word ≡ name = cc in
    false≢true (sym r.named ∙ ap is_keyword (sym same) ∙ is)

pub head_some : {ts rest : List Lexeme} {stars : Stars} {name : List ℕ} → ReadsHead ts stars name rest → length rest < length ts
head_some {ts} {rest} {stars} r =
    let s = stars_spelled ts stars r.reads_stars in
    let n = next_shorter r.reads_name.word in
    let size = ap length s.parts.parts in
    omega (arith, length-append s.front r.behind)

pub no_head : (ts : List Lexeme) (stars all : Stars) {name : List ℕ} {behind rest : List Lexeme} → ReadsStars ts stars behind
    → ((other : List ℕ) (next : List Lexeme) → ReadsName behind other next → ⊥) → ReadsHead ts all name rest → ⊥
no_head ts stars all {name} {behind} {rest} s none r = none name rest (subst (λ l. ReadsName l name rest) (one_stars ts all stars r.reads_stars s).1 r.reads_name)

pub no_tail : (scope : Scope) (most : ℕ) (ts : List Lexeme) (sizes others : Dimensions) {value : Option Initialiser} {behind rest : List Lexeme} → ReadsDimensions scope most ts sizes behind
    → ((other : Option Initialiser) (next : List Lexeme) → ReadsInitial scope most behind other next → ⊥) → ReadsTail scope most ts others value rest → ⊥
no_tail scope most ts sizes others {value} {behind} {rest} s none r =
    none value rest (subst (λ l. ReadsInitial scope most l value rest) (one_dimensions scope most ts others sizes r.reads_dimensions s).1 r.reads_initial)

pub no_declarator : {scope : Scope} {most : ℕ} {ts behind rest : List Lexeme} {stars : Stars} {name : List ℕ} {d : Declarator} → ReadsHead ts stars name behind
    → ((sizes : Dimensions) (value : Option Initialiser) (next : List Lexeme) → ReadsTail scope most behind sizes value next → ⊥) → ReadsDeclarator scope most ts d rest → ⊥
no_declarator {scope} {most} {rest = rest} {d = d} h none r =
    none d.dimensions d.initialiser rest (subst (λ l. ReadsTail scope most l d.dimensions d.initialiser rest) (one_head r.head h).2 r.tail)

pub declarator_some : {scope : Scope} {most : ℕ} {ts rest : List Lexeme} {d : Declarator} → ReadsDeclarator scope most ts d rest → ts ≡ [] → ⊥
declarator_some r none = (let s = head_some r.head in let e = ap length none in omega arith)

pub specifiers_some : {scope : Scope} {ts rest : List Lexeme} {all : List Specifier} → ReadsSpecifiers scope ts all rest → ts ≡ [] → ⊥
specifiers_some {scope} {ts} {rest} {all} r none = by all r
  where
    by : (all : List Specifier) → ReadsSpecifiers scope ts all rest → ⊥
    by [] r = (let some = r.some in omega arith)
    by (s ∷ all) r = (let p = r.takes.1.parts in let e : [] ≡ r.takes.1.token ∷ r.takes.0 = sym none ∙ p in cc)

takes_no_longer : (scope : Scope) (ts : List Lexeme) (all : List Specifier) (rest : List Lexeme) → TakesSpecifiers scope ts all rest → length rest ≤ length ts
takes_no_longer scope ts [] rest r = (let e = ap length r.0 in omega arith)
takes_no_longer scope ts (s ∷ all) rest (behind, is, more) = (let e = ap length is.parts in let h = takes_no_longer scope behind all rest more in omega arith)

pub specifiers_shorter : {scope : Scope} {ts rest : List Lexeme} {all : List Specifier} → ReadsSpecifiers scope ts all rest → length rest < length ts
specifiers_shorter {scope} {ts} {rest} {all} r = by all r.some r.takes
  where
    by : (all : List Specifier) → 0 < length all → TakesSpecifiers scope ts all rest → length rest < length ts
    by [] some t = absurd (omega arith)
    by (s ∷ all) some (behind, is, more) = (let e = ap length is.parts in let h = takes_no_longer scope behind all rest more in omega arith)

pub no_declaration : {scope : Scope} {most : ℕ} {ts behind rest : List Lexeme} {all : List Specifier} {d : Declaration} → ReadsSpecifiers scope ts all behind
    → ((first : Declarator) (next : List Lexeme) → ReadsDeclarator scope (most - 1) behind first next → ⊥) → ReadsDeclaration scope most ts d rest → ⊥
no_declaration {scope} {most} {ts} {behind} {rest} {all} {d} s none r = by d.declarators (subst (λ l. ReadsDeclarators scope (most - 1) l d.declarators rest) (one_specifiers r.reads_specifiers s).1 r.reads_declarators)
  where
    by : (ds : List Declarator) → ReadsDeclarators scope (most - 1) behind ds rest → ⊥
    by [] a = a
    by (x ∷ ds) (next, a, more) = none x next a

pub no_declaration_end : {scope : Scope} {most : ℕ} {ts behind last rest : List Lexeme} {all : List Specifier} {first : Declarator} {d : Declaration} → ReadsSpecifiers scope ts all behind
    → ReadsDeclarator scope (most - 1) behind first last → ((ds : List Declarator) (next : List Lexeme) → ReadsFurtherDeclarators scope (most - 1) last ds next → ⊥) → ReadsDeclaration scope most ts d rest → ⊥
no_declaration_end {scope} {most} {ts} {behind} {last} {rest} {all} {first} {d} s f none r = by d.declarators (subst (λ l. ReadsDeclarators scope (most - 1) l d.declarators rest) (one_specifiers r.reads_specifiers s).1 r.reads_declarators)
  where
    by : (ds : List Declarator) → ReadsDeclarators scope (most - 1) behind ds rest → ⊥
    by [] a = a
    by (x ∷ ds) (next, a, more) = none ds rest (subst (λ l. ReadsFurtherDeclarators scope (most - 1) l ds rest) (one_declarator a f).1 more)

-- ---- parameters

pub no_parameter_size : {most : ℕ} {ts behind rest : List Lexeme} {all : List Specifier} {p : Parameter} (stars : Stars) (middle : List Lexeme) (name : Option (List ℕ)) (next : List Lexeme) → ReadsSpecifiers scopes.File ts all behind → ReadsStars behind stars middle → ReadsOptionalName middle name next
    → ((sizes : Dimensions) (end : List Lexeme) → ReadsDimensions scopes.File most next sizes end → ⊥) → ReadsParameter most ts p rest → ⊥
no_parameter_size {most} {ts} {behind} {rest} {all} {p} stars middle name next s t n none r =
    let words = one_specifiers r.reads_specifiers s in
    let signs = one_stars behind p.stars stars (subst (λ l. ReadsStars l p.stars r.middle) words.1 r.reads_stars) t in
    let named = one_optional_name middle p.name name (subst (λ l. ReadsOptionalName l p.name r.next) signs.1 r.reads_name) n in
    none p.dimensions rest (subst (λ l. ReadsDimensions scopes.File most l p.dimensions rest) named.1 r.reads_dimensions)

pub no_listed : (most : ℕ) (ts : List Lexeme) (ps : List Parameter) (rest : List Lexeme) → ((p : Parameter) (next : List Lexeme) → ReadsParameter most ts p next → ⊥) → ReadsListed most ts ps rest → ⊥
no_listed most ts [] rest none r = r
no_listed most ts (p ∷ ps) rest none (next, r, more) = none p next r

pub no_parameters : (most : ℕ) (ts : List Lexeme) (all : Parameters) (rest : List Lexeme) → IsNoNext (Punctuator (codes ")")) ts → ((behind : List Lexeme) → ReadsVoid ts behind → ⊥)
    → ((ps : List Parameter) (behind : List Lexeme) → ReadsListed most ts ps behind → ⊥) → ReadsParameters most ts all rest → ⊥
no_parameters most ts Empty rest close void none r = close rest r
no_parameters most ts VoidAlone rest close void none r = void rest r
no_parameters most ts (Listed all) rest close void none r = none all rest r.1
