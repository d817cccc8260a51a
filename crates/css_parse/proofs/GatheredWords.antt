-- Words and sizes that are gathered one behind another.
use Rattle.std.proofs.Common.{◌≡◌, ℕ, List, [], ◌∷◌, ◌++◌, codes, Option, Some, None, refl, sym, subst}
use Rattle.css_base.specs.Tokens.{Kind, Punctuator, Lexeme}
use Rattle.css_tree.specs.declared.scope.Scope.{Scope}
use Rattle.css_tree.specs.declared.words.Specifier.{Specifier}
use Rattle.css_tree.specs.declared.words.Qualifier.{Qualifier}
use Rattle.css_tree.specs.Syntax.{Stars, Expression, Dimensions}
use Rattle.css_pexpr.specs.declared.level.Level.TheVariants as levels
use Rattle.css_parse.specs.Fronts.{Next}
use Rattle.css_parse.specs.Words.{IsSpecifierAt, TakesSpecifiers, IsQualifierAt, TakesQualifiers, ReadsStars}
use Rattle.css_parse.specs.Readings.{ReadsOptional, ReadsDimensions}
use Rattle.css_parse.proofs.FrontTokens.{one_next}
use Rattle.css_parse.proofs.OneDeclaration.{one_specifier, no_specifier, one_qualifier, no_qualifier, one_qualifiers, one_optional}
use Rattle.css_parse.proofs.Gathering.{SoFar, Goes, one_more}

pub one_more_specifier : (scope : Scope) {whole : List Specifier → List Lexeme → Type 0} (done : List Specifier) {ts behind : List Lexeme} (s : Specifier)
    → SoFar whole (TakesSpecifiers scope ts) done → IsSpecifierAt scope ts s behind → SoFar whole (TakesSpecifiers scope behind) (done ++ s ∷ [])
one_more_specifier scope done {ts} {behind} s so is = one_more done s so (λ xs rest r. (behind, is, r)) drop
  where
    drop : (xs : List Specifier) (rest : List Lexeme) → TakesSpecifiers scope ts xs rest → (ys : List Specifier) × TakesSpecifiers scope behind ys rest
    drop [] rest r = absurd (no_specifier is r.1)
    drop (x ∷ xs) rest (behind', is', r) = (xs, subst (λ l. TakesSpecifiers scope l xs rest) (one_specifier is' is).1 r)

pub one_more_qualifier : {whole : List Qualifier → List Lexeme → Type 0} (done : List Qualifier) {ts behind : List Lexeme} (q : Qualifier)
    → SoFar whole (TakesQualifiers ts) done → IsQualifierAt ts q behind → SoFar whole (TakesQualifiers behind) (done ++ q ∷ [])
one_more_qualifier done {ts} {behind} q so is = one_more done q so (λ xs rest r. (behind, is, r)) drop
  where
    drop : (xs : List Qualifier) (rest : List Lexeme) → TakesQualifiers ts xs rest → (ys : List Qualifier) × TakesQualifiers behind ys rest
    drop [] rest r = absurd (no_qualifier is r.1)
    drop (x ∷ xs) rest (behind', is', r) = (xs, subst (λ l. TakesQualifiers l xs rest) (one_qualifier is' is).1 r)

pub one_more_star : {whole : Stars → List Lexeme → Type 0} (done : Stars) {ts behind next : List Lexeme} (star : List Qualifier)
    → SoFar whole (ReadsStars ts) done → Next (Punctuator (codes "*")) ts behind → TakesQualifiers behind star next → SoFar whole (ReadsStars next) (done ++ star ∷ [])
one_more_star done {ts} {behind} {next} star so n q = one_more done star so (λ xs rest r. (behind, next, n, q, r)) drop
  where
    drop : (xs : Stars) (rest : List Lexeme) → ReadsStars ts xs rest → (ys : Stars) × ReadsStars next ys rest
    drop [] rest r = absurd (r.1 behind n)
    drop (x ∷ xs) rest (behind', next', n', q', r) =
        let same = one_qualifiers behind' x star q' (subst (λ l. TakesQualifiers l star next) (one_next n n') q) in
        (xs, subst (λ l. ReadsStars l xs rest) same.1 r)

pub one_more_dimension : (scope : Scope) (most : ℕ) {whole : Dimensions → List Lexeme → Type 0} (done : Dimensions) {ts inside next : List Lexeme} (size : Option Expression)
    → SoFar whole (ReadsDimensions scope most ts) done → Next (Punctuator (codes "[")) ts inside → ReadsOptional scope levels.Cond (codes "]") most inside size next
    → SoFar whole (ReadsDimensions scope most next) (done ++ size ∷ [])
one_more_dimension scope most done {ts} {inside} {next} size so n o = one_more done size so (λ xs rest r. (inside, next, n, o, r)) drop
  where
    drop : (xs : Dimensions) (rest : List Lexeme) → ReadsDimensions scope most ts xs rest → (ys : Dimensions) × ReadsDimensions scope most next ys rest
    drop [] rest r = absurd (r.1 inside n)
    drop (x ∷ xs) rest (inside', next', n', o', r) =
        let same = one_optional scope levels.Cond (codes "]") most inside' x size o' (subst (λ l. ReadsOptional scope levels.Cond (codes "]") most l size next) (one_next n n') o) in
        (xs, subst (λ l. ReadsDimensions scope most l xs rest) same.1 r)
