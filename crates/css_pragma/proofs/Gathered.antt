-- Parts that are gathered one behind another.
use Rattle.std.proofs.Common.{◌≡◌, List, [], ◌∷◌, ◌++◌, codes, refl, subst}
use Rattle.css_base.specs.Tokens.{Punctuator, Lexeme}
use Rattle.css_tree.specs.declared.scope.Scope.TheVariants as scopes
use Rattle.css_tree.specs.Syntax.{Expression, Argument, Clause}
use Rattle.css_pexpr.specs.declared.level.Level.TheVariants as levels
use Rattle.css_parse.specs.Fronts.{Next}
use Rattle.css_parse.specs.Readings.{IsNoNext, ReadsExpression}
use Rattle.css_parse.proofs.FrontTokens.{one_next, apart}
use Rattle.css_parse.proofs.OneDeclaration.{one_read}
use Rattle.css_parse.proofs.Gathering.{Goes, SoFar, one_more}
use Rattle.css_pragma.specs.Readings.{ReadsClosed, ReadsSizes, ReadsArgument, ReadsFurther, ReadsSome, ReadsClause, ReadsClauses, ReadsFurtherAddresses, ReadsAddresses}
use Rattle.css_pragma.proofs.One.{one_closed, one_argument, one_clause, clause_some}

-- ---- sizes

pub one_more_size : {whole : List Expression → List Lexeme → Type 0} (done : List Expression) {ts inside next : List Lexeme} (e : Expression)
    → SoFar whole (ReadsSizes ts) done → Next (Punctuator (codes "[")) ts inside → ReadsClosed scopes.File levels.Cond (codes "]") inside e next → SoFar whole (ReadsSizes next) (done ++ e ∷ [])
one_more_size done {ts} {inside} {next} e so n c = one_more done e so (λ xs rest r. (inside, next, n, c, r)) drop
  where
    drop : (xs : List Expression) (rest : List Lexeme) → ReadsSizes ts xs rest → (ys : List Expression) × ReadsSizes next ys rest
    drop [] rest r = absurd (r.1 inside n)
    drop (x ∷ xs) rest (inside', next', n', c', more) =
        let same = one_closed c' (subst (λ l. ReadsClosed scopes.File levels.Cond (codes "]") l e next) (one_next n n') c) in
        (xs, subst (λ l. ReadsSizes l xs rest) same.1 more)

pub no_size : (ts inside : List Lexeme) (sizes : List Expression) (rest : List Lexeme) → Next (Punctuator (codes "[")) ts inside
    → ((e : Expression) (behind : List Lexeme) → ReadsClosed scopes.File levels.Cond (codes "]") inside e behind → ⊥) → ReadsSizes ts sizes rest → ⊥
no_size ts inside [] rest n none r = r.1 inside n
no_size ts inside (e ∷ es) rest n none (inside', behind, n', c, more) =
    none e behind (subst (λ l. ReadsClosed scopes.File levels.Cond (codes "]") l e behind) (one_next n' n) c)

-- ---- arguments

pub first_argument : {ts next : List Lexeme} (a : Argument) → ReadsArgument ts a next → SoFar (ReadsSome ts) (ReadsFurther next) (a ∷ [])
first_argument {ts} {next} a r = record { more = λ all rest more. (next, r, more); left = left }
  where
    left : (all : List Argument) (rest : List Lexeme) → ReadsSome ts all rest → (others : List Argument) × ReadsFurther next others rest
    left [] rest x = absurd x
    left (x ∷ xs) rest (next', r', more) = (xs, subst (λ l. ReadsFurther l xs rest) (one_argument r' r).1 more)

pub one_more_argument : {whole before : List Argument → List Lexeme → Type 0} (done : List Argument) {ts behind next : List Lexeme} (a : Argument)
    → Goes (λ all. done ++ all) whole before (ReadsFurther ts) → Next (Punctuator (codes ",")) ts behind → ReadsArgument behind a next
    → Goes (λ all. (done ++ a ∷ []) ++ all) whole before (ReadsFurther next)
one_more_argument done {ts} {behind} {next} a g n r = one_more done a g (λ xs rest more. (behind, next, n, r, more)) drop
  where
    drop : (xs : List Argument) (rest : List Lexeme) → ReadsFurther ts xs rest → (ys : List Argument) × ReadsFurther next ys rest
    drop [] rest x = absurd (apart x n refl)
    drop (x ∷ xs) rest (behind', next', n', r', more) =
        let same = one_argument r' (subst (λ l. ReadsArgument l a next) (one_next n n') r) in
        (xs, subst (λ l. ReadsFurther l xs rest) same.1 more)

pub no_some : (ts : List Lexeme) (all : List Argument) (rest : List Lexeme) → ((a : Argument) (next : List Lexeme) → ReadsArgument ts a next → ⊥) → ReadsSome ts all rest → ⊥
no_some ts [] rest none r = r
no_some ts (a ∷ all) rest none (next, r, more) = none a next r

pub no_further_argument : (ts behind : List Lexeme) (all : List Argument) (rest : List Lexeme) → Next (Punctuator (codes ",")) ts behind
    → ((a : Argument) (next : List Lexeme) → ReadsArgument behind a next → ⊥) → ReadsFurther ts all rest → ⊥
no_further_argument ts behind [] rest n none r = absurd (apart r n refl)
no_further_argument ts behind (a ∷ all) rest n none (behind', next, n', r, more) = none a next (subst (λ l. ReadsArgument l a next) (one_next n' n) r)

pub no_further : (ts : List Lexeme) (all : List Argument) (rest : List Lexeme) → IsNoNext (Punctuator (codes ",")) ts → IsNoNext (Punctuator (codes ")")) ts → ReadsFurther ts all rest → ⊥
no_further ts [] rest none end r = end rest r
no_further ts (a ∷ all) rest none end (behind, next, n, r, more) = none behind n

-- ---- clauses

-- the clauses that the tokens are, whatever follows
abbrev pub Clauses : List Lexeme → List Clause → List Lexeme → Type 0
Clauses ts all rest = ReadsClauses ts all

pub one_more_clause : {whole : List Clause → List Lexeme → Type 0} (done : List Clause) {ts next : List Lexeme} (c : Clause)
    → SoFar whole (Clauses ts) done → ReadsClause ts c next → SoFar whole (Clauses next) (done ++ c ∷ [])
one_more_clause done {ts} {next} c so r = one_more done c so (λ xs rest more. (next, r, more)) drop
  where
    drop : (xs : List Clause) (rest : List Lexeme) → ReadsClauses ts xs → (ys : List Clause) × ReadsClauses next ys
    drop [] rest e = absurd (clause_some ts c next r e)
    drop (x ∷ xs) rest (next', r', more) = (xs, subst (λ l. ReadsClauses l xs) (one_clause ts x c r' r).1 more)

pub no_clauses : (ts : List Lexeme) (all : List Clause) → (ts ≡ [] → ⊥) → ((c : Clause) (next : List Lexeme) → ReadsClause ts c next → ⊥) → ReadsClauses ts all → ⊥
no_clauses ts [] some none e = some e
no_clauses ts (c ∷ all) some none (next, r, more) = none c next r

-- ---- addresses

pub first_address : {ts next : List Lexeme} (e : Expression) → ReadsExpression scopes.Block levels.Assign 500 ts e next → SoFar (ReadsAddresses ts) (ReadsFurtherAddresses next) (e ∷ [])
first_address {ts} {next} e r = record { more = λ all rest more. (next, r, more); left = left }
  where
    left : (all : List Expression) (rest : List Lexeme) → ReadsAddresses ts all rest → (others : List Expression) × ReadsFurtherAddresses next others rest
    left [] rest x = absurd x
    left (x ∷ xs) rest (next', r', more) = (xs, subst (λ l. ReadsFurtherAddresses l xs rest) (one_read r' r).1 more)

pub one_more_address : {whole before : List Expression → List Lexeme → Type 0} (done : List Expression) {ts behind next : List Lexeme} (e : Expression)
    → Goes (λ all. done ++ all) whole before (ReadsFurtherAddresses ts) → Next (Punctuator (codes ",")) ts behind → ReadsExpression scopes.Block levels.Assign 500 behind e next
    → Goes (λ all. (done ++ e ∷ []) ++ all) whole before (ReadsFurtherAddresses next)
one_more_address done {ts} {behind} {next} e g n r = one_more done e g (λ xs rest more. (behind, next, n, r, more)) drop
  where
    drop : (xs : List Expression) (rest : List Lexeme) → ReadsFurtherAddresses ts xs rest → (ys : List Expression) × ReadsFurtherAddresses next ys rest
    drop [] rest x = absurd (apart x n refl)
    drop (x ∷ xs) rest (behind', next', n', r', more) =
        let same = one_read r' (subst (λ l. ReadsExpression scopes.Block levels.Assign 500 l e next) (one_next n n') r) in
        (xs, subst (λ l. ReadsFurtherAddresses l xs rest) same.1 more)

pub no_addresses : (ts : List Lexeme) (all : List Expression) (rest : List Lexeme) → ((e : Expression) (next : List Lexeme) → ReadsExpression scopes.Block levels.Assign 500 ts e next → ⊥) → ReadsAddresses ts all rest → ⊥
no_addresses ts [] rest none r = r
no_addresses ts (e ∷ es) rest none (next, r, more) = none e next r

pub no_further_address : (ts behind : List Lexeme) (all : List Expression) (rest : List Lexeme) → Next (Punctuator (codes ",")) ts behind
    → ((e : Expression) (next : List Lexeme) → ReadsExpression scopes.Block levels.Assign 500 behind e next → ⊥) → ReadsFurtherAddresses ts all rest → ⊥
no_further_address ts behind [] rest n none r = absurd (apart r n refl)
no_further_address ts behind (e ∷ es) rest n none (behind', next, n', r, more) = none e next (subst (λ l. ReadsExpression scopes.Block levels.Assign 500 l e next) (one_next n' n) r)

pub no_further_addresses : (ts : List Lexeme) (all : List Expression) (rest : List Lexeme) → IsNoNext (Punctuator (codes ",")) ts → IsNoNext (Punctuator (codes ")")) ts → ReadsFurtherAddresses ts all rest → ⊥
no_further_addresses ts [] rest none end r = end rest r
no_further_addresses ts (e ∷ es) rest none end (behind, next, n, r, more) = none behind n
