-- Declarators, parameters, initialisers and entries that are gathered one behind another.
use Rattle.std.proofs.Common.{◌≡◌, ℕ, List, [], ◌∷◌, ◌++◌, codes, refl, sym, subst}
use Rattle.css_base.specs.Tokens.{Kind, Punctuator, Lexeme}
use Rattle.css_tree.specs.declared.scope.Scope.{Scope}
use Rattle.css_tree.specs.Syntax.{Declarator, Parameter, Initialiser, Initialisers, NoParts, MoreParts, Entry, Entries, NoEntries, MoreEntries}
use Rattle.css_parse.specs.Fronts.{Next}
use Rattle.css_parse.specs.Readings as reads
use Rattle.css_parse.specs.Readings.{IsNoNext, ReadsDeclarator, ReadsFurtherDeclarators, ReadsDeclarators, ReadsInitialiser, ReadsParts, ReadsFurtherParts, ReadsEntry, ReadsEntries}
use Rattle.css_parse.specs.ItemReadings.{ReadsParameter, ReadsFurtherParameters, ReadsListed}
use Rattle.css_parse.proofs.FrontTokens.{one_next, apart}
use Rattle.css_parse.proofs.OneDeclaration.{one_declarator, one_initialiser}
use Rattle.css_parse.proofs.OneStatement.{one_entry}
use Rattle.css_parse.proofs.OneItem.{one_parameter}
use Rattle.css_parse.proofs.Gathering.{Goes, SoFar, goes_on, one_more}

-- ---- declarators

-- the declarators with the first one, which was read up to here, wherever it began
abbrev pub DeclaredWith : Scope → ℕ → Declarator → List Lexeme → List Declarator → List Lexeme → Type 0
DeclaredWith scope most first here ds rest = (ts : List Lexeme) → ReadsDeclarator scope most ts first here → ReadsDeclarators scope most ts ds rest

pub first_declarator : (scope : Scope) (most : ℕ) (first : Declarator) (here : List Lexeme)
    → Goes (λ ds. (first ∷ []) ++ ds) (DeclaredWith scope most first here) (ReadsFurtherDeclarators scope most here) (ReadsFurtherDeclarators scope most here)
first_declarator scope most first here = record { more = λ ds rest r ts d. (here, d, r); left = λ ds rest r. (ds, r) }

pub one_more_declarator : (scope : Scope) (most : ℕ) {whole before : List Declarator → List Lexeme → Type 0} (done : List Declarator) {ts behind next : List Lexeme} (d : Declarator)
    → Goes (λ ds. done ++ ds) whole before (ReadsFurtherDeclarators scope most ts) → Next (Punctuator (codes ",")) ts behind → ReadsDeclarator scope most behind d next
    → Goes (λ ds. (done ++ d ∷ []) ++ ds) whole before (ReadsFurtherDeclarators scope most next)
one_more_declarator scope most done {ts} {behind} {next} d g n r = one_more done d g (λ xs rest more. (behind, next, n, r, more)) drop
  where
    drop : (xs : List Declarator) (rest : List Lexeme) → ReadsFurtherDeclarators scope most ts xs rest → (ys : List Declarator) × ReadsFurtherDeclarators scope most next ys rest
    drop [] rest a = absurd (apart a n refl)
    drop (x ∷ xs) rest (behind', next', n', r', more) =
        let same = one_declarator r' (subst (λ l. ReadsDeclarator scope most l d next) (one_next n n') r) in
        (xs, subst (λ l. ReadsFurtherDeclarators scope most l xs rest) same.1 more)

-- no declarator behind a comma is read, and neither are those behind it
pub no_further_declarator : (scope : Scope) (most : ℕ) (ts behind : List Lexeme) (ds : List Declarator) (rest : List Lexeme) → Next (Punctuator (codes ",")) ts behind
    → ((d : Declarator) (next : List Lexeme) → ReadsDeclarator scope most behind d next → ⊥) → ReadsFurtherDeclarators scope most ts ds rest → ⊥
no_further_declarator scope most ts behind [] rest n none a = absurd (apart a n refl)
no_further_declarator scope most ts behind (d ∷ ds) rest n none (behind', next, n', r, more) = none d next (subst (λ l. ReadsDeclarator scope most l d next) (one_next n' n) r)

-- neither a comma nor a semicolon is next
pub no_further_declarators : (scope : Scope) (most : ℕ) (ts : List Lexeme) (ds : List Declarator) (rest : List Lexeme) → IsNoNext (Punctuator (codes ",")) ts → IsNoNext (Punctuator (codes ";")) ts
    → ReadsFurtherDeclarators scope most ts ds rest → ⊥
no_further_declarators scope most ts [] rest none end a = end rest a
no_further_declarators scope most ts (d ∷ ds) rest none end (behind, next, n, r, more) = none behind n

-- ---- parameters

pub first_parameter : {most : ℕ} {ts next : List Lexeme} (p : Parameter) → ReadsParameter most ts p next → SoFar (ReadsListed most ts) (ReadsFurtherParameters most next) (p ∷ [])
first_parameter {most} {ts} {next} p r = record { more = λ ps rest more. (next, r, more); left = left }
  where
    left : (ps : List Parameter) (rest : List Lexeme) → ReadsListed most ts ps rest → (qs : List Parameter) × ReadsFurtherParameters most next qs rest
    left [] rest a = absurd a
    left (x ∷ xs) rest (next', r', more) = (xs, subst (λ l. ReadsFurtherParameters most l xs rest) (one_parameter r' r).1 more)

pub one_more_parameter : (most : ℕ) {whole before : List Parameter → List Lexeme → Type 0} (done : List Parameter) {ts behind next : List Lexeme} (p : Parameter)
    → Goes (λ ps. done ++ ps) whole before (ReadsFurtherParameters most ts) → Next (Punctuator (codes ",")) ts behind → ReadsParameter most behind p next
    → Goes (λ ps. (done ++ p ∷ []) ++ ps) whole before (ReadsFurtherParameters most next)
one_more_parameter most done {ts} {behind} {next} p g n r = one_more done p g (λ xs rest more. (behind, next, n, r, more)) drop
  where
    drop : (xs : List Parameter) (rest : List Lexeme) → ReadsFurtherParameters most ts xs rest → (ys : List Parameter) × ReadsFurtherParameters most next ys rest
    drop [] rest a = absurd (apart a n refl)
    drop (x ∷ xs) rest (behind', next', n', r', more) =
        let same = one_parameter r' (subst (λ l. ReadsParameter most l p next) (one_next n n') r) in
        (xs, subst (λ l. ReadsFurtherParameters most l xs rest) same.1 more)

pub no_further_parameter : (most : ℕ) (ts behind : List Lexeme) (ps : List Parameter) (rest : List Lexeme) → Next (Punctuator (codes ",")) ts behind
    → ((p : Parameter) (next : List Lexeme) → ReadsParameter most behind p next → ⊥) → ReadsFurtherParameters most ts ps rest → ⊥
no_further_parameter most ts behind [] rest n none a = absurd (apart a n refl)
no_further_parameter most ts behind (p ∷ ps) rest n none (behind', next, n', r, more) = none p next (subst (λ l. ReadsParameter most l p next) (one_next n' n) r)

pub no_further_parameters : (most : ℕ) (ts : List Lexeme) (ps : List Parameter) (rest : List Lexeme) → IsNoNext (Punctuator (codes ",")) ts → IsNoNext (Punctuator (codes ")")) ts → ReadsFurtherParameters most ts ps rest → ⊥
no_further_parameters most ts [] rest none end a = end rest a
no_further_parameters most ts (p ∷ ps) rest none end (behind, next, n, r, more) = none behind n

-- ---- initialisers in braces

pub one_more_part : (scope : Scope) (most : ℕ) {whole before : Initialisers → List Lexeme → Type 0} {here behind next : List Lexeme} (put then : Initialisers → Initialisers) (i : Initialiser)
    → Goes put whole before (ReadsParts scope most here) → ((x : Initialisers) → then x ≡ put (MoreParts i x)) → ReadsInitialiser scope most here i behind → Next (Punctuator (codes ",")) behind next → IsNoNext (Punctuator (codes "}")) next
    → Goes then whole before (ReadsParts scope most next)
one_more_part scope most {here = here} {behind} {next} put then i g is r c none =
    goes_on put then (MoreParts i) g is (λ x rest q. reads.Parts behind r (reads.Further next c none q)) drop
  where
    further : (x : Initialisers) (rest : List Lexeme) → ReadsFurtherParts scope most behind x rest → (y : Initialisers) × ReadsParts scope most next y rest
    further x rest (reads.Closed n) = absurd (apart n c refl)
    further x rest (reads.ClosedBehindComma behind' c' n) = absurd (none rest (subst (λ l. Next (Punctuator (codes "}")) l rest) (one_next c' c) n))
    further x rest (reads.Further behind' c' none' q) = (x, subst (λ l. ReadsParts scope most l x rest) (one_next c' c) q)

    drop : (x : Initialisers) (rest : List Lexeme) → ReadsParts scope most here x rest → (y : Initialisers) × ReadsParts scope most next y rest
    drop x rest (reads.Parts {others = others} behind' r' more) = further others rest (subst (λ l. ReadsFurtherParts scope most l others rest) (one_initialiser r' r).1 more)

pub no_part : (scope : Scope) (most : ℕ) (here : List Lexeme) (x : Initialisers) (rest : List Lexeme) → ((i : Initialiser) (behind : List Lexeme) → ReadsInitialiser scope most here i behind → ⊥) → ReadsParts scope most here x rest → ⊥
no_part scope most here x rest none (reads.Parts {first = i} behind r more) = none i behind r

pub no_end : (scope : Scope) (most : ℕ) (here behind : List Lexeme) (x : Initialisers) (rest : List Lexeme) (i : Initialiser) → ReadsInitialiser scope most here i behind → IsNoNext (Punctuator (codes "}")) behind → IsNoNext (Punctuator (codes ",")) behind
    → ReadsParts scope most here x rest → ⊥
no_end scope most here behind x rest i r none comma (reads.Parts {others = others} behind' r' more) = further others (subst (λ l. ReadsFurtherParts scope most l others rest) (one_initialiser r' r).1 more)
  where
    further : (y : Initialisers) → ReadsFurtherParts scope most behind y rest → ⊥
    further y (reads.Closed n) = none rest n
    further y (reads.ClosedBehindComma behind' c n) = comma behind' c
    further y (reads.Further behind' c none' q) = comma behind' c

-- ---- entries

pub one_more_entry : (most : ℕ) {whole before : Entries → List Lexeme → Type 0} {here next : List Lexeme} (put then : Entries → Entries) (e : Entry)
    → Goes put whole before (ReadsEntries most here) → ((x : Entries) → then x ≡ put (MoreEntries e x)) → IsNoNext (Punctuator (codes "}")) here → ReadsEntry most here e next
    → Goes then whole before (ReadsEntries most next)
one_more_entry most {here = here} {next} put then e g is none r =
    goes_on put then (MoreEntries e) g is (λ x rest q. reads.More next none r q) drop
  where
    drop : (x : Entries) (rest : List Lexeme) → ReadsEntries most here x rest → (y : Entries) × ReadsEntries most next y rest
    drop x rest (reads.Closed n) = absurd (none rest n)
    drop x rest (reads.More {others = others} behind none' r' more) = (others, subst (λ l. ReadsEntries most l others rest) (one_entry r' r).1 more)

pub no_entry : (most : ℕ) (here : List Lexeme) (x : Entries) (rest : List Lexeme) → IsNoNext (Punctuator (codes "}")) here → ((e : Entry) (behind : List Lexeme) → ReadsEntry most here e behind → ⊥) → ReadsEntries most here x rest → ⊥
no_entry most here x rest none other (reads.Closed n) = none rest n
no_entry most here x rest none other (reads.More {e = e} behind none' r more) = other e behind r
