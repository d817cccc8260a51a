-- Everything is read in one way.
use Rattle.std.proofs.Common.{◌≡◌, ℕ, List, [], ◌∷◌, codes, false, bytes_eq, refl, sym, ap, ap₂, ◌∙◌, subst}
use Rattle.css_base.specs.declared.direction.Direction.{Direction}
use Rattle.css_base.specs.declared.direction.Direction.TheVariants as directions
use Rattle.css_base.specs.Tokens.{Word, Punctuator, Lexeme}
use Rattle.css_tree.specs.declared.scope.Scope.{Scope}
use Rattle.css_tree.specs.declared.scope.Scope.TheVariants as scopes
use Rattle.css_tree.specs.Syntax.{Expression, Argument, Plain, Strided, Clause, Arguments, HighPriority, Directive, Start, Finish, Barrier, Wait, Task}
use Rattle.css_pexpr.specs.declared.level.Level.{Level}
use Rattle.css_pexpr.specs.declared.level.Level.TheVariants as levels
use Rattle.css_parse.specs.Fronts.{Next}
use Rattle.css_parse.specs.Readings.{ReadsExpression}
use Rattle.css_parse.proofs.FrontTokens.{one_next, one_kind, apart, differ_word}
use Rattle.css_parse.proofs.OneDeclaration.{one_read, one_name}
use Rattle.css_pragma.specs.declared.place.Place.{Place}
use Rattle.css_pragma.specs.declared.place.Place.TheVariants as places
use Rattle.css_pragma.specs.Directives.{direction_text}
use Rattle.css_pragma.specs.Readings.{ReadsClosed, ReadsSizes, ReadsThree, ReadsBehind, name_of, ReadsArgument, ReadsFurther, ReadsArguments, ReadsClause, ReadsClauses, ReadsFurtherAddresses, ReadsAddresses, ReadsWait, ReadsTask, ReadsDirective}

pub one_closed : {scope : Scope} {level : Level} {close : List ℕ} {ts us vs : List Lexeme} {e other : Expression} → ReadsClosed scope level close ts e us → ReadsClosed scope level close ts other vs → (e ≡ other) × (us ≡ vs)
one_closed {close = close} {us = us} a b =
    let same = one_read a.reads b.reads in
    (same.0, one_next (subst (λ l. Next (Punctuator close) l us) same.1 a.closes) b.closes)

-- ---- arguments

pub one_sizes : (ts : List Lexeme) (xs ys : List Expression) {us vs : List Lexeme} → ReadsSizes ts xs us → ReadsSizes ts ys vs → (xs ≡ ys) × (us ≡ vs)
one_sizes ts [] [] a b = (refl, sym a.0 ∙ b.0)
one_sizes ts [] (y ∷ ys) a (inside, behind, n, r, more) = absurd (a.1 inside n)
one_sizes ts (x ∷ xs) [] (inside, behind, n, r, more) b = absurd (b.1 inside n)
one_sizes ts (x ∷ xs) (y ∷ ys) {vs = vs} (inside, behind, n, r, more) (inside', behind', n', r', more') =
    let first = one_closed r (subst (λ l. ReadsClosed scopes.File levels.Cond (codes "]") l y behind') (one_next n' n) r') in
    let others = one_sizes behind xs ys more (subst (λ l. ReadsSizes l ys vs) (sym first.1) more') in
    (ap₂ ◌∷◌ first.0 others.0, others.1)

-- the three numbers of a block, and what follows them, are the same
pub record SameThree (r w s r' w' s' : Expression) (us vs : List Lexeme) : Type 0 where
  pub rows : r ≡ r'
  pub width : w ≡ w'
  pub stride : s ≡ s'
  pub rest : us ≡ vs

pub one_three : {ts us vs : List Lexeme} {r w s r' w' s' : Expression} → ReadsThree ts r w s us → ReadsThree ts r' w' s' vs → SameThree r w s r' w' s' us vs
one_three {vs = vs} {w' = w'} {s' = s'} a b =
    let x = one_closed a.reads_rows b.reads_rows in
    let y = one_closed a.reads_width (subst (λ l. ReadsClosed scopes.File levels.Cond (codes ",") l w' b.third) (sym x.1) b.reads_width) in
    let z = one_closed a.reads_stride (subst (λ l. ReadsClosed scopes.File levels.Cond (codes "}") l s' vs) (sym y.1) b.reads_stride) in
    record { rows = x.0; width = y.0; stride = z.0; rest = z.1 }

pub one_behind : (ts : List Lexeme) (a b : Argument) {us vs : List Lexeme} → name_of a ≡ name_of b → ReadsBehind ts a us → ReadsBehind ts b vs → (a ≡ b) × (us ≡ vs)
one_behind ts (Plain n xs) (Plain m ys) e a b =
    let same = one_sizes ts xs ys a.1 b.1 in
    (ap₂ Plain e same.0, same.1)
one_behind ts (Plain n xs) (Strided m r w s) e a (inside, o, three) = absurd (a.0 inside o)
one_behind ts (Strided n r w s) (Plain m ys) e (inside, o, three) b = absurd (b.0 inside o)
one_behind ts (Strided n r w s) (Strided m r' w' s') {vs = vs} e (inside, o, three) (inside', o', three') =
    let same = one_three three (subst (λ l. ReadsThree l r' w' s' vs) (one_next o' o) three') in
    let rows = same.rows in
    let width = same.width in
    let stride = same.stride in
    (cc, same.rest)

pub one_argument : {ts us vs : List Lexeme} {a b : Argument} → ReadsArgument ts a us → ReadsArgument ts b vs → (a ≡ b) × (us ≡ vs)
one_argument {vs = vs} {a} {b} x y =
    let name = one_name x.reads_name y.reads_name in
    one_behind x.behind a b name.0 x.reads_behind (subst (λ l. ReadsBehind l b vs) (sym name.1) y.reads_behind)

pub one_further : (ts : List Lexeme) (xs ys : List Argument) {us vs : List Lexeme} → ReadsFurther ts xs us → ReadsFurther ts ys vs → (xs ≡ ys) × (us ≡ vs)
one_further ts [] [] a b = (refl, one_next a b)
one_further ts [] (y ∷ ys) a (behind, next, n, r, more) = absurd (apart a n refl)
one_further ts (x ∷ xs) [] (behind, next, n, r, more) b = absurd (apart b n refl)
one_further ts (x ∷ xs) (y ∷ ys) {vs = vs} (behind, next, n, r, more) (behind', next', n', r', more') =
    let first = one_argument r (subst (λ l. ReadsArgument l y next') (one_next n' n) r') in
    let others = one_further next xs ys more (subst (λ l. ReadsFurther l ys vs) (sym first.1) more') in
    (ap₂ ◌∷◌ first.0 others.0, others.1)

-- an argument begins with a word
pub no_argument_closed : {ts us vs : List Lexeme} {bytes : List ℕ} {a : Argument} → Next (Punctuator bytes) ts us → ReadsArgument ts a vs → ⊥
no_argument_closed {bytes = bytes} {a} n r =
    let kinds : Punctuator bytes ≡ Word (name_of a) = one_kind n r.reads_name.word in
    cc

pub one_arguments : (ts : List Lexeme) (xs ys : List Argument) {us vs : List Lexeme} → ReadsArguments ts xs us → ReadsArguments ts ys vs → (xs ≡ ys) × (us ≡ vs)
one_arguments ts [] [] a b = (refl, one_next a b)
one_arguments ts [] (y ∷ ys) a (next, r, more) = absurd (no_argument_closed a r)
one_arguments ts (x ∷ xs) [] (next, r, more) b = absurd (no_argument_closed b r)
one_arguments ts (x ∷ xs) (y ∷ ys) {vs = vs} (next, r, more) (next', r', more') =
    let first = one_argument r r' in
    let others = one_further next xs ys more (subst (λ l. ReadsFurther l ys vs) (sym first.1) more') in
    (ap₂ ◌∷◌ first.0 others.0, others.1)

-- ---- clauses

pub one_direction : (d e : Direction) → Word (direction_text d) ≡ Word (direction_text e) → d ≡ e
one_direction directions.In directions.In h = refl
one_direction directions.In directions.Out h = absurd (differ_word (codes "input") (codes "output") refl h)
one_direction directions.In directions.InOut h = absurd (differ_word (codes "input") (codes "inout") refl h)
one_direction directions.Out directions.In h = absurd (differ_word (codes "output") (codes "input") refl h)
one_direction directions.Out directions.Out h = refl
one_direction directions.Out directions.InOut h = absurd (differ_word (codes "output") (codes "inout") refl h)
one_direction directions.InOut directions.In h = absurd (differ_word (codes "inout") (codes "input") refl h)
one_direction directions.InOut directions.Out h = absurd (differ_word (codes "inout") (codes "output") refl h)
one_direction directions.InOut directions.InOut h = refl

pub no_direction : (d : Direction) → Word (direction_text d) ≡ Word (codes "highpriority") → ⊥
no_direction directions.In h = differ_word (codes "input") (codes "highpriority") refl h
no_direction directions.Out h = differ_word (codes "output") (codes "highpriority") refl h
no_direction directions.InOut h = differ_word (codes "inout") (codes "highpriority") refl h

pub one_clause : (ts : List Lexeme) (c d : Clause) {us vs : List Lexeme} → ReadsClause ts c us → ReadsClause ts d vs → (c ≡ d) × (us ≡ vs)
one_clause ts (Arguments d xs) (Arguments e ys) {vs = vs} (behind, inside, n, o, r) (behind', inside', n', o', r') =
    let direction = one_direction d e (one_kind n n') in
    let same = one_next n' (subst (λ x. Next (Word (direction_text x)) ts behind) direction n) in
    let opened = one_next (subst (λ l. Next (Punctuator (codes "(")) l inside') same o') o in
    let all = one_arguments inside xs ys r (subst (λ l. ReadsArguments l ys vs) opened r') in
    (ap₂ Arguments direction all.0, all.1)
one_clause ts (Arguments d xs) HighPriority (behind, inside, n, o, r) b = absurd (no_direction d (one_kind n b))
one_clause ts HighPriority (Arguments e ys) a (behind, inside, n, o, r) = absurd (no_direction e (one_kind n a))
one_clause ts HighPriority HighPriority a b = (refl, one_next a b)

pub clause_some : (ts : List Lexeme) (c : Clause) (us : List Lexeme) → ReadsClause ts c us → ts ≡ [] → ⊥
clause_some ts (Arguments d xs) us (behind, inside, n, o, r) e = (let p = n.parts in let wrong : [] ≡ n.token ∷ behind = sym e ∙ p in cc)
clause_some ts HighPriority us n e = (let p = n.parts in let wrong : [] ≡ n.token ∷ us = sym e ∙ p in cc)

pub one_clauses : (ts : List Lexeme) (xs ys : List Clause) → ReadsClauses ts xs → ReadsClauses ts ys → xs ≡ ys
one_clauses ts [] [] a b = refl
one_clauses ts [] (y ∷ ys) a (rest, r, more) = absurd (clause_some ts y rest r a)
one_clauses ts (x ∷ xs) [] (rest, r, more) b = absurd (clause_some ts x rest r b)
one_clauses ts (x ∷ xs) (y ∷ ys) (rest, r, more) (rest', r', more') =
    let first = one_clause ts x y r r' in
    ap₂ ◌∷◌ first.0 (one_clauses rest xs ys more (subst (λ l. ReadsClauses l ys) (sym first.1) more'))

-- ---- addresses

pub one_further_addresses : (ts : List Lexeme) (xs ys : List Expression) {us vs : List Lexeme} → ReadsFurtherAddresses ts xs us → ReadsFurtherAddresses ts ys vs → (xs ≡ ys) × (us ≡ vs)
one_further_addresses ts [] [] a b = (refl, one_next a b)
one_further_addresses ts [] (y ∷ ys) a (behind, next, n, r, more) = absurd (apart a n refl)
one_further_addresses ts (x ∷ xs) [] (behind, next, n, r, more) b = absurd (apart b n refl)
one_further_addresses ts (x ∷ xs) (y ∷ ys) {vs = vs} (behind, next, n, r, more) (behind', next', n', r', more') =
    let first = one_read r (subst (λ l. ReadsExpression scopes.Block levels.Assign 500 l y next') (one_next n' n) r') in
    let others = one_further_addresses next xs ys more (subst (λ l. ReadsFurtherAddresses l ys vs) (sym first.1) more') in
    (ap₂ ◌∷◌ first.0 others.0, others.1)

pub one_addresses : (ts : List Lexeme) (xs ys : List Expression) {us vs : List Lexeme} → ReadsAddresses ts xs us → ReadsAddresses ts ys vs → (xs ≡ ys) × (us ≡ vs)
one_addresses ts [] ys a b = absurd a
one_addresses ts (x ∷ xs) [] a b = absurd b
one_addresses ts (x ∷ xs) (y ∷ ys) {vs = vs} (next, r, more) (next', r', more') =
    let first = one_read r r' in
    let others = one_further_addresses next xs ys more (subst (λ l. ReadsFurtherAddresses l ys vs) (sym first.1) more') in
    (ap₂ ◌∷◌ first.0 others.0, others.1)

-- ---- directives

pub one_task : {ts : List Lexeme} {xs ys : List Clause} → ReadsTask ts xs → ReadsTask ts ys → xs ≡ ys
one_task {xs = xs} {ys} a b = one_clauses a.rest xs ys a.reads_clauses (subst (λ l. ReadsClauses l ys) (one_next b.reads_task a.reads_task) b.reads_clauses)

pub one_wait : {ts : List Lexeme} {xs ys : List Expression} → ReadsWait ts xs → ReadsWait ts ys → xs ≡ ys
one_wait {xs = xs} {ys} a b =
    let first = one_next b.reads_wait a.reads_wait in
    let second = one_next (subst (λ l. Next (Word (codes "on")) l b.second) first b.reads_on) a.reads_on in
    let inside = one_next (subst (λ l. Next (Punctuator (codes "(")) l b.inside) second b.opens) a.opens in
    (one_addresses a.inside xs ys a.reads_addresses (subst (λ l. ReadsAddresses l ys []) inside b.reads_addresses)).0

-- words that differ don't begin the same tokens
words_apart : {a b : List ℕ} {ts us vs : List Lexeme} → bytes_eq a b ≡ false → Next (Word a) ts us → Next (Word b) ts vs → ⊥
words_apart {a} {b} different n m = differ_word a b different (one_kind n m)

pub one_reading : (place : Place) (line : ℕ) (ts : List Lexeme) (d e : Directive) → ReadsDirective place line ts d → ReadsDirective place line ts e → d ≡ e
one_reading places.BeforeFunction line ts (Task a xs) (Task b ys) (p, r) (q, s) = ap₂ Task (p ∙ sym q) (one_task r s)
one_reading places.InBlock line ts (Start a) (Start b) (p, r) (q, s) = ap Start (p ∙ sym q)
one_reading places.InBlock line ts (Start a) (Finish b) (p, r) (q, s) = absurd (words_apart refl r s)
one_reading places.InBlock line ts (Start a) (Barrier b) (p, r) (q, s) = absurd (words_apart refl r s)
one_reading places.InBlock line ts (Start a) (Wait b ys) (p, r) (q, s) = absurd (words_apart refl r s.reads_wait)
one_reading places.InBlock line ts (Finish a) (Start b) (p, r) (q, s) = absurd (words_apart refl r s)
one_reading places.InBlock line ts (Finish a) (Finish b) (p, r) (q, s) = ap Finish (p ∙ sym q)
one_reading places.InBlock line ts (Finish a) (Barrier b) (p, r) (q, s) = absurd (words_apart refl r s)
one_reading places.InBlock line ts (Finish a) (Wait b ys) (p, r) (q, s) = absurd (words_apart refl r s.reads_wait)
one_reading places.InBlock line ts (Barrier a) (Start b) (p, r) (q, s) = absurd (words_apart refl r s)
one_reading places.InBlock line ts (Barrier a) (Finish b) (p, r) (q, s) = absurd (words_apart refl r s)
one_reading places.InBlock line ts (Barrier a) (Barrier b) (p, r) (q, s) = ap Barrier (p ∙ sym q)
one_reading places.InBlock line ts (Barrier a) (Wait b ys) (p, r) (q, s) = absurd (words_apart refl r s.reads_wait)
one_reading places.InBlock line ts (Wait a xs) (Start b) (p, r) (q, s) = absurd (words_apart refl r.reads_wait s)
one_reading places.InBlock line ts (Wait a xs) (Finish b) (p, r) (q, s) = absurd (words_apart refl r.reads_wait s)
one_reading places.InBlock line ts (Wait a xs) (Barrier b) (p, r) (q, s) = absurd (words_apart refl r.reads_wait s)
one_reading places.InBlock line ts (Wait a xs) (Wait b ys) (p, r) (q, s) = ap₂ Wait (p ∙ sym q) (one_wait r s)
one_reading places.InBlock line ts (Task a xs) e r s = absurd r
one_reading places.InBlock line ts d (Task b ys) r s = absurd s
one_reading places.BeforeFunction line ts (Task a xs) e r s = absurd s
one_reading places.BeforeFunction line ts d e r s = absurd r
