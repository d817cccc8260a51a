-- What isn't read where a part of it isn't, and what is.
use Rattle.std.proofs.Common.{ℕ, ◌≤◌, List, [], ◌∷◌, codes, sym, subst}
use Rattle.std.specs.List.{count_by}
use Rattle.css_base.specs.declared.direction.Direction.{Direction}
use Rattle.css_base.specs.Tokens.{Word, Punctuator, Lexeme}
use Rattle.css_tree.specs.declared.scope.Scope.{Scope}
use Rattle.css_tree.specs.declared.scope.Scope.TheVariants as scopes
use Rattle.css_tree.specs.Syntax.{Expression, Argument, Plain, Strided, Clause, Arguments, HighPriority, Directive, Start, Finish, Barrier, Wait, Task}
use Rattle.css_pexpr.specs.declared.level.Level.{Level}
use Rattle.css_pexpr.specs.declared.level.Level.TheVariants as levels
use Rattle.css_parse.specs.Fronts.{Next}
use Rattle.css_parse.specs.Readings.{IsNoNext, ReadsExpression, ReadsName}
use Rattle.css_parse.proofs.FrontTokens.{one_next, one_kind}
use Rattle.css_parse.proofs.OneDeclaration.{one_read, one_name}
use Rattle.css_pragma.specs.declared.place.Place.TheVariants as places
use Rattle.css_pragma.specs.Directives.{direction_text, is_priority}
use Rattle.css_pragma.specs.Readings.{ReadsClosed, ReadsSizes, ReadsThree, ReadsBlock, ReadsBehind, ReadsArgument, ReadsSome, ReadsArguments, ReadsClause, ReadsClauses, ReadsAddresses, ReadsWait, ReadsTask, ReadsDirective}
use Rattle.css_pragma.proofs.One.{one_closed, one_clauses}

-- ---- expressions

pub no_closed : {scope : Scope} {level : Level} {close : List ℕ} {ts rest : List Lexeme} {e : Expression} → ((other : Expression) (behind : List Lexeme) → ReadsExpression scope level 500 ts other behind → ⊥)
    → ReadsClosed scope level close ts e rest → ⊥
no_closed {e = e} none r = none e r.behind r.reads

pub no_close : {scope : Scope} {level : Level} {close : List ℕ} {ts behind rest : List Lexeme} {e other : Expression} → ReadsExpression scope level 500 ts e behind → IsNoNext (Punctuator close) behind
    → ReadsClosed scope level close ts other rest → ⊥
no_close {close = close} {rest = rest} x end r = end rest (subst (λ l. Next (Punctuator close) l rest) (one_read r.reads x).1 r.closes)

-- ---- arguments

pub no_second : {ts second rest : List Lexeme} {x r w s : Expression} → ReadsClosed scopes.File levels.Cond (codes ",") ts x second
    → ((e : Expression) (behind : List Lexeme) → ReadsClosed scopes.File levels.Cond (codes ",") second e behind → ⊥) → ReadsThree ts r w s rest → ⊥
no_second {w = w} x none t = none w t.third (subst (λ l. ReadsClosed scopes.File levels.Cond (codes ",") l w t.third) (one_closed t.reads_rows x).1 t.reads_width)

pub no_third : {ts second third rest : List Lexeme} {x y r w s : Expression} → ReadsClosed scopes.File levels.Cond (codes ",") ts x second → ReadsClosed scopes.File levels.Cond (codes ",") second y third
    → ((e : Expression) (behind : List Lexeme) → ReadsClosed scopes.File levels.Cond (codes "}") third e behind → ⊥) → ReadsThree ts r w s rest → ⊥
no_third {rest = rest} {w = w} {s = s} x y none t =
    let width = subst (λ l. ReadsClosed scopes.File levels.Cond (codes ",") l w t.third) (one_closed t.reads_rows x).1 t.reads_width in
    none s rest (subst (λ l. ReadsClosed scopes.File levels.Cond (codes "}") l s rest) (one_closed width y).1 t.reads_stride)

pub block_argument : (a : Argument) {ts behind inside rest : List Lexeme} {name : List ℕ} → ReadsName ts name behind → Next (Punctuator (codes "{")) behind inside → ReadsBlock name inside a rest → ReadsArgument ts a rest
block_argument (Plain other sizes) n o r = absurd r
block_argument (Strided other rows width stride) {ts} {behind} {inside} n o (e, three) =
    record { behind = behind; reads_name = subst (λ x. ReadsName ts x behind) (sym e) n; reads_behind = (inside, o, three) }

pub no_block : {ts behind inside rest : List Lexeme} {name : List ℕ} {a : Argument} → ReadsName ts name behind → Next (Punctuator (codes "{")) behind inside
    → ((r w s : Expression) (next : List Lexeme) → ReadsThree inside r w s next → ⊥) → ReadsArgument ts a rest → ⊥
no_block {behind = behind} {inside} {rest} {a = a} n o none x = by a (subst (λ l. ReadsBehind l a rest) (one_name x.reads_name n).1 x.reads_behind)
  where
    by : (a : Argument) → ReadsBehind behind a rest → ⊥
    by (Plain other sizes) r = r.0 inside o
    by (Strided other rows width stride) (inside', o', three) = none rows width stride rest (subst (λ l. ReadsThree l rows width stride rest) (one_next o' o) three)

pub no_sizes : {ts behind rest : List Lexeme} {name : List ℕ} {a : Argument} → ReadsName ts name behind → IsNoNext (Punctuator (codes "{")) behind
    → ((sizes : List Expression) (next : List Lexeme) → ReadsSizes behind sizes next → ⊥) → ReadsArgument ts a rest → ⊥
no_sizes {behind = behind} {rest} {a = a} n end none x = by a (subst (λ l. ReadsBehind l a rest) (one_name x.reads_name n).1 x.reads_behind)
  where
    by : (a : Argument) → ReadsBehind behind a rest → ⊥
    by (Plain other sizes) r = none sizes rest r.1
    by (Strided other rows width stride) (inside', o', three) = end inside' o'

pub some_arguments : (ts : List Lexeme) (all : List Argument) (rest : List Lexeme) → ReadsSome ts all rest → ReadsArguments ts all rest
some_arguments ts [] rest r = absurd r
some_arguments ts (a ∷ all) rest r = r

pub no_arguments : (ts : List Lexeme) (all : List Argument) (rest : List Lexeme) → IsNoNext (Punctuator (codes ")")) ts → ((others : List Argument) (next : List Lexeme) → ReadsSome ts others next → ⊥) → ReadsArguments ts all rest → ⊥
no_arguments ts [] rest end none r = end rest r
no_arguments ts (a ∷ all) rest end none r = none (a ∷ all) rest r

-- ---- clauses

pub no_clause_word : (ts : List Lexeme) (c : Clause) (rest : List Lexeme) → IsNoNext (Word (codes "highpriority")) ts
    → ((d : Direction) (behind : List Lexeme) → Next (Word (direction_text d)) ts behind → ⊥) → ReadsClause ts c rest → ⊥
no_clause_word ts (Arguments d all) rest end none (behind, inside, n, o, r) = none d behind n
no_clause_word ts HighPriority rest end none n = end rest n

pub no_clause_arguments : (ts behind : List Lexeme) (d : Direction) (c : Clause) (rest : List Lexeme) → IsNoNext (Word (codes "highpriority")) ts → Next (Word (direction_text d)) ts behind
    → ((inside : List Lexeme) (all : List Argument) (next : List Lexeme) → Next (Punctuator (codes "(")) behind inside → ReadsArguments inside all next → ⊥) → ReadsClause ts c rest → ⊥
no_clause_arguments ts behind d (Arguments e all) rest end n none (behind', inside, n', o, r) =
    let same = one_next (subst (λ k. Next k ts behind') (one_kind n' n) n') n in
    none inside all rest (subst (λ l. Next (Punctuator (codes "(")) l inside) same o) r
no_clause_arguments ts behind d HighPriority rest end n none m = end rest m

-- ---- directives

pub no_wait : {ts first second inside : List Lexeme} {all : List Expression} → Next (Word (codes "wait")) ts first → Next (Word (codes "on")) first second → Next (Punctuator (codes "(")) second inside
    → ((others : List Expression) → ReadsAddresses inside others [] → ⊥) → ReadsWait ts all → ⊥
no_wait {first = first} {second} {inside} {all} w o p none r =
    let a = one_next r.reads_wait w in
    let b = one_next (subst (λ l. Next (Word (codes "on")) l r.second) a r.reads_on) o in
    let c = one_next (subst (λ l. Next (Punctuator (codes "(")) l r.inside) b r.opens) p in
    none all (subst (λ l. ReadsAddresses l all []) c r.reads_addresses)

pub no_wait_open : {ts first second : List Lexeme} {all : List Expression} → Next (Word (codes "wait")) ts first → Next (Word (codes "on")) first second → IsNoNext (Punctuator (codes "(")) second → ReadsWait ts all → ⊥
no_wait_open w o none r =
    let a = one_next r.reads_wait w in
    let b = one_next (subst (λ l. Next (Word (codes "on")) l r.second) a r.reads_on) o in
    none r.inside (subst (λ l. Next (Punctuator (codes "(")) l r.inside) b r.opens)

pub no_wait_on : {ts first : List Lexeme} {all : List Expression} → Next (Word (codes "wait")) ts first → IsNoNext (Word (codes "on")) first → ReadsWait ts all → ⊥
no_wait_on w none r = none r.second (subst (λ l. Next (Word (codes "on")) l r.second) (one_next r.reads_wait w) r.reads_on)

pub no_task : {ts rest : List Lexeme} (all : List Clause) → Next (Word (codes "task")) ts rest → ((others : List Clause) → ReadsClauses rest others → ⊥) → ReadsTask ts all → ⊥
no_task all n none r = none all (subst (λ l. ReadsClauses l all) (one_next r.reads_task n) r.reads_clauses)

-- the clauses of a task that were read are all that are
pub task_clauses : {ts rest : List Lexeme} (all others : List Clause) → Next (Word (codes "task")) ts rest → ReadsClauses rest all → ReadsTask ts others → count_by is_priority all ≤ 1
task_clauses {rest = rest} all others n c r =
    let same = one_clauses rest others all (subst (λ l. ReadsClauses l others) (one_next r.reads_task n) r.reads_clauses) c in
    subst (λ l. count_by is_priority l ≤ 1) same r.once

pub no_directive : (line : ℕ) (ts : List Lexeme) (d : Directive) → (Next (Word (codes "start")) ts [] → ⊥) → (Next (Word (codes "finish")) ts [] → ⊥) → (Next (Word (codes "barrier")) ts [] → ⊥)
    → ((all : List Expression) → ReadsWait ts all → ⊥) → ReadsDirective places.InBlock line ts d → ⊥
no_directive line ts (Start own) start finish barrier wait r = start r.1
no_directive line ts (Finish own) start finish barrier wait r = finish r.1
no_directive line ts (Barrier own) start finish barrier wait r = barrier r.1
no_directive line ts (Wait own all) start finish barrier wait r = wait all r.1
no_directive line ts (Task own all) start finish barrier wait r = r

pub only_task : (line : ℕ) (ts : List Lexeme) (d : Directive) → ((all : List Clause) → ReadsTask ts all → ⊥) → ReadsDirective places.BeforeFunction line ts d → ⊥
only_task line ts (Task own all) none r = none all r.1
only_task line ts d none r = r

-- arguments that aren't read behind one opening parenthesis aren't behind the same one
pub no_open : {ts inside other : List Lexeme} (all : List Argument) (rest : List Lexeme) → Next (Punctuator (codes "(")) ts inside → Next (Punctuator (codes "(")) ts other → (ReadsArguments other all rest → ⊥)
    → ReadsArguments inside all rest → ⊥
no_open all rest n m none r = none (subst (λ l. ReadsArguments l all rest) (one_next n m) r)
