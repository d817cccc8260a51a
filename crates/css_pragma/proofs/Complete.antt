-- What is spelled is read.
use Rattle.std.proofs.Common.{ℕ, List, [], ◌∷◌, ◌++◌, codes, refl, sym, subst}
use Rattle.css_base.specs.Tokens.{Punctuator, Lexeme}
use Rattle.css_tree.specs.declared.scope.Scope.{Scope}
use Rattle.css_tree.specs.declared.scope.Scope.TheVariants as scopes
use Rattle.css_tree.specs.Syntax.{Expression, Argument, Plain, Strided, Clause, Arguments, HighPriority, Directive, Start, Finish, Barrier, Wait, Task}
use Rattle.css_pexpr.specs.declared.level.Level.{Level}
use Rattle.css_pexpr.specs.declared.level.Level.TheVariants as levels
use Rattle.css_parse.specs.Fronts.{Next}
use Rattle.css_parse.specs.Readings.{IsNoNext, ReadsExpression}
use Rattle.css_parse.proofs.FrontTokens.{apart}
use Rattle.css_parse.proofs.Walks.{IsStop}
use Rattle.css_parse.proofs.CompleteDeclaration.{expression_read}
use Rattle.css_pragma.specs.declared.place.Place.{Place}
use Rattle.css_pragma.specs.declared.place.Place.TheVariants as places
use Rattle.css_pragma.specs.Directives.{SpellsPart, SpellsClosed, SpellsSizes, SpellsThree, SpellsArgument, SpellsFurther, SpellsArguments, SpellsClause, SpellsClauses, SpellsFurtherAddresses, SpellsAddresses, SpellsDirective}
use Rattle.css_pragma.specs.Readings.{ReadsClosed, ReadsSizes, ReadsThree, ReadsArgument, ReadsFurther, ReadsArguments, ReadsClause, ReadsClauses, ReadsFurtherAddresses, ReadsAddresses, ReadsDirective}

-- before a punctuator that goes on no expression of the level
part_read : {scope : Scope} {level : Level} {close : List ℕ} {ts behind rest : List Lexeme} {e : Expression} → IsStop level (Punctuator close) → SpellsPart scope level ts e behind → Next (Punctuator close) behind rest
    → ReadsExpression scope level 500 ts e behind
part_read {scope} {level} {behind = behind} {rest} {e} stop s n =
    let base : ReadsExpression scope level 500 (s.front ++ n.token ∷ rest) e (n.token ∷ rest) = expression_read n.token rest (subst (IsStop level) (sym n.is) stop) s.spells s.low in
    let there : ReadsExpression scope level 500 (s.front ++ behind) e behind = subst (λ l. ReadsExpression scope level 500 (s.front ++ l) e l) (sym n.parts) base in
    subst (λ l. ReadsExpression scope level 500 l e behind) (sym s.parts) there

closed_read : {scope : Scope} {level : Level} {close : List ℕ} {ts rest : List Lexeme} {e : Expression} → IsStop level (Punctuator close) → SpellsClosed scope level close ts e rest → ReadsClosed scope level close ts e rest
closed_read stop s = record { behind = s.behind; reads = part_read stop s.part s.closes; closes = s.closes }

-- ---- arguments

-- neither sizes nor a block go on here
record IsEnd (ts : List Lexeme) : Type 0 where
  pub no_size : IsNoNext (Punctuator (codes "[")) ts
  pub no_block : IsNoNext (Punctuator (codes "{")) ts

further_end : (ts : List Lexeme) (all : List Argument) (rest : List Lexeme) → SpellsFurther ts all rest → IsEnd ts
further_end ts [] rest n = record { no_size = λ b m. apart n m refl; no_block = λ b m. apart n m refl }
further_end ts (a ∷ all) rest (behind, next, n, s, more) = record { no_size = λ b m. apart n m refl; no_block = λ b m. apart n m refl }

sizes_read : (ts : List Lexeme) (sizes : List Expression) (rest : List Lexeme) → IsEnd rest → SpellsSizes ts sizes rest → ReadsSizes ts sizes rest
sizes_read ts [] rest end s = (s, subst (IsNoNext (Punctuator (codes "["))) (sym s) end.no_size)
sizes_read ts (e ∷ es) rest end (inside, behind, n, c, more) = (inside, behind, n, closed_read refl c, sizes_read behind es rest end more)

no_block_next : (ts : List Lexeme) (sizes : List Expression) (rest : List Lexeme) → IsEnd rest → SpellsSizes ts sizes rest → IsNoNext (Punctuator (codes "{")) ts
no_block_next ts [] rest end s = subst (IsNoNext (Punctuator (codes "{"))) (sym s) end.no_block
no_block_next ts (e ∷ es) rest end (inside, behind, n, c, more) = λ b m. apart n m refl

three_read : {ts rest : List Lexeme} {r w s : Expression} → SpellsThree ts r w s rest → ReadsThree ts r w s rest
three_read x = record {
  second = x.second;
  third = x.third;
  reads_rows = closed_read refl x.spells_rows;
  reads_width = closed_read refl x.spells_width;
  reads_stride = closed_read refl x.spells_stride;
}

argument_read : (ts : List Lexeme) (a : Argument) (rest : List Lexeme) → IsEnd rest → SpellsArgument ts a rest → ReadsArgument ts a rest
argument_read ts (Plain name sizes) rest end (behind, n, s) =
    record { behind = behind; reads_name = n; reads_behind = (no_block_next behind sizes rest end s, sizes_read behind sizes rest end s) }
argument_read ts (Strided name rows width stride) rest end (behind, inside, n, o, three) =
    record { behind = behind; reads_name = n; reads_behind = (inside, o, three_read three) }

further_read : (ts : List Lexeme) (all : List Argument) (rest : List Lexeme) → SpellsFurther ts all rest → ReadsFurther ts all rest
further_read ts [] rest s = s
further_read ts (a ∷ all) rest (behind, next, n, s, more) = (behind, next, n, argument_read behind a next (further_end next all rest more) s, further_read next all rest more)

arguments_read : (ts : List Lexeme) (all : List Argument) (rest : List Lexeme) → SpellsArguments ts all rest → ReadsArguments ts all rest
arguments_read ts [] rest s = s
arguments_read ts (a ∷ all) rest (next, s, more) = (next, argument_read ts a next (further_end next all rest more) s, further_read next all rest more)

-- ---- clauses

clause_read : (ts : List Lexeme) (c : Clause) (rest : List Lexeme) → SpellsClause ts c rest → ReadsClause ts c rest
clause_read ts (Arguments d all) rest (behind, inside, n, o, s) = (behind, inside, n, o, arguments_read inside all rest s)
clause_read ts HighPriority rest s = s

clauses_read : (ts : List Lexeme) (all : List Clause) → SpellsClauses ts all → ReadsClauses ts all
clauses_read ts [] s = s
clauses_read ts (c ∷ all) (rest, s, more) = (rest, clause_read ts c rest s, clauses_read rest all more)

-- ---- addresses

-- a comma or a closing parenthesis comes behind each address
address_read : (es : List Expression) (scope : Scope) (ts next rest : List Lexeme) (e : Expression) → SpellsPart scope levels.Assign ts e next → SpellsFurtherAddresses next es rest
    → ReadsExpression scope levels.Assign 500 ts e next
address_read [] scope ts next rest e s n = part_read refl s n
address_read (f ∷ es) scope ts next rest e s (behind, after, n, other, more) = part_read refl s n

further_addresses_read : (ts : List Lexeme) (all : List Expression) (rest : List Lexeme) → SpellsFurtherAddresses ts all rest → ReadsFurtherAddresses ts all rest
further_addresses_read ts [] rest s = s
further_addresses_read ts (e ∷ es) rest (behind, next, n, s, more) = (behind, next, n, address_read es scopes.Block behind next rest e s more, further_addresses_read next es rest more)

addresses_read : (ts : List Lexeme) (all : List Expression) (rest : List Lexeme) → SpellsAddresses ts all rest → ReadsAddresses ts all rest
addresses_read ts [] rest s = s
addresses_read ts (e ∷ es) rest (next, s, more) = (next, address_read es scopes.Block ts next rest e s more, further_addresses_read next es rest more)

-- ---- directives

pub directive_read : (place : Place) (line : ℕ) (ts : List Lexeme) (d : Directive) → SpellsDirective place line ts d → ReadsDirective place line ts d
directive_read places.BeforeFunction line ts (Task own clauses) (e, rest, n, s, once) =
    (e, record { rest = rest; reads_task = n; reads_clauses = clauses_read rest clauses s; once = once })
directive_read places.InBlock line ts (Start own) s = s
directive_read places.InBlock line ts (Finish own) s = s
directive_read places.InBlock line ts (Barrier own) s = s
directive_read places.InBlock line ts (Wait own all) (e, first, second, inside, w, o, p, s) =
    (e, record { first = first; second = second; inside = inside; reads_wait = w; reads_on = o; opens = p; reads_addresses = addresses_read inside all [] s })
directive_read places.InBlock line ts (Task own clauses) s = absurd s
directive_read places.BeforeFunction line ts d s = absurd s
