-- What is read is spelled.
use Rattle.std.proofs.Common.{ℕ, List, [], ◌∷◌}
use Rattle.css_base.specs.Tokens.{Lexeme}
use Rattle.css_tree.specs.declared.scope.Scope.{Scope}
use Rattle.css_tree.specs.Syntax.{Expression, Argument, Plain, Strided, Clause, Arguments, HighPriority, Directive, Start, Finish, Barrier, Wait, Task}
use Rattle.css_pexpr.specs.declared.level.Level.{Level}
use Rattle.css_parse.specs.Readings.{ReadsExpression}
use Rattle.css_pragma.specs.declared.place.Place.{Place}
use Rattle.css_pragma.specs.declared.place.Place.TheVariants as places
use Rattle.css_pragma.specs.Directives.{SpellsPart, SpellsClosed, SpellsSizes, SpellsThree, SpellsArgument, SpellsFurther, SpellsArguments, SpellsClause, SpellsClauses, SpellsFurtherAddresses, SpellsAddresses, SpellsDirective}
use Rattle.css_pragma.specs.Readings.{ReadsClosed, ReadsSizes, ReadsThree, ReadsArgument, ReadsFurther, ReadsArguments, ReadsClause, ReadsClauses, ReadsFurtherAddresses, ReadsAddresses, ReadsDirective}

part_spelled : {scope : Scope} {level : Level} {ts rest : List Lexeme} {e : Expression} → ReadsExpression scope level 500 ts e rest → SpellsPart scope level ts e rest
part_spelled r = record { front = r.longest.front; parts = r.longest.parts; spells = r.longest.spells; low = r.low }

closed_spelled : {scope : Scope} {level : Level} {close : List ℕ} {ts rest : List Lexeme} {e : Expression} → ReadsClosed scope level close ts e rest → SpellsClosed scope level close ts e rest
closed_spelled r = record { behind = r.behind; part = part_spelled r.reads; closes = r.closes }

sizes_spelled : (ts : List Lexeme) (sizes : List Expression) (rest : List Lexeme) → ReadsSizes ts sizes rest → SpellsSizes ts sizes rest
sizes_spelled ts [] rest r = r.0
sizes_spelled ts (e ∷ es) rest (inside, behind, n, c, more) = (inside, behind, n, closed_spelled c, sizes_spelled behind es rest more)

three_spelled : {ts rest : List Lexeme} {r w s : Expression} → ReadsThree ts r w s rest → SpellsThree ts r w s rest
three_spelled x = record {
  second = x.second;
  third = x.third;
  spells_rows = closed_spelled x.reads_rows;
  spells_width = closed_spelled x.reads_width;
  spells_stride = closed_spelled x.reads_stride;
}

argument_spelled : (ts : List Lexeme) (a : Argument) (rest : List Lexeme) → ReadsArgument ts a rest → SpellsArgument ts a rest
argument_spelled ts (Plain name sizes) rest r = (r.behind, r.reads_name, sizes_spelled r.behind sizes rest r.reads_behind.1)
argument_spelled ts (Strided name rows width stride) rest r = (r.behind, r.reads_behind.0, r.reads_name, r.reads_behind.1, three_spelled r.reads_behind.2)

further_spelled : (ts : List Lexeme) (all : List Argument) (rest : List Lexeme) → ReadsFurther ts all rest → SpellsFurther ts all rest
further_spelled ts [] rest r = r
further_spelled ts (a ∷ all) rest (behind, next, n, r, more) = (behind, next, n, argument_spelled behind a next r, further_spelled next all rest more)

arguments_spelled : (ts : List Lexeme) (all : List Argument) (rest : List Lexeme) → ReadsArguments ts all rest → SpellsArguments ts all rest
arguments_spelled ts [] rest r = r
arguments_spelled ts (a ∷ all) rest (next, r, more) = (next, argument_spelled ts a next r, further_spelled next all rest more)

clause_spelled : (ts : List Lexeme) (c : Clause) (rest : List Lexeme) → ReadsClause ts c rest → SpellsClause ts c rest
clause_spelled ts (Arguments d all) rest (behind, inside, n, o, r) = (behind, inside, n, o, arguments_spelled inside all rest r)
clause_spelled ts HighPriority rest r = r

clauses_spelled : (ts : List Lexeme) (all : List Clause) → ReadsClauses ts all → SpellsClauses ts all
clauses_spelled ts [] r = r
clauses_spelled ts (c ∷ all) (rest, r, more) = (rest, clause_spelled ts c rest r, clauses_spelled rest all more)

further_addresses_spelled : (ts : List Lexeme) (all : List Expression) (rest : List Lexeme) → ReadsFurtherAddresses ts all rest → SpellsFurtherAddresses ts all rest
further_addresses_spelled ts [] rest r = r
further_addresses_spelled ts (e ∷ es) rest (behind, next, n, r, more) = (behind, next, n, part_spelled r, further_addresses_spelled next es rest more)

addresses_spelled : (ts : List Lexeme) (all : List Expression) (rest : List Lexeme) → ReadsAddresses ts all rest → SpellsAddresses ts all rest
addresses_spelled ts [] rest r = r
addresses_spelled ts (e ∷ es) rest (next, r, more) = (next, part_spelled r, further_addresses_spelled next es rest more)

pub directive_spelled : (place : Place) (line : ℕ) (ts : List Lexeme) (d : Directive) → ReadsDirective place line ts d → SpellsDirective place line ts d
directive_spelled places.BeforeFunction line ts (Task own clauses) (e, r) = (e, r.rest, r.reads_task, clauses_spelled r.rest clauses r.reads_clauses, r.once)
directive_spelled places.InBlock line ts (Start own) r = r
directive_spelled places.InBlock line ts (Finish own) r = r
directive_spelled places.InBlock line ts (Barrier own) r = r
directive_spelled places.InBlock line ts (Wait own all) (e, r) = (e, r.first, r.second, r.inside, r.reads_wait, r.reads_on, r.opens, addresses_spelled r.inside all [] r.reads_addresses)
directive_spelled places.InBlock line ts (Task own clauses) r = absurd r
directive_spelled places.BeforeFunction line ts d r = absurd r
