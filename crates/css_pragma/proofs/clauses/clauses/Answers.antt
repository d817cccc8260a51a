use Rattle.std.proofs.Common.{[], map, sym, ap, ◌∙◌, subst}
use Rattle.std.proofs.lemmas.List.{map-append}
use Rattle.css_base.specs.Tokens.{lexemes}
use Rattle.css_tree.specs.Shapes.{clause}
use Rattle.css_parse.proofs.Gathering.{SoFar, all_read}
use Rattle.css_pragma.proofs.Exits.{passed}
use Rattle.css_pragma.proofs.Gathered.{Clauses, one_more_clause, no_clauses}
use Rattle.css_pragma.proofs.Lists.{no_tokens, some_tokens}
use Rattle.css_pragma.proofs.clauses.clauses.Goals as goal

pub loop-rest-preserved : goal.loop-rest-preserved
loop-rest-preserved c =
    subst (λ l. SoFar (Clauses (lexemes c.args.tokens.now)) (Clauses (lexemes c.in_ok-next.behind.now)) l)
    (sym (ap (map clause) c.in_ok-add.ensures.ok ∙ map-append clause c.loop-rest.all.items _))
    (one_more_clause (map clause c.loop-rest.all.items) (clause c.in_ok-next.next) c.loop-rest.invariant c.in_ok-next.ensures.ok)

pub returns-clause-ok : goal.returns-clause-ok
returns-clause-ok c =
    all_read {before = Clauses (lexemes c.args.tokens.now)} {here = Clauses (lexemes c.loop-rest.rest.now)} (map clause c.loop-rest.all.items) {rest = []} c.loop-rest.invariant (no_tokens c.loop-rest.rest.now (sym c.loop-rest-test.false ∙ c.is_empty.ensures))

pub returns-in_err-next-clause-not_spelled : goal.returns-in_err-next-clause-not_spelled
returns-in_err-next-clause-not_spelled c = λ why all r.
    let l = c.loop-rest.invariant.left all [] r in
    no_clauses (lexemes c.loop-rest.rest.now) l.0 (some_tokens c.loop-rest.rest.now (sym c.loop-rest-test.true ∙ c.is_empty.ensures))
    (c.in_err-next.ensures.not_spelled (passed c.from_residual.result c.in_err-next.field-0.0 c.from_residual.ensures.1 why)) l.1
