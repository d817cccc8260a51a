use Rattle.std.proofs.Common.{[], ◌∷◌, ◌++◌, map, sym, ap, ◌∙◌, subst, arith}
use Rattle.std.proofs.lemmas.List.{map-append}
use Rattle.css_base.specs.Tokens.{lexemes}
use Rattle.css_tree.specs.Shapes.{expression}
use Rattle.css_parse.proofs.Gathering.{SoFar, all_read}
use Rattle.css_pragma.specs.Readings.{ReadsAddresses, ReadsFurtherAddresses}
use Rattle.css_pragma.proofs.Exits.{passed}
use Rattle.css_pragma.proofs.Gathered.{first_address, one_more_address, no_addresses, no_further_address, no_further_addresses}
use Rattle.css_pragma.proofs.spelled.addresses.Goals as goal

pub loop-behind-init : goal.loop-behind-init
loop-behind-init c = record {
  goes = subst (λ l. SoFar (ReadsAddresses (lexemes c.args.tokens.now)) (ReadsFurtherAddresses (lexemes c.in_ok-first.behind.now)) l)
      (sym (ap (map expression) (c.in_ok-add.ensures.ok ∙ ap (λ l. l ++ c.in_ok-first.first ∷ []) c.new-all.ensures.items)))
      (first_address (expression c.in_ok-first.first) c.in_ok-first.ensures.ok);
  shorter = (let s = c.in_ok-first.ensures.shorter in omega arith);
}

pub loop-behind-preserved : goal.loop-behind-preserved
loop-behind-preserved c = record {
  goes = subst (λ l. SoFar (ReadsAddresses (lexemes c.args.tokens.now)) (ReadsFurtherAddresses (lexemes c.in_ok-next.others.now)) l)
      (sym (ap (map expression) c.in_ok-add-2.ensures.ok ∙ map-append expression c.loop-behind.all.items _))
      (one_more_address (map expression c.loop-behind.all.items) (expression c.in_ok-next.next) c.loop-behind.invariant.goes c.in-Some.ensures.found c.in_ok-next.ensures.ok);
  shorter = (let s = c.in-Some.ensures.shorter in let n = c.in_ok-next.ensures.shorter in let i = c.loop-behind.invariant.shorter in omega arith);
}

pub returns-clause-ok : goal.returns-clause-ok
returns-clause-ok c = all_read (map expression c.loop-behind.all.items) c.loop-behind.invariant.goes c.in-Some-after_mark.ensures.found

pub returns-in_default-after_mark-clause-not_spelled : goal.returns-in_default-after_mark-clause-not_spelled
returns-in_default-after_mark-clause-not_spelled c = λ why all rest r.
    let l = c.loop-behind.invariant.goes.left all rest r in
    no_further_addresses (lexemes c.loop-behind.rest.now) l.0 rest c.in_default.ensures.none c.in_default-after_mark.ensures.none l.1

pub returns-in_err-first-clause-not_spelled : goal.returns-in_err-first-clause-not_spelled
returns-in_err-first-clause-not_spelled c = λ why all rest r.
    no_addresses (lexemes c.args.tokens.now) all rest (c.in_err-first.ensures.not_spelled (passed c.from_residual.result c.in_err-first.field-0.0 c.from_residual.ensures.1 why)) r

pub returns-in_err-next-clause-not_spelled : goal.returns-in_err-next-clause-not_spelled
returns-in_err-next-clause-not_spelled c = λ why all rest r.
    let l = c.loop-behind.invariant.goes.left all rest r in
    no_further_address (lexemes c.loop-behind.rest.now) (lexemes c.in-Some.behind.now) l.0 rest c.in-Some.ensures.found
    (c.in_err-next.ensures.not_spelled (passed c.from_residual-in_err-next.result c.in_err-next.field-0.0 c.from_residual-in_err-next.ensures.1 why)) l.1
