use Rattle.std.proofs.Common.{[], map, sym, ◌∙◌, subst}
use Rattle.css_base.specs.Tokens.{lexemes}
use Rattle.css_tree.specs.Shapes.{expression}
use Rattle.css_pragma.specs.Readings.{ReadsAddresses}
use Rattle.css_pragma.proofs.Exits.{passed}
use Rattle.css_pragma.proofs.Lists.{no_tokens, some_tokens}
use Rattle.css_pragma.proofs.One.{one_addresses}
use Rattle.css_pragma.proofs.AbsentParts.{no_wait, no_wait_open, no_wait_on}
use Rattle.css_pragma.proofs.spelled.wait.Goals as goal

pub returns-in_default-clause-not_spelled : goal.returns-in_default-clause-not_spelled
returns-in_default-clause-not_spelled c = λ why all r. c.in_default.ensures.none r.first r.reads_wait

pub returns-in_default-after_word-clause-not_spelled : goal.returns-in_default-after_word-clause-not_spelled
returns-in_default-after_word-clause-not_spelled c = λ why all r. no_wait_on c.in-Some.ensures.found c.in_default-after_word.ensures.none r

pub returns-in_default-after_mark-clause-not_spelled : goal.returns-in_default-after_mark-clause-not_spelled
returns-in_default-after_mark-clause-not_spelled c = λ why all r. no_wait_open c.in-Some.ensures.found c.in-Some-after_word.ensures.found c.in_default-after_mark.ensures.none r

pub returns-in_err-addresses-clause-not_spelled : goal.returns-in_err-addresses-clause-not_spelled
returns-in_err-addresses-clause-not_spelled c = λ why all r.
    no_wait c.in-Some.ensures.found c.in-Some-after_word.ensures.found c.in-Some-after_mark.ensures.found
    (λ others read. c.in_err-addresses.ensures.not_spelled (passed c.from_residual.result c.in_err-addresses.field-0.0 c.from_residual.ensures.1 why) others [] read) r

pub returns-then-not-is_empty-clause-not_spelled : goal.returns-then-not-is_empty-clause-not_spelled
returns-then-not-is_empty-clause-not_spelled c = λ why all r.
    no_wait c.in-Some.ensures.found c.in-Some-after_word.ensures.found c.in-Some-after_mark.ensures.found
    (λ others read. some_tokens c.in_ok-addresses.rest.now (sym c.if-not-is_empty.true ∙ c.is_empty.ensures)
    (one_addresses (lexemes c.in-Some-after_mark.inside.now) (map expression c.in_ok-addresses.addresses.items) others c.in_ok-addresses.ensures.ok read).1) r

pub returns-clause-ok : goal.returns-clause-ok
returns-clause-ok c = record {
  first = lexemes c.in-Some.first.now;
  second = lexemes c.in-Some-after_word.second.now;
  inside = lexemes c.in-Some-after_mark.inside.now;
  reads_wait = c.in-Some.ensures.found;
  reads_on = c.in-Some-after_word.ensures.found;
  opens = c.in-Some-after_mark.ensures.found;
  reads_addresses = subst (ReadsAddresses (lexemes c.in-Some-after_mark.inside.now) (map expression c.in_ok-addresses.addresses.items))
      (no_tokens c.in_ok-addresses.rest.now (sym c.if-not-is_empty.false ∙ c.is_empty.ensures)) c.in_ok-addresses.ensures.ok;
}
