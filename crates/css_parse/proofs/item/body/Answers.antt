use Rattle.css_base.specs.Tokens.{lexemes}
use Rattle.css_parse.proofs.Exits.{passed}
use Rattle.css_parse.proofs.Initials.{none_of}
use Rattle.css_parse.proofs.NoItem.{no_body, no_body_level, no_body_entries, nothing_next}
use Rattle.css_parse.proofs.item.body.Goals as goal

pub returns-in_default-first-clause-not_spelled : goal.returns-in_default-first-clause-not_spelled
returns-in_default-first-clause-not_spelled c = λ why block rest r.
    no_body c.args.levels (lexemes c.args.tokens.now) block rest c.in_default.ensures.none (nothing_next (none_of c.args.tokens.now c.in_default-first.ensures.value)) r

pub returns-in_default-after_mark-clause-not_spelled : goal.returns-in_default-after_mark-clause-not_spelled
returns-in_default-after_mark-clause-not_spelled c = λ why block rest r.
    no_body c.args.levels (lexemes c.args.tokens.now) block rest c.in_default.ensures.none c.in_default-after_mark.ensures.none r

pub returns-then-levels-eq0-clause-not_spelled : goal.returns-then-levels-eq0-clause-not_spelled
returns-then-levels-eq0-clause-not_spelled c = λ why block rest r.
    no_body_level c.args.levels (lexemes c.args.tokens.now) block rest c.in_default.ensures.none c.if-levels-eq0.true r

pub returns-in_err-entries-clause-not_spelled : goal.returns-in_err-entries-clause-not_spelled
returns-in_err-entries-clause-not_spelled c = λ why block rest r.
    no_body_entries c.args.levels (lexemes c.args.tokens.now) block rest c.in_default.ensures.none c.in-Some-after_mark.ensures.found
    (c.in_err-entries.ensures.not_spelled (passed c.from_residual.result c.in_err-entries.field-0.0 c.from_residual.ensures.1 why)) r
