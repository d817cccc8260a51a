use Rattle.std.proofs.Common.{◌≡◌, ◌∙◌, Result, Ok, Err, IsErrAnd, ap, sym, subst, map, true≢false}
use Rattle.std.specs.Prelude.{IsErrOf}
use Rattle.css_words.specs.KeptWords.{pairs, texts}
use Rattle.css_words.specs.Reading.{HasBounds}
use Rattle.css_words.proofs.Readings.{nothing_said, no_one_operand, not_allowed, bounds_of}
use Rattle.css_words.proofs.reading.read_words.Goals as goal

same_fault : {S T E : Type 0} (r : Result T E) (x f : E) → IsErrAnd r (λ y. y ≡ x) → IsErrOf r f → IsErrOf {T = S} {E = E} (Err x) f
same_fault (Err y) x f h e = let same : y ≡ f = cc in ap Err (sym h ∙ same)
same_fault (Ok t) x f h e = absurd h

pub returns-in_err-said-clause-refused : goal.returns-in_err-said-clause-refused
returns-in_err-said-clause-refused c =
    let are = sym c.as_slice.ensures ∙ c.in-Some.ensures.1 in
    λ e. nothing_said c.args.built.now c.args.words.now c.in-Some.ensures.0 c.in-Some.name.now (texts c.in-Some.others.now) are (c.in_err-said.ensures.refused (same_fault c.from_residual.result c.in_err-said.field-0.0 _ c.from_residual.ensures.1 e))

pub returns-in_default-only_operand-clause-refused : goal.returns-in_default-only_operand-clause-refused
returns-in_default-only_operand-clause-refused c =
    let are = sym c.as_slice.ensures ∙ c.in-Some.ensures.1 in
    λ _. no_one_operand c.args.built.now c.args.words.now c.in-Some.ensures.0 c.in-Some.name.now (texts c.in-Some.others.now) are
    (pairs c.in_ok-said.said.given.items) (map (λ w. w.now) c.in_ok-said.said.operands.items) c.in_ok-said.ensures.ok
    (rw c.as_slice-2.ensures.value at c.in_default-only_operand.ensures)

pub returns-then-not-fits-clause-refused : goal.returns-then-not-fits-clause-refused
returns-then-not-fits-clause-refused c =
    let are = sym c.as_slice.ensures ∙ c.in-Some.ensures.1 in
    let one = rw c.as_slice-2.ensures.value at c.in-Some-only_operand.ensures in
    let says = rw one at c.in_ok-said.ensures.ok in
    λ _. not_allowed c.args.built.now c.args.words.now c.in-Some.ensures.0 c.in-Some.name.now (texts c.in-Some.others.now) are
    c.in-Some-command_named.command c.in-Some-only_operand.operand.now (pairs c.in_ok-said.said.given.items) c.in-Some-command_named.ensures says
    (λ allowed. true≢false (sym (c.in_ok-fits.ensures.1 (rw c.as_slice-given.ensures.value allowed)) ∙ c.if-not-fits.true))

pub returns-clause-bounds : goal.returns-clause-bounds
returns-clause-bounds c =
    let allowed = c.in_ok-fits.ensures.0 c.if-not-fits.false in
    subst HasBounds (sym c.in_ok-make_request.ensures)
    (bounds_of c.in-Some-command_named.command c.in-Some-only_operand.operand.now (pairs c.as_slice-given.result.now) allowed.values allowed.of_command)
