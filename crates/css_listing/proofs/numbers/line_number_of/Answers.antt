use Rattle.std.proofs.Common.{◌≡◌, ◌∙◌, ◌<◌, Some, sym, ap, arith}
use Rattle.std.proofs.lemmas.Bool.Decides.{nat_tests}
use Rattle.css_traces.specs.Words.{small_of}
use Rattle.css_listing.proofs.Below.{line_some}
use Rattle.css_listing.proofs.numbers.line_number_of.Goals as goal

pub returns : goal.returns
returns c =
    let some : 0 < c.in_ok-number.number = grind (arith, nat_tests, c.if-number-eq0.false) in
    let read : small_of c.args.word.now ≡ Some c.in_ok-number.number = sym c.small_of.ensures ∙ c.in_ok-number.was in
    ap Some c.new.ensures ∙ sym (line_some c.args.word.now c.in_ok-number.number read some)
