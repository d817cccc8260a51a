use Rattle.std.proofs.Common.{◌*◌, length, sym, ◌∙◌, ◌==◌}
use Rattle.std.proofs.lemmas.Bool.{eqb-true, eq-eqb}
use Rattle.css_task.specs.OffsetSets.{has_bit}
use Rattle.css_task.proofs.OffsetBits.{not_both, none_everywhere, some_there}
use Rattle.css_task.proofs.offsets.Offsets.is_empty.Goals as goal

pub returns-clause-none : goal.returns-clause-none
returns-clause-none c = λ is k.
    let s = c.args.self.now in
    none_everywhere s.words.items (sym s.counted ∙ eqb-true s.count 0 is) k

pub returns-clause-some : goal.returns-clause-some
returns-clause-some c = λ is.
    let s = c.args.self.now in
    let found = some_there (has_bit s.words.items) (64 * length s.words.items) (λ none. not_both (s.count == 0) is (eq-eqb s.count 0 (s.counted ∙ none))) in
    (found.0, found.2)
