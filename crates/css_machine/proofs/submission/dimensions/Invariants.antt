use Rattle.std.proofs.Common.{◌≡◌, ◌+◌, drop}
use Rattle.css_isa.specs.Code.{all_dimensions}
use Rattle.css_machine.proofs.submission.dimensions.Given as goal

abbrev pub invariant-loop-part : goal.invariant-loop-part
invariant-loop-part l = l.count + all_dimensions (drop l.part-index l.shape.args) ≡ all_dimensions l.shape.args
