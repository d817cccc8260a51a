use Rattle.std.proofs.Common.{IsTrue}
use Rattle.css_isa.proofs.Following.{front_exec}
use Rattle.css_isa.proofs.laws.alike_worlds_make_one_dialogue.Goals as goal

pub returns : goal.returns
returns c w w' comes code steps s tape follows first = front_exec w w' (λ t. IsTrue (comes t)) follows code steps s tape first
