use Rattle.std.proofs.Common.{map, length, ap, sym, ◌∙◌}
use Rattle.std.proofs.lemmas.List.{length-map}
use Rattle.css_blocks.specs.Layout.{code_of}
use Rattle.css_blocks.proofs.Plans.{plan_of}
use Rattle.css_blocks.proofs.Whole.{whole_sound, code_goes_on}
use Rattle.css_gen_expr.specs.Calls.{width_of}
use Rattle.css_gen.specs.Functions.{program_of}
use Rattle.css_gen.proofs.Programs.{made_of}
use Rattle.css_gen.proofs.Whole.{is_whole}
use Rattle.css_gen.proofs.laws.confined_code_is_sound.Goals as goal

pub returns-clause-sound : goal.returns-clause-sound
returns-clause-sound c = λ names p typed confined.
    (map (plan_of (code_of (program_of names p))) (program_of names p).functions, whole_sound (program_of names p) (is_whole names p typed confined))

pub returns-clause-moves : goal.returns-clause-moves
returns-clause-moves c = λ names p typed confined w k f at cells len.
    let made = made_of names p typed k f at in
    code_goes_on (program_of names p) (is_whole names p typed confined) w k made.0 made.1 cells (len ∙ sym (ap length made.2.parameters ∙ length-map f.parameters width_of))
