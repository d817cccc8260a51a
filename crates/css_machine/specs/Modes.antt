-- Where an instruction stands, as the code keeps it.
use Rattle.std.specs.Prelude.{[]}
use Rattle.css_semantics.specs.Dialogue as dialogue
use Rattle.css_machine.specs.declared.event.Mode.{Mode}
use Rattle.css_machine.specs.declared.event.Mode.TheVariants as modes

abbrev pub mode_as : Mode → dialogue.Mode
mode_as modes.Plain = dialogue.Plain
mode_as modes.Waiting = dialogue.Waiting
mode_as modes.Measuring = dialogue.Measuring []
