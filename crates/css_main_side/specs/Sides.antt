-- What main's run keeps, as plain data.
use Rattle.css_semantics.specs.Units.{with_units}
use Rattle.css_main_side.specs.declared.main_run.Main.{Main}
use Rattle.css_main_side.specs.Playing.{Side}

abbrev pub side : Main → Side
side m = record { machine = m.machine.state; space = with_units m.memory m.units; is_started = m.is_started; called = m.called }
