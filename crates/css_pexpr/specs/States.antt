-- The reader's states, as plain data.
use Rattle.css_tree.specs.Shapes.{type_name}
use Rattle.css_pexpr.specs.declared.state.State as code
use Rattle.css_pexpr.specs.declared.state.State.TheVariants as states
use Rattle.css_pexpr.specs.Frames.{Stack}
use Rattle.css_pexpr.specs.Reading.{State, Wants, Has, Types}
use Rattle.css_pexpr.specs.Shapes.{operand_of}

abbrev pub state_of : Stack → code.State → State
state_of stack states.Wants = Wants stack
state_of stack (states.Has is_name x) = Has stack is_name (operand_of x)
state_of stack (states.Types line type) = Types stack line (type_name type)
