-- The reader's frames, the last one first.
use Rattle.std.specs.Prelude.{[]}
use Rattle.css_pexpr.specs.declared.stack.Stack as code
use Rattle.css_pexpr.specs.Frames.{Stack}
use Rattle.css_pexpr.specs.Shapes.{onto}

abbrev pub stack : code.Stack → Stack
stack s = onto s.frames.items []
