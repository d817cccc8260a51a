-- What the reader holds, as plain data.
use Rattle.std.specs.Prelude.{ℕ, List, [], ◌∷◌, map, Bool, Option, option_map}
use Rattle.css_tree.specs.Syntax.{Expression}
use Rattle.css_tree.specs.Shapes.{expression, type_name}
use Rattle.css_pexpr.specs.declared.node.Known.{Known}
use Rattle.css_pexpr.specs.declared.node.Arguments.{Arguments}
use Rattle.css_pexpr.specs.declared.children.Pair.{Pair}
use Rattle.css_pexpr.specs.declared.children.Triple.{Triple}
use Rattle.css_pexpr.specs.declared.frame.Operand as code
use Rattle.css_pexpr.specs.declared.frame.Frame as framed
use Rattle.css_pexpr.specs.declared.frame.Frame.TheVariants as frames
use Rattle.css_pexpr.specs.Frames.{Node, Operand, operand, Frame, Pre, Casting, Infix, Otherwise, Assigning, Sequence, Group, Element, Question, Passing, Stack, Two, Three}

abbrev pub node : Option Known → Node
node n = option_map (λ k. expression k.tree) n

abbrev pub arguments : Option Arguments → Option (List Expression)
arguments n = option_map (λ a. map expression a.all.items) n

abbrev pub operand_of : code.Operand → Operand
operand_of x = operand x.level x.line (node x.node)

abbrev pub frame : framed.Frame → Frame
frame (frames.Prefix line op) = Pre line op
frame (frames.Cast line to) = Casting line (type_name to)
frame (frames.Infix line left op) = Infix line (node left) op
frame (frames.Otherwise line condition first) = Otherwise line (node condition) (node first)
frame (frames.Assign line place op) = Assigning line (node place) op
frame (frames.Sequence line left) = Sequence line (node left)
frame (frames.Group line) = Group line
frame (frames.Element line array) = Element line (node array)
frame (frames.Question line condition) = Question line (node condition)
frame (frames.Call line callee before) = Passing line (node callee) (arguments before)

-- the code's frames, of which the last one was pushed last, before others
abbrev pub onto : List framed.Frame → Stack → Stack
onto [] stack = stack
onto (f ∷ fs) stack = onto fs (frame f ∷ stack)

-- ---- children

abbrev pub two : Pair → Two
two p = record { first = expression p.first.value; second = expression p.second.value }

abbrev pub three : Triple → Three
three p = record { first = expression p.first.value; second = expression p.second.value; third = expression p.third.value }
