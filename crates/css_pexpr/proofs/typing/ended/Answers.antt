use Rattle.std.proofs.Common.{◌≡◌, sym, ◌∙◌}
use Rattle.css_tree.specs.Shapes.{type_name}
use Rattle.css_pexpr.specs.Stacks.{stack}
use Rattle.css_pexpr.proofs.Others.{ended_sizeof}
use Rattle.css_pexpr.proofs.typing.ended.Goals as goal

pub returns-in-Some : goal.returns-in-Some
returns-in-Some c =
    c.sizeof_type.ensures (stack c.pop.new.self)
    ∙ sym (ended_sizeof c.args.manner (stack c.args.frames.now) (stack c.pop.new.self) c.in-Some.first c.args.line (type_name c.args.so_far) c.pop.result (sym c.in-Some.ensures) c.pop.ensures.some c.pop.ensures.none)
