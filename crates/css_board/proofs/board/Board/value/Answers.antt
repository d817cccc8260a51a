use Rattle.std.proofs.Common.{[], vec_capacity}
use Rattle.std.specs.Arc.{arc_value}
use Rattle.css_vm.specs.Code.{code_of}
use Rattle.css_yard.specs.Values.{IsValue}
use Rattle.css_history.specs.Histories.{submits}
use Rattle.css_board.specs.Cells.{IsFoundMade}
use Rattle.css_board.proofs.Lists.{some_weaker}
use Rattle.css_board.proofs.Boards.{kept_is, made_value}
use Rattle.css_board.proofs.board.Board.value.Goals as goal

pub value_of-requires : goal.value_of-requires
value_of-requires c =
    let i = c.self.inside in
    rw (c.deref.ensures.value, c.deref-2.ensures.value) (kept_is i.fixed i.history.items i.cells.items i.posts.items i.graph i.front i.closed i.starved (vec_capacity i.history) c.self.invariant)

pub returns-clause-value : goal.returns-clause-value
returns-clause-value c =
    let i = c.self.inside in
    let found = rw c.deref.ensures.value at c.value_of.ensures.some in
    rw (← c.self.view_is)
    (some_weaker c.value_of.result (λ b. IsFoundMade i.history.items c.args.version b.now) (λ b. IsValue (code_of (arc_value i.fixed.code)) i.fixed.limits.task_units (submits i.history.items) [] c.args.version b.now)
    (λ b h. made_value i.fixed i.history.items i.cells.items i.posts.items i.graph i.front i.closed i.starved (vec_capacity i.history) c.self.invariant c.args.version b.now h) found)
