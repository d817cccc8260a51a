use Rattle.std.proofs.Common.{◌≡◌, ℕ, Some, slice_get, vec_capacity, arith}
use Rattle.std.specs.Arc.{arc_value}
use Rattle.css_base.specs.declared.ending.Stop.{Stop}
use Rattle.css_vm.specs.Code.{code_of}
use Rattle.css_yard.specs.Values.{IsFirstStop}
use Rattle.css_history.specs.Histories.{submits}
use Rattle.css_history.specs.Seats.{IsFirst}
use Rattle.css_history.proofs.Values.{first_stops}
use Rattle.css_history.specs.Terms.{terms_of}
use Rattle.css_board.specs.Cells.{IsStopOf}
use Rattle.css_board.proofs.Lists.{some_weaker, none_weaker}
use Rattle.css_board.proofs.Boards.{front_first, none_first, none_behind}
use Rattle.css_board.proofs.board.Board.first_stop.Goals as goal

pub returns-then-self-len-clause-none : goal.returns-then-self-len-clause-none
returns-then-self-len-clause-none c =
    let i = c.self.inside in
    rw (← c.self.view_is) (none_behind i.fixed i.history.items i.cells.items i.posts.items i.graph i.front i.closed i.starved (vec_capacity i.history) c.self.invariant (let own = i.cells.ok.0 in let len = c.len.ensures in omega (arith, own, len, c.if-self-len.true)))

pub returns-clause-is_first : goal.returns-clause-is_first
returns-clause-is_first c =
    let i = c.self.inside in
    let cell = c.cell_at-cell.result in
    let at : slice_get i.cells.items i.front ≡ Some cell = rw c.deref.ensures.value at c.cell_at-cell.ensures in
    let found = rw c.deref-2.ensures.value at c.stop_of.ensures.some in
    rw (← c.self.view_is) (some_weaker c.stop_of.result (λ r. IsStopOf i.history.items cell r.0 r.1 r.2) (λ r. IsFirst i.history.items r.0 r.1 r.2)
    (λ r h. front_first i.fixed i.history.items i.cells.items i.posts.items i.graph i.front i.closed i.starved (vec_capacity i.history) c.self.invariant cell r.0 r.1 r.2 at h) found)

pub returns-clause-stops : goal.returns-clause-stops
returns-clause-stops c =
    let i = c.self.inside in
    let cell = c.cell_at-cell.result in
    let at : slice_get i.cells.items i.front ≡ Some cell = rw c.deref.ensures.value at c.cell_at-cell.ensures in
    let found = rw c.deref-2.ensures.value at c.stop_of.ensures.some in
    rw (← c.self.view_is) (some_weaker c.stop_of.result (λ r. IsStopOf i.history.items cell r.0 r.1 r.2) (λ r. IsFirstStop (code_of (arc_value i.fixed.code)) i.fixed.limits.task_units (submits i.history.items) r.0 r.1 r.2)
    (λ r h. first_stops (terms_of i.fixed) i.history.items c.self.invariant.legal r.0 r.1 r.2 (front_first i.fixed i.history.items i.cells.items i.posts.items i.graph i.front i.closed i.starved (vec_capacity i.history) c.self.invariant cell r.0 r.1 r.2 at h)) found)

pub returns-clause-none : goal.returns-clause-none
returns-clause-none c =
    let i = c.self.inside in
    let cell = c.cell_at-cell.result in
    let at : slice_get i.cells.items i.front ≡ Some cell = rw c.deref.ensures.value at c.cell_at-cell.ensures in
    let none = rw c.deref-2.ensures.value at c.stop_of.ensures.none in
    rw (← c.self.view_is) (none_weaker c.stop_of.result ((n : ℕ) (stop : Stop) (line : ℕ) → ¬ IsStopOf i.history.items cell n stop line) ((n : ℕ) (stop : Stop) (line : ℕ) → ¬ IsFirst i.history.items n stop line)
    (λ h. none_first i.fixed i.history.items i.cells.items i.posts.items i.graph i.front i.closed i.starved (vec_capacity i.history) c.self.invariant cell at h) none)
