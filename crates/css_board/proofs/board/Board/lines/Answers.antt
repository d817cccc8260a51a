use Rattle.std.proofs.Common.{◌≡◌, length, sym, subst}
use Rattle.std.specs.Arc.{arc_value}
use Rattle.css_vm.specs.Code.{code_of}
use Rattle.css_history.specs.Terms.{terms_of}
use Rattle.css_board.specs.Boards.{State}
use Rattle.css_board.proofs.NamedLines.{all_named}
use Rattle.css_board.proofs.board.Board.lines.Goals as goal

pub lines_of-requires : goal.lines_of-requires
lines_of-requires c =
    let i = c.self.inside in
    let all : length c.args.names.now ≡ length (code_of (arc_value i.fixed.code)).functions = subst (λ (s : State). length c.args.names.now ≡ length (code_of (arc_value s.fixed.code)).functions) (sym c.self.view_is) c.requires in
    rw c.deref.ensures.value (all_named (terms_of i.fixed) c.args.names.now all i.history.items c.self.invariant.legal)
