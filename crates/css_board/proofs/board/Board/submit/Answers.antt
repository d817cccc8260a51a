use Rattle.css_board.specs.Boards.{State}
use Rattle.std.proofs.Common.{rules, ◌≡◌, ◌∷◌, [], ◌++◌, ℕ, None, length, vec_capacity, arith, ap, sym, ◌∙◌, subst}
use Rattle.std.specs.Arc.{arc_value}
use Rattle.css_vm.specs.Code.{code_of}
use Rattle.css_yard.specs.Yards.{MaySubmit}
use Rattle.css_history.specs.declared.entry.Entry.TheVariants as entries
use Rattle.css_history.specs.Histories.{submits}
use Rattle.css_history.specs.Rules.{IsNext}
use Rattle.css_board.specs.Posts.{coming}
use Rattle.css_board.specs.Graphs.{producers_of}
use Rattle.css_board.proofs.Boards.{board_submit, above_tasks, added_tasks}
use Rattle.css_board.proofs.Graphs.{producers_differ}
use Rattle.css_board.proofs.board.Board.submit.Goals as goal

pub add-requires-clause-above : goal.add-requires-clause-above
add-requires-clause-above c =
    let i = c.self.inside in
    let next : IsNext i.fixed.first i.history.items c.args.rec = subst (λ (s : State). IsNext s.fixed.first s.history c.args.rec) (sym c.self.view_is) c.requires.next in
    above_tasks i.fixed i.history.items i.cells.items i.posts.items i.graph i.front i.closed i.starved (vec_capacity i.history) c.self.invariant c.args.rec next

pub add-requires-clause-added : goal.add-requires-clause-added
add-requires-clause-added c =
    let i = c.self.inside in
    let may : MaySubmit (code_of (arc_value i.fixed.code)) i.fixed.limits (submits i.history.items) c.args.rec c.args.given.items
    = subst (λ (s : State). MaySubmit (code_of (arc_value s.fixed.code)) s.fixed.limits (submits s.history) c.args.rec c.args.given.items) (sym c.self.view_is) c.requires.may in
    let made : c.as_slice-2.result.now ≡ producers_of c.args.rec.inputs.items = search rules in
    rw made (added_tasks i.fixed i.history.items i.cells.items i.posts.items i.graph i.front i.closed i.starved (vec_capacity i.history) c.self.invariant c.args.rec c.args.given.items may)

pub add-requires-clause-different : goal.add-requires-clause-different
add-requires-clause-different c =
    let made : c.as_slice-2.result.now ≡ producers_of c.args.rec.inputs.items = search rules in
    rw made (producers_differ c.args.rec.inputs.items)

pub invariant_of-self-2 : goal.invariant_of-self-2
invariant_of-self-2 c =
    let i = c.self.inside in
    let next : IsNext i.fixed.first i.history.items c.args.rec = subst (λ (s : State). IsNext s.fixed.first s.history c.args.rec) (sym c.self.view_is) c.requires.next in
    let may : MaySubmit (code_of (arc_value i.fixed.code)) i.fixed.limits (submits i.history.items) c.args.rec c.args.given.items
    = subst (λ (s : State). MaySubmit (code_of (arc_value s.fixed.code)) s.fixed.limits (submits s.history) c.args.rec c.args.given.items) (sym c.self.view_is) c.requires.may in
    let own = i.history.ok.0 in
    let place : c.len-submit.result ≡ length i.history.items = (let len = c.len-submit.ensures in let same = c.reserve.ensures.len in let this = c.reserve.new.self.ok.0 in let items = ap (λ l. length l) c.reserve.ensures.items in omega (arith, own, len, same, this, items)) in
    let made : c.as_slice-2.result.now ≡ producers_of c.args.rec.inputs.items = search rules in
    let more : c.coming-more.result ≡ coming i.posts.items = c.coming-more.ensures ∙ ap (λ l. coming l) c.deref.ensures.value in
    let entered : c.push_reserved-2.new.self.items ≡ i.history.items ++ entries.Submit c.args.rec c.args.given.items ∷ []
    = c.push_reserved-2.ensures.items ∙ (ap (λ l. l ++ entries.Submit c.args.rec c.new.result ∷ []) c.reserve.ensures.items ∙ ap (λ given. i.history.items ++ entries.Submit c.args.rec given ∷ []) c.new.ensures) in
    let cells : c.push_reserved.new.self.items ≡ i.cells.items ++ record { submit = length i.history.items; end = None } ∷ []
    = c.push_reserved.ensures.items ∙ (ap (λ l. l ++ record { submit = c.len-submit.result; end = None } ∷ []) c.reserve-2.ensures.items ∙ ap (λ (n : ℕ). i.cells.items ++ record { submit = n; end = None } ∷ []) place) in
    let added = rw made at c.in-Ok-add.ensures.task in
    let room = c.in-Ok-reserve.ensures.ok in
    let few = c.if-len-ge-MOST_ENTRIES.false in
    let less = c.if-more-ge-MOST_ENTRIES.false in
    let len = c.len.ensures in
    rw (entered, cells, c.push_reserved-2.ensures.capacity)
    (board_submit i.fixed i.history.items i.cells.items i.posts.items i.graph i.front i.closed i.starved (vec_capacity i.history) c.self.invariant c.args.rec c.args.given.items c.add.new.self (vec_capacity c.reserve.new.self) next may added
    (omega (arith, room, more, own)) (omega (arith, few, len, own)) (omega (arith, less, more)))
