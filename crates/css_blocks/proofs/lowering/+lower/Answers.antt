use Rattle.std.proofs.Common.{rules, ◌++◌, length, ap, sym, ◌∙◌, subst, arith}
use Rattle.std.proofs.lemmas.Result.{on_ok_weaker}
use Rattle.css_blocks.specs.declared.part.Part.{the_lemmas}
use Rattle.css_blocks.specs.Pieces.{Choice, Loop}
use Rattle.css_blocks.specs.Layout.{size, lower}
use Rattle.css_blocks.specs.Parts.{shape, IsSized, ways_of}
use Rattle.css_blocks.proofs.Parts.{item_sized, one_more_lowered, row_lowered, choice_lowered, loop_lowered}
use Rattle.css_blocks.proofs.lowering.+lower.Goals as goal

pub lower-requires : goal.lower-requires
lower-requires t c =
    (search (rules, the_lemmas), item_sized _ c.in-Row.parts _ _ _ c.in-Row.is c.requires c.deref-part-items.ensures.value c.loop-part-test.true c.part-item.is)

pub loop-part-preserved : goal.loop-part-preserved
loop-part-preserved t c =
    one_more_lowered _ _ _ (ways_of c.args.targets) c.deref-part-items.result.now c.loop-part.part-index c.part-item.result (omega arith) c.part-item.is c.loop-part.invariant c.in_ok-lower-in-Row.ensures

pub returns-after-loop-part : goal.returns-after-loop-part
returns-after-loop-part t c =
    row_lowered _ _ (ways_of c.args.targets) _ _ c.in-Row.parts c.loop-part-test.false c.deref-part-items.ensures.value c.loop-part.invariant
    ∙ ap (λ p. c.args.code.now.items ++ lower (shape p) (length c.args.code.now.items) (ways_of c.args.targets)) (sym c.in-Row.is)

pub returns-in_ok-put-in-Choice-2 : goal.returns-in_ok-put-in-Choice-2
returns-in_ok-put-in-Choice-2 t c =
    let sized = subst IsSized c.in-Choice.is c.requires in
    let ts = ways_of c.args.targets in
    let same_a = ap (λ p. size (shape p)) c.deref.ensures in
    let same_b = ap (λ p. size (shape p)) c.deref-in-Choice.ensures in
    on_ok_weaker c.lower-in-Choice-2.result (λ e. choice_lowered _ _ _ _ _ (shape c.deref.result.now) (shape c.deref-in-Choice.result.now) ts c.in-Choice.line _ _
    (omega (arith, c.in_ok-place-in-Choice.ensures, c.in_ok-sum-in-Choice.ensures, c.in_ok-second-in-Choice.ensures, sized.0, same_a)) (omega (arith, c.in_ok-end-in-Choice.ensures, sized.2, same_b))
    c.in_ok-put-in-Choice.ensures c.in_ok-lower-in-Choice.ensures c.in_ok-put-in-Choice-2.ensures e
    ∙ ap (λ x. c.args.code.now.items ++ lower (Choice c.in-Choice.line (shape x) (shape c.deref-in-Choice.result.now)) (length c.args.code.now.items) ts) c.deref.ensures
    ∙ ap (λ x. c.args.code.now.items ++ lower (Choice c.in-Choice.line (shape c.in-Choice.yes.value) (shape x)) (length c.args.code.now.items) ts) c.deref-in-Choice.ensures
    ∙ ap (λ p. c.args.code.now.items ++ lower (shape p) (length c.args.code.now.items) ts) (sym c.in-Choice.is)) c.lower-in-Choice-2.ensures

pub returns-in_ok-lower-in-Loop-2 : goal.returns-in_ok-lower-in-Loop-2
returns-in_ok-lower-in-Loop-2 t c =
    let ts = ways_of c.args.targets in
    on_ok_weaker c.put-in-Loop-2.result (λ e. loop_lowered _ _ _ _ _ (shape c.deref-in-Loop.result.now) (shape c.deref-in-Loop-2.result.now) ts c.in-Loop.line _ c.in_ok-start-in-Loop.ensures
    c.in_ok-lower-in-Loop.ensures c.in_ok-put-in-Loop.ensures c.in_ok-lower-in-Loop-2.ensures e
    ∙ ap (λ x. c.args.code.now.items ++ lower (Loop c.in-Loop.line (shape x) (shape c.deref-in-Loop-2.result.now)) (length c.args.code.now.items) ts) c.deref-in-Loop.ensures
    ∙ ap (λ x. c.args.code.now.items ++ lower (Loop c.in-Loop.line (shape c.in-Loop.first.value) (shape x)) (length c.args.code.now.items) ts) c.deref-in-Loop-2.ensures
    ∙ ap (λ p. c.args.code.now.items ++ lower (shape p) (length c.args.code.now.items) ts) (sym c.in-Loop.is)) c.put-in-Loop-2.ensures
