use Rattle.std.proofs.Common.{◌∙◌, [], ap, ◌+◌, ◌-◌, ◌++◌, take, drop}
use Rattle.css_lexemes.specs.LineKinds.{line_kind}
use Rattle.css_lexemes.specs.Lines.{kept_of}
use Rattle.css_lexemes.proofs.Erasing.{at_place, none_left, line_left, byte_left, same_left}
use Rattle.css_lexemes.proofs.erasure.without_directives.Goals as goal
use Rattle.css_lexemes.proofs.erasure.without_directives.Goals.{then-source-eq10+in_ok-push_kept, else-source-eq10+in_ok-push}

pub loop-source-init : goal.loop-source-init
loop-source-init c = rw (c.new-left.ensures.items, c.new-line.ensures.items) (none_left c.args.text.now c.args.shown.now c.requires)

pub loop-source-preserved : goal.loop-source-preserved
loop-source-preserved c =
    let text = c.args.text.now in let shown = c.args.shown.now in let left = c.loop-source.left.items in let line = c.loop-source.line.items in
    let from = c.loop-source.from in let place = c.loop-source.source-index in let to = (at_place shown place).place + 1 in
    elim c.if-source-eq10.branch [
      | then-source-eq10+in_ok-push_kept w ↦
          same_left text shown w.push_kept.new.left.items _ [] _ to _ (place + 1)
          (line_left text shown left w.push_kept.new.left.items line from place c.loop-source.invariant c.loop-source-test.true w.if-source-eq10.true
          (w.in_ok-push_kept.ensures ∙ ap (λ k. left ++ kept_of k (take (to - from) (drop from text))) (w.kind_of_line.ensures ∙ ap line_kind w.as_slice.ensures.value)))
          (ap (λ v. v.items) w.left-is) (ap (λ v. v.items) w.line-is ∙ w.clear.ensures.items) w.from-is
      | else-source-eq10+in_ok-push w ↦
          same_left text shown left _ w.push.new.self.items _ from _ (place + 1)
          (byte_left text shown left line w.push.new.self.items from place c.loop-source.invariant c.loop-source-test.true w.if-source-eq10.false w.in_ok-push.ensures.items)
          (ap (λ v. v.items) w.left-is) (ap (λ v. v.items) w.line-is) w.from-is
    ]
