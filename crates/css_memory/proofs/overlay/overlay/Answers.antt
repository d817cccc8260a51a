use Rattle.std.proofs.Common.{◌≡◌, ◌<◌, ◌+◌, ◌-◌, ◌++◌, take, drop, sym, ap, ◌∙◌, arith}
use Rattle.std.proofs.lemmas.List.{drop-drop}
use Rattle.css_memory.proofs.Overlays.{apart_overlaid, clipped}
use Rattle.css_memory.proofs.overlay.overlay.Goals as goal

pub returns-then-from-to : goal.returns-then-from-to
returns-then-from-to c =
    let from = c.max-from.result in
    let to = c.min-to.result in
    let first = c.args.first in
    let address = c.args.address in
    let bytes = c.args.bytes.now in
    let new = c.args.new.now in
    let some : from < to = c.if-from-to.true in
    let is = clipped first bytes address new from to (omega arith) (omega arith) some in
    let long : to - address - (from - address) ≡ to - from = omega arith in
    let end : from - first + (to - first - (from - first)) ≡ to - first = omega arith in
    sym (is ∙ ap (λ n. take (from - first) bytes ++ (take n (drop (from - address) new) ++ drop (to - first) bytes)) (sym long)
    ∙ ap (λ s. take (from - first) bytes ++ (s ++ drop (to - first) bytes)) (sym c.copy_from_slice.ensures.after)
    ∙ ap (λ s. take (from - first) bytes ++ (c.copy_from_slice.new.self ++ s)) (sym (drop-drop (to - first - (from - first)) (from - first) bytes ∙ ap (λ n. drop n bytes) end)))

pub returns-else-from-to : goal.returns-else-from-to
returns-else-from-to c =
    sym (apart_overlaid c.args.first c.args.bytes.now c.args.address c.args.new.now c.max-from.result c.min-to.result (omega arith) (omega arith) (omega arith))
