use Rattle.std.proofs.Common.{◌≡◌, ap, get_or, length, arith}
use Rattle.std.proofs.lemmas.List.Sums.{sum_by_more}
use Rattle.std.proofs.lemmas.List.Elements.{All-get_or}
use Rattle.css_tags.specs.Plans.{bytes_of}
use Rattle.css_tags.specs.Groups.{IsPutItem, planned_put}
use Rattle.css_tags.proofs.Groups.{bytes_of_put}
use Rattle.css_tags.proofs.group.bytes_put.Goals as goal

pub loop-block-preserved : goal.loop-block-preserved
loop-block-preserved c =
    let x = c.loop-block-item.result in
    let there = get_or c.args.blocks.now c.loop-block.block-index x in
    let same : x ≡ there = c.loop-block-item.is in
    let each = All-get_or IsPutItem c.args.blocks.now c.loop-block.block-index x c.loop-block-test.true c.requires in
    let more = sum_by_more (λ item. bytes_of (planned_put item)) c.args.blocks.now c.loop-block.block-index x c.loop-block-test.true in
    let own : bytes_of (planned_put there) ≡ length there.0.bytes = bytes_of_put there each in
    let read : length x.0.bytes ≡ length there.0.bytes = ap (λ y. length y.0.bytes) same in
    let sum = c.in_ok-bytes.ensures.1 in
    let had = c.loop-block.invariant in
    let wide = c.from.ensures in
    let long = c.length.ensures.value in
    omega (arith, more, own, read, sum, had, wide, long)
