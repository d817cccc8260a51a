use Rattle.std.proofs.Common.{◌≡◌, ◌∙◌, ◌<◌, ◌+◌, ℕ, List, [], map, length, get_or, ap, subst, sym, arith}
use Rattle.std.proofs.lemmas.List.{get_or-map, length-map}
use Rattle.css_record.specs.declared.call.Call.{Call}
use Rattle.css_report.specs.Depth.{IsMost, depths_at}
use Rattle.css_report.proofs.Depths.{length_more, most_none, most_more, none_are, none_bounded, bounded_more, depths_more, whole_depth}
use Rattle.css_report.proofs.depth.depth_of.Goals as goal

abbrev made_by : Call → List ℕ
made_by call = call.producers.items

pub loop-call-init : goal.loop-call-init
loop-call-init c = rw c.new-depths.ensures.items (record {
  counted = omega arith;
  bounded = none_bounded;
  are = none_are (map made_by c.args.calls.now);
  most = most_none;
})

pub loop-call-preserved : goal.loop-call-preserved
loop-call-preserved c =
    let calls = c.args.calls.now in
    let i = c.loop-call.call-index in
    let depths = c.loop-call.depths.items in
    let m = c.deepest-depth.result in
    let call = c.call-item.result in
    let pushed = c.in_ok-push.ensures.items in
    let was = c.loop-call.invariant in
    let counted : length depths ≡ i = was.counted in
    let within : i < length (map made_by calls) = omega (arith, length-map calls made_by, c.loop-call-test.true) in
    let made : get_or (map made_by calls) i [] ≡ made_by call = get_or-map made_by calls i call [] c.loop-call-test.true ∙ ap made_by (sym c.call-item.is) in
    let is : IsMost (depths_at depths (made_by call)) m =
    subst (λ (ds : List ℕ). IsMost (depths_at ds (made_by call)) m) c.deref.ensures.value
    (subst (λ (ps : List ℕ). IsMost (depths_at c.deref.result.now ps) m) c.deref-in-loop-call.ensures.value c.deepest-depth.ensures.is) in
    let low = c.deepest-depth.ensures.bounded in
    record {
      counted = ap (λ (xs : List ℕ). length xs) pushed ∙ length_more depths (m + 1) ∙ ap (λ (n : ℕ). n + 1) counted;
      bounded = bounded_more depths c.push.new.self.items m pushed was.bounded (omega (arith, low, ap (λ (xs : List ℕ). length xs) c.deref.ensures.value));
      are = depths_more (map made_by calls) depths c.push.new.self.items (made_by call) i m pushed counted within made is was.are;
      most = rw (pushed, c.max-greatest.ensures) (most_more depths (m + 1) c.loop-call.greatest was.most);
    }

pub returns : goal.returns
returns c =
    let calls = c.args.calls.now in
    let all : length c.loop-call.depths.items ≡ length (map made_by calls) =
    omega (arith, length-map calls made_by, c.loop-call.invariant.counted, c.loop-call-test.false, c.loop-call.auto.call-index-end) in
    whole_depth (map made_by calls) c.loop-call.depths.items c.loop-call.invariant.are all c.loop-call.greatest c.loop-call.invariant.most
