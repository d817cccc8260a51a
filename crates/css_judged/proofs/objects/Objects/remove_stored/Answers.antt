use Rattle.std.proofs.Common.{map, ap, ◌∙◌, rules}
use Rattle.std.proofs.lemmas.Fn.{filter_same}
use Rattle.css_semantics.specs.Pending.{without_stored}
use Rattle.css_judged.specs.Objects.{object, is_left}
use Rattle.css_judged.proofs.NearObjects.{all_left, filtered}
use Rattle.css_judged.proofs.objects.Objects.remove_stored.Goals as goal

pub invariant_of-self : goal.invariant_of-self
invariant_of-self c = rw c.deref.ensures.value at c.bounds_of.ensures

pub returns-then-is_near : goal.returns-then-is_near
returns-then-is_near c =
    let m = c.self.inside in
    let left = filter_same _ (λ p. is_left p c.args.address c.args.count) _ (λ x b f' k. search rules) _ _ c.retain.ensures.filtered in
    ap (map object) left ∙ filtered c.args.address c.args.count m.items.items ∙ ap (λ os. without_stored os c.args.address c.args.count) c.self.view_is

pub returns-else-is_near : goal.returns-else-is_near
returns-else-is_near c = all_left c.args.self.now c.args.address c.args.count (c.is_near.ensures c.if-is_near.false)
