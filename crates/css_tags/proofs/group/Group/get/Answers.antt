use Rattle.std.proofs.Common.{◌≡◌, List, ap, sym, ◌∙◌, map, length, subst, vec_len, All, false}
use Rattle.std.specs.List.{sum_by}
use Rattle.std.proofs.lemmas.Iterator.Consumers.{YieldsList-end}
use Rattle.std.proofs.lemmas.Iterator.Adapters.{YieldsList-from_vec}
use Rattle.std.proofs.lemmas.List.{map-id, length-map}
use Rattle.css_tags.specs.declared.item.Item.{Item}
use Rattle.css_tags.specs.Plans.{bytes_of}
use Rattle.css_tags.specs.Groups.{Moving, begun_get, planned_get}
use Rattle.css_tags.proofs.Groups.{bytes_got, sides_got, group_begun}
use Rattle.css_tags.proofs.group.Group.get.Goals as goal

pub invariant_of-result : goal.invariant_of-result
invariant_of-result c =
    let gives = c.into_iter-item-iterator.ensures.into_iter_gives in
    let items : List Item = c.args.items.items in
    let end = YieldsList-end (YieldsList-from_vec items gives.0 (gives.1 ∙ c.args.items.ok.0)) c.loop-item.yielded c.loop-item.item-iterator
    c.loop-item.yielded_by _ c.next.new.self c.in-None.is c.next.ensures.steps in
    let all : c.loop-item.yielded ≡ items = sym (map-id c.loop-item.yielded) ∙ end.0 in
    let begun : c.loop-item.transfers.items ≡ map begun_get items = c.loop-item.invariant.0 ∙ ap (map begun_get) all in
    let Side : Moving → Type 0 = λ m. m.put ≡ false in
    let sides : All Side c.loop-item.transfers.items = subst (All Side) (sym begun) (sides_got items) in
    let many : length c.loop-item.transfers.items ≡ vec_len c.args.items =
    ap length begun ∙ length-map items begun_get ∙ sym c.args.items.ok.0 in
    let counted : c.in-Some.bytes ≡ sum_by (λ item. bytes_of (planned_get item)) items =
    rw c.as_slice.ensures.value at c.in-Some.ensures in (
      group_begun false c.loop-item.transfers.items c.loop-item.invariant.1 sides,
      counted ∙ bytes_got items ∙ ap (λ ms. sum_by bytes_of (map (λ (m : Moving). m.planned) ms)) (sym begun),
      record {
        no_block = c.in-Ok-with_capacity.ensures.len;
        for_blocks = rw (many, ← c.len-2.ensures) c.in-Ok-with_capacity.ensures.capacity;
        no_copy = c.in-Ok-with_capacity-2.ensures.len;
        for_copies = rw (many, ← c.len-3.ensures) c.in-Ok-with_capacity-2.ensures.capacity;
      },
    )
