use Rattle.std.proofs.Common.{◌≡◌, ◌++◌, ◌∷◌, [], ℕ, List, ap, sym, ◌∙◌, map, length, subst, vec_len, All, true, arith}
use Rattle.std.specs.List.{zip, sum_by}
use Rattle.std.specs.Iterator.Adapters.{zip_first, zip_second}
use Rattle.std.specs.Vec.Iter.{into_iter_items, into_iter_len}
use Rattle.std.proofs.lemmas.Iterator.{YieldsList-from_zip}
use Rattle.std.proofs.lemmas.Iterator.Consumers.{YieldsList-end, YieldsList-turn}
use Rattle.std.proofs.lemmas.Iterator.Adapters.{YieldsList-from_vec}
use Rattle.std.proofs.lemmas.List.{map-id, length-map, map_push, length_push}
use Rattle.std.proofs.lemmas.List.Elements.{All-get_or, All-push}
use Rattle.css_tags.specs.Blocks.{Contents}
use Rattle.css_tags.specs.Plans.{bytes_of}
use Rattle.css_tags.specs.Groups.{Moving, IsMoving, begun_put, planned_put}
use Rattle.css_tags.proofs.Groups.{bytes_put, sides_put, group_begun, IsPair, Target, zeros_of, each_pair, first_of_zip}
use Rattle.css_tags.proofs.group.Group.put.Goals as goal

pub put-requires-clause-width : goal.put-requires-clause-width
put-requires-clause-width c =
    let z = c.into_iter-item-iterator.result in
    let zipped = c.into_iter-item-iterator.ensures.into_iter_gives in
    let second = c.zip-item-items.ensures.second in
    let items : List (Contents × ℕ) = c.args.blocks.items in
    let targets : List Target = c.in-Ok.targets.items in
    let first : zip_first z ≡ c.into_iter.result = ap zip_first zipped ∙ c.zip-item-items.ensures.first in
    let chain = YieldsList-from_zip {s = z}
    (YieldsList-from_vec {s = zip_first z} items (ap into_iter_items first ∙ c.into_iter.ensures.rest)
    (ap into_iter_len first ∙ c.into_iter.ensures.len ∙ c.args.blocks.ok.0))
    (YieldsList-from_vec {s = zip_second z} targets (ap (λ z. into_iter_items (zip_second z)) zipped ∙ second.0)
    (ap (λ z. into_iter_len (zip_second z)) zipped ∙ second.1 ∙ c.in-Ok.targets.ok.0)) in
    let same : map (λ (t : Target). t.items) targets ≡ map zeros_of items =
    rw c.as_slice-2.ensures.value at c.in-Ok.ensures in
    let x : (Contents × ℕ) × Target = (c.in-Some-2.item, c.in-Some-2.target) in
    let turn = YieldsList-turn chain c.loop-item.yielded c.loop-item.item-iterator c.loop-item.yielded_by _ c.next.new.self x c.in-Some-2.is c.next.ensures.steps in
    let pair : IsPair x = subst IsPair (sym turn.1)
    (All-get_or IsPair (zip items targets) (length c.loop-item.yielded) x turn.0 (each_pair items targets same c.requires)) in
    pair.width

pub put-requires-clause-zeros : goal.put-requires-clause-zeros
put-requires-clause-zeros c =
    let z = c.into_iter-item-iterator.result in
    let zipped = c.into_iter-item-iterator.ensures.into_iter_gives in
    let second = c.zip-item-items.ensures.second in
    let items : List (Contents × ℕ) = c.args.blocks.items in
    let targets : List Target = c.in-Ok.targets.items in
    let first : zip_first z ≡ c.into_iter.result = ap zip_first zipped ∙ c.zip-item-items.ensures.first in
    let chain = YieldsList-from_zip {s = z}
    (YieldsList-from_vec {s = zip_first z} items (ap into_iter_items first ∙ c.into_iter.ensures.rest)
    (ap into_iter_len first ∙ c.into_iter.ensures.len ∙ c.args.blocks.ok.0))
    (YieldsList-from_vec {s = zip_second z} targets (ap (λ z. into_iter_items (zip_second z)) zipped ∙ second.0)
    (ap (λ z. into_iter_len (zip_second z)) zipped ∙ second.1 ∙ c.in-Ok.targets.ok.0)) in
    let same : map (λ (t : Target). t.items) targets ≡ map zeros_of items =
    rw c.as_slice-2.ensures.value at c.in-Ok.ensures in
    let x : (Contents × ℕ) × Target = (c.in-Some-2.item, c.in-Some-2.target) in
    let turn = YieldsList-turn chain c.loop-item.yielded c.loop-item.item-iterator c.loop-item.yielded_by _ c.next.new.self x c.in-Some-2.is c.next.ensures.steps in
    let pair : IsPair x = subst IsPair (sym turn.1)
    (All-get_or IsPair (zip items targets) (length c.loop-item.yielded) x turn.0 (each_pair items targets same c.requires)) in
    pair.zeros

pub loop-item-preserved : goal.loop-item-preserved
loop-item-preserved c =
    let x : (Contents × ℕ) × Target = (c.in-Some-2.item, c.in-Some-2.target) in
    let begun : (Contents × ℕ) × Target → Moving = λ p. begun_put p.0 in
    let had = c.loop-item.invariant in
    let long = length_push c.loop-item.yielded x in
    let more = c.push_reserved.ensures.len in
    let count = had.2 in (
      c.push_reserved.ensures.items ∙ ap (λ ms. ms ++ c.put.result ∷ []) had.0
          ∙ ap (λ m. map begun c.loop-item.yielded ++ m ∷ []) c.put.ensures.begun
          ∙ sym (map_push begun c.loop-item.yielded x),
      subst (All IsMoving) (sym c.push_reserved.ensures.items)
          (All-push IsMoving c.loop-item.transfers.items c.put.result had.1 c.put.ensures.moving),
      omega (arith, long, more, count),
      rw c.push_reserved.ensures.capacity had.3,
    )

pub invariant_of-result : goal.invariant_of-result
invariant_of-result c =
    let z = c.into_iter-item-iterator.result in
    let zipped = c.into_iter-item-iterator.ensures.into_iter_gives in
    let second = c.zip-item-items.ensures.second in
    let items : List (Contents × ℕ) = c.args.blocks.items in
    let targets : List Target = c.in-Ok.targets.items in
    let first : zip_first z ≡ c.into_iter.result = ap zip_first zipped ∙ c.zip-item-items.ensures.first in
    let chain = YieldsList-from_zip {s = z}
    (YieldsList-from_vec {s = zip_first z} items (ap into_iter_items first ∙ c.into_iter.ensures.rest)
    (ap into_iter_len first ∙ c.into_iter.ensures.len ∙ c.args.blocks.ok.0))
    (YieldsList-from_vec {s = zip_second z} targets (ap (λ z. into_iter_items (zip_second z)) zipped ∙ second.0)
    (ap (λ z. into_iter_len (zip_second z)) zipped ∙ second.1 ∙ c.in-Ok.targets.ok.0)) in
    let same : map (λ (t : Target). t.items) targets ≡ map zeros_of items =
    rw c.as_slice-2.ensures.value at c.in-Ok.ensures in
    let end = YieldsList-end chain c.loop-item.yielded c.loop-item.item-iterator c.loop-item.yielded_by _ c.next.new.self c.in-None.is c.next.ensures.steps in
    let all : c.loop-item.yielded ≡ zip items targets = sym (map-id c.loop-item.yielded) ∙ end.0 in
    let begun : c.loop-item.transfers.items ≡ map begun_put items =
    c.loop-item.invariant.0 ∙ ap (map (λ (p : (Contents × ℕ) × Target). begun_put p.0)) all
    ∙ first_of_zip items targets same in
    let Side : Moving → Type 0 = λ m. m.put ≡ true in
    let sides : All Side c.loop-item.transfers.items = subst (All Side) (sym begun) (sides_put items) in
    let many : length c.loop-item.transfers.items ≡ vec_len c.args.blocks =
    ap length begun ∙ length-map items begun_put ∙ sym c.args.blocks.ok.0 in
    let counted : c.in-Some.bytes ≡ sum_by (λ item. bytes_of (planned_put item)) items =
    rw c.as_slice.ensures.value at c.in-Some.ensures in (
      group_begun true c.loop-item.transfers.items c.loop-item.invariant.1 sides,
      counted ∙ bytes_put items ∙ ap (λ ms. sum_by bytes_of (map (λ (m : Moving). m.planned) ms)) (sym begun),
      record {
        no_block = c.in-Ok-with_capacity-2.ensures.len;
        for_blocks = rw (many, ← c.len-2.ensures) c.in-Ok-with_capacity-2.ensures.capacity;
        no_copy = c.in-Ok-with_capacity-3.ensures.len;
        for_copies = rw (many, ← c.len-3.ensures) c.in-Ok-with_capacity-3.ensures.capacity;
      },
    )

pub returns-clause-begun : goal.returns-clause-begun
returns-clause-begun c =
    let z = c.into_iter-item-iterator.result in
    let zipped = c.into_iter-item-iterator.ensures.into_iter_gives in
    let second = c.zip-item-items.ensures.second in
    let items : List (Contents × ℕ) = c.args.blocks.items in
    let targets : List Target = c.in-Ok.targets.items in
    let first : zip_first z ≡ c.into_iter.result = ap zip_first zipped ∙ c.zip-item-items.ensures.first in
    let chain = YieldsList-from_zip {s = z}
    (YieldsList-from_vec {s = zip_first z} items (ap into_iter_items first ∙ c.into_iter.ensures.rest)
    (ap into_iter_len first ∙ c.into_iter.ensures.len ∙ c.args.blocks.ok.0))
    (YieldsList-from_vec {s = zip_second z} targets (ap (λ z. into_iter_items (zip_second z)) zipped ∙ second.0)
    (ap (λ z. into_iter_len (zip_second z)) zipped ∙ second.1 ∙ c.in-Ok.targets.ok.0)) in
    let same : map (λ (t : Target). t.items) targets ≡ map zeros_of items =
    rw c.as_slice-2.ensures.value at c.in-Ok.ensures in
    let end = YieldsList-end chain c.loop-item.yielded c.loop-item.item-iterator c.loop-item.yielded_by _ c.next.new.self c.in-None.is c.next.ensures.steps in
    let all : c.loop-item.yielded ≡ zip items targets = sym (map-id c.loop-item.yielded) ∙ end.0 in
    let begun : c.loop-item.transfers.items ≡ map begun_put items =
    c.loop-item.invariant.0 ∙ ap (map (λ (p : (Contents × ℕ) × Target). begun_put p.0)) all
    ∙ first_of_zip items targets same in
    ap (λ (ms : List Moving). record { put = true; items = ms }) begun
