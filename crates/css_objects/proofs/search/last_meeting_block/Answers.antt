use Rattle.std.proofs.Common.{◌≡◌, ◌+◌, ◌-◌, subst, sym, ◌∙◌, ℕ, arith}
use Rattle.css_objects.proofs.Stores.{NoneMeetsFrom, meets_end, meets_more, meets_all, meets_last}
use Rattle.css_objects.proofs.search.last_meeting_block.Goals as goal

pub loop-place-init : goal.loop-place-init
loop-place-init g c = record {
  below = omega arith;
  none = rw c.len-place.ensures.count (meets_end c.args.blocks.now c.args.from c.args.to);
  cost = omega arith;
}

pub meets-requires-clause-is_window : goal.meets-requires-clause-is_window
meets-requires-clause-is_window g c = c.requires.blocks (c.loop-place.place - 1) c.at.result.now c.at.ensures.value

pub returns-then-meets-clause-found : goal.returns-then-meets-clause-found
returns-then-meets-clause-found g c =
    let again : c.loop-place.place ≡ c.loop-place.place - 1 + 1 = omega arith in
    meets_last c.args.blocks.now c.args.from c.args.to (record { place = c.loop-place.place - 1; window = c.at.result.now }) c.len-place.ensures.ascends c.at.ensures.value
    (sym c.meets.ensures ∙ c.if-meets.true)
    (subst (λ (n : ℕ). NoneMeetsFrom c.args.blocks.now c.args.from c.args.to n) again c.loop-place.invariant.none)

pub loop-place-preserved : goal.loop-place-preserved
loop-place-preserved g c = record {
  below = omega arith;
  none =
      let again : c.loop-place.place ≡ c.loop-place.place - 1 + 1 = omega arith in
      meets_more c.args.blocks.now c.args.from c.args.to c.at.result.now (c.loop-place.place - 1) c.at.ensures.value (sym c.meets.ensures ∙ c.if-meets.false)
      (subst (λ (n : ℕ). NoneMeetsFrom c.args.blocks.now c.args.from c.args.to n) again c.loop-place.invariant.none);
  cost = omega arith;
}

pub returns-clause-found : goal.returns-clause-found
returns-clause-found g c =
    let none : c.loop-place.place ≡ 0 = omega arith in
    meets_all c.args.blocks.now c.args.from c.args.to (subst (λ (n : ℕ). NoneMeetsFrom c.args.blocks.now c.args.from c.args.to n) none c.loop-place.invariant.none)
