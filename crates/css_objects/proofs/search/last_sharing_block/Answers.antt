use Rattle.std.proofs.Common.{◌≡◌, ◌+◌, ◌-◌, subst, sym, ◌∙◌, ℕ, arith}
use Rattle.css_objects.proofs.OneRowSearches.{NoneSharesFrom, shares_end, shares_more, shares_all, shares_last}
use Rattle.css_objects.proofs.search.last_sharing_block.Goals as goal

pub loop-place-init : goal.loop-place-init
loop-place-init g c = record {
  below = omega arith;
  none = rw c.len-place.ensures.count (shares_end c.args.blocks.now c.args.window.now);
  cost = omega arith;
}

pub shares-requires-clause-second : goal.shares-requires-clause-second
shares-requires-clause-second g c = c.requires.blocks (c.loop-place.place - 1) c.at.result.now c.at.ensures.value

pub returns-then-shares-clause-found : goal.returns-then-shares-clause-found
returns-then-shares-clause-found g c =
    let again : c.loop-place.place ≡ c.loop-place.place - 1 + 1 = omega arith in
    shares_last c.args.blocks.now c.args.window.now (record { place = c.loop-place.place - 1; window = c.at.result.now }) c.len-place.ensures.ascends c.at.ensures.value
    (sym c.shares.ensures ∙ c.if-shares.true)
    (subst (λ (n : ℕ). NoneSharesFrom c.args.blocks.now c.args.window.now n) again c.loop-place.invariant.none)

pub loop-place-preserved : goal.loop-place-preserved
loop-place-preserved g c = record {
  below = omega arith;
  none =
      let again : c.loop-place.place ≡ c.loop-place.place - 1 + 1 = omega arith in
      shares_more c.args.blocks.now c.args.window.now c.at.result.now (c.loop-place.place - 1) c.at.ensures.value (sym c.shares.ensures ∙ c.if-shares.false)
      (subst (λ (n : ℕ). NoneSharesFrom c.args.blocks.now c.args.window.now n) again c.loop-place.invariant.none);
  cost = omega arith;
}

pub returns-clause-found : goal.returns-clause-found
returns-clause-found g c =
    let none : c.loop-place.place ≡ 0 = omega arith in
    shares_all c.args.blocks.now c.args.window.now (subst (λ (n : ℕ). NoneSharesFrom c.args.blocks.now c.args.window.now n) none c.loop-place.invariant.none)
