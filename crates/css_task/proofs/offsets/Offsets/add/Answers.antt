use Rattle.std.proofs.Common.{◌*◌, length, sym, ◌∙◌, arith}
use Rattle.css_task.specs.OffsetSets.{has_bit}
use Rattle.css_task.proofs.OffsetBits.{with_is, length_with, one_added, at_most}
use Rattle.css_task.proofs.offsets.Offsets.add.Goals as goal

pub overflow_add-self : goal.overflow_add-self
overflow_add-self c =
    let s = c.args.self.now in
    omega (arith, s.counted, s.short, at_most (has_bit s.words.items) (64 * length s.words.items))

pub invariant_of-self : goal.invariant_of-self
invariant_of-self c =
    let s = c.args.self.now in
    let long = length_with s.words.items c.args.offset c.index_mut.result.now c.requires c.index_mut.ensures.value in
    record {
      counted = one_added s.words.items c.args.offset c.index_mut.result.now c.requires c.index_mut.ensures.value s.count s.counted (sym c.has.ensures ∙ c.if-not-has.true);
      short = omega (arith, s.short, long);
    }

pub returns-then-not-has-clause-has : goal.returns-then-not-has-clause-has
returns-then-not-has-clause-has c =
    with_is c.args.self.now.words.items c.args.offset c.index_mut.result.now c.requires c.index_mut.ensures.value
