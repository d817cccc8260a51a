use Rattle.std.proofs.Common.{sym, ◌∙◌, arith}
use Rattle.css_task.proofs.OffsetBits.{without_is, counted_without, length_without, one_taken}
use Rattle.css_task.proofs.offsets.Offsets.remove.Goals as goal

pub overflow_sub-self : goal.overflow_sub-self
overflow_sub-self c =
    let s = c.args.self.now in
    let less = counted_without s.words.items c.args.offset c.index_mut.result.now c.requires c.index_mut.ensures.value (sym c.has.ensures ∙ c.if-has.true) in
    omega (arith, less, s.counted)

pub invariant_of-self : goal.invariant_of-self
invariant_of-self c =
    let s = c.args.self.now in
    let long = length_without s.words.items c.args.offset c.index_mut.result.now c.requires c.index_mut.ensures.value in
    record {
      counted = one_taken s.words.items c.args.offset c.index_mut.result.now c.requires c.index_mut.ensures.value s.count s.counted (sym c.has.ensures ∙ c.if-has.true);
      short = omega (arith, s.short, long);
    }

pub returns-then-has-clause-has : goal.returns-then-has-clause-has
returns-then-has-clause-has c =
    without_is c.args.self.now.words.items c.args.offset c.index_mut.result.now c.requires c.index_mut.ensures.value
