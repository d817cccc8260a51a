use Rattle.std.proofs.Common.{◌*◌, length, sym, arith}
use Rattle.std.proofs.Math.Nat.{div-add-mod}
use Rattle.css_task.specs.OffsetSets.{has_bit}
use Rattle.css_task.proofs.OffsetBits.{members_none, no_bits}
use Rattle.css_task.proofs.offsets.Offsets.new.Goals as goal

pub invariant_of-result : goal.invariant_of-result
invariant_of-result c =
    let words = c.in_ok-vec.field-0 in
    record {
      counted = sym (members_none (has_bit words.items) (64 * length words.items) (no_bits words.items _ (c.in_ok-vec.ensures.items_if_clones_equal (λ y h. h))));
      short = omega (arith, words.ok.0, c.in_ok-vec.ensures.len, c.requires, div-add-mod c.args.room 64);
    }
