use Rattle.std.proofs.Common.{◌≡◌, ◌+◌, vec_len, All}
use Rattle.std.specs.Vec.Iter.{into_iter_len}
use Rattle.css_tags.specs.Groups.{IsItem}
use Rattle.css_thread_tests.proofs.tags.shown.Given as goal

abbrev pub invariant-loop-block : goal.invariant-loop-block
invariant-loop-block l = record {
  items : All IsItem l.items.items;
  count : vec_len l.items + into_iter_len l.block-iterator ≡ vec_len l.fn.blocks;
}
