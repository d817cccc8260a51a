use Rattle.std.proofs.Common.{◌≡◌, ◌+◌, ◌-◌, ◌*◌, ◌^◌, ◌++◌, ℕ, length, take, drop, ap, sym, subst, ◌∙◌, arith}
use Rattle.std.specs.Vec.{with_items}
use Rattle.std.proofs.lemmas.List.{with_items_is, length-take, length-drop}
use Rattle.std.proofs.lemmas.Slice.{take-put_mid}
use borrow.Rule.Slice.PartMut.{put_mid, same_len_mid}
use Rattle.css_semantics.specs.Memory.{is_live, is_live_byte, bytes_at}
use Rattle.css_semantics.specs.Rules.{all_of_rows}
use Rattle.css_semantics.specs.Verdict.{bytes_of_rows, bytes_of_window}
use Rattle.css_record.specs.Windows.{window}
use Rattle.css_memory.specs.Pages.{RowsEnd}
use Rattle.css_memory.proofs.RowSteps.{one_more, left_step, left_row, ends_step, window_ends, live_step, row_copied}
use Rattle.css_memory.proofs.main_memory.MainMemory.snapshot.Goals as goal

pub loop-row-init : goal.loop-row-init
loop-row-init c =
    let p = c.args.part in
    let m = c.args.self.now.memory in
    let whole : p.rows - 0 ≡ p.rows = omega arith in
    let product : (p.rows - 0) * p.width ≡ p.rows * p.width = ap (λ n. n * p.width) whole in
    record {
      ends = subst (λ (n : ℕ). RowsEnd (2 ^ 33) n p.base p.width p.stride) (sym whole) (window_ends (window p) c.requires.is_window (omega arith));
      live = ap (λ n. all_of_rows (is_live_byte m) n p.base p.width p.stride) whole ∙ c.requires.live;
      left = omega (arith, product, c.length.ensures, c.in_ok-copied.ensures.len);
      rest = ap (λ n. bytes_of_rows m n p.base p.width p.stride) whole;
    }

pub read-requires : goal.read-requires
read-requires c =
    let p = c.args.part in
    let m = c.args.self.now.memory in
    let l = c.loop-row in
    let rest = p.rows - (l.row + 1) in
    let is = one_more p.rows l.row c.loop-row-test.true in
    let inside = left_row (p.rows - l.row) rest p.width l.done (length l.copied.items) is l.invariant.left in
    let long : length (take (l.done + p.width - l.done) (drop l.done c.deref_mut.result.now)) ≡ p.width =
    omega (arith, length-take (l.done + p.width - l.done) (drop l.done c.deref_mut.result.now), length-drop l.done c.deref_mut.result.now, ap length c.deref_mut.ensures.value, inside) in
    ap (λ n. is_live m l.at n) long ∙ (live_step (is_live_byte m) (p.rows - l.row) rest l.at p.width p.stride is l.invariant.live).0

pub overflow_add-at : goal.overflow_add-at
overflow_add-at c =
    let p = c.args.part in
    let l = c.loop-row in
    let step = ends_step (2 ^ 33) (p.rows - l.row) (p.rows - (l.row + 1)) l.at p.width p.stride (one_more p.rows l.row c.loop-row-test.true) l.invariant.ends in
    omega (arith, step.0)

pub loop-row-preserved : goal.loop-row-preserved
loop-row-preserved c =
    let p = c.args.part in
    let m = c.args.self.now.memory in
    let l = c.loop-row in
    let rest = p.rows - (l.row + 1) in
    let is = one_more p.rows l.row c.loop-row-test.true in
    let inside = left_row (p.rows - l.row) rest p.width l.done (length l.copied.items) is l.invariant.left in
    let old = c.deref_mut.result.now in
    let new = c.read.new.into in
    let count = l.done + p.width - l.done in
    let as_long : length old ≡ length l.copied.items = ap length c.deref_mut.ensures.value in
    let long : length (take count (drop l.done old)) ≡ p.width = omega (arith, length-take count (drop l.done old), length-drop l.done old, as_long, inside) in
    let same : length new ≡ p.width = omega (arith, c.read.auto.into, long) in
    let written = put_mid l.done count old new in
    let whole : length written ≡ length old = same_len_mid l.done count old new (same ∙ sym long) in
    let kept : (with_items l.copied written).items ≡ written = with_items_is l.copied written (whole ∙ c.deref_mut.ensures.len) in
    record {
      ends = (ends_step (2 ^ 33) (p.rows - l.row) rest l.at p.width p.stride is l.invariant.ends).1;
      live = (live_step (is_live_byte m) (p.rows - l.row) rest l.at p.width p.stride is l.invariant.live).1;
      left = left_step (p.rows - l.row) rest p.width l.done (length l.copied.items) is l.invariant.left ∙ sym (ap length kept ∙ whole ∙ as_long);
      rest = row_copied m l.copied.items (with_items l.copied written).items new (bytes_of_window m (window p)) (p.rows - l.row) rest l.at p.width p.stride l.done is
          (ap (take (l.done + p.width)) kept ∙ take-put_mid l.done count old new (l.done + p.width) (omega (arith, same)) (omega (arith, as_long, inside)) ∙ ap (λ xs. take l.done xs ++ new) c.deref_mut.ensures.value)
          (c.read.ensures ∙ ap (λ n. bytes_at m l.at n) long)
          l.invariant.rest;
    }
