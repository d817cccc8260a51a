use Rattle.std.proofs.Common.{◌≡◌, ◌+◌, ◌-◌, ◌*◌, ◌^◌, ℕ, length, take, drop, refl, ap, sym, subst, ◌∙◌, arith}
use Rattle.css_semantics.specs.WithWindow.{with_rows, with_window}
use Rattle.css_record.specs.Windows.{window}
use Rattle.css_memory.specs.Main.{Main}
use Rattle.css_memory.specs.Pages.{RowsEnd}
use Rattle.css_memory.proofs.RowSteps.{one_more, left_step, ends_step, window_ends, row_stored}
use Rattle.css_memory.proofs.main_memory.MainMemory.write_back.Goals as goal

pub loop-row-init : goal.loop-row-init
loop-row-init c =
    let p = c.args.part in
    let m = c.args.self.now.memory in
    let whole : p.rows - 0 ≡ p.rows = omega arith in
    let product : (p.rows - 0) * p.width ≡ p.rows * p.width = ap (λ n. n * p.width) whole in
    record {
      ends = subst (λ (n : ℕ). RowsEnd (2 ^ 33) n p.base p.width p.stride) (sym whole) (window_ends (window p) c.requires.is_window (omega arith));
      left = omega (arith, product, c.requires.whole);
      rest = ap (λ n. with_rows m n p.base p.width p.stride c.args.bytes.now) whole;
      pages = refl;
    }

pub overflow_add-at : goal.overflow_add-at
overflow_add-at c =
    let p = c.args.part in
    let l = c.loop-row in
    let step = ends_step (2 ^ 33) (p.rows - l.row) (p.rows - (l.row + 1)) l.at p.width p.stride (one_more p.rows l.row c.loop-row-test.true) l.invariant.ends in
    omega (arith, step.0)

pub loop-row-preserved : goal.loop-row-preserved
loop-row-preserved c =
    let p = c.args.part in
    let l = c.loop-row in
    let bytes = c.args.bytes.now in
    let rest = p.rows - (l.row + 1) in
    let is = one_more p.rows l.row c.loop-row-test.true in
    let count = l.done + p.width - l.done in
    let long : count ≡ p.width = omega arith in
    record {
      ends = (ends_step (2 ^ 33) (p.rows - l.row) rest l.at p.width p.stride is l.invariant.ends).1;
      left = left_step (p.rows - l.row) rest p.width l.done (length bytes) is l.invariant.left;
      rest = row_stored l.self.memory c.write.new.self.memory (with_window c.args.self.now.memory (window p) bytes) (take count (drop l.done bytes)) bytes (p.rows - l.row) rest l.at p.width p.stride l.done is
          (ap (λ (s : Main). s.memory) c.write.ensures) (ap (λ n. take n (drop l.done bytes)) long) l.invariant.rest;
      pages = ap (λ (s : Main). s.pages) c.write.ensures ∙ l.invariant.pages;
    }
