use Rattle.std.proofs.Common.{◌≡◌, ℕ, ◌+◌, List, length, drop, ap, arith, refl}
use Rattle.std.proofs.lemmas.List.{drop_all}
use Rattle.css_semantics.specs.TaskSpaces.{total}
use Rattle.css_task.proofs.task_stack.TaskStack.new.Goals as goal

no_frames : (n m : ℕ) (sizes : List ℕ) → length sizes ≡ m → m ≡ n → 16384 + total (drop m sizes) ≡ 16384
no_frames n m sizes long is = ap (λ fs. 16384 + total fs) (drop_all m sizes (omega (arith, long)))

pub invariant_of-result : goal.invariant_of-result
invariant_of-result c =
    let sizes = c.in_ok-vec-2.field-0 in
    let stack = c.in_ok-vec.field-0 in
    let many : length sizes.items ≡ 1024 = omega (arith, sizes.ok.0, c.in_ok-vec-2.ensures.len) in
    record {
      sum = no_frames 1024 1024 sizes.items many refl;
      long = omega (arith, stack.ok.0, c.in_ok-vec.ensures.len);
      within = omega arith;
      many = many;
      room = c.requires.room;
      small = c.ranges.place.fits;
    }
