use Rattle.std.proofs.Common.{◌≡◌, ◌+◌, ◌-◌, ◌*◌, ◌/◌, ◌≤◌, length, map, replicate, if◌then◌else◌, refl, ap, ◌∙◌, arith}
use Rattle.css_semantics.specs.Flat.{erased_stack}
use Rattle.css_semantics.specs.Rules.{main_stack}
use Rattle.css_isa.specs.Code.{datum, code_of}
use Rattle.css_memory.specs.Starts.{first_bytes, start_of}
use Rattle.css_memory.specs.Kept.{kept}
use Rattle.css_memory.proofs.StartBytes.{length-first_bytes, parts_at, first_is}
use Rattle.css_memory.proofs.Replies.{stack_limit, as_erased, as_judged}
use Rattle.css_memory.proofs.main_memory.MainMemory.new.Goals as goal
use Rattle.css_memory.proofs.main_memory.MainMemory.new.Goals.{then-plain, else-plain}

pub invariant_of-result : goal.invariant_of-result
invariant_of-result c =
    let end = c.args.code.now.globals_end in
    let start = (end + 15) / 16 * 16 in
    let limit : c.if-plain.limit.0 ≤ 1064960 = elim c.if-plain.branch [
      | then-plain w ↦ let is : c.if-plain.limit.0 ≡ 1064960 = ap (λ x. x.0) w.limit-is in omega arith
      | else-plain w ↦ let is : c.if-plain.limit.0 ≡ 1048576 = ap (λ x. x.0) w.limit-is in omega arith
    ] in
    let low : length c.in_ok-low.low.items ≡ start - 4096 = ap length c.in_ok-low.ensures.bytes ∙ length-first_bytes (map datum c.as_slice.result.now) (start - 4096) in
    let high = c.in_ok-high.ensures.len in
    record {
      globals = c.requires.globals;
      heap_start = refl;
      heap = omega (arith, low);
      room = omega (arith, low, high, c.requires.room);
      limit = omega (arith, high);
      start = omega (arith, high);
      end = omega (arith, high);
      capacity = omega (arith, high, c.in_ok-low.ensures.room);
      pages = omega (arith, high, c.in_ok-pages.ensures.size);
    }

pub returns-clause-memory : goal.returns-clause-memory
returns-clause-memory c =
    let code = code_of c.args.code.now in
    let size = c.args.limits.now.memory in
    let start = (code.globals_end + 15) / 16 * 16 in
    let bytes = c.if-plain.limit.0 in
    let most = c.if-plain.limit.1 in
    let plain = c.args.plain in
    let within : bytes ≤ 1064960 = elim c.if-plain.branch [
      | then-plain w ↦ let is : c.if-plain.limit.0 ≡ 1064960 = ap (λ x. x.0) w.limit-is in omega arith
      | else-plain w ↦ let is : c.if-plain.limit.0 ≡ 1048576 = ap (λ x. x.0) w.limit-is in omega arith
    ] in
    let low : c.in_ok-low.low.items ≡ first_bytes code.datums (start - 4096) =
    c.in_ok-low.ensures.bytes ∙ ap (λ ds. first_bytes (map datum ds) (start - 4096)) c.as_slice.ensures in
    let high : c.in_ok-high.high.items ≡ replicate bytes 0 = c.in_ok-high.ensures.items_if_clones_equal (λ y is. is) in
    let limit : stack_limit bytes most ≡ (if plain then erased_stack else main_stack) = elim c.if-plain.branch [
      | then-plain w ↦ as_erased plain bytes most w.if-plain.true (ap (λ x. x.0) w.limit-is) (ap (λ x. x.1) w.limit-is)
      | else-plain w ↦ as_judged plain bytes most w.if-plain.false (ap (λ x. x.0) w.limit-is) (ap (λ x. x.1) w.limit-is)
    ] in
    ap (λ xs. kept (parts_at xs code.globals_end start c.in_ok-high.high.items (size - bytes) bytes) 0 most) low
    ∙ ap (λ xs. kept (parts_at (first_bytes code.datums (start - 4096)) code.globals_end start xs (size - bytes) bytes) 0 most) high
    ∙ first_is code start size bytes most c.requires.globals refl (omega (arith, c.requires.room)) within
    ∙ ap (start_of code size) limit
