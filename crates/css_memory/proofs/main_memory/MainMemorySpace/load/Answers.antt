use Rattle.std.proofs.Common.{◌≡◌, ◌+◌, ◌-◌, length, take, drop, vec_capacity, refl, ap, ◌∙◌, arith}
use Rattle.css_semantics.specs.Memory.{big_endian}
use Rattle.css_isa.specs.Spaces.{bytes_of}
use Rattle.css_memory.specs.Held.{parts}
use Rattle.css_memory.proofs.Replies.{loads_stack, loads_heap, loads_globals}
use Rattle.css_memory.proofs.main_memory.MainMemorySpace.load.Goals as goal

pub returns-then-is_inside-clause-says : goal.returns-then-is_inside-clause-says
returns-then-is_inside-clause-says c =
    let m = c.self.inside in
    let address = c.args.address in
    let n = bytes_of c.args.width in
    let index = address - m.origin in
    let bytes = c.deref.result.now in
    let inside = c.if-is_inside.ensures.0 refl in
    let count = c.byte_count-count.ensures in
    let long : index + c.byte_count-count.result - index ≡ n = omega (arith, count) in
    let value = c.number_of.ensures
    ∙ ap (λ k. big_endian (take k (drop index bytes))) long
    ∙ ap (λ xs. big_endian (take n (drop index xs))) c.deref.ensures.value in
    loads_stack (parts m) m.calls m.most_calls (vec_capacity m.low) (length m.pages) c.self.invariant m.pages c.args.self.now c.self.view_is address n c.number_of.result
    (omega (arith, inside.0)) (omega (arith, inside.1, count)) value

pub returns-then-is_inside-2-clause-says : goal.returns-then-is_inside-2-clause-says
returns-then-is_inside-2-clause-says c =
    let m = c.self.inside in
    let address = c.args.address in
    let n = bytes_of c.args.width in
    let index = address - 4096 in
    let bytes = c.deref-then-is_inside-2.result.now in
    let inside = c.if-is_inside-2.ensures.0 refl in
    let count = c.byte_count-count.ensures in
    let long : index + c.byte_count-count.result - index ≡ n = omega (arith, count) in
    let value = c.number_of-then-is_inside-2.ensures
    ∙ ap (λ k. big_endian (take k (drop index bytes))) long
    ∙ ap (λ xs. big_endian (take n (drop index xs))) c.deref-then-is_inside-2.ensures.value in
    loads_heap (parts m) m.calls m.most_calls (vec_capacity m.low) (length m.pages) c.self.invariant m.pages c.args.self.now c.self.view_is address n c.number_of-then-is_inside-2.result
    (omega (arith, inside.0)) (omega (arith, inside.1, count)) value

pub returns-then-is_inside-3-clause-says : goal.returns-then-is_inside-3-clause-says
returns-then-is_inside-3-clause-says c =
    let m = c.self.inside in
    let address = c.args.address in
    let n = bytes_of c.args.width in
    let index = address - 4096 in
    let bytes = c.deref-then-is_inside-3.result.now in
    let inside = c.if-is_inside-3.ensures.0 refl in
    let count = c.byte_count-count.ensures in
    let long : index + c.byte_count-count.result - index ≡ n = omega (arith, count) in
    let value = c.number_of-then-is_inside-3.ensures
    ∙ ap (λ k. big_endian (take k (drop index bytes))) long
    ∙ ap (λ xs. big_endian (take n (drop index xs))) c.deref-then-is_inside-3.ensures.value in
    loads_globals (parts m) m.calls m.most_calls (vec_capacity m.low) (length m.pages) c.self.invariant m.pages c.args.self.now c.self.view_is address n c.number_of-then-is_inside-3.result
    (omega (arith, inside.0)) (omega (arith, inside.1, count)) value
