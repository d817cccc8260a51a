use Rattle.std.proofs.Common.{◌≡◌, ◌-◌, length, vec_capacity, refl, ap, ◌∙◌, arith}
use Rattle.std.specs.Vec.{with_items}
use Rattle.std.proofs.lemmas.List.{with_items_is}
use Rattle.css_semantics.specs.Memory.{big_endian_bytes, overlaid}
use Rattle.css_isa.specs.Spaces.{bytes_of}
use Rattle.css_isa.proofs.Bytes.{length-big_endian_bytes}
use Rattle.css_memory.specs.Held.{parts}
use Rattle.css_memory.proofs.Replies.{says_stack, says_heap, says_globals, learns_stack, learns_heap, learns_globals}
use Rattle.css_memory.proofs.main_memory.MainMemorySpace.store.Goals as goal

pub returns-then-is_inside-clause-says : goal.returns-then-is_inside-clause-says
returns-then-is_inside-clause-says c =
    let m = c.self.inside in
    let address = c.args.address in
    let bytes = big_endian_bytes (bytes_of c.args.width) c.args.value in
    let inside = c.if-is_inside.ensures.0 refl in
    let count = c.byte_count-count.ensures in
    let long : length bytes ≡ bytes_of c.args.width = length-big_endian_bytes (bytes_of c.args.width) c.args.value in (
      0,
      says_stack (parts m) m.calls m.most_calls (vec_capacity m.low) (length m.pages) c.self.invariant m.pages c.args.self.now c.self.view_is address bytes
          (omega (arith, inside.0)) (omega (arith, inside.1, count, long)),
    )

pub returns-then-is_inside-clause-learns : goal.returns-then-is_inside-clause-learns
returns-then-is_inside-clause-learns c =
    let m = c.self.inside in
    let address = c.args.address in
    let bytes = big_endian_bytes (bytes_of c.args.width) c.args.value in
    let inside = c.if-is_inside.ensures.0 refl in
    let count = c.byte_count-count.ensures in
    let long : length bytes ≡ bytes_of c.args.width = length-big_endian_bytes (bytes_of c.args.width) c.args.value in
    let new = c.write_number.new.bytes in
    let kept : (with_items m.high new).items ≡ overlaid 0 m.high.items (address - m.origin) bytes =
    with_items_is m.high new (omega (arith, c.write_number.auto.bytes, c.deref_mut.ensures.len)) ∙ c.write_number.ensures
    ∙ ap (λ xs. overlaid 0 xs (address - m.origin) bytes) c.deref_mut.ensures.value in
    learns_stack (parts m) m.calls m.most_calls (vec_capacity m.low) (length m.pages) c.self.invariant m.pages c.args.self.now c.self.view_is address bytes
    (with_items m.high new).items (omega (arith, inside.0)) (omega (arith, inside.1, count, long)) kept

pub returns-then-is_inside-2-clause-says : goal.returns-then-is_inside-2-clause-says
returns-then-is_inside-2-clause-says c =
    let m = c.self.inside in
    let address = c.args.address in
    let bytes = big_endian_bytes (bytes_of c.args.width) c.args.value in
    let inside = c.if-is_inside-2.ensures.0 refl in
    let count = c.byte_count-count.ensures in
    let long : length bytes ≡ bytes_of c.args.width = length-big_endian_bytes (bytes_of c.args.width) c.args.value in (
      0,
      says_heap (parts m) m.calls m.most_calls (vec_capacity m.low) (length m.pages) c.self.invariant m.pages c.args.self.now c.self.view_is address bytes
          (omega (arith, inside.0)) (omega (arith, inside.1, count, long)),
    )

pub returns-then-is_inside-2-clause-learns : goal.returns-then-is_inside-2-clause-learns
returns-then-is_inside-2-clause-learns c =
    let m = c.self.inside in
    let address = c.args.address in
    let bytes = big_endian_bytes (bytes_of c.args.width) c.args.value in
    let inside = c.if-is_inside-2.ensures.0 refl in
    let count = c.byte_count-count.ensures in
    let long : length bytes ≡ bytes_of c.args.width = length-big_endian_bytes (bytes_of c.args.width) c.args.value in
    let new = c.write_number-then-is_inside-2.new.bytes in
    let kept : (with_items m.low new).items ≡ overlaid 0 m.low.items (address - 4096) bytes =
    with_items_is m.low new (omega (arith, c.write_number-then-is_inside-2.auto.bytes, c.deref_mut-then-is_inside-2.ensures.len)) ∙ c.write_number-then-is_inside-2.ensures
    ∙ ap (λ xs. overlaid 0 xs (address - 4096) bytes) c.deref_mut-then-is_inside-2.ensures.value in
    learns_heap (parts m) m.calls m.most_calls (vec_capacity m.low) (length m.pages) c.self.invariant m.pages c.args.self.now c.self.view_is address bytes
    (with_items m.low new).items (omega (arith, inside.0)) (omega (arith, inside.1, count, long)) kept

pub returns-then-is_inside-3-clause-says : goal.returns-then-is_inside-3-clause-says
returns-then-is_inside-3-clause-says c =
    let m = c.self.inside in
    let address = c.args.address in
    let bytes = big_endian_bytes (bytes_of c.args.width) c.args.value in
    let inside = c.if-is_inside-3.ensures.0 refl in
    let count = c.byte_count-count.ensures in
    let long : length bytes ≡ bytes_of c.args.width = length-big_endian_bytes (bytes_of c.args.width) c.args.value in (
      0,
      says_globals (parts m) m.calls m.most_calls (vec_capacity m.low) (length m.pages) c.self.invariant m.pages c.args.self.now c.self.view_is address bytes
          (omega (arith, inside.0)) (omega (arith, inside.1, count, long)),
    )

pub returns-then-is_inside-3-clause-learns : goal.returns-then-is_inside-3-clause-learns
returns-then-is_inside-3-clause-learns c =
    let m = c.self.inside in
    let address = c.args.address in
    let bytes = big_endian_bytes (bytes_of c.args.width) c.args.value in
    let inside = c.if-is_inside-3.ensures.0 refl in
    let count = c.byte_count-count.ensures in
    let long : length bytes ≡ bytes_of c.args.width = length-big_endian_bytes (bytes_of c.args.width) c.args.value in
    let new = c.write_number-then-is_inside-3.new.bytes in
    let kept : (with_items m.low new).items ≡ overlaid 0 m.low.items (address - 4096) bytes =
    with_items_is m.low new (omega (arith, c.write_number-then-is_inside-3.auto.bytes, c.deref_mut-then-is_inside-3.ensures.len)) ∙ c.write_number-then-is_inside-3.ensures
    ∙ ap (λ xs. overlaid 0 xs (address - 4096) bytes) c.deref_mut-then-is_inside-3.ensures.value in
    learns_globals (parts m) m.calls m.most_calls (vec_capacity m.low) (length m.pages) c.self.invariant m.pages c.args.self.now c.self.view_is address bytes
    (with_items m.low new).items (omega (arith, inside.0)) (omega (arith, inside.1, count, long)) kept
