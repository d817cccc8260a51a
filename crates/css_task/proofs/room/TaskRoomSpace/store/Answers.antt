use Rattle.std.proofs.Common.{◌≡◌, length, ap, sym, ◌∙◌, arith}
use Rattle.std.specs.List.{list_any}
use Rattle.css_semantics.specs.Dialogue.{Store}
use Rattle.css_semantics.specs.Tasks.{Use}
use Rattle.css_semantics.specs.Rules.{is_in_window}
use Rattle.css_vm.proofs.Bytes.{length-big_endian_bytes}
use Rattle.css_task.specs.Placing.{uses_of}
use Rattle.std.proofs.lemmas.List.{with_items_is}
use Rattle.css_semantics.specs.Memory.{big_endian_bytes, overlaid}
use Rattle.css_vm.specs.Spaces.{bytes_of}
use Rattle.css_task.specs.Cells.{kept_reply, kept_after}
use Rattle.css_task.proofs.Spaces.{refused}
use Rattle.css_task.proofs.Hits.{hit_within}
use Rattle.css_task.proofs.RoomSteps.{store_refused, store_outside, stores_stack, stored_stack, number_fixed, number_says, number_stored, some_bytes}
use Rattle.css_task.proofs.room.TaskRoomSpace.store.Goals as goal

pub invariant_of-self : goal.invariant_of-self
invariant_of-self c =
    let m = c.self.inside in
    let new = big_endian_bytes (bytes_of c.args.width) c.args.value in
    let says = c.in-Ok.ensures.says in
    (stored_stack m.windows.all.items m.stack m.bytes.items m.unwritten.words.items c.self.invariant c.args.address new says.0 says.1 c.store.new.self c.in-Ok.ensures.learns).1

pub returns-in-Ok-clause-says : goal.returns-in-Ok-clause-says
returns-in-Ok-clause-says c =
    let m = c.self.inside in
    let new = big_endian_bytes (bytes_of c.args.width) c.args.value in
    let says = c.in-Ok.ensures.says in (
      0,
      ap (λ k. kept_reply k (Store c.args.address new)) (sym c.self.view_is)
          ∙ stores_stack m.windows.all.items m.stack m.bytes.items m.unwritten.words.items c.self.invariant c.args.address new says.0 says.1,
    )

pub returns-in-Ok-clause-learns : goal.returns-in-Ok-clause-learns
returns-in-Ok-clause-learns c =
    let m = c.self.inside in
    let new = big_endian_bytes (bytes_of c.args.width) c.args.value in
    let says = c.in-Ok.ensures.says in
    (stored_stack m.windows.all.items m.stack m.bytes.items m.unwritten.words.items c.self.invariant c.args.address new says.0 says.1 c.store.new.self c.in-Ok.ensures.learns).0
    ∙ ap (λ k. kept_after k (Store c.args.address new)) c.self.view_is

pub returns-then-not-is_writable-clause-refuses : goal.returns-then-not-is_writable-clause-refuses
returns-then-not-is_writable-clause-refuses c =
    let m = c.self.inside in
    let new = big_endian_bytes (bytes_of c.args.width) c.args.value in
    refused _ _ (ap (λ k. kept_reply k (Store c.args.address new)) (sym c.self.view_is)
    ∙ number_fixed m.windows.all.items m.stack m.bytes.items m.unwritten.words.items c.self.invariant c.args.address c.in-Some.hit.offset c.byte_count-count.result c.args.width c.args.value
    c.in-Some.hit.direction c.byte_count-count.ensures c.in-Some.ensures.is c.in-Some.ensures.has (sym c.is_writable.ensures ∙ c.if-not-is_writable.true))

pub write_number-requires : goal.write_number-requires
write_number-requires c =
    let m = c.self.inside in
    let within = hit_within m.windows.all.items c.args.address c.byte_count-count.result c.in-Some.hit.offset c.in-Some.hit.direction c.in-Some.ensures.is
    (omega (arith, c.byte_count-count.ensures, (some_bytes c.args.width).0)) in
    omega (arith, within, c.byte_count-count.ensures, c.self.invariant.are.long, ap (λ bs. length bs) c.deref_mut.ensures.value)

pub remove_all-requires : goal.remove_all-requires
remove_all-requires c =
    let m = c.self.inside in
    let within = hit_within m.windows.all.items c.args.address c.byte_count-count.result c.in-Some.hit.offset c.in-Some.hit.direction c.in-Some.ensures.is
    (omega (arith, c.byte_count-count.ensures, (some_bytes c.args.width).0)) in
    record { room = omega (arith, within, c.self.invariant.are.room) }

pub invariant_of-self-2 : goal.invariant_of-self-2
invariant_of-self-2 c =
    let m = c.self.inside in
    let new = big_endian_bytes (bytes_of c.args.width) c.args.value in
    let items = with_items_is m.bytes c.write_number.new.bytes (omega (arith, c.write_number.auto.bytes, c.deref_mut.ensures.len)) in
    rw (items, c.in-Some.ensures.same, c.in_default.ensures.stays)
    (number_stored m.windows.all.items m.stack m.bytes.items m.unwritten.words.items c.self.invariant c.args.address c.in-Some.hit.offset c.byte_count-count.result c.args.width c.args.value
    c.in-Some.hit.direction c.byte_count-count.ensures c.in-Some.ensures.is c.in-Some.ensures.has (sym c.is_writable.ensures ∙ c.if-not-is_writable.false)
    c.write_number.new.bytes c.remove_all.new.self.words.items (c.write_number.ensures ∙ ap (λ bytes. overlaid 0 bytes c.in-Some.hit.offset new) c.deref_mut.ensures.value)
    c.remove_all.ensures.room c.remove_all.ensures.has).1

pub returns-clause-says : goal.returns-clause-says
returns-clause-says c =
    let m = c.self.inside in
    let new = big_endian_bytes (bytes_of c.args.width) c.args.value in (
      0,
      ap (λ k. kept_reply k (Store c.args.address new)) (sym c.self.view_is)
          ∙ number_says m.windows.all.items m.stack m.bytes.items m.unwritten.words.items c.self.invariant c.args.address c.in-Some.hit.offset c.byte_count-count.result c.args.width c.args.value
          c.in-Some.hit.direction c.byte_count-count.ensures c.in-Some.ensures.is c.in-Some.ensures.has (sym c.is_writable.ensures ∙ c.if-not-is_writable.false),
    )

pub returns-clause-learns : goal.returns-clause-learns
returns-clause-learns c =
    let m = c.self.inside in
    let new = big_endian_bytes (bytes_of c.args.width) c.args.value in
    let items = with_items_is m.bytes c.write_number.new.bytes (omega (arith, c.write_number.auto.bytes, c.deref_mut.ensures.len)) in
    rw (items, c.in-Some.ensures.same, c.in_default.ensures.stays)
    ((number_stored m.windows.all.items m.stack m.bytes.items m.unwritten.words.items c.self.invariant c.args.address c.in-Some.hit.offset c.byte_count-count.result c.args.width c.args.value
    c.in-Some.hit.direction c.byte_count-count.ensures c.in-Some.ensures.is c.in-Some.ensures.has (sym c.is_writable.ensures ∙ c.if-not-is_writable.false)
    c.write_number.new.bytes c.remove_all.new.self.words.items (c.write_number.ensures ∙ ap (λ bytes. overlaid 0 bytes c.in-Some.hit.offset new) c.deref_mut.ensures.value)
    c.remove_all.ensures.room c.remove_all.ensures.has).0
    ∙ ap (λ k. kept_after k (Store c.args.address new)) c.self.view_is)

pub returns-in_default-find-clause-refuses : goal.returns-in_default-find-clause-refuses
returns-in_default-find-clause-refuses c =
    let m = c.self.inside in
    let new = big_endian_bytes (bytes_of c.args.width) c.args.value in
    let long : length new ≡ c.byte_count-count.result = length-big_endian_bytes (bytes_of c.args.width) c.args.value ∙ sym c.byte_count-count.ensures in
    let out = store_refused m.windows.all.items m.stack m.bytes.items m.unwritten.words.items c.self.invariant c.args.address new c.in_default.field-0 c.in_default.ensures.refuses in
    let none = ap (λ n. list_any (λ (u : Use). is_in_window u.window c.args.address n) (uses_of m.windows.all.items)) long ∙ c.in_default-find.ensures.has in
    refused _ _ (ap (λ k. kept_reply k (Store c.args.address new)) (sym c.self.view_is)
    ∙ store_outside m.windows.all.items m.stack m.bytes.items m.unwritten.words.items c.self.invariant c.args.address new out none)
