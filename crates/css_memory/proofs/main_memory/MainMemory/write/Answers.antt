use Rattle.std.proofs.Common.{◌≡◌, length, vec_capacity, ap, ◌∙◌, arith}
use Rattle.std.specs.Vec.{with_items}
use Rattle.std.proofs.lemmas.List.{with_items_is}
use Rattle.css_semantics.specs.Memory.{overlaid, stored}
use Rattle.css_memory.specs.Main.{Main}
use Rattle.css_memory.specs.Held.{parts}
use Rattle.css_memory.proofs.Replies.{main_with, held}
use Rattle.css_memory.proofs.StoredBytes.{written_is}
use Rattle.css_memory.proofs.main_memory.MainMemory.write.Goals as goal

pub returns : goal.returns
returns c =
    let m = c.self.inside in
    let p = parts m in
    let address = c.args.address in
    let new = c.args.new.now in
    let low : (with_items m.low c.overlay.new.bytes).items ≡ overlaid 4096 m.low.items address new =
    with_items_is m.low c.overlay.new.bytes (omega (arith, c.overlay.auto.bytes, c.deref_mut.ensures.len)) ∙ c.overlay.ensures
    ∙ ap (λ xs. overlaid 4096 xs address new) c.deref_mut.ensures.value in
    let high : (with_items m.high c.overlay-2.new.bytes).items ≡ overlaid m.origin m.high.items address new =
    with_items_is m.high c.overlay-2.new.bytes (omega (arith, c.overlay-2.auto.bytes, c.deref_mut-2.ensures.len)) ∙ c.overlay-2.ensures
    ∙ ap (λ xs. overlaid m.origin xs address new) c.deref_mut-2.ensures.value in
    ap (λ l. held (record p { low = l; high = (with_items m.high c.overlay-2.new.bytes).items }) m.calls m.most_calls m.pages) low
    ∙ ap (λ h. held (record p { low = overlaid 4096 m.low.items address new; high = h }) m.calls m.most_calls m.pages) high
    ∙ ap (λ n. main_with n m.pages) (written_is p m.calls m.most_calls (vec_capacity m.low) (length m.pages) c.self.invariant address new)
    ∙ ap (λ (s : Main). main_with (stored s.memory address new) s.pages) c.self.view_is
