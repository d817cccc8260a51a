use Rattle.std.proofs.Common.{◌≡◌, ◌+◌, ◌-◌, ◌≤◌, length, take, drop, ap, sym, ◌∙◌, arith}
use Rattle.css_semantics.specs.Dialogue.{Load}
use Rattle.css_semantics.specs.Memory.{big_endian}
use Rattle.css_vm.specs.Spaces.{bytes_of}
use Rattle.css_task.specs.Cells.{kept_reply}
use Rattle.css_task.proofs.Spaces.{refused}
use Rattle.css_task.proofs.Hits.{hit_within}
use Rattle.css_task.proofs.RoomSteps.{loads_stack, load_unwritten, loads_window, some_bytes}
use Rattle.css_task.proofs.room.TaskRoomSpace.load.Goals as goal

pub returns-in-Ok-clause-says : goal.returns-in-Ok-clause-says
returns-in-Ok-clause-says c =
    let m = c.self.inside in
    ap (λ k. kept_reply k (Load c.args.address (bytes_of c.args.width))) (sym c.self.view_is)
    ∙ loads_stack m.windows.all.items m.stack m.bytes.items m.unwritten.words.items c.self.invariant c.args.address (bytes_of c.args.width) c.in-Ok.value c.in-Ok.ensures.says

pub any-requires : goal.any-requires
any-requires c =
    let m = c.self.inside in
    let within = hit_within m.windows.all.items c.args.address c.byte_count-count.result c.in-Some.hit.offset c.in-Some.hit.direction c.in-Some.ensures.is
    (omega (arith, c.byte_count-count.ensures, (some_bytes c.args.width).0)) in
    record { room = omega (arith, within, c.self.invariant.are.room) }

pub returns-then-any-clause-refuses : goal.returns-then-any-clause-refuses
returns-then-any-clause-refuses c =
    let m = c.self.inside in
    let width = c.byte_count-count.ensures in
    let hit = rw width at c.in-Some.ensures.is in
    let held = rw width at c.in-Some.ensures.has in
    let some = rw width at (sym c.any.ensures ∙ c.if-any.true) in
    refused _ _ (ap (λ k. kept_reply k (Load c.args.address (bytes_of c.args.width))) (sym c.self.view_is)
    ∙ load_unwritten m.windows.all.items m.stack m.bytes.items m.unwritten.words.items c.self.invariant c.args.address (bytes_of c.args.width) c.in-Some.hit.offset c.in-Some.hit.direction hit held some)

pub overflow_add-hit : goal.overflow_add-hit
overflow_add-hit c =
    let m = c.self.inside in
    let within = hit_within m.windows.all.items c.args.address c.byte_count-count.result c.in-Some.hit.offset c.in-Some.hit.direction c.in-Some.ensures.is
    (omega (arith, c.byte_count-count.ensures, (some_bytes c.args.width).0)) in
    omega (arith, within, c.self.invariant.placed.small)

pub slice_bounds-number_of-end : goal.slice_bounds-number_of-end
slice_bounds-number_of-end c =
    let m = c.self.inside in
    let within = hit_within m.windows.all.items c.args.address c.byte_count-count.result c.in-Some.hit.offset c.in-Some.hit.direction c.in-Some.ensures.is
    (omega (arith, c.byte_count-count.ensures, (some_bytes c.args.width).0)) in
    let long : c.in-Some.hit.offset + c.byte_count-count.result ≤ length c.deref.result.now =
    omega (arith, within, c.self.invariant.are.long, ap (λ bs. length bs) c.deref.ensures.value) in
    omega (arith, long, c.deref.ensures.len, m.bytes.ok.0)

pub returns-clause-says : goal.returns-clause-says
returns-clause-says c =
    let m = c.self.inside in
    let width = c.byte_count-count.ensures in
    let hit = rw width at c.in-Some.ensures.is in
    let held = rw width at c.in-Some.ensures.has in
    let known = rw width at (sym c.any.ensures ∙ c.if-any.false) in
    let index = c.in-Some.hit.offset in
    let count : index + c.byte_count-count.result - index ≡ bytes_of c.args.width = omega (arith, width) in
    ap (λ k. kept_reply k (Load c.args.address (bytes_of c.args.width))) (sym c.self.view_is)
    ∙ loads_window m.windows.all.items m.stack m.bytes.items m.unwritten.words.items c.self.invariant c.args.address (bytes_of c.args.width) index c.in-Some.hit.direction hit held
    (some_bytes c.args.width).0 known c.number_of.result
    (c.number_of.ensures ∙ ap (λ n. big_endian (take n (drop index c.deref.result.now))) count ∙ ap (λ bytes. big_endian (take (bytes_of c.args.width) (drop index bytes))) c.deref.ensures.value)
