use Rattle.std.proofs.Common.{◌-◌, ap, ◌∙◌, arith}
use Rattle.std.proofs.lemmas.List.{with_items_is}
use Rattle.css_record.specs.Windows.{window}
use Rattle.css_mem.specs.Slices.{over_rows}
use Rattle.css_mem.proofs.LiveRows.{origin_below, window_fits, window_written}
use Rattle.css_mem.proofs.main_memory.MainMemory.write_back.Goals as goal

pub overflow_sub-first : goal.overflow_sub-first
overflow_sub-first c =
    let m = c.self.inside in
    origin_below m.origin m.start m.bytes.items m.calls m.most_calls c.args.self.now c.self.invariant.0 c.self.view_is (window c.args.part) c.requires.is_window c.requires.live

pub write_rows-requires-clause-fits : goal.write_rows-requires-clause-fits
write_rows-requires-clause-fits c =
    let m = c.self.inside in
    rw c.deref_mut.ensures.value
    (window_fits m.origin m.start m.bytes.items m.calls m.most_calls c.args.self.now c.self.invariant.0 c.self.view_is (window c.args.part) c.requires.is_window c.requires.live)

pub returns : goal.returns
returns c =
    let m = c.self.inside in
    let p = c.args.part in
    let kept = with_items_is m.bytes c.write_rows.new.bytes (omega (arith, c.write_rows.auto.bytes, c.deref_mut.ensures.len)) in
    rw kept
    (window_written m.origin m.start m.bytes.items m.calls m.most_calls c.args.self.now c.self.invariant.0 c.self.view_is (window p) c.requires.is_window c.requires.live c.args.bytes.now c.write_rows.new.bytes
    (c.write_rows.ensures ∙ ap (λ bs. over_rows bs p.rows (p.base - m.origin) p.width p.stride c.args.bytes.now) c.deref_mut.ensures.value))
