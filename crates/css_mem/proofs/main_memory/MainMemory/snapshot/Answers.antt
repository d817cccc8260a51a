use Rattle.std.proofs.Common.{◌-◌, ap, ◌∙◌}
use Rattle.css_record.specs.Windows.{window}
use Rattle.css_mem.specs.Slices.{rows_of}
use Rattle.css_mem.proofs.LiveRows.{origin_below, window_fits, window_read}
use Rattle.css_mem.proofs.main_memory.MainMemory.snapshot.Goals as goal

pub overflow_sub-first : goal.overflow_sub-first
overflow_sub-first c =
    let m = c.self.inside in
    origin_below m.origin m.start m.bytes.items m.calls m.most_calls c.args.self.now c.self.invariant.0 c.self.view_is (window c.args.part) c.requires.is_window c.requires.live

pub copied_rows-requires-clause-fits : goal.copied_rows-requires-clause-fits
copied_rows-requires-clause-fits c =
    let m = c.self.inside in
    let p = c.args.part in
    rw c.deref.ensures.value
    (window_fits m.origin m.start m.bytes.items m.calls m.most_calls c.args.self.now c.self.invariant.0 c.self.view_is (window p) c.requires.is_window c.requires.live)

pub returns : goal.returns
returns c =
    let m = c.self.inside in
    let p = c.args.part in
    let read = window_read m.origin m.start m.bytes.items m.calls m.most_calls c.args.self.now c.self.invariant.0 c.self.view_is (window p) c.requires.is_window c.requires.live in
    let is = c.in_ok-bytes.ensures ∙ ap (λ bs. rows_of bs p.rows (p.base - m.origin) p.width p.stride) c.deref.ensures.value ∙ read in
    rw is at c.new.ensures
