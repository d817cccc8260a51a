use Rattle.std.proofs.Common.{◌*◌, length, vec_capacity, ap, ◌∙◌}
use Rattle.css_semantics.specs.Memory.{is_live_byte}
use Rattle.css_semantics.specs.Rules.{all_of_window}
use Rattle.css_record.specs.Windows.{window}
use Rattle.css_memory.specs.Main.{Main}
use Rattle.css_memory.specs.Kept.{end_of}
use Rattle.css_memory.specs.Held.{parts}
use Rattle.css_memory.proofs.RowSteps.{ends_more, live_ends}
use Rattle.css_memory.proofs.main_memory.MainMemory.mark_pages.Goals as goal

pub mark-requires-clause-within : goal.mark-requires-clause-within
mark-requires-clause-within c =
    let m = c.self.inside in
    let w = c.args.part in
    let live = ap (λ (s : Main). all_of_window (is_live_byte s.memory) (window w)) c.self.view_is ∙ c.requires.live c.if-more.true in (
      c.requires.is_window,
      ends_more (end_of (parts m)) (4096 * length m.pages) w.rows w.base w.width w.stride c.self.invariant.pages
          (live_ends (parts m) m.calls m.most_calls (vec_capacity m.low) (length m.pages) c.self.invariant w.rows w.base w.width w.stride c.requires.is_window.width live),
    )
