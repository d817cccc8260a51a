use Rattle.std.proofs.Common.{◌≡◌, ◌+◌, ◌||◌, true, get_or, inl, inr, ap, ◌∙◌, arith}
use Rattle.css_semantics.specs.Memory.{is_between}
use Rattle.css_semantics.specs.Tasks.{window_length, reads}
use Rattle.css_record.specs.Windows.{window}
use Rattle.css_task.specs.OffsetSets.{has_bit}
use Rattle.css_task.proofs.Placing.{no_window, placed_at, within_all, flags_set, flags_kept}
use Rattle.css_task.proofs.room.unwritten_of.Goals as goal
use Rattle.css_task.proofs.room.unwritten_of.Goals.{in-Out, in-In}

pub length-requires : goal.length-requires
length-requires c =
    let i = c.loop-placed.placed-index in
    c.requires.placed.windows i (get_or c.args.all.now i no_window) (placed_at c.args.all.now i (omega arith))

pub add_all-requires : goal.add_all-requires
add_all-requires c =
    let i = c.loop-placed.placed-index in
    let p = get_or c.args.all.now i no_window in
    let at = placed_at c.args.all.now i (omega arith) in
    record { room = omega (arith, within_all c.args.all.now c.requires.placed i p at, c.length.ensures, c.requires.count, c.loop-placed.invariant.room) }

pub loop-placed-preserved : goal.loop-placed-preserved
loop-placed-preserved c = elim c.match-placed.branch [
  | in-Out w ↦
      let i = c.loop-placed.placed-index in
      let p = get_or c.args.all.now i no_window in
      let at = placed_at c.args.all.now i (omega arith) in
      rw w.unwritten-is
      (record {
        room = omega (arith, w.add_all.ensures.room, c.loop-placed.invariant.room);
        has = λ k.
            w.add_all.ensures.has k
            ∙ ap (λ n. is_between p.first (p.first + n) k || has_bit c.loop-placed.unwritten.words.items k) w.length.ensures
            ∙ ap (λ b. is_between p.first (p.first + window_length (window p.window)) k || b) (c.loop-placed.invariant.has k)
            ∙ flags_set c.args.all.now c.requires.placed i p at w.in-Out.is k;
      })
  | in-In w ↦
      let i = c.loop-placed.placed-index in
      let p = get_or c.args.all.now i no_window in
      let at = placed_at c.args.all.now i (omega arith) in
      let read : reads p.direction ≡ true = elim w.in-In.is [
        | inl is ↦ ap reads is
        | inr is ↦ ap reads is
      ] in
      rw w.unwritten-is
      (record {
        room = c.loop-placed.invariant.room;
        has = λ k. c.loop-placed.invariant.has k ∙ flags_kept c.args.all.now c.requires.placed i p at read k;
      })
]
