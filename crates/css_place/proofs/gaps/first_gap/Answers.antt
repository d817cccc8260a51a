use Rattle.std.proofs.Common.{◌<◌, ◌≡◌, length, get_or, refl, arith}
use Rattle.css_place.specs.declared.stretch.Stretch.{Stretch}
use Rattle.css_place.specs.declared.gaps.Gap.{Gap}
use Rattle.css_place.proofs.Passing.{passed_more, gap_ends, fits_before, fits_last, read}
use Rattle.css_place.proofs.gaps.first_gap.Goals as goal

pub overflow_sub-place : goal.overflow_sub-place
overflow_sub-place c =
    let zero : Stretch = record { start = 0; length = 0 } in
    let index = c.loop-index.index in
    let below : index < length c.args.out.now = c.loop-index-test.true in
    gap_ends _ c.args.bytes index c.loop-index.start (get_or c.args.out.now index zero) c.loop-index.invariant below
    (read c.args.out.now index zero below)

pub returns-then-bytes-from-clause-found : goal.returns-then-bytes-from-clause-found
returns-then-bytes-from-clause-found c =
    let zero : Stretch = record { start = 0; length = 0 } in
    let index = c.loop-index.index in
    let below : index < length c.args.out.now = c.loop-index-test.true in
    let same = read c.args.out.now index zero below in
    let gap : Gap = record { index = index; start = c.loop-index.start } in
    let ends = gap_ends _ c.args.bytes index c.loop-index.start (get_or c.args.out.now index zero)
    c.loop-index.invariant below same in
    fits_before _ c.args.bytes gap (get_or c.args.out.now index zero) c.requires.placed c.loop-index.invariant below same
    (omega arith)

pub loop-index-preserved : goal.loop-index-preserved
loop-index-preserved c =
    let zero : Stretch = record { start = 0; length = 0 } in
    let index = c.loop-index.index in
    let below : index < length c.args.out.now = c.loop-index-test.true in
    passed_more _ c.args.bytes index c.loop-index.start (get_or c.args.out.now index zero) c.requires.positive
    c.requires.placed c.loop-index.invariant below (read c.args.out.now index zero below) (omega arith)

pub returns-then-bytes-from-2-clause-found : goal.returns-then-bytes-from-2-clause-found
returns-then-bytes-from-2-clause-found c =
    let last : c.loop-index.index ≡ length c.args.out.now = omega arith in
    let gap : Gap = record { index = length c.args.out.now; start = c.loop-index.start } in
    fits_last _ c.args.bytes gap (rw last at c.loop-index.invariant) refl (omega (arith, c.loop-index.invariant.inside))
