use Rattle.std.proofs.Common.{◌≡◌, ◌∙◌, ◌+◌, ℕ, List, length, drop, sym, ap, subst, arith}
use Rattle.std.proofs.lemmas.List.{length-drop}
use Rattle.css_listing.specs.Reading.{after_line, IsReadTo}
use Rattle.css_listing.proofs.Texts.{step, place_within, stopped, ends}
use Rattle.css_listing.proofs.reading.read_lines.Goals as goal

pub returns-in-Err : goal.returns-in-Err
returns-in-Err c =
    stopped c.args.text.now c.loop-end.rest.now c.line_at-bytes.result.now c.loop-end.draft c.loop-end.line c.in-Some.end c.in-Err.error c.fault_in.result
    c.loop-end.invariant.read (sym c.in-Some.ensures) c.line_at-bytes.ensures c.in-Err.ensures c.fault_in.ensures

pub loop-end-preserved : goal.loop-end-preserved
loop-end-preserved c =
    let place = sym c.in-Some.ensures in
    let read = ap (after_line c.loop-end.draft) (sym c.line_at-bytes.ensures) ∙ c.in-Ok.ensures in
    let within = place_within c.loop-end.rest.now c.in-Some.end place in
    let left : length c.behind-rest.result.now ≡ length (drop (c.in-Some.end + 1) c.loop-end.rest.now) = ap length c.behind-rest.ensures in
    record {
      read = subst (λ (bs : List ℕ). IsReadTo c.args.text.now bs c.in-Ok.more (c.loop-end.line + 1)) (sym c.behind-rest.ensures)
          (step c.args.text.now c.loop-end.rest.now c.loop-end.draft c.in-Ok.more c.loop-end.line c.in-Some.end c.loop-end.invariant.read place read);
      within = omega (arith, c.loop-end.invariant.within, within, left, length-drop (c.in-Some.end + 1) c.loop-end.rest.now);
    }

pub returns : goal.returns
returns c =
    ends c.args.text.now c.loop-end.rest.now c.loop-end.draft c.loop-end.line c.ended.result c.loop-end.invariant.read (sym c.in_default.ensures) c.ended.ensures
