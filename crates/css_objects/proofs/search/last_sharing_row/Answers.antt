use Rattle.std.proofs.Common.{◌≡◌, ◌+◌, ◌*◌, ◌-◌, subst, length, ℕ, arith}
use Rattle.css_objects.specs.Found.{NoneMeets, IsLastMeeting}
use Rattle.css_objects.proofs.OneRowSearches.{NoneFrom, RowsTake, from_end, from_row, none_shares, last_shares, rows_begin, row_takes, rows_end}
use Rattle.css_objects.proofs.search.last_sharing_row.Goals as goal

pub loop-row-init : goal.loop-row-init
loop-row-init g c = record {
  below = omega arith;
  none = from_end c.args.rows.now c.args.window.now;
  cost = rows_begin (length c.args.rows.now) c.args.window.now.rows c.args.steps.now;
}

pub returns-in-Some-clause-found : goal.returns-in-Some-clause-found
returns-in-Some-clause-found g c =
    let row : ℕ = c.loop-row.row - 1 in
    let again : c.loop-row.row ≡ row + 1 = omega arith in
    let here : IsLastMeeting c.args.rows.now (c.args.window.now.base + row * c.args.window.now.stride) (c.args.window.now.base + row * c.args.window.now.stride + c.args.window.now.width) c.in-Some.f =
    rw (c.row_base.ensures.value, c.row_end.ensures) at c.in-Some.ensures.found in
    last_shares c.args.rows.now c.args.window.now c.requires.is_window c.requires.rows row c.in-Some.f (omega (arith, c.loop-row.invariant.below))
    (subst (λ (n : ℕ). NoneFrom c.args.rows.now c.args.window.now n) again c.loop-row.invariant.none) here

pub returns-in-Some-clause-cost : goal.returns-in-Some-clause-cost
returns-in-Some-clause-cost g c =
    let row : ℕ = c.loop-row.row - 1 in
    let again : c.loop-row.row ≡ row + 1 = omega arith in
    rows_end (length c.args.rows.now) c.args.window.now.rows row c.args.steps.now c.last_meeting-found.new.steps
    (row_takes (length c.args.rows.now) c.args.window.now.rows row c.args.steps.now c.loop-row.steps c.last_meeting-found.new.steps (omega (arith, c.loop-row.invariant.below))
    (subst (λ (n : ℕ). RowsTake (length c.args.rows.now) c.args.window.now.rows n c.args.steps.now c.loop-row.steps) again c.loop-row.invariant.cost) c.last_meeting-found.ensures.cost)

pub loop-row-preserved : goal.loop-row-preserved
loop-row-preserved g c =
    let row : ℕ = c.loop-row.row - 1 in
    let again : c.loop-row.row ≡ row + 1 = omega arith in
    let here : NoneMeets c.args.rows.now (c.args.window.now.base + row * c.args.window.now.stride) (c.args.window.now.base + row * c.args.window.now.stride + c.args.window.now.width) =
    rw (c.row_base.ensures.value, c.row_end.ensures) at c.in-None.ensures.found in
    record {
      below = omega (arith, c.loop-row.invariant.below);
      none = from_row c.args.rows.now c.args.window.now row (subst (λ (n : ℕ). NoneFrom c.args.rows.now c.args.window.now n) again c.loop-row.invariant.none) here;
      cost = row_takes (length c.args.rows.now) c.args.window.now.rows row c.args.steps.now c.loop-row.steps c.last_meeting-found.new.steps (omega (arith, c.loop-row.invariant.below))
          (subst (λ (n : ℕ). RowsTake (length c.args.rows.now) c.args.window.now.rows n c.args.steps.now c.loop-row.steps) again c.loop-row.invariant.cost) c.last_meeting-found.ensures.cost;
    }

pub returns-clause-found : goal.returns-clause-found
returns-clause-found g c =
    let none : c.loop-row.row ≡ 0 = omega arith in
    none_shares c.args.rows.now c.args.window.now c.requires.is_window c.requires.rows (subst (λ (n : ℕ). NoneFrom c.args.rows.now c.args.window.now n) none c.loop-row.invariant.none)
