-- The front of a board, once its history has one entry more.
use Rattle.std.proofs.Common.{◌≡◌, ℕ, ◌+◌, ◌<◌, ◌≤◌, List, [], ◌∷◌, ◌++◌, length, Some, None, slice_get, refl, ap, ◌∙◌, subst, inl, inr, arith, length-append}
use Rattle.std.proofs.lemmas.Bool.{cases_lt}
use Rattle.css_record.specs.declared.task_record.TaskRecord.{TaskRecord}
use Rattle.css_task.specs.Alone.{Outs}
use Rattle.css_yard.proofs.Lists.{is_within}
use Rattle.css_history.specs.declared.entry.Entry.{Entry}
use Rattle.css_history.specs.declared.entry.Entry.TheVariants as entries
use Rattle.css_history.specs.Terms.{Terms}
use Rattle.css_history.specs.Histories.{submitted, submits, Waiting, Ended, standing, IsFinished}
use Rattle.css_history.specs.Legal.{MayFollow, Legal}
use Rattle.css_history.proofs.Histories.{submits_more, submits_same}
use Rattle.css_history.proofs.Facts.{finished_lasts}
use Rattle.css_history.proofs.Numbers.{next_waits}
use Rattle.css_board.specs.declared.cell.Cell.{Cell}
use Rattle.css_board.specs.Cells.{told_by, IsFinishedCell, AreCells, IsFront}
use Rattle.css_board.proofs.Cells.{ends_none, cell_finished, finished_cell}

module _ (b : Terms) (log : List Entry) (e : Entry) (legal : Legal b log) (may : MayFollow b log e) where
  abbrev longer : List Entry
  longer = log ++ e ∷ []

  -- nothing is submitted, and nothing is finished
  pub front_same : (front : ℕ) → submitted e ≡ [] → ((n : ℕ) → IsFinished n longer → IsFinished n log) → IsFront b.first log front → IsFront b.first longer front
  front_same front none unfinished is =
      let count : length (submits longer) ≡ length (submits log) = ap length (submits_same log e none) in
      record {
        within = omega (arith, count, is.within);
        finished = λ k below. finished_lasts b (b.first + k) log e legal may (is.finished k below);
        unfinished = λ below finished. is.unfinished (omega (arith, count, below)) (unfinished (b.first + front) finished);
      }

  -- the front is looked for again, from where it was
  pub front_moved : (front front' : ℕ) (cells : List Cell) → submitted e ≡ [] → AreCells b.first longer cells → IsFront b.first log front → front ≤ front' → front' ≤ length cells
      → ((k : ℕ) (c : Cell) → front ≤ k → k < front' → slice_get cells k ≡ Some c → IsFinishedCell longer c)
      → ((c : Cell) → slice_get cells front' ≡ Some c → ¬ IsFinishedCell longer c) → IsFront b.first longer front'
  front_moved front front' cells none are is more within finished unfinished = record {
    within = omega (arith, are.all, within);
    finished = λ k below. elim (cases_lt k front) [
      | inl before ↦ finished_lasts b (b.first + k) log e legal may (is.finished k before)
      | inr behind ↦ let c = is_within cells k (omega (arith, below, within)) in cell_finished longer k (b.first + k) c.0 (are.each k c.0 c.1) (finished k c.0 behind below c.1)
    ];
    unfinished = λ below done. let c = is_within cells front' (omega (arith, are.all, below)) in unfinished c.0 c.1 (finished_cell longer front' (b.first + front') c.0 (are.each front' c.0 c.1) done);
  }

-- an entry that tells no end finishes nothing
pub finishes_none : (log : List Entry) (e : Entry) → told_by e ≡ None → (n : ℕ) → IsFinished n (log ++ e ∷ []) → IsFinished n log
finishes_none log e none n (outs, is) = (outs, ends_none log e n none (Outs outs) is)

pub front_submit : (b : Terms) (log : List Entry) (r : TaskRecord) (given : List (List ℕ)) → Legal b log → MayFollow b log (entries.Submit r given) → (front : ℕ) → IsFront b.first log front
    → IsFront b.first (log ++ entries.Submit r given ∷ []) front
front_submit b log r given legal may front is =
    let e : Entry = entries.Submit r given in
    let count : length (submits (log ++ e ∷ [])) ≡ length (submits log) + 1 = ap length (submits_more log e) ∙ length-append (submits log) (submitted e) in
    record {
      within = omega (arith, count, is.within);
      finished = λ k below. finished_lasts b (b.first + k) log e legal may (is.finished k below);
      unfinished = λ below done. (let old = finishes_none log e refl (b.first + front) done in elim (cases_lt front (length (submits log))) [
        | inl inside ↦ is.unfinished inside old
        | inr last ↦
            let at : length (submits log) ≡ front = omega (arith, last, is.within) in
            let waits : standing (b.first + front) log ≡ Waiting = subst (λ (n : ℕ). standing (b.first + n) log ≡ Waiting) at (next_waits b log legal) in
            let ended : standing (b.first + front) log ≡ Ended (Outs old.0) = old.1 in
            absurd (cc)
      ]);
    }
