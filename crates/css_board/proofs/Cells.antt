-- The cells of a board, once its history has one entry more.
use Rattle.std.proofs.Common.{◌≡◌, ◌≢◌, ℕ, ◌+◌, ◌<◌, true, false, List, [], ◌∷◌, ◌++◌, length, get_or, Option, Some, None, slice_get, refl, ap, sym, ◌∙◌, subst, inl, inr, arith, length-append}
use Rattle.std.proofs.Math.ListN.{length-set}
use Rattle.std.proofs.lemmas.Bool.{cases_Bool, eq-eqb}
use Rattle.std.proofs.lemmas.Option.{slice_get-get_or}
use Rattle.css_base.specs.declared.ending.Stop.{Stop}
use Rattle.css_record.specs.declared.task_record.TaskRecord.{TaskRecord}
use Rattle.css_task.specs.Alone.{End, Outs, Halted}
use Rattle.css_yard.specs.Values.{Submit}
use Rattle.css_yard.proofs.Lists.{last_or_before, before_more}
use Rattle.css_graph.specs.Tasks.{is_among}
use Rattle.css_history.specs.declared.entry.Entry.{Entry}
use Rattle.css_history.specs.declared.entry.Entry.TheVariants as entries
use Rattle.css_history.specs.Terms.{Terms}
use Rattle.css_history.specs.Histories.{submitted, submits, Waiting, Ended, named, comes, standing, IsFinished}
use Rattle.css_history.specs.Legal.{MayFollow, Legal}
use Rattle.css_history.proofs.Bools.{not_among_one}
use Rattle.css_history.proofs.Histories.{submits_more, submits_same, not_named, is_named}
use Rattle.css_history.proofs.Standings.{ended_lasts}
use Rattle.css_history.proofs.Numbers.{next_waits}
use Rattle.css_board.specs.declared.cell.Cell.{Cell}
use Rattle.css_board.specs.Cells.{told_by, entry_at, end_at, IsFinish, IsFinishedCell, IsFinishedWith, IsStopOf, no_cell, with_end, IsEnd, IsCell, AreCells, AreKept}
use Rattle.css_board.proofs.Lists.{get_set, get_seam}

-- the entry brings this task to no end
abbrev pub EndsNot : List Entry → Entry → ℕ → Type 0
EndsNot log e n = (end : End) → standing n (log ++ e ∷ []) ≡ Ended end → standing n log ≡ Ended end

comes_to_none : (e : Entry) (end : End) → told_by e ≡ None → comes e ≢ Ended end
comes_to_none (entries.Submit rec given) end none is = cc
comes_to_none (entries.Take w numbers) end none is = cc
comes_to_none (entries.Finish w n outs) end none is = cc
comes_to_none (entries.Stop w n stop line) end none is = cc
comes_to_none (entries.Back w numbers) end none is = cc
comes_to_none (entries.Starved w) end none is = cc
comes_to_none entries.Close end none is = cc

pub ends_none : (log : List Entry) (e : Entry) (n : ℕ) → told_by e ≡ None → EndsNot log e n
ends_none log e n none end is = elim (cases_Bool (is_among (named e) n)) [
  | inl names ↦ absurd (comes_to_none e end none (sym (is_named log e n names) ∙ is))
  | inr apart ↦ sym (not_named log e n apart) ∙ is
]

pub ends_other : (log : List Entry) (e : Entry) (m n : ℕ) → named e ≡ m ∷ [] → m ≢ n → EndsNot log e n
ends_other log e m n names apart end is = sym (not_named log e n (subst (λ l. is_among l n ≡ false) (sym names) (not_among_one m n apart))) ∙ is

module _ (b : Terms) (log : List Entry) (e : Entry) (legal : Legal b log) (may : MayFollow b log e) where
  abbrev longer : List Entry
  longer = log ++ e ∷ []

  end_kept : (n : ℕ) (o : Option ℕ) → EndsNot log e n → IsEnd log n o → IsEnd longer n o
  end_kept n None not_ended is = λ end ended. is end (not_ended end ended)
  end_kept n (Some place) not_ended (x, end, at, told, ended, names) = (x, end, before_more log (e ∷ []) place x at, told, ended_lasts b n end log e legal may ended, names)

  more_submits : (k : ℕ) (s : Submit) → slice_get (submits log) k ≡ Some s → slice_get (submits longer) k ≡ Some s
  more_submits k s at = subst (λ l. slice_get l k ≡ Some s) (sym (submits_more log e)) (before_more (submits log) (submitted e) k s at)

  pub cell_kept : (k n : ℕ) (c : Cell) → EndsNot log e n → IsCell log k n c → IsCell longer k n c
  cell_kept k n c not_ended is = record {
    task = is.task;
    task_is = more_submits k is.task is.task_is;
    submit_is = before_more log (e ∷ []) c.submit (entries.Submit is.task.rec is.task.given) is.submit_is;
    end_is = end_kept n c.end not_ended is.end_is;
  }

  -- nothing is submitted, and nothing ends
  pub cells_same : (cells : List Cell) → submitted e ≡ [] → told_by e ≡ None → AreCells b.first log cells → AreCells b.first longer cells
  cells_same cells none untold are = record {
    all = are.all ∙ ap length (sym (submits_same log e none));
    each = λ k c at. cell_kept k (b.first + k) c (ends_none log e (b.first + k) untold) (are.each k c at);
  }

  -- the k-th task comes to its end
  pub cells_ended : (cells : List Cell) (k m : ℕ) (end : End) → submitted e ≡ [] → named e ≡ m ∷ [] → told_by e ≡ Some end → comes e ≡ Ended end → m ≡ b.first + k → k < length cells
      → AreCells b.first log cells → AreCells b.first longer (with_end cells k (length log))
  cells_ended cells k m end none names told comes_is m_is below are =
      let old : Cell = get_or cells k no_cell in
      let new : Cell = record { submit = old.submit; end = Some (length log) } in
      let was : IsCell log k (b.first + k) old = are.each k old (slice_get-get_or cells k no_cell below) in
      let among : is_among (named e) (b.first + k) ≡ true = subst (λ l. is_among l (b.first + k) ≡ true) (sym names) (one_among m (b.first + k) m_is) in
      let here : IsCell longer k (b.first + k) new = record {
        task = was.task;
        task_is = more_submits k was.task was.task_is;
        submit_is = before_more log (e ∷ []) old.submit (entries.Submit was.task.rec was.task.given) was.submit_is;
        end_is = (e, end, get_seam log [] e, told, is_named log e (b.first + k) among ∙ comes_is, names ∙ ap (λ (n : ℕ). n ∷ []) m_is);
      } in
      record {
        all = length-set cells k new ∙ (are.all ∙ ap length (sym (submits_same log e none)));
        each = λ j c at. elim (get_set cells k j new c at) [
          | inl h ↦ subst (λ (d : Cell). IsCell longer j (b.first + j) d) h.1 (subst (λ (i : ℕ). IsCell longer i (b.first + i) new) (sym h.0) here)
          | inr h ↦ cell_kept j (b.first + j) c (ends_other log e m (b.first + j) names (λ same. h.0 (omega (arith, same, m_is)))) (are.each j c h.1)
        ];
      }
    where
      one_among : (n k : ℕ) → n ≡ k → is_among (n ∷ []) k ≡ true
      one_among n k same = rw (eq-eqb n k same) refl

module _ (b : Terms) (log : List Entry) (r : TaskRecord) (given : List (List ℕ)) (legal : Legal b log) (may : MayFollow b log (entries.Submit r given)) where
  abbrev submit_entry : Entry
  submit_entry = entries.Submit r given

  pub cells_submit : (cells : List Cell) → AreCells b.first log cells → AreCells b.first (log ++ submit_entry ∷ []) (cells ++ record { submit = length log; end = None } ∷ [])
  cells_submit cells are =
      let it : Submit = record { rec = r; given = given } in
      let new : Cell = record { submit = length log; end = None } in
      let longer : List Entry = log ++ submit_entry ∷ [] in
      let k : ℕ = length cells in
      let waits : standing (b.first + k) log ≡ Waiting = subst (λ (n : ℕ). standing (b.first + n) log ≡ Waiting) (sym are.all) (next_waits b log legal) in
      let here : IsCell longer k (b.first + k) new = record {
        task = it;
        task_is = subst (λ (n : ℕ). slice_get (submits longer) n ≡ Some it) (sym are.all) (subst (λ l. slice_get l (length (submits log)) ≡ Some it) (sym (submits_more log submit_entry)) (get_seam (submits log) [] it));
        submit_is = get_seam log [] submit_entry;
        end_is = λ end ended. (let was : standing (b.first + k) log ≡ Ended end = ends_none log submit_entry (b.first + k) refl end ended in absurd (cc));
      } in
      record {
        all = omega (arith, length-append cells (new ∷ []), ap length (submits_more log submit_entry), length-append (submits log) (it ∷ []), are.all);
        each = λ j c at. elim (last_or_before cells new j c at) [
          | inl before ↦ cell_kept b log submit_entry legal may j (b.first + j) c (ends_none log submit_entry (b.first + j) refl) (are.each j c before)
          | inr last ↦ subst (λ (d : Cell). IsCell longer j (b.first + j) d) last.1 (subst (λ (i : ℕ). IsCell longer i (b.first + i) new) (sym last.0) here)
        ];
      }

-- ---- what a cell says of its task

not_finish : (e : Entry) (outs : List (List ℕ)) → told_by e ≡ Some (Outs outs) → IsFinish (Some e)
not_finish (entries.Submit rec given) outs told = absurd (cc)
not_finish (entries.Take w numbers) outs told = absurd (cc)
not_finish (entries.Finish w n others) outs told = tt
not_finish (entries.Stop w n stop line) outs told = absurd (cc)
not_finish (entries.Back w numbers) outs told = absurd (cc)
not_finish (entries.Starved w) outs told = absurd (cc)
not_finish entries.Close outs told = absurd (cc)

is_finish : (e : Entry) (end : End) → IsFinish (Some e) → told_by e ≡ Some end → (outs : List (List ℕ)) × (end ≡ Outs outs)
is_finish (entries.Submit rec given) end is told = absurd is
is_finish (entries.Take w numbers) end is told = absurd is
is_finish (entries.Finish w n others) end is told = (others, cc)
is_finish (entries.Stop w n stop line) end is told = absurd is
is_finish (entries.Back w numbers) end is told = absurd is
is_finish (entries.Starved w) end is told = absurd is
is_finish entries.Close end is told = absurd is

finished_by : (log : List Entry) (n : ℕ) (c : Cell) (o : Option ℕ) → c.end ≡ o → IsEnd log n o → IsFinishedCell log c → IsFinished n log
finished_by log n c None is end finished =
    let none : end_at log c ≡ None = ap (λ (p : Option ℕ). entry_at log p) is in
    absurd (subst IsFinish none finished)
finished_by log n c (Some place) is (e, end, at, told, ended, names) finished =
    let there : end_at log c ≡ Some e = ap (λ (p : Option ℕ). entry_at log p) is ∙ at in
    let outs = is_finish e end (subst IsFinish there finished) told in
    (outs.0, ended ∙ ap Ended outs.1)

pub cell_finished : (log : List Entry) (k n : ℕ) (c : Cell) → IsCell log k n c → IsFinishedCell log c → IsFinished n log
cell_finished log k n c is finished = finished_by log n c c.end refl is.end_is finished

cell_by : (log : List Entry) (n : ℕ) (c : Cell) (o : Option ℕ) → c.end ≡ o → IsEnd log n o → IsFinished n log → IsFinishedCell log c
cell_by log n c None is end (outs, finished) = absurd (end (Outs outs) finished)
cell_by log n c (Some place) is (e, end, at, told, ended, names) (outs, finished) =
    let there : end_at log c ≡ Some e = ap (λ (p : Option ℕ). entry_at log p) is ∙ at in
    let both : Ended end ≡ Ended (Outs outs) = sym ended ∙ finished in
    let same : end ≡ Outs outs = cc in
    subst IsFinish (sym there) (not_finish e outs (told ∙ ap Some same))

pub finished_cell : (log : List Entry) (k n : ℕ) (c : Cell) → IsCell log k n c → IsFinished n log → IsFinishedCell log c
finished_cell log k n c is finished = cell_by log n c c.end refl is.end_is finished

-- ---- what is looked up

with_by : (log : List Entry) (n : ℕ) (c : Cell) (outs : List (List ℕ)) (o : Option ℕ) → c.end ≡ o → IsEnd log n o → IsFinishedWith log c outs → standing n log ≡ Ended (Outs outs)
with_by log n c outs None is end (x, at, told) = (let none : None ≡ Some x = sym (ap (λ (p : Option ℕ). entry_at log p) is) ∙ at in absurd (cc))
with_by log n c outs (Some place) is (e, end, there, tells, ended, names) (x, at, told) =
    let both : Some x ≡ Some e = sym at ∙ (ap (λ (p : Option ℕ). entry_at log p) is ∙ there) in
    let same : x ≡ e = cc in
    let ends : Some (Outs outs) ≡ Some end = sym told ∙ (ap told_by same ∙ tells) in
    let one : Outs outs ≡ end = cc in
    ended ∙ ap Ended (sym one)

pub finished_with : (first : ℕ) (log : List Entry) (cells : List Cell) (k n : ℕ) (c : Cell) (outs : List (List ℕ)) → AreKept first log cells → slice_get cells k ≡ Some c → n ≡ first + k → IsFinishedWith log c outs → standing n log ≡ Ended (Outs outs)
finished_with first log cells k n c outs kept at n_is with_outs =
    subst (λ (m : ℕ). standing m log ≡ Ended (Outs outs)) (sym n_is) (with_by log (first + k) c outs c.end refl (kept.cells_are.each k c at).end_is with_outs)

pub unfinished_cell : (first : ℕ) (log : List Entry) (cells : List Cell) (k n : ℕ) (c : Cell) → AreKept first log cells → slice_get cells k ≡ Some c → n ≡ first + k → ¬ IsFinishedCell log c → ¬ IsFinished n log
unfinished_cell first log cells k n c kept at n_is fails finished =
    fails (finished_cell log k (first + k) c (kept.cells_are.each k c at) (subst (λ (m : ℕ). IsFinished m log) n_is finished))

pub not_kept : (first : ℕ) (log : List Entry) (cells : List Cell) (n : ℕ) → AreKept first log cells → ((k : ℕ) → k < length cells → n ≢ first + k) → ¬ IsFinished n log
not_kept first log cells n kept none (outs, ended) =
    let at = kept.named n (λ waits. absurd (cc)) in
    none at.0 at.1 at.2

-- a stop in a cell is its task's
stop_by : (log : List Entry) (m n : ℕ) (c : Cell) (stop : Stop) (line : ℕ) (o : Option ℕ) → c.end ≡ o → IsEnd log m o → IsStopOf log c n stop line → (n ≡ m) × (standing m log ≡ Ended (Halted stop line))
stop_by log m n c stop line None is end (w, at) = (let none : None ≡ Some (entries.Stop w n stop line) = sym (ap (λ (p : Option ℕ). entry_at log p) is) ∙ at in absurd (cc))
stop_by log m n c stop line (Some place) is (e, end, there, tells, ended, names) (w, at) =
    let both : Some e ≡ Some (entries.Stop w n stop line) = sym there ∙ (sym (ap (λ (p : Option ℕ). entry_at log p) is) ∙ at) in
    let same : e ≡ entries.Stop w n stop line = cc in
    let ends : Some (Halted stop line) ≡ Some end = sym (ap told_by same) ∙ tells in
    let one : Halted stop line ≡ end = cc in
    let numbers : n ∷ [] ≡ m ∷ [] = sym (ap named same) ∙ names in
    (cc, ended ∙ ap Ended (sym one))

pub stop_of : (log : List Entry) (k m n : ℕ) (c : Cell) (stop : Stop) (line : ℕ) → IsCell log k m c → IsStopOf log c n stop line → (n ≡ m) × (standing m log ≡ Ended (Halted stop line))
stop_of log k m n c stop line is at = stop_by log m n c stop line c.end refl is.end_is at

told_stop : (e : Entry) (n : ℕ) (stop : Stop) (line : ℕ) → told_by e ≡ Some (Halted stop line) → named e ≡ n ∷ [] → (w : ℕ) × (e ≡ entries.Stop w n stop line)
told_stop (entries.Submit rec given) n stop line told names = absurd (cc)
told_stop (entries.Take w numbers) n stop line told names = absurd (cc)
told_stop (entries.Finish w m outs) n stop line told names = absurd (cc)
told_stop (entries.Stop w m s l) n stop line told names = (w, cc)
told_stop (entries.Back w numbers) n stop line told names = absurd (cc)
told_stop (entries.Starved w) n stop line told names = absurd (cc)
told_stop entries.Close n stop line told names = absurd (cc)

stopped_by : (log : List Entry) (m : ℕ) (c : Cell) (stop : Stop) (line : ℕ) (o : Option ℕ) → c.end ≡ o → IsEnd log m o → standing m log ≡ Ended (Halted stop line) → IsStopOf log c m stop line
stopped_by log m c stop line None is end stopped = absurd (end (Halted stop line) stopped)
stopped_by log m c stop line (Some place) is (e, end, there, tells, ended, names) stopped =
    let both : Ended end ≡ Ended (Halted stop line) = sym ended ∙ stopped in
    let same : end ≡ Halted stop line = cc in
    let it = told_stop e m stop line (tells ∙ ap Some same) names in
    (it.0, ap (λ (p : Option ℕ). entry_at log p) is ∙ (there ∙ ap Some it.1))

pub stopped_cell : (log : List Entry) (k m : ℕ) (c : Cell) (stop : Stop) (line : ℕ) → IsCell log k m c → standing m log ≡ Ended (Halted stop line) → IsStopOf log c m stop line
stopped_cell log k m c stop line is stopped = stopped_by log m c stop line c.end refl is.end_is stopped
