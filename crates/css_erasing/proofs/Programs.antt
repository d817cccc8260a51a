-- Programs are kept.
use Rattle.std.proofs.Common.{ℕ, ◌≤◌, if◌then◌else◌, [], map, refl, sym, subst}
use Rattle.css_base.specs.declared.limits.Limits.{Limits}
use Rattle.css_semantics.specs.Flat.{FlatState}
use Rattle.css_semantics.specs.Dialogue.{World, Finish, End, Goes, tape_of, then_do, ask}
use Rattle.css_semantics.specs.Tasks.{is_started}
use Rattle.css_small.specs.Tree.{Program}
use Rattle.css_small_code.specs.Meaning.{Exit, finished, main_left, applied, calls, frame_of, source}
use Rattle.css_small_code.proofs.Grows.{grows_if, grows_ask}
use Rattle.css_erasing.specs.Unmarked.{unmarked, unmarked_function}
use Rattle.css_semantics.specs.Plain.{plain, entries}
use Rattle.css_semantics.specs.Erased.{IsErased}
use Rattle.css_semantics.proofs.PlainTapes.{never_started}
use Rattle.css_erasing.proofs.Kept.{Kept, kept_then, kept_goes, kept_either, kept_from}
use Rattle.css_semantics.proofs.Tapes.{then_goes}
use Rattle.css_erasing.proofs.Asked.{w, w', kept_ask, kept_told}
use Rattle.css_erasing.proofs.Functions.{kept_left, kept_applied, kept_calls}

module _ (limits : Limits) (start : FlatState) (n : ℕ) where
  abbrev judged : World
  judged = w limits start n

  abbrev erased : World
  erased = w' limits start n

  kept_finish : (line : ℕ) → Kept n (ask judged Finish line) (Goes 0)
  kept_finish line = kept_from n (ask judged Finish line) (kept_told limits start n Finish refl 0 (λ m. refl) line (λ r t. ([], refl)) (kept_goes n 0)) (λ t. then_goes (ask judged Finish line t))

  -- where tasks are made, main's end acts as finish, which is left out
  kept_end : (line : ℕ) → Kept n (finished judged line) (Goes 0)
  kept_end line = kept_either n is_started (kept_finish line) (kept_goes n 0)

  kept_finished : (line : ℕ) → Kept n (finished judged line) (finished erased line)
  kept_finished line = record {
    grows = (kept_end line).grows;
    grows_erased = λ t. grows_if (is_started t) (ask erased Finish line t) (Goes 0 t) t (grows_ask erased Finish line t) ([], refl);
    erases = λ t few.
        subst (λ b. IsErased (finished judged line t) (if b then ask erased Finish line (plain t) else Goes 0 (plain t))) (sym (never_started t)) ((kept_end line).erases t few);
  }

  kept_main_left : (frame : ℕ) (exit : Exit) → Kept n (main_left judged frame exit) (main_left erased frame exit)
  kept_main_left frame exit =
      kept_then n (kept_finished exit.line) (λ r. kept_then n (kept_left limits start n frame exit) (λ r. kept_then n (kept_ask limits start n (End exit.value) refl exit.line) (λ r. kept_goes n exit.value)))

  kept_program : (fuel : ℕ) (p : Program) →
      Kept n (λ t. then_do (applied judged (calls judged p.functions fuel) fuel p.main [] p.main.line t) (main_left judged (frame_of p.main)))
      (λ t. then_do (applied erased (calls erased (map unmarked_function p.functions) fuel) fuel (unmarked_function p.main) [] p.main.line t) (main_left erased (frame_of p.main)))
  kept_program fuel p =
      kept_then n (kept_applied limits start n (calls judged p.functions fuel) (calls erased (map unmarked_function p.functions) fuel) (kept_calls limits start n p.functions fuel) fuel p.main [] p.main.line) (kept_main_left (frame_of p.main))

  pub erased_source : (fuel : ℕ) (p : Program) → entries (tape_of (source judged fuel p)) ≤ n → IsErased (source judged fuel p) (source erased fuel (unmarked p))
  erased_source fuel p = (kept_program fuel p).erases []
