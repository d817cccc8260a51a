-- How long the buffers are that a task makes and reads.
use Rattle.std.proofs.Common.{◌≡◌, ◌+◌, ◌*◌, ℕ, zero, suc, Bool, true, false, cond, List, [], ◌∷◌, ◌++◌, length, map, Some, refl, ◌∙◌, ap, ap₂, arith}
use Rattle.std.specs.List.{slice_get}
use Rattle.std.proofs.lemmas.List.{length-append}
use Rattle.std.proofs.Math.Nat.{suc-mul}
use Rattle.css_record.specs.declared.task_record.TaskRecord.{TaskRecord}
use Rattle.css_record.specs.Records.{uses}
use Rattle.css_semantics.specs.Tasks.{Use, window_length, writes}
use Rattle.css_semantics.specs.Alone.{TaskMemory, task_bytes, bytes_left, outs, alone_after, at_entry}
use Rattle.css_semantics.specs.Worlds.{state_after}
use Rattle.css_vm.specs.Code.{Routine, Shape, Code}
use Rattle.css_task.specs.Alone.{TaskOf, Outs, IsAlone}
use Rattle.css_task.proofs.OneTask.{comes_alone}
use Rattle.css_yard.specs.Yards.{written}
use Rattle.css_yard.proofs.OneEnd.{units_alone}
use Rattle.css_yard.proofs.Lists.{at_mapped, mapped_at}

task_bytes_length : (m : TaskMemory) (address width : ℕ) → length (task_bytes m address width) ≡ width
task_bytes_length m address zero = refl
task_bytes_length m address (suc width) = ap (λ n. suc n) (task_bytes_length m (address + 1) width)

left_length : (m : TaskMemory) (rows base width stride : ℕ) → length (bytes_left m rows base width stride) ≡ rows * width
left_length m zero base width stride = omega arith
left_length m (suc rows) base width stride =
    length-append (task_bytes m base width) (bytes_left m rows (base + stride) width stride)
    ∙ ap₂ (λ x y. x + y) (task_bytes_length m base width) (left_length m rows (base + stride) width stride)
    ∙ (let e : suc rows * width ≡ rows * width + width = suc-mul rows width in omega (arith, e))

-- what is left in one window that is written
abbrev out_of_use : TaskMemory → Use → List (List ℕ)
out_of_use m u = cond (writes u.direction) (bytes_left m u.window.rows u.window.base u.window.width u.window.stride ∷ []) []

abbrev lengths_of : List Use → List ℕ
lengths_of us = map (λ (u : Use). window_length u.window) us

one_length : (m : TaskMemory) (u : Use) (us : List Use) (others : List (List ℕ)) (b : Bool) → map length others ≡ lengths_of (written us)
    → map length (cond b (bytes_left m u.window.rows u.window.base u.window.width u.window.stride ∷ []) [] ++ others) ≡ lengths_of (cond b (u ∷ written us) (written us))
one_length m u us others true same = ap₂ (λ x xs. x ∷ xs) (left_length m u.window.rows u.window.base u.window.width u.window.stride) same
one_length m u us others false same = same

outs_lengths : (m : TaskMemory) (us : List Use) → map length (outs m us) ≡ lengths_of (written us)
outs_lengths m [] = refl
outs_lengths m (u ∷ us) = one_length m u us (outs m us) (writes u.direction) (outs_lengths m us)

-- The outs of a task are there, one for each window that it writes, and as long.
pub out_is_there : (code : Code) (r : TaskRecord) (f : Routine) (s : Shape) (inputs : List (List ℕ)) (units : ℕ) (made : List (List ℕ)) (out : ℕ) (u : Use) → TaskOf code r f s
    → IsAlone code r inputs units (Outs made) → slice_get (written (uses s r)) out ≡ Some u
    → (bytes : List ℕ) × (slice_get made out ≡ Some bytes) × (length bytes ≡ window_length u.window)
out_is_there code r f s inputs units made out u of alone is =
    let (n, cell, tape, goes, are) = comes_alone code r inputs units (Outs made) alone f s (units_alone units) of refl in
    let m : TaskMemory = (state_after alone_after (at_entry (uses s r) inputs r.stack_place) tape).memory in
    let lengths : map length made ≡ lengths_of (written (uses s r)) = ap (map length) are ∙ outs_lengths m (uses s r) in
    let at = mapped_at (λ (v : Use). window_length v.window) (written (uses s r)) out u is in
    let there = at_mapped (λ (bytes : List ℕ). length bytes) made out (window_length u.window) (ap (λ xs. slice_get xs out) lengths ∙ at) in
    there
