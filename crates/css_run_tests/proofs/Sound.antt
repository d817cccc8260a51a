-- The tests' code is sound.
use Rattle.std.proofs.Common.{ℤ, List, [], ◌∷◌, refl}
use Rattle.css_vm.specs.Soundness.{Spot, IsSound}
use Rattle.css_vm.proofs.Checked.{spot, fits_by}
use Rattle.css_run_tests.specs.Tasks.{adding, with_task, task_code}

abbrev main_plan : List Spot
main_plan = spot 0 1 ∷ spot 1 0 ∷ []

pub adding_sound : (offset : ℤ) → (plans : List (List Spot)) × IsSound (with_task (adding offset)) plans
adding_sound offset =
    let plan : List Spot = spot 0 11 ∷ spot 1 10 ∷ spot 1 9 ∷ spot 2 8 ∷ spot 1 7 ∷ spot 2 6 ∷ spot 2 5 ∷ spot 3 4 ∷ spot 2 3 ∷ spot 1 2 ∷ spot 0 1 ∷ spot 1 0 ∷ [] in
    let fits = fits_by (with_task (adding offset)) (main_plan ∷ plan ∷ []) 1 refl in
    (fits.0, fits.1)

pub task_sound : (plans : List (List Spot)) × IsSound task_code plans
task_sound =
    let plan : List Spot = spot 0 7 ∷ spot 1 6 ∷ spot 1 5 ∷ spot 2 4 ∷ spot 3 3 ∷ spot 3 2 ∷ spot 2 1 ∷ spot 1 0 ∷ [] in
    let fits = fits_by task_code (main_plan ∷ plan ∷ []) 1 refl in
    (fits.0, fits.1)
