-- What a record that fits its code says of its windows and its arguments.
use Rattle.std.proofs.Common.{◌≡◌, ℕ, suc, List, [], ◌∷◌, length, All, refl, ap, arith}
use Rattle.css_semantics.specs.Tasks.{Window, Use}
use Rattle.css_semantics.proofs.TaskWorlds.{all_cons}
use Rattle.css_vm.specs.declared.code.ArgShape.{ArgShape}
use Rattle.css_vm.specs.declared.code.ArgShape.TheVariants as shapes
use Rattle.css_record.specs.Windows.{IsWindow}
use Rattle.css_record.specs.Records.{AreGiven, uses_by, arguments_by}
use Rattle.css_task.specs.Placing.{AreWindows}

pub are_windows : (parts : List ArgShape) (parameters scalars : List ℕ) (windows : List Window) → AreGiven parts parameters scalars windows → AreWindows parts windows
are_windows [] [] [] [] given = tt
are_windows [] [] [] (w ∷ windows) given = absurd given
are_windows [] [] (v ∷ scalars) windows given = absurd given
are_windows [] (p ∷ parameters) scalars windows given = absurd given
are_windows (shapes.Scalar ∷ parts) [] scalars windows given = absurd given
are_windows (shapes.Scalar ∷ parts) (p ∷ parameters) [] windows given = absurd given
are_windows (shapes.Scalar ∷ parts) (p ∷ parameters) (v ∷ scalars) windows given = are_windows parts parameters scalars windows given.1
are_windows (shapes.Window d e n s ∷ parts) [] scalars windows given = absurd given
are_windows (shapes.Window d e n s ∷ parts) (p ∷ parameters) scalars [] given = absurd given
are_windows (shapes.Window d e n s ∷ parts) (p ∷ parameters) scalars (w ∷ windows) given = (given.0, are_windows parts parameters scalars windows given.1)

pub uses_are_windows : (parts : List ArgShape) (windows : List Window) → AreWindows parts windows → All (λ u. IsWindow u.window) (uses_by parts windows)
uses_are_windows [] [] given = λ k d within. absurd (omega (arith, within))
uses_are_windows [] (w ∷ windows) given = absurd given
uses_are_windows (shapes.Scalar ∷ parts) windows given = uses_are_windows parts windows given
uses_are_windows (shapes.Window d e n s ∷ parts) [] given = absurd given
uses_are_windows (shapes.Window d e n s ∷ parts) (w ∷ windows) given =
    all_cons (λ (u : Use). IsWindow u.window) (record { window = w; direction = d }) (uses_by parts windows) given.0 (uses_are_windows parts windows given.1)

pub length-arguments : (parts : List ArgShape) (parameters scalars : List ℕ) (windows : List Window) → AreGiven parts parameters scalars windows → length (arguments_by parts scalars windows) ≡ length parameters
length-arguments [] [] [] [] given = refl
length-arguments [] [] [] (w ∷ windows) given = absurd given
length-arguments [] [] (v ∷ scalars) windows given = absurd given
length-arguments [] (p ∷ parameters) scalars windows given = absurd given
length-arguments (shapes.Scalar ∷ parts) [] scalars windows given = absurd given
length-arguments (shapes.Scalar ∷ parts) (p ∷ parameters) [] windows given = absurd given
length-arguments (shapes.Scalar ∷ parts) (p ∷ parameters) (v ∷ scalars) windows given = ap suc (length-arguments parts parameters scalars windows given.1)
length-arguments (shapes.Window d e n s ∷ parts) [] scalars windows given = absurd given
length-arguments (shapes.Window d e n s ∷ parts) (p ∷ parameters) scalars [] given = absurd given
length-arguments (shapes.Window d e n s ∷ parts) (p ∷ parameters) scalars (w ∷ windows) given = ap suc (length-arguments parts parameters scalars windows given.1)
