-- Windows of arguments, one after another.
use Rattle.std.proofs.Common.{◌≡◌, ℕ, zero, suc, ◌+◌, ◌≤◌, List, [], ◌∷◌, ◌++◌, length, map, take, slice_get, Some, refl, sym, ap, ◌∙◌, subst, arith}
use Rattle.css_semantics.specs.Tasks as tasks
use Rattle.css_record.specs.declared.window.Window as coded
use Rattle.css_record.specs.Windows.{window, IsWindow}
use Rattle.css_arguments.specs.declared.argument.Argument as code
use Rattle.css_arguments.specs.Arguments.{given, AreWindows}
use Rattle.css_arguments.specs.Lists.{Each}
use Rattle.css_arguments.proofs.Looking.{take_at}

pub record WindowsTo (arguments : List code.Argument) (place : ℕ) (windows : List coded.Window) : Type 0 where
  pub same : map window windows ≡ take place (map tasks.window (map given arguments))
  pub are : Each windows (λ w. IsWindow (window w))

place_last : {X : Type 0} (P : X → Type 0) (xs : List X) (x : X) → ((i : ℕ) (y : X) → slice_get xs i ≡ Some y → P y) → P x → (i : ℕ) (y : X) → slice_get (xs ++ x ∷ []) i ≡ Some y → P y
place_last P [] x all one zero y at = let same : x ≡ y = cc in subst P same one
place_last P [] x all one (suc i) y at = absurd (cc)
place_last P (z ∷ xs) x all one zero y at = all 0 y at
place_last P (z ∷ xs) x all one (suc i) y at = place_last P xs x (λ j u of_u. all (suc j) u of_u) one i y at

pub windows_begin : (arguments : List code.Argument) → WindowsTo arguments 0 []
windows_begin arguments = record { same = refl; are = λ i w at. absurd (cc) }

map-last : {X Y : Type 0} (f : X → Y) (xs : List X) (x : X) → map f (xs ++ x ∷ []) ≡ map f xs ++ f x ∷ []
map-last f [] x = refl
map-last f (y ∷ xs) x = ap (λ ys. f y ∷ ys) (map-last f xs x)

pub windows_next : (arguments : List code.Argument) (place : ℕ) (windows : List coded.Window) (w : coded.Window) → WindowsTo arguments place windows
    → slice_get (map tasks.window (map given arguments)) place ≡ Some (window w) → IsWindow (window w) → WindowsTo arguments (place + 1) (windows ++ w ∷ [])
windows_next arguments place windows w before at is_window = record {
  same = map-last window windows w ∙ ap (λ ws. ws ++ window w ∷ []) before.same ∙ sym (take_at (map tasks.window (map given arguments)) place (window w) at);
  are = place_last (λ (v : coded.Window). IsWindow (window v)) windows w before.are is_window;
}

take_over : {X : Type 0} (xs : List X) (i : ℕ) → length xs ≤ i → take i xs ≡ xs
take_over [] zero over = refl
take_over [] (suc i) over = refl
take_over (x ∷ xs) zero over = absurd (omega arith)
take_over (x ∷ xs) (suc i) over = ap (λ ys. x ∷ ys) (take_over xs i (omega arith))

pub windows_end : (arguments : List code.Argument) (place : ℕ) (windows : List coded.Window) → WindowsTo arguments place windows → length (map tasks.window (map given arguments)) ≤ place → AreWindows arguments windows
windows_end arguments place windows all over = record { same = all.same ∙ take_over (map tasks.window (map given arguments)) place over; are = all.are }
