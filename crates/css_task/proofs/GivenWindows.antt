-- A task's windows as they are given one by one.
use Rattle.std.proofs.Common.{◌≡◌, ◌≤◌, ℕ, Bool, true, false, List, [], ◌∷◌, ◌++◌, length, drop, replicate, refl, ap, sym, subst, ◌∙◌, append_assoc, arith, if◌then◌else◌}
use Rattle.std.proofs.lemmas.List.{length-append, length-replicate}
use Rattle.std.proofs.lemmas.Option.{slice_get_within}
use Rattle.css_base.specs.declared.direction.Direction.{Direction}
use Rattle.css_vm.specs.declared.code.ArgShape.{ArgShape}
use Rattle.css_vm.specs.declared.code.ArgShape.TheVariants as shapes
use Rattle.css_record.specs.declared.window.Window as coded
use Rattle.css_record.specs.Windows.{window}
use Rattle.css_semantics.specs.Tasks.{Window, Use, window_length, reads}
use Rattle.css_semantics.specs.Alone.{first_input}
use Rattle.css_record.specs.Records.{InputsFit, uses_by}
use Rattle.css_task.specs.declared.placed.Placed.{Placed}
use Rattle.css_task.specs.Cells.{addresses}
use Rattle.css_task.specs.Placing.{uses_of, AreWindows}
use Rattle.css_task.specs.GivenBytes.{given_bytes, own_bytes, other_inputs}
use Rattle.css_task.proofs.Placing.{StandFrom, stand_more, uses_append, length_more}
use Rattle.css_task.proofs.Entering.{reads_first, reads_none}

module _ (u : Use) (uses : List Use) (inputs : List (List ℕ)) (fit : InputsFit (u ∷ uses) inputs) where
  pub some_input : reads u.direction ≡ true → 1 ≤ length inputs
  some_input is = slice_get_within inputs 0 (first_input inputs) (reads_first u uses inputs is fit).first

  rest_by : (b : Bool) → reads u.direction ≡ b → InputsFit uses (if b then drop 1 inputs else inputs)
  rest_by true is = (reads_first u uses inputs is fit).rest
  rest_by false is = reads_none u uses inputs is fit

  pub rest_fit : InputsFit uses (other_inputs u.direction inputs)
  rest_fit = rest_by (reads u.direction) refl

  long_by : (b : Bool) → reads u.direction ≡ b → length (if b then first_input inputs else replicate (window_length u.window) 0) ≡ window_length u.window
  long_by true is = (reads_first u uses inputs is fit).long
  long_by false is = length-replicate {A = ℕ} (window_length u.window) 0

  pub own_long : length (own_bytes u.direction u.window inputs) ≡ window_length u.window
  own_long = long_by (reads u.direction) refl

  bytes_by : (b : Bool) → (if b then first_input inputs ++ given_bytes uses (drop 1 inputs) else replicate (window_length u.window) 0 ++ given_bytes uses inputs)
      ≡ (if b then first_input inputs else replicate (window_length u.window) 0) ++ given_bytes uses (if b then drop 1 inputs else inputs)
  bytes_by true = refl
  bytes_by false = refl

  pub own_first : given_bytes (u ∷ uses) inputs ≡ own_bytes u.direction u.window inputs ++ given_bytes uses (other_inputs u.direction inputs)
  own_first = bytes_by (reads u.direction)

-- what is placed, and what is left: other parts, other windows, and other inputs
pub record SoFar (parts : List ArgShape) (windows : List Window) (inputs : List (List ℕ)) (all : List Placed) (bytes : List ℕ) (us : List Use) (whole : List ℕ) : Type 0 where
  pub given : AreWindows parts windows
  pub fit : InputsFit (uses_by parts windows) inputs
  pub uses_are : uses_of all ++ uses_by parts windows ≡ us
  pub bytes_are : bytes ++ given_bytes (uses_by parts windows) inputs ≡ whole
  pub stand : StandFrom 0 all
  pub long : length bytes ≡ length (addresses (uses_of all))

pub scalar_step : (parts rest : List ArgShape) (windows : List Window) (inputs : List (List ℕ)) (all : List Placed) (bytes : List ℕ) (us : List Use) (whole : List ℕ)
    → parts ≡ shapes.Scalar ∷ rest → SoFar parts windows inputs all bytes us whole → SoFar rest windows inputs all bytes us whole
scalar_step parts rest windows inputs all bytes us whole is so_far =
    let here = subst (λ parts. SoFar parts windows inputs all bytes us whole) is so_far in
    record { given = here.given; fit = here.fit; uses_are = here.uses_are; bytes_are = here.bytes_are; stand = here.stand; long = here.long }

module _ (d : Direction) (e : ℕ) (n : ℕ) (s : Bool) (rest : List ArgShape) (w : coded.Window) (others : List Window) (inputs : List (List ℕ)) (all : List Placed) (bytes : List ℕ) (us : List Use) (whole : List ℕ)
    (so_far : SoFar (shapes.Window d e n s ∷ rest) (window w ∷ others) inputs all bytes us whole) where
  abbrev u : Use
  u = record { window = window w; direction = d }

  placed_step : (first : ℕ) → first ≡ length bytes
      → SoFar rest others (other_inputs d inputs) (all ++ record { window = w; direction = d; first = first } ∷ []) (bytes ++ own_bytes d (window w) inputs) us whole
  placed_step first is =
      let p : Placed = record { window = w; direction = d; first = first } in
      let own = own_bytes d (window w) inputs in
      record {
        given = so_far.given.1;
        fit = rest_fit u (uses_by rest others) inputs so_far.fit;
        uses_are = ap (λ xs. xs ++ uses_by rest others) (uses_append all (p ∷ [])) ∙ append_assoc (uses_of all) (u ∷ []) (uses_by rest others) ∙ so_far.uses_are;
        bytes_are = append_assoc bytes own (given_bytes (uses_by rest others) (other_inputs d inputs)) ∙ ap (λ xs. bytes ++ xs) (sym (own_first u (uses_by rest others) inputs so_far.fit)) ∙ so_far.bytes_are;
        stand = stand_more 0 all p so_far.stand (omega (arith, is, so_far.long)) so_far.given.0;
        long = omega (
          arith,
          so_far.long,
          length-append bytes own,
          own_long u (uses_by rest others) inputs so_far.fit,
          ap (λ us. length (addresses us)) (uses_append all (p ∷ [])),
          length_more (uses_of all) u,
        );
      }

pub window_step : (parts : List ArgShape) (d : Direction) (e n : ℕ) (s : Bool) (rest : List ArgShape) (w : coded.Window) (windows others : List Window) (inputs inputs' : List (List ℕ)) (all all' : List Placed) (bytes bytes' : List ℕ) (us : List Use) (whole : List ℕ) (first : ℕ)
    → parts ≡ shapes.Window d e n s ∷ rest → windows ≡ window w ∷ others → inputs' ≡ other_inputs d inputs → all' ≡ all ++ record { window = w; direction = d; first = first } ∷ [] → bytes' ≡ bytes ++ own_bytes d (window w) inputs
    → first ≡ length bytes → SoFar parts windows inputs all bytes us whole → SoFar rest others inputs' all' bytes' us whole
window_step parts d e n s rest w windows others inputs inputs' all all' bytes bytes' us whole first parts_is windows_is inputs_is all_is bytes_is first_is so_far =
    let here = subst (λ parts. SoFar parts (window w ∷ others) inputs all bytes us whole) parts_is (subst (λ ws. SoFar parts ws inputs all bytes us whole) windows_is so_far) in
    rw (inputs_is, all_is, bytes_is) (placed_step d e n s rest w others inputs all bytes us whole here first first_is)
