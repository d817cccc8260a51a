-- The task of a record that is made of a call is the call's: only the low bytes of arguments are stored, and a record has them.
use Rattle.std.proofs.Common.{All, ◌≤◌, subst, ◌≡◌, ℕ, zero, suc, ◌+◌, ◌*◌, ◌/◌, ◌%◌, ◌^◌, ℤ, Bool, true, false, List, [], ◌∷◌, ◌++◌, length, map, take, drop, Some, slice_get, refl, sym, ap, ap₂, ◌∙◌, arith, if◌then◌else◌}
use Rattle.std.proofs.lemmas.Nat.{mod-pow-add}
use Rattle.css_base.specs.declared.limits.Limits.{Limits}
use Rattle.css_semantics.specs.Dialogue.{Enter, Store, Tape, Argument, World, Outcome, Goes, Stops, then_do, ask}
use Rattle.css_semantics.specs.Memory.{Memory, big_endian_bytes, memory_after}
use Rattle.css_semantics.specs.Flat.{FlatState}
use Rattle.css_semantics.specs.Tasks.{Window, Use, window, window_of_dimensions, use_of}
use Rattle.css_semantics.specs.Alone.{alone_world, outs_after}
use Rattle.css_vm.specs.declared.code.ArgShape.{ArgShape}
use Rattle.css_vm.specs.declared.code.ArgShape.TheVariants as shapes
use Rattle.css_vm.specs.Code.{Routine, Code, scalars_of, pointers_of, narrowed_to, call_of}
use Rattle.css_vm.specs.Cells.{signed}
use Rattle.css_vm.specs.Machine.{Begin, At, On, stores, entered, step, go_on, exec, body_ends, frame_of, alone}
use Rattle.css_vm.specs.Soundness.{Spot, AreParts, IsSound}
use Rattle.css_record.specs.declared.task_record.TaskRecord.{TaskRecord}
use Rattle.css_record.specs.Windows as coded_windows
use Rattle.css_record.specs.Records as records
use Rattle.css_in_place.specs.InPlace.{IsBodyTape, IsAtCall, RunsAlike, behind, written_back, inputs_at}
use Rattle.css_in_place.proofs.Inputs.{inputs_fit}
use Rattle.css_in_place.proofs.Fits.{call_is_given, call_agrees, has_room, call_is_clear}
use Rattle.css_in_place.specs.Records.{IsOfCall, HasInputs, FitsAtCall, inputs_of, by_itself, RunsAsRecord}

-- ---- low bytes

-- so many bytes are those of the number's low ones
low_bytes : (width n : ℕ) → big_endian_bytes width (n % 2 ^ (8 * width)) ≡ big_endian_bytes width n
low_bytes zero n = refl
low_bytes (suc width) n =
    let rest = n / 256 % 2 ^ (8 * width) in
    let m = n % 2 ^ (8 * suc width) in
    let bits : 8 * suc width ≡ 8 * width + 8 = omega arith in
    let parts : m ≡ rest * 256 + n % 256 = ap (λ b. n % 2 ^ b) bits ∙ mod-pow-add n (8 * width) 8 in
    let high : m / 256 ≡ rest = omega (arith, parts) in
    let low : m % 256 ≡ n % 256 = omega (arith, parts) in
    ap₂ (λ bytes byte. bytes ++ byte ∷ []) (ap (big_endian_bytes width) high ∙ low_bytes width (n / 256)) low

then_same : {A B : Type 0} (o : Outcome A) (go go' : A → Tape → Outcome B) → ((a : A) (t : Tape) → go a t ≡ go' a t) → then_do o go ≡ then_do o go'
then_same (Goes a t) go go' same = same a t
then_same (Stops why t) go go' same = refl

module _ (w : World) where
  stores_low : (address : ℕ) (parameters arguments : List ℕ) (line : ℕ) (t : Tape) → stores w address parameters (narrowed_to parameters arguments) line t ≡ stores w address parameters arguments line t
  stores_low address [] arguments line t = refl
  stores_low address (width ∷ parameters) [] line t = refl
  stores_low address (width ∷ parameters) (a ∷ arguments) line t =
      ap (λ bytes. then_do (ask w (Store (address % 2 ^ 32) bytes) line t) (λ r t'. stores w (address + 8) parameters (narrowed_to parameters arguments) line t')) (low_bytes width a)
      ∙ then_same (ask w (Store (address % 2 ^ 32) (big_endian_bytes width a)) line t) (λ r t'. stores w (address + 8) parameters (narrowed_to parameters arguments) line t')
      (λ r t'. stores w (address + 8) parameters arguments line t') (λ r t'. stores_low (address + 8) parameters arguments line t')

  entered_low : (f : Routine) (arguments : List ℕ) (line : ℕ) (t : Tape) → entered w f (narrowed_to f.parameters arguments) line t ≡ entered w f arguments line t
  entered_low f arguments line t =
      then_same (ask w (Enter f.frame) line t) (λ base t'. then_do (stores w base f.parameters (narrowed_to f.parameters arguments) line t') (λ r t''. Goes base t''))
      (λ base t'. then_do (stores w base f.parameters arguments line t') (λ r t''. Goes base t''))
      (λ base t'. ap (λ o. then_do o (λ r t''. Goes base t'')) (stores_low base f.parameters arguments line t'))

  module _ (code : Code) (k : ℕ) (f : Routine) (is : slice_get code.functions k ≡ Some f) (arguments : List ℕ) (line : ℕ) where
    begun_low : (t : Tape) → step w code (Begin k (narrowed_to f.parameters arguments) line) t ≡ step w code (Begin k arguments line) t
    begun_low t =
        rw is (ap (λ o. then_do o (λ base t'. Goes (On (At (record { function = k; base = base; is_task = false }) [] 0 [])) t')) (entered_low f arguments line t))

    exec_low : (n : ℕ) (t : Tape) → exec w code n (Begin k (narrowed_to f.parameters arguments) line) t ≡ exec w code n (Begin k arguments line) t
    exec_low zero t = refl
    exec_low (suc n) t = ap (λ o. then_do o (go_on (exec w code n))) (begun_low t)

    -- only the low bytes of a body's arguments count
    alone_low : (n : ℕ) → alone w code k (narrowed_to f.parameters arguments) line n ≡ alone w code k arguments line n
    alone_low n = ap (λ o. then_do o (body_ends w (frame_of (slice_get code.functions k)))) (exec_low n [])

-- ---- what a record of a call has

no_uses : (parts : List ArgShape) → records.uses_by parts [] ≡ []
no_uses [] = refl
no_uses (shapes.Scalar ∷ parts) = no_uses parts
no_uses (shapes.Window direction element dims strides ∷ parts) = refl

uses_of_call : (parts : List ArgShape) (values dimensions : List ℕ) → records.uses_by parts (map window (pointers_of parts values dimensions)) ≡ map use_of (pointers_of parts values dimensions)
uses_of_call [] values dimensions = refl
uses_of_call (shapes.Scalar ∷ parts) [] dimensions = no_uses parts
uses_of_call (shapes.Scalar ∷ parts) (a ∷ values) dimensions = uses_of_call parts values dimensions
uses_of_call (shapes.Window direction element dims strides ∷ parts) [] dimensions = refl
uses_of_call (shapes.Window direction element dims strides ∷ parts) (a ∷ values) dimensions =
    let argument : Argument = record { base = a; element = element; dimensions = map signed (take dims dimensions); is_strided = strides; direction = direction } in
    ap (λ uses. use_of argument ∷ uses) (uses_of_call parts values (drop dims dimensions))

strided_base : (b : Bool) (v w : Window) → v.base ≡ w.base → (if b then v else w).base ≡ w.base
strided_base true v w same = same
strided_base false v w same = refl

-- a window begins where its pointer points to
window_base : (strides : Bool) (base element : ℕ) (dimensions : List ℤ) → (window_of_dimensions strides base element dimensions).base ≡ base
window_base true base element (rows ∷ width ∷ stride ∷ []) = strided_base _ _ _ refl
window_base strides base element dimensions = refl

arguments_of_call : (parts : List ArgShape) (values dimensions : List ℕ) → length values ≡ length parts
    → records.arguments_by parts (scalars_of parts values) (map window (pointers_of parts values dimensions)) ≡ values
arguments_of_call [] [] dimensions same = refl
arguments_of_call [] (a ∷ values) dimensions same = absurd (omega arith)
arguments_of_call (part ∷ parts) [] dimensions same = absurd (omega arith)
arguments_of_call (shapes.Scalar ∷ parts) (a ∷ values) dimensions same = ap (λ others. a ∷ others) (arguments_of_call parts values dimensions (omega arith))
arguments_of_call (shapes.Window direction element dims strides ∷ parts) (a ∷ values) dimensions same =
    ap₂ (λ base others. base ∷ others) (window_base strides a element _) (arguments_of_call parts values (drop dims dimensions) (omega arith))

parts_length : (code : Code) (parts : List ArgShape) (parameters : List ℕ) → AreParts code parts parameters → length parts ≡ length parameters
parts_length code [] [] are = refl
parts_length code [] (width ∷ parameters) are = absurd are
parts_length code (part ∷ parts) [] are = absurd are
parts_length code (part ∷ parts) (width ∷ parameters) are = ap suc (parts_length code parts parameters are.1)

narrowed_length : (parameters arguments : List ℕ) → length arguments ≡ length parameters → length (narrowed_to parameters arguments) ≡ length parameters
narrowed_length [] arguments same = refl
narrowed_length (width ∷ parameters) [] same = absurd (omega arith)
narrowed_length (width ∷ parameters) (a ∷ arguments) same = ap suc (narrowed_length parameters arguments (omega arith))

-- ---- the task of a record

module _ (code : Code) (plans : List (List Spot)) (sound : IsSound code plans) (limits : Limits) (start : FlatState) (tape : Tape) (k : ℕ) (arguments : List ℕ) (line : ℕ) (uses : List Use) (place : ℕ) (at : IsAtCall code limits start tape k arguments line uses place)
    (r : TaskRecord) (of_call : IsOfCall r (call_of k at.routine at.shape arguments at.dimensions place) line) where
  abbrev m : Memory
  m = memory_after start.memory tape

  abbrev values : List ℕ
  values = narrowed_to at.routine.parameters arguments

  same_uses : records.uses at.shape r ≡ uses
  same_uses =
      ap (records.uses_by at.shape.arguments) of_call.windows
      ∙ uses_of_call at.shape.arguments values at.dimensions
      ∙ sym at.uses_are

  same_arguments : records.arguments at.shape r ≡ values
  same_arguments =
      ap₂ (records.arguments_by at.shape.arguments) of_call.scalars of_call.windows
      ∙ arguments_of_call at.shape.arguments values at.dimensions
      (narrowed_length at.routine.parameters arguments at.counts ∙ sym (parts_length code at.shape.arguments at.routine.parameters (sound.shapes k at.routine at.shape at.function at.task).1))

  same_task : (n : ℕ) → by_itself code limits start tape at.shape r n ≡ alone (alone_world limits uses (inputs_at m uses) place) code k arguments line n
  same_task n =
      ap (λ us. alone (alone_world limits us (inputs_at m us) r.stack_place) code r.function (records.arguments at.shape r) r.line n) same_uses
      ∙ ap (λ p. alone (alone_world limits uses (inputs_at m uses) p) code r.function (records.arguments at.shape r) r.line n) of_call.place
      ∙ ap (λ j. alone (alone_world limits uses (inputs_at m uses) place) code j (records.arguments at.shape r) r.line n) of_call.function
      ∙ ap (λ all. alone (alone_world limits uses (inputs_at m uses) place) code k all r.line n) same_arguments
      ∙ ap (λ l. alone (alone_world limits uses (inputs_at m uses) place) code k values l n) of_call.line
      ∙ alone_low (alone_world limits uses (inputs_at m uses) place) code k at.routine at.function arguments line n

  same_outs : (t : Tape) → outs_after (records.uses at.shape r) (inputs_of start tape at.shape r) r.stack_place t ≡ outs_after uses (inputs_at m uses) place t
  same_outs t = ap (λ us. outs_after us (inputs_at m us) r.stack_place t) same_uses ∙ ap (λ p. outs_after uses (inputs_at m uses) p t) of_call.place

  -- a record of a call fits its code
  pub fits_at_call : HasInputs at.shape r → FitsAtCall code start tape at.shape r
  fits_at_call count = record {
    fits = record {
      routine = at.routine;
      shape = at.shape;
      function = ap (slice_get code.functions) of_call.function ∙ at.function;
      task = at.task;
      high = of_call.high;
      given = subst (λ scalars. records.AreGiven at.shape.arguments at.routine.parameters scalars (map coded_windows.window r.windows.items)) (sym of_call.scalars)
          (subst (records.AreGiven at.shape.arguments at.routine.parameters (scalars_of at.shape.arguments values)) (sym of_call.windows)
          (call_is_given code limits start tape k arguments line uses place at (sound.shapes k at.routine at.shape at.function at.task).1));
      agree = subst records.AllAgree (sym same_uses) (call_agrees code limits start tape k arguments line uses place at);
      place = subst (λ p. 16384 ≤ p) (sym of_call.place) (has_room code limits start tape k arguments line uses place at);
      clear = subst (λ p. All (records.IsClearOfStack p) (records.uses at.shape r)) (sym of_call.place)
          (subst (All (records.IsClearOfStack place)) (sym same_uses) (call_is_clear code limits start tape k arguments line uses place at));
      inputs = count;
    };
    inputs = inputs_fit m (records.uses at.shape r);
  }

  -- a call's body runs as the task of its record
  pub as_record : RunsAlike code limits start tape k arguments line uses place → RunsAsRecord code limits start tape k arguments line at.shape r
  as_record alike = record {
    dialogue = λ n. alike.dialogue n ∙ ap (λ o. behind o tape) (sym (same_task n));
    memory = λ n cell t is.
        alike.memory n cell t (sym (same_task n) ∙ is)
        ∙ ap₂ (written_back m) (sym same_uses) (sym (same_outs t));
    tape_is = λ n. subst IsBodyTape (sym (same_task n)) (alike.tape_is n);
  }
