-- A typed program starts in a state in which programs start.
use Rattle.std.proofs.Common.{◌≡◌, ℕ, ◌+◌, ◌-◌, ◌≤◌, List, [], ◌∷◌, length, refl, sym, ◌∙◌, subst, arith}
use Rattle.std.proofs.lemmas.List.{length-replicate}
use Rattle.css_semantics.specs.declared.TheConstants.{STACK_LIMIT}
use Rattle.css_semantics.specs.Memory.{rounded_up, first_global, globals_end}
use Rattle.css_semantics.specs.Flat.{IsStart}
use Rattle.css_semantics.proofs.StackPlaces.{length-overlaid}
use Rattle.css_core.specs.Core.{Datum, Program}
use Rattle.css_core.specs.Starts.{first_bytes, no_frames, start_of}
use Rattle.css_core.specs.Typed.{IsTypedProgram}

length-first_bytes : (ds : List Datum) (size : ℕ) → length (first_bytes ds size) ≡ size
length-first_bytes [] size = length-replicate {A = ℕ} size 0
length-first_bytes (d ∷ ds) size = length-overlaid first_global (first_bytes ds size) d.address d.bytes ∙ length-first_bytes ds size

pub ends_there : (size : ℕ) (p : Program) → IsTypedProgram p → globals_end (no_frames size p) ≡ p.globals_end
ends_there size p typed = let long = length-first_bytes p.datums (p.globals_end - first_global) in let least = typed.globals in omega (arith, long, least)

pub starts : (size : ℕ) (input : List ℕ) (p : Program) → IsTypedProgram p → rounded_up 16 p.globals_end + STACK_LIMIT ≤ size → IsStart size (start_of size input p)
starts size input p typed room =
    let there : rounded_up 16 p.globals_end + 0 + STACK_LIMIT ≤ size = omega (arith, room) in
    record {
      laid_out = record { end = refl; limit = refl; room = subst (λ end. rounded_up 16 end + 0 + STACK_LIMIT ≤ size) (sym (ends_there size p typed)) there };
      stack = refl;
      calls = refl;
    }
