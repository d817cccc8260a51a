-- Points of a dialogue, and images.
use Rattle.std.proofs.Common.{◌≡◌, ℕ, ◌==◌, ℤ, Bool, true, false, Option, Some, None, All, if◌then◌else◌, List, [], ◌∷◌, ◌++◌, map, refl, sym, ap, ap₂, ◌∙◌, subst, append_assoc}
use Rattle.std.specs.Prelude.{find}
use Rattle.std.proofs.lemmas.Option.{same_Some}
use Rattle.std.proofs.lemmas.List.{map-append}
use Rattle.std.proofs.lemmas.List.Elements.{All-append, All-from_recursion}
use Rattle.css_base.specs.declared.ending.Stop.TheVariants as stops
use Rattle.css_semantics.specs.Actions.{Directive, Starting, Finishing, AtBarrier, WaitingOn, NoDirective, directive_of}
use Rattle.css_semantics.specs.Dialogue.{Tape, Outcome, Goes, Stops, Stopped, Tired, tape_of}
use Rattle.css_semantics.specs.Memory.{Memory, image, memory_after}
use Rattle.css_semantics.specs.Tasks.{Window, is_started}
use Rattle.css_semantics.specs.Pending.{Object, pending}
use Rattle.css_semantics.specs.Verdict.{ImageKind, OfBarrier, OfFinish, OfWait, Image, bytes_of_window, images_at, images, Verdict, verdict}
use Rattle.css_semantics.specs.Plain.{plain}
use Rattle.css_semantics.specs.Erased.{IsPassed, IsErased}
use Rattle.css_semantics.specs.Points.{Point, points_at, points, erased_image}
use Rattle.css_semantics.proofs.PlainTapes.{plain_append, same_memory}

-- ---- points

-- what is erased has passed the whole plain tape
pub passed_all : {A : Type 0} (o q : Outcome A) → IsErased o q → IsPassed (tape_of o) (tape_of q)
passed_all (Goes value tape) q h = ([], ap tape_of h)
passed_all (Stops (Stopped (stops.Fault kind) line) tape) q h = ([], ap tape_of h)
passed_all (Stops (Stopped (stops.Rule rule) line) tape) q h = h
passed_all (Stops Tired tape) q h = h

-- so has what extends it, and so it has passed each older tape
pub passed_older : (whole newer tape erased : Tape) → whole ≡ newer ++ tape → IsPassed whole erased → IsPassed tape erased
passed_older whole newer tape erased e h =
    (h.0 ++ plain newer, h.1 ∙ ap (λ t. h.0 ++ t) (ap plain e ∙ plain_append newer tape) ∙ sym (append_assoc h.0 (plain newer) (plain tape)))

-- ---- images

abbrev image_with : ImageKind → ℕ → ℕ → List ℕ → Image
image_with kind line address bytes = record { kind = kind; line = line; address = address; bytes = bytes }

abbrev point_with : Tape → ImageKind → ℕ → ℕ → Option Window → Point
point_with tape kind line address window = record { before = tape; kind = kind; line = line; address = address; window = window }

module _ (start : Memory) where
  whole_images : (b : Bool) (kind : ImageKind) (line : ℕ) (tape : Tape)
      → (if b then image_with kind line 0 (image (memory_after start tape)) ∷ [] else []) ≡ map (erased_image start) (if b then point_with tape kind line 0 None ∷ [] else [])
  whole_images true kind line tape = ap (λ m. image_with kind line 0 (image m) ∷ []) (sym (same_memory start tape))
  whole_images false kind line tape = refl

  wait_images : (o : Option Object) (line address : ℕ) (tape : Tape)
      → elim o [ None ↦ [] | Some o ↦ image_with OfWait line address (bytes_of_window (memory_after start tape) o.window) ∷ [] ]
      ≡ map (erased_image start) (elim o [ None ↦ [] | Some o ↦ point_with tape OfWait line address (Some o.window) ∷ [] ])
  wait_images None line address tape = refl
  wait_images (Some o) line address tape = ap (λ m. image_with OfWait line address (bytes_of_window m o.window) ∷ []) (sym (same_memory start tape))

  images_here : (tape : Tape) (directive : Directive) (line : ℕ) → images_at start tape directive line ≡ map (erased_image start) (points_at tape directive line)
  images_here tape Starting line = refl
  images_here tape Finishing line = whole_images (is_started tape) OfFinish line tape
  images_here tape AtBarrier line = whole_images (is_started tape) OfBarrier line tape
  images_here tape (WaitingOn address) line = wait_images (find (λ (o : Object). o.window.base == address) (pending tape)) line address tape
  images_here tape NoDirective line = refl

  -- all images are those at the points, in order
  all_images : (tape : Tape) → images start tape ≡ map (erased_image start) (points tape)
  all_images [] = refl
  all_images (i ∷ tape) =
      ap₂ (λ xs ys. xs ++ ys) (all_images tape) (images_here tape (directive_of i.action) i.line)
      ∙ sym (map-append (erased_image start) (points tape) (points_at tape (directive_of i.action) i.line))

  pub verdict_images : (o : Outcome ℤ) (v : Verdict) → verdict start o ≡ Some v → v.images ≡ map (erased_image start) (points (tape_of o))
  verdict_images (Goes value tape) v e = subst (λ (x : Verdict). x.images ≡ map (erased_image start) (points tape)) (same_Some _ v e) (all_images tape)
  verdict_images (Stops (Stopped stop line) tape) v e = subst (λ (x : Verdict). x.images ≡ map (erased_image start) (points tape)) (same_Some _ v e) (all_images tape)
  verdict_images (Stops Tired tape) v e = cc

-- ---- the points of images

module _ (erased : Tape) where
  abbrev IsAlong : Point → Type 0
  IsAlong p = IsPassed p.before erased

  none_along : All IsAlong []
  none_along = All-from_recursion IsAlong [] tt

  one_along : (p : Point) → IsAlong p → All IsAlong (p ∷ [])
  one_along p h = All-from_recursion IsAlong (p ∷ []) (h, tt)

  whole_along : (b : Bool) (kind : ImageKind) (line : ℕ) (tape : Tape) → IsPassed tape erased → All IsAlong (if b then point_with tape kind line 0 None ∷ [] else [])
  whole_along true kind line tape h = one_along (point_with tape kind line 0 None) h
  whole_along false kind line tape h = none_along

  wait_along : (o : Option Object) (line address : ℕ) (tape : Tape) → IsPassed tape erased
      → All IsAlong (elim o [ None ↦ [] | Some o ↦ point_with tape OfWait line address (Some o.window) ∷ [] ])
  wait_along None line address tape h = none_along
  wait_along (Some o) line address tape h = one_along (point_with tape OfWait line address (Some o.window)) h

  along_here : (tape : Tape) (directive : Directive) (line : ℕ) → IsPassed tape erased → All IsAlong (points_at tape directive line)
  along_here tape Starting line h = none_along
  along_here tape Finishing line h = whole_along (is_started tape) OfFinish line tape h
  along_here tape AtBarrier line h = whole_along (is_started tape) OfBarrier line tape h
  along_here tape (WaitingOn address) line h = wait_along (find (λ (o : Object). o.window.base == address) (pending tape)) line address tape h
  along_here tape NoDirective line h = none_along

  pub all_along : (tape : Tape) → IsPassed tape erased → All IsAlong (points tape)
  all_along [] h = none_along
  all_along (i ∷ tape) h =
      let older = passed_older (i ∷ tape) (i ∷ []) tape erased refl h in
      All-append IsAlong (points tape) (points_at tape (directive_of i.action) i.line) (all_along tape older) (along_here tape (directive_of i.action) i.line older)
