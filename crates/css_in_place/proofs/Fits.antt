-- What a call is given that breaks no rule fits a task's record.
use Rattle.std.proofs.Common.{◌≡◌, ℕ, ◌+◌, ◌-◌, ◌≤◌, Bool, true, false, not, ◌&&◌, ◌||◌, ◌==◌, List, [], ◌∷◌, map, slice_index_or, All, refl, sym, ap, subst, ◌∙◌, arith}
use Rattle.std.specs.List.{list_any}
use Rattle.std.proofs.lemmas.Bool.{and_parts, or_parts, eqb-true, not-false}
use Rattle.std.proofs.lemmas.Bool.Decides.{nat_tests}
use Rattle.std.proofs.lemmas.List.Elements.{All-nil, All-cons, All-head, All-tail, All-weaker, All-map}
use Rattle.css_base.specs.declared.limits.Limits.{Limits}
use Rattle.css_semantics.specs.Dialogue.{Argument, Call, Calls, Tape}
use Rattle.css_semantics.specs.Memory.{is_between, memory_after}
use Rattle.css_semantics.specs.Flat.{FlatState}
use Rattle.css_semantics.specs.Tasks.{Window, Use, plain, window, use_of, writes, has_byte, is_same_window}
use Rattle.css_semantics.specs.Pending.{Object, pending}
use Rattle.css_semantics.specs.Rules.{overlap, overlaps_partly, has_alias, checks_of_main}
use Rattle.css_semantics.proofs.Apart.{none_of}
use Rattle.css_semantics.proofs.Checks.{are_kept, AreKept}
use Rattle.css_semantics.proofs.Windows.{window_by}
use Rattle.css_vm.specs.Code.{Code, call_of}
use Rattle.css_record.specs.Records.{AreGiven, AgreeInBytes, AllAgree, IsClearOfStack}
use Rattle.css_in_place.specs.InPlace.{IsAtCall}
use Rattle.css_vm.specs.Soundness.{AreParts}
use Rattle.css_in_place.proofs.CallWindows.{given_by_call}
use Rattle.css_in_place.proofs.Hits.{hit_in}
use Rattle.css_in_place.proofs.Given.{IsWindowed, is_windowed, or_left, or_right}
use Rattle.css_in_place.proofs.AtCall.{called, room_below}
use Rattle.css_in_place.proofs.Fronts.{clear_below}

same_window : (v w : Window) → is_same_window v w ≡ true → v ≡ w
same_window v w is =
    let base = and_parts (v.base == w.base) ((v.rows == w.rows) && ((v.width == w.width) && (v.stride == w.stride))) is in
    let rows = and_parts (v.rows == w.rows) ((v.width == w.width) && (v.stride == w.stride)) base.1 in
    let width = and_parts (v.width == w.width) (v.stride == w.stride) rows.1 in
    ap (λ n. let u : Window = record { base = n; rows = v.rows; width = v.width; stride = v.stride } in u) (eqb-true v.base w.base base.0)
    ∙ ap (λ n. let u : Window = record { base = w.base; rows = n; width = v.width; stride = v.stride } in u) (eqb-true v.rows w.rows rows.0)
    ∙ ap (λ n. let u : Window = record { base = w.base; rows = w.rows; width = n; stride = v.stride } in u) (eqb-true v.width w.width width.0)
    ∙ ap (λ n. let u : Window = record { base = w.base; rows = w.rows; width = w.width; stride = n } in u) (eqb-true v.stride w.stride width.1)

-- two of a call's windows that share a byte
agree_one : (a b : Argument) → overlap (window a) (window b) ≡ false → (is_same_window (window a) (window b) && (writes a.direction || writes b.direction)) ≡ false → AgreeInBytes (use_of a) (use_of b)
agree_one a b whole alone shared =
    let differ : not (is_same_window (window a) (window b)) ≡ false = ap (λ s. s && not (is_same_window (window a) (window b))) (sym shared) ∙ whole in
    let same = not-false (is_same_window (window a) (window b)) differ in
    let written : (writes a.direction || writes b.direction) ≡ false = ap (λ s. s && (writes a.direction || writes b.direction)) (sym same) ∙ alone in
    let parts = or_parts (writes a.direction) (writes b.direction) written in
    (same_window (window a) (window b) same, parts.0, parts.1)

abbrev Whole : List Argument → Argument → Type 0
Whole arguments a = All (λ b. overlap (window a) (window b) ≡ false) arguments

agree_all : (arguments : List Argument) → All (Whole arguments) arguments → has_alias arguments ≡ false → AllAgree (map use_of arguments)
agree_all [] whole fine = tt
agree_all (a ∷ rest) whole fine =
    let alias : Argument → Bool = λ b. is_same_window (window a) (window b) && (writes a.direction || writes b.direction) in
    let parts = or_parts (list_any alias rest) (has_alias rest) fine in
    let mine = All-tail (λ b. overlap (window a) (window b) ≡ false) a rest (All-head (Whole (a ∷ rest)) a rest whole) in
    let alone = none_of alias rest parts.0 in
    let others = All-weaker (Whole (a ∷ rest)) (Whole rest) (λ c h. All-tail (λ b. overlap (window c) (window b) ≡ false) a rest h) rest (All-tail (Whole (a ∷ rest)) a rest whole) in
    (All-map (AgreeInBytes (use_of a)) use_of rest (λ k d within. agree_one a (slice_index_or rest k d) (mine k d within) (alone k d within)), agree_all rest others parts.1)

whole_by : (objects : List Object) (arguments some : List Argument) → list_any (overlaps_partly objects arguments) some ≡ false → All (Whole arguments) some
whole_by objects arguments some none =
    All-weaker (λ a. overlaps_partly objects arguments a ≡ false) (Whole arguments)
    (λ a fine.
    none_of (λ b. overlap (window a) (window b)) arguments (or_parts (list_any (λ o. overlap (window a) o.window) objects) (list_any (λ b. overlap (window a) (window b)) arguments) fine).1)
    some (none_of (overlaps_partly objects arguments) some none)

-- windows none of whose bytes is one of a stack that ends at a place
clear_one : (place : ℕ) (u : Use) → ((a : ℕ) → has_byte u.window a ≡ true → is_between (place - 16384) place a ≡ false) → 16384 ≤ place → IsClearOfStack place u
clear_one place u out room = ap not (window_by (λ a. not (has_byte (plain (place - 16384) 16384) a)) u.window (λ a has. not_in a (out a has)))
  where
    not_in : (a : ℕ) → is_between (place - 16384) place a ≡ false → not (has_byte (plain (place - 16384) 16384) a) ≡ true
    not_in a is =
        let whole : place - 16384 + 16384 ≡ place = omega (arith, room) in
        rw (whole, is) refl

clear_all : (place : ℕ) (uses : List Use) → 16384 ≤ place → ((a : ℕ) → IsWindowed uses a → is_between (place - 16384) place a ≡ false) → All (IsClearOfStack place) uses
clear_all place [] room out = All-nil (IsClearOfStack place)
clear_all place (u ∷ uses) room out =
    All-cons (IsClearOfStack place) u uses (clear_one place u (λ a has. out a (or_left (has_byte u.window a) (is_windowed uses a) has)) room)
    (clear_all place uses room (λ a held. out a (or_right (has_byte u.window a) (is_windowed uses a) held)))

module _ (code : Code) (limits : Limits) (start : FlatState) (tape : Tape) (k : ℕ) (arguments : List ℕ) (line : ℕ) (uses : List Use) (place : ℕ) (at : IsAtCall code limits start tape k arguments line uses place) where
  abbrev call : Call
  call = call_of k at.routine at.shape arguments at.dimensions place

  kept : AreKept (checks_of_main (memory_after start.memory at.before) limits at.before (Calls call))
  kept = are_kept (checks_of_main (memory_after start.memory at.before) limits at.before (Calls call))
      (sym (ap (hit_in (memory_after start.memory at.before) limits at.before (Calls call)) at.by_main) ∙ at.allowed)

  pub call_agrees : AllAgree uses
  call_agrees = subst AllAgree (sym at.uses_are) (agree_all call.arguments (whole_by (pending at.before) call.arguments call.arguments kept.1.1.1.1.1.0) kept.1.1.1.1.1.1.0)

  pub has_room : 16384 ≤ place
  has_room = omega (arith, room_below code limits start tape k arguments line uses place at)

  pub call_is_clear : All (IsClearOfStack place) uses
  call_is_clear =
      let here = called code limits start tape k arguments line uses place at in
      clear_all place uses has_room (λ a held.
      clear_below (memory_after start.memory tape) place here.stack (room_below code limits start tape k arguments line uses place at) 16384 (omega arith) a (here.live a held))

  pub call_is_given : AreParts code at.shape.arguments at.routine.parameters
      → AreGiven at.shape.arguments at.routine.parameters call.scalars (map window call.arguments)
  call_is_given are = given_by_call code at.shape.arguments at.routine.parameters arguments at.dimensions are at.counts kept.1.1.0
