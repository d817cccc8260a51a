-- A task's stack as code keeps it.
use Rattle.std.proofs.Common.{◌≡◌, ℕ, ◌+◌, ◌-◌, ◌≤◌, ◌<◌, true, false, List, [], ◌∷◌, length, take, drop, set, get_or, refl, ap, sym, subst, ◌∙◌, arith, ◌==◌}
use Rattle.std.proofs.lemmas.Bool.{eq-eqb, ne_eqb}
use Rattle.std.proofs.lemmas.List.{length-drop, drop-drop, drop_all, drop-set, length-set}
use Rattle.css_base.specs.declared.ending.Stop.TheVariants as stops
use Rattle.css_base.specs.declared.rule.Rule.{Rule}
use Rattle.css_base.specs.declared.rule.Rule.TheVariants as rules
use Rattle.css_semantics.specs.Dialogue.{Enter, Leave, Load, Store, Reply, Says, Refuses}
use Rattle.css_semantics.specs.Memory.{big_endian, overlaid}
use Rattle.css_semantics.specs.Rules.{is_in_frame}
use Rattle.css_semantics.specs.Alone.{is_first, is_innermost}
use Rattle.css_semantics.specs.TaskSpaces.{TaskState, place_of, space_reply, space_after, total}
use Rattle.css_semantics.proofs.TaskBytes.{frame_in_stack}
use Rattle.css_semantics.proofs.TaskKept.{kept, place_is, loads_stack, enters_frame, passes_bytes, passes_calls, leaves_frame, keeps_frame}
use Rattle.css_vm.specs.Spaces.{IsRefusal}
use Rattle.css_vm.proofs.Entries.{drop_next}
use Rattle.css_task.specs.KeptStack.{IsStack}
use Rattle.css_task.proofs.Frames.{one_more, total_cons}
use Rattle.css_task.proofs.Stored.{stored_in_stack}

pub refused : (reply : Reply) (rule : Rule) → reply ≡ Refuses rule → IsRefusal reply (stops.Rule rule)
refused reply rule is = subst (λ r. IsRefusal r (stops.Rule rule)) (sym is) refl

-- ---- a stack

module _ (end start innermost : ℕ) (stack sizes : List ℕ) (is : IsStack end start innermost stack sizes) where
  abbrev here : TaskState
  here = kept end start innermost stack sizes []

  place : place_of here + 16384 ≡ end + start
  place = place_is end start innermost stack sizes [] is.sum is.long is.room

  pub place_end : place_of here + total (drop innermost sizes) ≡ end
  place_end = omega (arith, place, is.sum)

  -- what is in a frame is in the stack
  in_stack : (address count : ℕ) → is_in_frame end (drop innermost sizes) address count ≡ true → (place_of here ≤ address) × (address + count ≤ end)
  in_stack address count inside =
      let both = frame_in_stack end (drop innermost sizes) address count (omega (arith, is.sum, is.room)) inside in
      (omega (arith, both.0, place_end), both.1)

  module _ (s : TaskState) (view : here ≡ s) where
    pub place_now : place_of s + 16384 ≡ end + start
    place_now = ap (λ s. place_of s + 16384) (sym view) ∙ place

    -- a search through the frames from a place begins at the stack place
    pub frames_end : (first : ℕ) (frames : List ℕ) → first ≡ place_of s → frames ≡ drop innermost sizes → first + total frames ≡ end
    frames_end first frames at same = omega (arith, at, ap place_of view, ap total same, place_end)

    pub found : (first address count : ℕ) (frames : List ℕ) → first ≡ place_of s → frames ≡ drop innermost sizes → is_in_frame (first + total frames) frames address count ≡ true
        → (first ≤ address) × (address + count ≤ end) × (first + 16384 ≡ end + start)
    found first address count frames at same inside =
        let inside' : is_in_frame end (drop innermost sizes) address count ≡ true =
        ap (λ fs. is_in_frame end fs address count) (sym same) ∙ ap (λ e. is_in_frame e frames address count) (sym (frames_end first frames at same)) ∙ inside in
        let both = in_stack address count inside' in
        let first_is : first ≡ place_of here = at ∙ ap place_of (sym view) in
        (omega (arith, both.0, first_is), both.1, omega (arith, first_is, place))

    -- ---- loads and stores

    pub loads_from_stack : (address count index value : ℕ) → is_in_frame s.memory.place s.frames address count ≡ true → address + 16384 ≡ s.memory.place + index → 16384 ≤ index + length s.memory.stack → index + count ≤ 16384
        → value ≡ big_endian (take count (drop index stack)) → space_reply s (Load address count) ≡ Says value
    loads_from_stack = subst
        (λ s. (address count index value : ℕ) → is_in_frame s.memory.place s.frames address count ≡ true → address + 16384 ≡ s.memory.place + index → 16384 ≤ index + length s.memory.stack → index + count ≤ 16384
        → value ≡ big_endian (take count (drop index stack)) → space_reply s (Load address count) ≡ Says value)
        view
        (λ address count index value inside at above below value_is.
        loads_stack end start innermost stack sizes [] is.sum is.long is.room address count index value inside at (omega (arith, above, length-drop start stack, is.long)) below value_is)

    pub stores_in_stack : (address index : ℕ) (new written : List ℕ) → address + 16384 ≡ s.memory.place + index → 16384 ≤ index + length s.memory.stack → index + length new ≤ 16384 → written ≡ overlaid 0 stack index new
        → kept end start innermost written sizes [] ≡ space_after s (Store address new)
    stores_in_stack = subst
        (λ s. (address index : ℕ) (new written : List ℕ) → address + 16384 ≡ s.memory.place + index → 16384 ≤ index + length s.memory.stack → index + length new ≤ 16384 → written ≡ overlaid 0 stack index new
        → kept end start innermost written sizes [] ≡ space_after s (Store address new))
        view
        (λ address index new written at above below is_written.
        stored_in_stack end start innermost stack sizes is.sum is.long is.room address index new written at (omega (arith, above, length-drop start stack, is.long)) below is_written)

    -- ---- entries and leavings

    pub enters : (size base : ℕ) → size ≤ start → 1 ≤ innermost → base + size ≡ place_of s → space_reply s (Enter size) ≡ Says base
    enters = subst
        (λ s. (size base : ℕ) → size ≤ start → 1 ≤ innermost → base + size ≡ place_of s → space_reply s (Enter size) ≡ Says base)
        view
        (λ size base fits some at.
        enters_frame end start innermost stack sizes [] is.sum is.long is.room size fits (omega (arith, some, length-drop innermost sizes, is.many, is.within))
        ∙ ap Says (omega (arith, at)))

    pub too_many_bytes : (size : ℕ) → start < size → space_reply s (Enter size) ≡ Refuses rules.TaskStack
    too_many_bytes = subst (λ s. (size : ℕ) → start < size → space_reply s (Enter size) ≡ Refuses rules.TaskStack) view
        (λ size over. passes_bytes end start innermost stack sizes [] is.sum is.long is.room size (omega (arith, over)))

    pub too_many_calls : (size : ℕ) → innermost ≡ 0 → space_reply s (Enter size) ≡ Refuses rules.TaskStack
    too_many_calls = subst (λ s. (size : ℕ) → innermost ≡ 0 → space_reply s (Enter size) ≡ Refuses rules.TaskStack) view
        (λ size none. passes_calls end start innermost stack sizes [] is.sum is.long is.room size (omega (arith, none, length-drop innermost sizes, is.many)))

    first_is : (size : ℕ) → innermost < length sizes → is_first size (drop innermost sizes) ≡ (get_or sizes innermost 0 == size)
    first_is size within = rw (drop_next sizes innermost 0 within) refl

    -- the innermost frame is left
    pub leaves : (size : ℕ) → innermost < length sizes → get_or sizes innermost 0 ≡ size → is_innermost s.memory s.frames (place_of s) size ≡ true
    leaves = subst
        (λ s. (size : ℕ) → innermost < length sizes → get_or sizes innermost 0 ≡ size → is_innermost s.memory s.frames (place_of s) size ≡ true)
        view
        (λ size within same. leaves_frame end start innermost stack sizes [] is.sum is.long is.room size (first_is size within ∙ eq-eqb (get_or sizes innermost 0) size same))

    pub keeps_other : (size : ℕ) → innermost < length sizes → (get_or sizes innermost 0 ≡ size → ⊥) → is_innermost s.memory s.frames (place_of s) size ≡ false
    keeps_other = subst
        (λ s. (size : ℕ) → innermost < length sizes → (get_or sizes innermost 0 ≡ size → ⊥) → is_innermost s.memory s.frames (place_of s) size ≡ false)
        view
        (λ size within other. keeps_frame end start innermost stack sizes [] is.sum is.long is.room size (first_is size within ∙ ne_eqb (get_or sizes innermost 0) size other))

    pub keeps_none : (size : ℕ) → innermost ≡ 1024 → is_innermost s.memory s.frames (place_of s) size ≡ false
    keeps_none = subst (λ s. (size : ℕ) → innermost ≡ 1024 → is_innermost s.memory s.frames (place_of s) size ≡ false) view
        (λ size none. keeps_frame end start innermost stack sizes [] is.sum is.long is.room size (rw (drop_all innermost sizes (omega (arith, none, is.many))) refl))

    pub left_is : (size : ℕ) → is_innermost s.memory s.frames (place_of s) size ≡ true → kept end (start + size) (innermost + 1) stack sizes [] ≡ space_after s (Leave (place_of s) size)
    left_is = subst
        (λ s. (size : ℕ) → is_innermost s.memory s.frames (place_of s) size ≡ true → kept end (start + size) (innermost + 1) stack sizes [] ≡ space_after s (Leave (place_of s) size))
        view
        (λ size inner. rw (inner, drop-drop size start stack, drop-drop 1 innermost sizes) refl)

  -- ---- what holds afterwards

  pub after_stack : (written : List ℕ) → length written ≡ length stack → IsStack end start innermost written sizes
  after_stack written same = record {
    sum = is.sum;
    long = same ∙ is.long;
    within = is.within;
    many = is.many;
    room = is.room;
    small = is.small;
  }

  pub after_leaving : (size : ℕ) → innermost < length sizes → get_or sizes innermost 0 ≡ size → IsStack end (start + size) (innermost + 1) stack sizes
  after_leaving size inside same = record {
    sum = omega (arith, is.sum, one_more sizes innermost inside, same);
    long = is.long;
    within = omega (arith, inside, is.many);
    many = is.many;
    room = is.room;
    small = is.small;
  }

  pub after_entry : (size next : ℕ) (written : List ℕ) → size ≤ start → next + 1 ≡ innermost → length written ≡ length stack → IsStack end (start - size) next written (set sizes next size)
  after_entry size next written fits one same =
      let inside : next < length sizes = omega (arith, one, is.many, is.within) in
      let frames : drop next (set sizes next size) ≡ size ∷ drop innermost sizes = drop-set sizes next size inside ∙ ap (λ k. size ∷ drop k sizes) one in
      record {
        sum = omega (arith, is.sum, fits, ap total frames, total_cons size (drop innermost sizes));
        long = same ∙ is.long;
        within = omega (arith, one, is.within);
        many = length-set sizes next size ∙ is.many;
        room = is.room;
        small = is.small;
      }
