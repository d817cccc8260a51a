-- A flat memory in which the windows have the bytes of a task's memory.
use Rattle.std.proofs.Common.{subst, ◌≡◌, ℕ, zero, suc, ◌+◌, ◌-◌, ◌≤◌, Bool, true, false, ◌||◌, ◌&&◌, List, [], ◌∷◌, length, slice_index, refl, sym, ap, ◌∙◌, arith, if◌then◌else◌}
use Rattle.css_semantics.specs.Memory.{Memory, heap_top, stack_place, is_between, is_live_byte, byte_at, stored}
use Rattle.css_semantics.specs.Tasks.{Use, writes, has_byte, rows_have}
use Rattle.css_semantics.specs.WithWindow.{with_rows}
use Rattle.css_semantics.specs.Alone.{TaskMemory, task_byte, task_bytes, bytes_left, outs}
use Rattle.css_in_place.specs.InPlace.{written_back}
use Rattle.css_in_place.proofs.Bytes as bytes
use Rattle.css_in_place.proofs.TaskBytes.{between_parts}
use Rattle.css_in_place.proofs.Shapes.{SameShape, shape_self, shape_on, shape_stored, live_same, top_same, place_same, byte_stored, memory_same}
use Rattle.css_in_place.proofs.Given.{is_written}

-- the stack lies behind what is live below it
abbrev pub IsParted : Memory → Type 0
IsParted m = heap_top m ≤ stack_place m

module _ (tm : TaskMemory) where
  -- The memory has the task's bytes where a test holds, and elsewhere those of another one.
  pub record HasWritten (test : ℕ → Bool) (before m : Memory) : Type 0 where
    pub shape : SameShape m before
    pub byte : (a : ℕ) → is_live_byte before a ≡ true → byte_at m a ≡ (if test a then task_byte tm a else byte_at before a)

  none_written : (before : Memory) → HasWritten (λ a. false) before before
  none_written before = record { shape = shape_self before; byte = λ a live. refl }

  -- what is written later stands
  later_stands : (x y : Bool) (new between old : ℕ) → between ≡ (if x then new else old) → (if y then new else between) ≡ (if x || y then new else old)
  later_stands true true new between old is = refl
  later_stands true false new between old is = is
  later_stands false true new between old is = refl
  later_stands false false new between old is = is

  both_written : (first second : ℕ → Bool) (before m m' : Memory) → HasWritten first before m → HasWritten second m m' → HasWritten (λ a. first a || second a) before m'
  both_written first second before m m' one two = record {
    shape = shape_on m' m before two.shape one.shape;
    byte = λ a live.
        two.byte a (live_same m before one.shape a ∙ live)
        ∙ later_stands (first a) (second a) (task_byte tm a) (byte_at m a) (byte_at before a) (one.byte a live);
  }

  length_bytes : (address width : ℕ) → length (task_bytes tm address width) ≡ width
  length_bytes address width = bytes.length_bytes (task_bytes tm) (task_byte tm) (λ a. refl) (λ a w. refl) address width

  -- a byte behind a store of a row
  row_byte : (base width a old : ℕ) (h : Bool) → is_between base (base + width) a ≡ h
      → (if h then slice_index (task_bytes tm base width) (a - base) else old) ≡ (if h then task_byte tm a else old)
  row_byte base width a old false is = refl
  row_byte base width a old true is =
      let parts = between_parts base (base + width) a is in
      let at : base + (a - base) ≡ a = omega (arith, parts.0) in
      bytes.byte_of (task_bytes tm) (task_byte tm) (λ a. refl) (λ a w. refl) base width (a - base) (omega (arith, parts.0, parts.1)) ∙ ap (task_byte tm) at

  row_written : (base width : ℕ) (before : Memory) → HasWritten (is_between base (base + width)) before (stored before base (task_bytes tm base width))
  row_written base width before =
      let new = task_bytes tm base width in
      record {
        shape = shape_stored before base new;
        byte = λ a live.
            byte_stored before base new a live
            ∙ ap (λ n. if is_between base (base + n) a then slice_index new (a - base) else byte_at before a) (length_bytes base width)
            ∙ row_byte base width a (byte_at before a) (is_between base (base + width) a) refl;
      }

  rows_written : (rows base width stride : ℕ) (before : Memory) → HasWritten (rows_have rows base width stride) before (with_rows before rows base width stride (bytes_left tm rows base width stride))
  rows_written zero base width stride before = none_written before
  rows_written (suc rows) base width stride before =
      let rest = bytes_left tm rows (base + stride) width stride in
      let new = stored before base (task_bytes tm base width) in
      let later = rows_written rows (base + stride) width stride new in
      let first_is = bytes.take_bytes (task_bytes tm) (task_byte tm) (λ a. refl) (λ a w. refl) base width rest in
      let rest_is = bytes.drop_bytes (task_bytes tm) (task_byte tm) (λ a. refl) (λ a w. refl) base width rest in
      both_written (is_between base (base + width)) (rows_have rows (base + stride) width stride) before new
      (with_rows before (suc rows) base width stride (bytes_left tm (suc rows) base width stride)) (row_written base width before)
      (rw (first_is, rest_is) later)

  outs_more : (u : Use) (uses : List Use) → writes u.direction ≡ true → outs tm (u ∷ uses) ≡ bytes_left tm u.window.rows u.window.base u.window.width u.window.stride ∷ outs tm uses
  outs_more u uses is = rw is refl

  outs_same : (u : Use) (uses : List Use) → writes u.direction ≡ false → outs tm (u ∷ uses) ≡ outs tm uses
  outs_same u uses is = rw is refl

  -- a window that isn't written stays
  none_back : (m : Memory) (uses : List Use) → written_back m uses [] ≡ m
  none_back m [] = refl
  none_back m (u ∷ uses) = refl

  others_back : (m : Memory) (u : Use) (uses : List Use) (left : List (List ℕ)) → writes u.direction ≡ false → written_back m (u ∷ uses) left ≡ written_back m uses left
  others_back m u uses [] is = sym (none_back m uses)
  others_back m u uses (bytes ∷ left) is = rw is refl

  one_back : (m : Memory) (u : Use) (uses : List Use) (bytes : List ℕ) (left : List (List ℕ)) → writes u.direction ≡ true
      → written_back m (u ∷ uses) (bytes ∷ left) ≡ written_back (with_rows m u.window.rows u.window.base u.window.width u.window.stride bytes) uses left
  one_back m u uses bytes left is = rw is refl

  module _ (u : Use) (uses : List Use) (before : Memory) (later : (m : Memory) → HasWritten (is_written uses) m (written_back m uses (outs tm uses))) where
    use_written : (b : Bool) → writes u.direction ≡ b → HasWritten (is_written (u ∷ uses)) before (written_back before (u ∷ uses) (outs tm (u ∷ uses)))
    use_written true is =
        let w = u.window in
        let left = bytes_left tm w.rows w.base w.width w.stride in
        let mid = with_rows before w.rows w.base w.width w.stride left in
        let here : written_back before (u ∷ uses) (outs tm (u ∷ uses)) ≡ written_back mid uses (outs tm uses) =
        ap (λ left. written_back before (u ∷ uses) left) (outs_more u uses is) ∙ one_back before u uses left (outs tm uses) is in
        let test : ◌≡◌ {A = ℕ → Bool} (λ a. has_byte w a || is_written uses a) (is_written (u ∷ uses)) = ap (λ (b : Bool). λ (a : ℕ). (b && has_byte w a) || is_written uses a) (sym is) in
        subst (λ test. HasWritten test before (written_back before (u ∷ uses) (outs tm (u ∷ uses)))) test
        (both_written (rows_have w.rows w.base w.width w.stride) (is_written uses) before mid
        (written_back before (u ∷ uses) (outs tm (u ∷ uses))) (rows_written w.rows w.base w.width w.stride before) (subst (HasWritten (is_written uses) mid) (sym here) (later mid)))
    use_written false is =
        let here : written_back before (u ∷ uses) (outs tm (u ∷ uses)) ≡ written_back before uses (outs tm uses) =
        ap (λ left. written_back before (u ∷ uses) left) (outs_same u uses is) ∙ others_back before u uses (outs tm uses) is in
        let test : ◌≡◌ {A = ℕ → Bool} (is_written uses) (is_written (u ∷ uses)) = ap (λ (b : Bool). λ (a : ℕ). (b && has_byte u.window a) || is_written uses a) (sym is) in
        subst (λ test. HasWritten test before (written_back before (u ∷ uses) (outs tm (u ∷ uses)))) test
        (subst (HasWritten (is_written uses) before) (sym here) (later before))

  uses_written : (uses : List Use) (before : Memory) → HasWritten (is_written uses) before (written_back before uses (outs tm uses))
  uses_written [] before = none_written before
  uses_written (u ∷ uses) before = use_written u uses before (uses_written uses) (writes u.direction) refl

  -- it is the memory that has the task's bytes in the windows, and elsewhere those before
  pub written_is : (uses : List Use) (before after : Memory) → IsParted before → length before.stack ≤ before.end → SameShape after before
      → ((a : ℕ) → is_live_byte before a ≡ true → byte_at after a ≡ (if is_written uses a then task_byte tm a else byte_at before a))
      → written_back before uses (outs tm uses) ≡ after
  written_is uses before after parted short shape byte =
      let written = uses_written uses before in
      let m = written_back before uses (outs tm uses) in
      let top = top_same m before written.shape in
      let place = place_same m before written.shape in
      let same : SameShape m after = shape_on m before after written.shape (record {
        globals = sym shape.globals;
        heap = sym shape.heap;
        stack = sym shape.stack;
        end = sym shape.end;
        calls = sym shape.calls;
        limit = sym shape.limit;
      }) in
      memory_same m after same (omega (arith, top, place, parted)) (omega (arith, written.shape.stack, written.shape.end, short)) (λ a live.
      let before_live : is_live_byte before a ≡ true = sym (live_same m before written.shape a) ∙ live in
      written.byte a before_live ∙ sym (byte a before_live))
