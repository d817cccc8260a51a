-- What a task is given at its call: the bytes of each window, the memory's where the window is read.
use Rattle.std.proofs.Common.{map, Some, option_map, slice_get, ◌≡◌, ℕ, zero, suc, ◌+◌, ◌-◌, ◌*◌, ◌≤◌, Bool, true, false, ◌||◌, ◌&&◌, not, List, [], ◌∷◌, ◌++◌, length, take, drop, replicate, slice_index, refl, sym, ap, ap₂, subst, ◌∙◌, arith}
use Rattle.std.specs.List.{list_any}
use Rattle.std.proofs.Math.Nat.{zero-mul, suc-mul}
use Rattle.std.proofs.lemmas.Bool.{or_parts}
use Rattle.std.proofs.lemmas.List.{length-append, length-drop, length-replicate, length-take}
use Rattle.css_semantics.specs.Memory.{Memory, is_between, byte_at, bytes_at}
use Rattle.css_semantics.specs.Tasks.{Window, Use, reads, window_length, rows_have, has_byte}
use Rattle.css_semantics.specs.Verdict.{bytes_of_rows, bytes_of_window}
use Rattle.css_semantics.specs.Alone.{Region, is_in_region, byte_of_regions, rows_as_regions, regions_of, given_regions}
use Rattle.css_record.specs.Records.{read_windows, InputsFit}
use Rattle.css_in_place.specs.InPlace.{inputs_at}
use Rattle.css_in_place.proofs.Bytes as bytes
use Rattle.css_in_place.proofs.TaskBytes.{between_parts, is_in_regions}
use Rattle.css_in_place.proofs.Given.{IsWindowed, one_of_two, or_left, or_right, between_by}

-- a window of these that isn't read has the byte
abbrev pub is_unread : List Use → ℕ → Bool
is_unread uses a = list_any (λ u. not (reads u.direction) && has_byte u.window a) uses

-- ---- two lists of regions

in_first : (xs ys : List Region) (a : ℕ) → is_in_regions xs a ≡ true → is_in_regions (xs ++ ys) a ≡ true
in_first [] ys a held = absurd (cc)
in_first (x ∷ xs) ys a held =
    one_of_two (is_in_region x a) (is_in_regions xs a) held (λ here. or_left (is_in_region x a) (is_in_regions (xs ++ ys) a) here)
    (λ later. or_right (is_in_region x a) (is_in_regions (xs ++ ys) a) (in_first xs ys a later))

in_second : (xs ys : List Region) (a : ℕ) → is_in_regions ys a ≡ true → is_in_regions (xs ++ ys) a ≡ true
in_second [] ys a held = held
in_second (x ∷ xs) ys a held = or_right (is_in_region x a) (is_in_regions (xs ++ ys) a) (in_second xs ys a held)

-- ---- rows

row_length : (width others : ℕ) (bytes : List ℕ) → length bytes ≡ width + others → length (take width bytes) ≡ width
row_length width others bytes long = omega (arith, length-take width bytes, long)

-- so many bytes for each row
long_more : (rows width : ℕ) (bytes : List ℕ) → length bytes ≡ suc rows * width → length bytes ≡ width + rows * width
long_more rows width bytes long = omega (arith, long, suc-mul rows width)

module _ (a : ℕ) where
  -- a byte of the rows is one of their regions'
  rows_have_all : (rows base width stride : ℕ) (bytes : List ℕ) → length bytes ≡ rows * width → rows_have rows base width stride a ≡ true → is_in_regions (rows_as_regions rows base width stride bytes) a ≡ true
  rows_have_all zero base width stride bytes long held = absurd (cc)
  rows_have_all (suc rows) base width stride bytes long held =
      let more = long_more rows width bytes long in
      let r : Region = record { base = base; bytes = take width bytes } in
      let others = rows_as_regions rows (base + stride) width stride (drop width bytes) in
      one_of_two (is_between base (base + width) a) (rows_have rows (base + stride) width stride a) held
      (λ here. or_left (is_in_region r a) (is_in_regions others a) (ap (λ n. is_between base (base + n) a) (row_length width (rows * width) bytes more) ∙ here))
      (λ later. or_right (is_in_region r a) (is_in_regions others a) (rows_have_all rows (base + stride) width stride (drop width bytes) (omega (arith, length-drop width bytes, more)) later))

module _ (m : Memory) where
  length_bytes : (address width : ℕ) → length (bytes_at m address width) ≡ width
  length_bytes address width = bytes.length_bytes (bytes_at m) (byte_at m) (λ a. refl) (λ a w. refl) address width

  length_rows : (rows base width stride : ℕ) → length (bytes_of_rows m rows base width stride) ≡ rows * width
  length_rows zero base width stride = omega (arith, zero-mul width)
  length_rows (suc rows) base width stride =
      let rest = bytes_of_rows m rows (base + stride) width stride in
      omega (arith, length-append (bytes_at m base width) rest, length_bytes base width, length_rows rows (base + stride) width stride, suc-mul rows width)

  -- ---- bytes of regions

  module _ (a : ℕ) where
    -- the region has the memory's byte, if it has it
    abbrev Agrees : Region → Type 0
    Agrees r = is_in_region r a ≡ true → slice_index r.bytes (a - r.base) ≡ byte_at m a

    abbrev Agree : List Region → Type 0
    Agree [] = Unit {0}
    Agree (r ∷ regions) = Agrees r × Agree regions

    in_choice : (r : Region) (regions : List Region) (b : Bool) → is_in_region r a ≡ b → Agrees r → (is_in_region r a ≡ false → byte_of_regions regions a ≡ byte_at m a) → byte_of_regions (r ∷ regions) a ≡ byte_at m a
    in_choice r regions true is here later = rw is (here is)
    in_choice r regions false is here later = rw is (later is)

    region_byte : (regions : List Region) → Agree regions → is_in_regions regions a ≡ true → byte_of_regions regions a ≡ byte_at m a
    region_byte [] agree held = absurd (cc)
    region_byte (r ∷ regions) agree held =
        in_choice r regions (is_in_region r a) refl agree.0 (λ out. region_byte regions agree.1 (ap (λ b. b || is_in_regions regions a) (sym out) ∙ held))

    both_agree : (xs ys : List Region) → Agree xs → Agree ys → Agree (xs ++ ys)
    both_agree [] ys agree more = more
    both_agree (x ∷ xs) ys agree more = (agree.0, both_agree xs ys agree.1 more)

    abbrev row : (base width : ℕ) → Region
    row base width = record { base = base; bytes = bytes_at m base width }

    row_agrees : (base width : ℕ) → Agrees (row base width)
    row_agrees base width held =
        let parts = between_parts base (base + length (bytes_at m base width)) a held in
        let at : base + (a - base) ≡ a = omega (arith, parts.0) in
        bytes.byte_of (bytes_at m) (byte_at m) (λ a. refl) (λ a w. refl) base width (a - base) (omega (arith, parts.0, parts.1, length_bytes base width)) ∙ ap (byte_at m) at

    rows_more : (rows base width stride : ℕ) → rows_as_regions (suc rows) base width stride (bytes_of_rows m (suc rows) base width stride) ≡ row base width ∷ rows_as_regions rows (base + stride) width stride (bytes_of_rows m rows (base + stride) width stride)
    rows_more rows base width stride =
        let rest = bytes_of_rows m rows (base + stride) width stride in
        ap₂ (λ bytes others. let r : Region = record { base = base; bytes = bytes } in r ∷ rows_as_regions rows (base + stride) width stride others)
        (bytes.take_bytes (bytes_at m) (byte_at m) (λ a. refl) (λ a w. refl) base width rest) (bytes.drop_bytes (bytes_at m) (byte_at m) (λ a. refl) (λ a w. refl) base width rest)

    -- those with the memory's bytes
    rows_agree : (rows base width stride : ℕ) → Agree (rows_as_regions rows base width stride (bytes_of_rows m rows base width stride))
    rows_agree zero base width stride = tt
    rows_agree (suc rows) base width stride = subst Agree (sym (rows_more rows base width stride)) (row_agrees base width, rows_agree rows (base + stride) width stride)

    -- those that don't have the byte
    not_here : (base width : ℕ) (bytes : List ℕ) → length bytes ≤ width → is_between base (base + width) a ≡ false → Agrees (record { base = base; bytes = bytes })
    not_here base width bytes short out held =
        let parts = between_parts base (base + length bytes) a held in
        absurd (cc (between_by base (base + width) a parts.0 (omega (arith, parts.1, short)), out))

    rows_without : (rows base width stride : ℕ) (bytes : List ℕ) → rows_have rows base width stride a ≡ false → Agree (rows_as_regions rows base width stride bytes)
    rows_without zero base width stride bytes out = tt
    rows_without (suc rows) base width stride bytes out =
        let parts = or_parts (is_between base (base + width) a) (rows_have rows (base + stride) width stride a) out in
        (not_here base width (take width bytes) (omega (arith, length-take width bytes)) parts.0, rows_without rows (base + stride) width stride (drop width bytes) parts.1)

  -- ---- windows

  given_read : (u : Use) (uses : List Use) → reads u.direction ≡ true → given_regions (u ∷ uses) (inputs_at m (u ∷ uses)) ≡ regions_of u.window (bytes_of_window m u.window) ++ given_regions uses (inputs_at m uses)
  given_read u uses is = rw is refl

  given_unread : (u : Use) (uses : List Use) → reads u.direction ≡ false → given_regions (u ∷ uses) (inputs_at m (u ∷ uses)) ≡ regions_of u.window (replicate (window_length u.window) 0) ++ given_regions uses (inputs_at m uses)
  given_unread u uses is = rw is refl

  module _ (a : ℕ) where
    have_more : (u : Use) (uses : List Use) (bytes : List ℕ) (others : List Region) → length bytes ≡ window_length u.window → IsWindowed (u ∷ uses) a → (IsWindowed uses a → is_in_regions others a ≡ true)
        → is_in_regions (regions_of u.window bytes ++ others) a ≡ true
    have_more u uses bytes others long held later =
        let mine = regions_of u.window bytes in
        one_of_two (has_byte u.window a) (list_any (λ u. has_byte u.window a) uses) held
        (λ here. in_first mine others a (rows_have_all a u.window.rows u.window.base u.window.width u.window.stride bytes long here))
        (λ rest. in_second mine others a (later rest))

    -- each byte of a window is one of a region's
    pub given_have : (uses : List Use) → IsWindowed uses a → is_in_regions (given_regions uses (inputs_at m uses)) a ≡ true
    given_have [] held = absurd (cc)
    given_have (u ∷ uses) held = by_direction (given_have uses) (reads u.direction) refl
      where
        by_direction : (IsWindowed uses a → is_in_regions (given_regions uses (inputs_at m uses)) a ≡ true) → (b : Bool) → reads u.direction ≡ b → is_in_regions (given_regions (u ∷ uses) (inputs_at m (u ∷ uses))) a ≡ true
        by_direction later true is =
            subst (λ regions. is_in_regions regions a ≡ true) (sym (given_read u uses is))
            (have_more u uses (bytes_of_window m u.window) (given_regions uses (inputs_at m uses)) (length_rows u.window.rows u.window.base u.window.width u.window.stride) held later)
        by_direction later false is =
            subst (λ regions. is_in_regions regions a ≡ true) (sym (given_unread u uses is))
            (have_more u uses (replicate (window_length u.window) 0) (given_regions uses (inputs_at m uses)) (length-replicate {A = ℕ} (window_length u.window) 0) held later)

    given_agree : (uses : List Use) → is_unread uses a ≡ false → Agree a (given_regions uses (inputs_at m uses))
    given_agree [] out = tt
    given_agree (u ∷ uses) out = by_direction (given_agree uses parts.1) (reads u.direction) refl
      where
        parts : ((not (reads u.direction) && has_byte u.window a) ≡ false) × (is_unread uses a ≡ false)
        parts = or_parts (not (reads u.direction) && has_byte u.window a) (is_unread uses a) out

        by_direction : Agree a (given_regions uses (inputs_at m uses)) → (b : Bool) → reads u.direction ≡ b → Agree a (given_regions (u ∷ uses) (inputs_at m (u ∷ uses)))
        by_direction later true is =
            subst (Agree a) (sym (given_read u uses is))
            (both_agree a (regions_of u.window (bytes_of_window m u.window)) (given_regions uses (inputs_at m uses)) (rows_agree a u.window.rows u.window.base u.window.width u.window.stride) later)
        by_direction later false is =
            subst (Agree a) (sym (given_unread u uses is))
            (both_agree a (regions_of u.window (replicate (window_length u.window) 0)) (given_regions uses (inputs_at m uses))
            (rows_without a u.window.rows u.window.base u.window.width u.window.stride (replicate (window_length u.window) 0) (ap (λ b. not b && has_byte u.window a) (sym is) ∙ parts.0)) later)

    -- and has the memory's byte, where no window has it that isn't read
    pub given_byte : (uses : List Use) → IsWindowed uses a → is_unread uses a ≡ false → byte_of_regions (given_regions uses (inputs_at m uses)) a ≡ byte_at m a
    given_byte uses held out = region_byte a (given_regions uses (inputs_at m uses)) (given_agree uses out) (given_have uses held)

  -- ---- inputs

  lengths_are : (ws : List Window) → map length (map (bytes_of_window m) ws) ≡ map window_length ws
  lengths_are [] = refl
  lengths_are (w ∷ ws) = ap₂ (λ n ns. n ∷ ns) (length_rows w.rows w.base w.width w.stride) (lengths_are ws)

  input_is : (ws : List Window) (j : ℕ) (w : Window) → slice_get ws j ≡ Some w → slice_get (map (bytes_of_window m) ws) j ≡ Some (bytes_of_window m w)
  input_is [] j w at = absurd (cc)
  input_is (v ∷ ws) zero w at = ap (λ o. option_map (bytes_of_window m) o) at
  input_is (v ∷ ws) (suc j) w at = input_is ws j w at

  -- what the windows hold is as long as they are, and equal for equal windows
  pub inputs_fit : (uses : List Use) → InputsFit uses (inputs_at m uses)
  inputs_fit uses = record {
    lengths = lengths_are (read_windows uses);
    equal = λ j k w one other. input_is (read_windows uses) j w one ∙ sym (input_is (read_windows uses) k w other);
  }
