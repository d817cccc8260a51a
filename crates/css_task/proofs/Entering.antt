-- Before a task's entry: the bytes that it is given, which agree wherever its windows share an address.
use Rattle.std.proofs.Common.{◌≡◌, ℕ, suc, ◌+◌, ◌-◌, ◌<◌, ◌≤◌, Bool, true, false, not, List, [], ◌∷◌, ◌++◌, length, drop, replicate, map, filter, slice_get, slice_index, All, Some, ◌⊎◌, inl, inr, refl, ap, sym, ◌∙◌, arith, if◌then◌else◌}
use Rattle.std.proofs.lemmas.Bool.{cases_lt}
use Rattle.std.proofs.lemmas.Bool.Decides.{nat_tests}
use Rattle.std.proofs.lemmas.List.{length-append, length-replicate, get_or_append_left, get_or-append-add}
use Rattle.std.proofs.lemmas.Option.{slice_get_within}
use Rattle.css_base.specs.declared.direction.Direction.{Direction}
use Rattle.css_base.specs.declared.direction.Direction.TheVariants as directions
use Rattle.css_semantics.specs.Tasks.{Window, Use, plain, window_length, has_byte, reads, writes}
use Rattle.css_semantics.specs.Memory.{is_between}
use Rattle.css_semantics.specs.Rules.{share_byte}
use Rattle.css_semantics.specs.Alone.{first_input}
use Rattle.css_semantics.proofs.Windows.{apart_gives}
use Rattle.css_semantics.proofs.TaskWorlds.{all_head, all_tail}
use Rattle.css_record.specs.Windows.{IsWindow}
use Rattle.css_record.specs.Records.{AgreeInBytes, AllAgree, InputsFit, IsClearOfStack, read_windows}
use Rattle.css_task.specs.Cells.{window_addresses, addresses, flags}
use Rattle.css_task.specs.Keeping.{is_fixed, IsFixed, Agree}
use Rattle.css_task.specs.GivenBytes.{given_bytes}
use Rattle.css_task.proofs.Rows.{get-left, get-behind, has_found, one_offset}
use Rattle.css_task.proofs.Found.{length-window, replicate_at}

-- ---- inputs

windows_read : (u : Use) (uses : List Use) → reads u.direction ≡ true → read_windows (u ∷ uses) ≡ u.window ∷ read_windows uses
windows_read u uses is = ap (λ b. map (λ (u : Use). u.window) (if b then u ∷ filter (λ (u : Use). reads u.direction) uses else filter (λ (u : Use). reads u.direction) uses)) is

windows_not : (u : Use) (uses : List Use) → reads u.direction ≡ false → read_windows (u ∷ uses) ≡ read_windows uses
windows_not u uses is = ap (λ b. map (λ (u : Use). u.window) (if b then u ∷ filter (λ (u : Use). reads u.direction) uses else filter (λ (u : Use). reads u.direction) uses)) is

-- the inputs of the windows behind one that is read, and its own
pub record Reads (u : Use) (uses : List Use) (inputs : List (List ℕ)) : Type 0 where
  pub long : length (first_input inputs) ≡ window_length u.window
  pub first : slice_get inputs 0 ≡ Some (first_input inputs)
  pub rest : InputsFit uses (drop 1 inputs)
  pub equal : (m : ℕ) → slice_get (read_windows uses) m ≡ Some u.window → slice_get (drop 1 inputs) m ≡ Some (first_input inputs)

pub reads_first : (u : Use) (uses : List Use) (inputs : List (List ℕ)) → reads u.direction ≡ true → InputsFit (u ∷ uses) inputs → Reads u uses inputs
reads_first u uses [] is fit =
    let lengths : [] ≡ window_length u.window ∷ map window_length (read_windows uses) = fit.lengths ∙ ap (map window_length) (windows_read u uses is) in
    absurd (cc lengths)
reads_first u uses (bytes ∷ inputs) is fit =
    let ws = windows_read u uses is in
    let lengths : length bytes ∷ map length inputs ≡ window_length u.window ∷ map window_length (read_windows uses) = fit.lengths ∙ ap (map window_length) ws in
    record {
      long = cc lengths;
      first = refl;
      rest = record {
        lengths = cc lengths;
        equal = λ j k w at at'. fit.equal (suc j) (suc k) w (ap (λ ws. slice_get ws (suc j)) ws ∙ at) (ap (λ ws. slice_get ws (suc k)) ws ∙ at');
      };
      equal = λ m at. sym (fit.equal 0 (suc m) u.window (ap (λ ws. slice_get ws 0) ws) (ap (λ ws. slice_get ws (suc m)) ws ∙ at));
    }

pub reads_none : (u : Use) (uses : List Use) (inputs : List (List ℕ)) → reads u.direction ≡ false → InputsFit (u ∷ uses) inputs → InputsFit uses inputs
reads_none u uses inputs is fit =
    let ws = windows_not u uses is in
    record {
      lengths = fit.lengths ∙ ap (map window_length) ws;
      equal = λ j k w at at'. fit.equal j k w (ap (λ ws. slice_get ws j) ws ∙ at) (ap (λ ws. slice_get ws k) ws ∙ at');
    }

fixed_reads : (d : Direction) → writes d ≡ false → reads d ≡ true
fixed_reads directions.In is = refl
fixed_reads directions.Out is = absurd (cc)
fixed_reads directions.InOut is = absurd (cc)

-- ---- windows that share an address

not_apart : (b : Bool) → (b ≡ false → ⊥) → b ≡ true
not_apart true never = refl
not_apart false never = absurd (never refl)

pub shared : (v w : Window) (at : ℕ) → has_byte v at ≡ true → has_byte w at ≡ true → share_byte v w ≡ true
shared v w at has has' = not_apart (share_byte v w) (λ apart. absurd (cc (apart_gives v w apart at has, has')))

index_behind : (xs ys : List ℕ) (n k : ℕ) → length xs ≡ n → n ≤ k → slice_index (xs ++ ys) k ≡ slice_index ys (k - n)
index_behind xs ys n k long above =
    let there : k ≡ length xs + (k - n) = omega (arith, long, above) in
    ap (slice_index (xs ++ ys)) there ∙ get_or-append-add xs ys (k - n) 0

-- the bytes of the windows behind the first
behind_read : (u : Use) (uses : List Use) (inputs : List (List ℕ)) (k : ℕ) → reads u.direction ≡ true → length (first_input inputs) ≡ window_length u.window → window_length u.window ≤ k
    → slice_index (given_bytes (u ∷ uses) inputs) k ≡ slice_index (given_bytes uses (drop 1 inputs)) (k - window_length u.window)
behind_read u uses inputs k is long above =
    ap (λ b. slice_index (if b then first_input inputs ++ given_bytes uses (drop 1 inputs) else replicate (window_length u.window) 0 ++ given_bytes uses inputs) k) is
    ∙ index_behind (first_input inputs) (given_bytes uses (drop 1 inputs)) (window_length u.window) k long above

behind_not : (u : Use) (uses : List Use) (inputs : List (List ℕ)) (k : ℕ) → reads u.direction ≡ false → window_length u.window ≤ k
    → slice_index (given_bytes (u ∷ uses) inputs) k ≡ slice_index (given_bytes uses inputs) (k - window_length u.window)
behind_not u uses inputs k is above =
    ap (λ b. slice_index (if b then first_input inputs ++ given_bytes uses (drop 1 inputs) else replicate (window_length u.window) 0 ++ given_bytes uses inputs) k) is
    ∙ index_behind (replicate (window_length u.window) 0) (given_bytes uses inputs) (window_length u.window) k (length-replicate {A = ℕ} (window_length u.window) 0) above

first_read : (u : Use) (uses : List Use) (inputs : List (List ℕ)) (k : ℕ) → reads u.direction ≡ true → k < length (first_input inputs)
    → slice_index (given_bytes (u ∷ uses) inputs) k ≡ slice_index (first_input inputs) k
first_read u uses inputs k is below =
    ap (λ b. slice_index (if b then first_input inputs ++ given_bytes uses (drop 1 inputs) else replicate (window_length u.window) 0 ++ given_bytes uses inputs) k) is
    ∙ get_or_append_left (first_input inputs) (given_bytes uses (drop 1 inputs)) 0 k below

fixed_behind : (u : Use) (uses : List Use) (k : ℕ) → window_length u.window ≤ k → IsFixed uses (k - window_length u.window) → IsFixed (u ∷ uses) k
fixed_behind u uses k above fixed =
    get-behind (replicate (window_length u.window) (is_fixed u)) (flags is_fixed uses) (window_length u.window) k (length-replicate {A = Bool} (window_length u.window) (is_fixed u)) above ∙ fixed

fixed_first : (u : Use) (uses : List Use) (k : ℕ) → k < window_length u.window → writes u.direction ≡ false → IsFixed (u ∷ uses) k
fixed_first u uses k below fixed =
    get-left (replicate (window_length u.window) (is_fixed u)) (flags is_fixed uses) k (omega (arith, length-replicate {A = Bool} (window_length u.window) (is_fixed u), below))
    ∙ replicate_at (is_fixed u) (window_length u.window) k below ∙ ap (λ b. Some (not b)) fixed

next_input : (inputs : List (List ℕ)) (m : ℕ) → slice_get (drop 1 inputs) m ≡ slice_get inputs (suc m)
next_input [] m = refl
next_input (bytes ∷ inputs) m = refl

module _ (u : Use) (bytes : List ℕ) (l at : ℕ) (there : slice_get (window_addresses u.window) l ≡ Some at) (window : IsWindow u.window) where
  abbrev EqualTo : List Use → List (List ℕ) → Type 0
  EqualTo uses inputs = (m : ℕ) → slice_get (read_windows uses) m ≡ Some u.window → slice_get inputs m ≡ Some bytes

  abbrev Twin : List Use → List (List ℕ) → ℕ → Type 0
  Twin uses inputs k = (writes u.direction ≡ false) × IsFixed uses k × (slice_index (given_bytes uses inputs) k ≡ slice_index bytes l)

  twin_first : (v : Use) (uses : List Use) (inputs : List (List ℕ)) → InputsFit (v ∷ uses) inputs → AgreeInBytes u v → EqualTo (v ∷ uses) inputs
      → (k : ℕ) → slice_get (window_addresses v.window) k ≡ Some at → Twin (v ∷ uses) inputs k
  twin_first v uses inputs fit agree equal k is =
      let agreed = agree (shared u.window v.window at (has_found u.window l at there) (has_found v.window k at is)) in
      let read = fixed_reads v.direction agreed.2 in
      let first = reads_first v uses inputs read fit in
      let is' : slice_get (window_addresses u.window) k ≡ Some at = ap (λ w. slice_get (window_addresses w) k) agreed.0 ∙ is in
      let place = one_offset u.window.rows u.window.base u.window.width u.window.stride k l at window.apart is' there in
      let below : k < window_length v.window = omega (arith, slice_get_within (window_addresses v.window) k at is, length-window v.window) in
      let named : slice_get (read_windows (v ∷ uses)) 0 ≡ Some u.window = ap (λ ws. slice_get ws 0) (windows_read v uses read) ∙ ap Some (sym agreed.0) in
      let same : Some (first_input inputs) ≡ Some bytes = sym first.first ∙ equal 0 named in
      let input : first_input inputs ≡ bytes = cc same in (
        agreed.1,
        fixed_first v uses k below agreed.2,
        first_read v uses inputs k read (omega (arith, first.long, below)) ∙ ap (λ bs. slice_index bs k) input ∙ ap (slice_index bytes) place,
      )

  twin_behind : (v : Use) (uses : List Use) (inputs : List (List ℕ)) (b : Bool) → reads v.direction ≡ b → InputsFit (v ∷ uses) inputs → EqualTo (v ∷ uses) inputs
      → (k : ℕ) → window_length v.window ≤ k
      → ((inputs : List (List ℕ)) → InputsFit uses inputs → EqualTo uses inputs → Twin uses inputs (k - window_length v.window)) → Twin (v ∷ uses) inputs k
  twin_behind v uses inputs true is fit equal k above later =
      let first = reads_first v uses inputs is fit in
      let next : EqualTo uses (drop 1 inputs) = λ m named. next_input inputs m ∙ equal (suc m) (ap (λ ws. slice_get ws (suc m)) (windows_read v uses is) ∙ named) in
      let found = later (drop 1 inputs) first.rest next in
      (found.0, fixed_behind v uses k above found.1, behind_read v uses inputs k is first.long above ∙ found.2)
  twin_behind v uses inputs false is fit equal k above later =
      let next : EqualTo uses inputs = λ m named. equal m (ap (λ ws. slice_get ws m) (windows_not v uses is) ∙ named) in
      let found = later inputs (reads_none v uses inputs is fit) next in
      (found.0, fixed_behind v uses k above found.1, behind_not v uses inputs k is above ∙ found.2)

  -- an address that one of the windows behind has too
  pub twin : (uses : List Use) (inputs : List (List ℕ)) → InputsFit uses inputs → All (AgreeInBytes u) uses → EqualTo uses inputs
      → (k : ℕ) → slice_get (addresses uses) k ≡ Some at → Twin uses inputs k
  twin [] inputs fit agree equal k is = absurd (cc)
  twin (v ∷ uses) inputs fit agree equal k is =
      elim (cases_lt k (window_length v.window)) [
        | inl below ↦ twin_first v uses inputs fit (all_head (AgreeInBytes u) v uses agree) equal k
            (sym (get-left (window_addresses v.window) (addresses uses) k (omega (arith, length-window v.window, below))) ∙ is)
        | inr above ↦ twin_behind v uses inputs (reads v.direction) refl fit equal k above
            (λ inputs fit equal. twin uses inputs fit (all_tail (AgreeInBytes u) v uses agree) equal (k - window_length v.window)
            (sym (get-behind (window_addresses v.window) (addresses uses) (window_length v.window) k (length-window v.window) above) ∙ is))
      ]

  -- which a window that may be written has alone
  pub fixed_twin : (uses : List Use) → All (AgreeInBytes u) uses → (k : ℕ) → slice_get (addresses uses) k ≡ Some at → writes u.direction ≡ false
  fixed_twin [] agree k is = absurd (cc)
  fixed_twin (v ∷ uses) agree k is =
      elim (cases_lt k (window_length v.window)) [
        | inl below ↦
            let here = sym (get-left (window_addresses v.window) (addresses uses) k (omega (arith, length-window v.window, below))) ∙ is in
            (all_head (AgreeInBytes u) v uses agree (shared u.window v.window at (has_found u.window l at there) (has_found v.window k at here))).1
        | inr above ↦ fixed_twin uses (all_tail (AgreeInBytes u) v uses agree) (k - window_length v.window)
            (sym (get-behind (window_addresses v.window) (addresses uses) (window_length v.window) k (length-window v.window) above) ∙ is)
      ]

-- ---- all of them

module _ (u : Use) (uses : List Use) (inputs : List (List ℕ)) (window : IsWindow u.window) (agree : All (AgreeInBytes u) uses) (fit : InputsFit (u ∷ uses) inputs) where
  abbrev n : ℕ
  n = window_length u.window

  -- one of the first window and one behind it
  across : (i k at : ℕ) → i < n → n ≤ k → slice_get (window_addresses u.window) i ≡ Some at → slice_get (addresses uses) (k - n) ≡ Some at
      → IsFixed (u ∷ uses) i × IsFixed (u ∷ uses) k × (slice_index (given_bytes (u ∷ uses) inputs) i ≡ slice_index (given_bytes (u ∷ uses) inputs) k)
  across i k at below above is is' =
      let fixed = fixed_twin u (first_input inputs) i at is window uses agree (k - n) is' in
      let read = fixed_reads u.direction fixed in
      let first = reads_first u uses inputs read fit in
      let found = twin u (first_input inputs) i at is window uses (drop 1 inputs) first.rest agree first.equal (k - n) is' in (
        fixed_first u uses i below fixed,
        fixed_behind u uses k above found.1,
        first_read u uses inputs i read (omega (arith, first.long, below)) ∙ sym (behind_read u uses inputs k read first.long above ∙ found.2),
      )

  shift_by : (b : Bool) → reads u.direction ≡ b → (i k : ℕ) → n ≤ i → n ≤ k
      → ((inputs : List (List ℕ)) → InputsFit uses inputs → Agree uses (given_bytes uses inputs) (i - n) (k - n)) → Agree (u ∷ uses) (given_bytes (u ∷ uses) inputs) i k
  shift_by true is i k above above' later =
      let first = reads_first u uses inputs is fit in
      elim (later (drop 1 inputs) first.rest) [
        | inl same ↦ inl (omega (arith, same, above, above'))
        | inr fixed ↦ inr (
          fixed_behind u uses i above fixed.0,
          fixed_behind u uses k above' fixed.1,
          behind_read u uses inputs i is first.long above ∙ fixed.2 ∙ sym (behind_read u uses inputs k is first.long above'),
        )
      ]
  shift_by false is i k above above' later =
      elim (later inputs (reads_none u uses inputs is fit)) [
        | inl same ↦ inl (omega (arith, same, above, above'))
        | inr fixed ↦ inr (
          fixed_behind u uses i above fixed.0,
          fixed_behind u uses k above' fixed.1,
          behind_not u uses inputs i is above ∙ fixed.2 ∙ sym (behind_not u uses inputs k is above'),
        )
      ]

  here : (i at : ℕ) → i < n → slice_get (addresses (u ∷ uses)) i ≡ Some at → slice_get (window_addresses u.window) i ≡ Some at
  here i at below is = sym (get-left (window_addresses u.window) (addresses uses) i (omega (arith, length-window u.window, below))) ∙ is

  behind : (i at : ℕ) → n ≤ i → slice_get (addresses (u ∷ uses)) i ≡ Some at → slice_get (addresses uses) (i - n) ≡ Some at
  behind i at above is = sym (get-behind (window_addresses u.window) (addresses uses) n i (length-window u.window) above) ∙ is

  agree_by : (i k at : ℕ) → slice_get (addresses (u ∷ uses)) i ≡ Some at → slice_get (addresses (u ∷ uses)) k ≡ Some at
      → ((inputs : List (List ℕ)) → InputsFit uses inputs → slice_get (addresses uses) (i - n) ≡ Some at → slice_get (addresses uses) (k - n) ≡ Some at → Agree uses (given_bytes uses inputs) (i - n) (k - n))
      → Agree (u ∷ uses) (given_bytes (u ∷ uses) inputs) i k
  agree_by i k at is is' later =
      elim (cases_lt i n) [
        | inl below ↦ elim (cases_lt k n) [
          | inl below' ↦ inl (one_offset u.window.rows u.window.base u.window.width u.window.stride i k at window.apart (here i at below is) (here k at below' is'))
          | inr above' ↦ inr (across i k at below above' (here i at below is) (behind k at above' is'))
        ]
        | inr above ↦ elim (cases_lt k n) [
          | inl below' ↦
              let found = across k i at below' above (here k at below' is') (behind i at above is) in
              inr (found.1, found.0, sym found.2)
          | inr above' ↦ shift_by (reads u.direction) refl i k above above' (λ inputs fit. later inputs fit (behind i at above is) (behind k at above' is'))
        ]
      ]

-- the bytes at one address agree
pub given_agree : (uses : List Use) (inputs : List (List ℕ)) → All (λ u. IsWindow u.window) uses → AllAgree uses → InputsFit uses inputs
    → (i k at : ℕ) → slice_get (addresses uses) i ≡ Some at → slice_get (addresses uses) k ≡ Some at → Agree uses (given_bytes uses inputs) i k
given_agree [] inputs windows agree fit i k at is is' = absurd (cc)
given_agree (u ∷ uses) inputs windows agree fit i k at is is' =
    agree_by u uses inputs (all_head (λ u. IsWindow u.window) u uses windows) agree.0 fit i k at is is'
    (λ inputs fit is is'. given_agree uses inputs (all_tail (λ u. IsWindow u.window) u uses windows) agree.1 fit (i - window_length u.window) (k - window_length u.window) at is is')

long_by : (u : Use) (uses : List Use) (inputs : List (List ℕ)) (b : Bool) → reads u.direction ≡ b → InputsFit (u ∷ uses) inputs
    → ((inputs : List (List ℕ)) → InputsFit uses inputs → length (given_bytes uses inputs) ≡ length (addresses uses)) → length (given_bytes (u ∷ uses) inputs) ≡ length (addresses (u ∷ uses))
long_by u uses inputs true is fit later =
    let first = reads_first u uses inputs is fit in
    ap (λ b. length (if b then first_input inputs ++ given_bytes uses (drop 1 inputs) else replicate (window_length u.window) 0 ++ given_bytes uses inputs)) is
    ∙ omega (arith, length-append (first_input inputs) (given_bytes uses (drop 1 inputs)), first.long, later (drop 1 inputs) first.rest, length-append (window_addresses u.window) (addresses uses), length-window u.window)
long_by u uses inputs false is fit later =
    let zeros = length-replicate {A = ℕ} (window_length u.window) 0 in
    ap (λ b. length (if b then first_input inputs ++ given_bytes uses (drop 1 inputs) else replicate (window_length u.window) 0 ++ given_bytes uses inputs)) is
    ∙ omega (arith, length-append (replicate (window_length u.window) 0) (given_bytes uses inputs), zeros, later inputs (reads_none u uses inputs is fit), length-append (window_addresses u.window) (addresses uses), length-window u.window)

-- there are as many as the windows have
pub given_long : (uses : List Use) (inputs : List (List ℕ)) → InputsFit uses inputs → length (given_bytes uses inputs) ≡ length (addresses uses)
given_long [] inputs fit = refl
given_long (u ∷ uses) inputs fit = long_by u uses inputs (reads u.direction) refl fit (λ inputs fit. given_long uses inputs fit)

out_of_row : (place at : ℕ) → 16384 ≤ place → has_byte (plain (place - 16384) 16384) at ≡ false → (at < place - 16384) ⊎ (place ≤ at)
out_of_row place at high out =
    elim (cases_lt at (place - 16384)) [
      | inl below ↦ inl below
      | inr above ↦ elim (cases_lt at place) [
        | inl under ↦
            let inside : is_between (place - 16384) (place - 16384 + 16384) at ≡ true = grind (arith, nat_tests) in
            absurd (cc (inside, out))
        | inr behind ↦ inr behind
      ]
    ]

-- no byte is in the stack
pub given_clear : (place : ℕ) (uses : List Use) → 16384 ≤ place → All (IsClearOfStack place) uses → (k at : ℕ) → slice_get (addresses uses) k ≡ Some at → (at < place - 16384) ⊎ (place ≤ at)
given_clear place [] high clear k at is = absurd (cc)
given_clear place (u ∷ uses) high clear k at is =
    elim (cases_lt k (window_length u.window)) [
      | inl below ↦
          let here = sym (get-left (window_addresses u.window) (addresses uses) k (omega (arith, length-window u.window, below))) ∙ is in
          let out = apart_gives u.window (plain (place - 16384) 16384) (all_head (IsClearOfStack place) u uses clear) at (has_found u.window k at here) in
          out_of_row place at high out
      | inr above ↦ given_clear place uses high (all_tail (IsClearOfStack place) u uses clear) (k - window_length u.window) at
          (sym (get-behind (window_addresses u.window) (addresses uses) (window_length u.window) k (length-window u.window) above) ∙ is)
    ]
