-- What a memory replies, and main's memory as it is made of its parts.
use Rattle.std.proofs.Common.{◌≡◌, ℕ, ◌+◌, ◌-◌, ◌≤◌, ◌<◌, List, length, take, drop, Bool, true, false, if◌then◌else◌, refl, ap, sym, subst, ◌∙◌, arith}
use Rattle.std.proofs.lemmas.Bool.Decides.{nat_tests}
use Rattle.css_semantics.specs.Dialogue.{Leave, Load, Store, Says}
use Rattle.css_semantics.specs.Memory.{Memory, StackLimit, overlaid, heap_top, stack_place, is_live, is_live_byte, bytes_at, big_endian, stored, after}
use Rattle.css_semantics.specs.Flat.{memory_reply, is_innermost, erased_stack}
use Rattle.css_semantics.specs.Rules.{main_stack}
use Rattle.css_memory.specs.Main.{Main, main_reply, main_after}
use Rattle.css_memory.specs.Layouts.{layout_of, is_within}
use Rattle.css_memory.specs.Kept.{Parts, top_of, place_of, end_of, kept, IsKept}
use Rattle.css_memory.proofs.Ranges.{live_is_range}
use Rattle.css_memory.proofs.Places.{globals_below}
use Rattle.css_memory.proofs.ReadBytes.{live_in_globals, live_in_heap, live_in_stack, read_globals, read_heap, read_stack}
use Rattle.css_memory.proofs.StoredBytes.{written, written_is, low_alone, high_alone}

abbrev pub main_with : Memory → (pages : List ℕ) → Main
main_with m pages = record { memory = m; pages = pages }

abbrev pub held : Parts → (calls most : ℕ) → (pages : List ℕ) → Main
held p calls most pages = main_with (kept p calls most) pages

-- where its parts stand in order, so many bytes are live exactly where they are within the memory and meet neither gap
pub live_by_layout : (m : Memory) → heap_top m ≤ stack_place m → (address n : ℕ) → 1 ≤ n → is_live m address n ≡ is_within (layout_of m) address (address + n)
live_by_layout m order address n some =
    let l = layout_of m in
    live_is_range l.globals_end l.heap_start l.heap_top l.stack_place l.end (omega arith) (omega arith) (omega arith) order (omega arith) (is_live_byte m) (λ a. refl) address n some

pub loaded : (m : Memory) (address n value : ℕ) → is_live m address n ≡ true → value ≡ big_endian (bytes_at m address n) → memory_reply m (Load address n) ≡ Says value
loaded m address n value live is = rw live (ap Says (sym is))

pub stores : (m : Memory) (address : ℕ) (bytes : List ℕ) → is_live m address (length bytes) ≡ true → memory_reply m (Store address bytes) ≡ Says 0
stores m address bytes live = rw live refl

pub after_store : (m : Memory) (address : ℕ) (bytes : List ℕ) → is_live m address (length bytes) ≡ true → after m (Store address bytes) ≡ stored m address bytes
after_store m address bytes live = rw live refl

pub leaves : (m : Memory) (size : ℕ) → stack_place m + length m.stack ≡ m.end → size ≤ length m.stack → 0 < m.calls → memory_reply m (Leave (stack_place m) size) ≡ Says 0
leaves m size whole within open_call =
    let inner : is_innermost m (stack_place m) size ≡ true = grind (arith, nat_tests) in
    rw inner refl

-- ---- accesses within one part

module _ (p : Parts) (calls most reserved count : ℕ) (is : IsKept p reserved count) (pages : List ℕ) (s : Main) (view : held p calls most pages ≡ s) where
  pub loads_stack : (address n value : ℕ) → place_of p ≤ address → address + n ≤ end_of p → value ≡ big_endian (take n (drop (address - p.origin) p.high)) → main_reply s (Load address n) ≡ Says value
  loads_stack address n value above within value_is =
      subst (λ (s : Main). main_reply s (Load address n) ≡ Says value) view
      (loaded (kept p calls most) address n value (live_in_stack p calls most reserved count is address n above within)
      (value_is ∙ ap big_endian (sym (read_stack p calls most reserved count is address n above within))))

  pub loads_heap : (address n value : ℕ) → p.heap_start ≤ address → address + n ≤ top_of p → value ≡ big_endian (take n (drop (address - 4096) p.low)) → main_reply s (Load address n) ≡ Says value
  loads_heap address n value above within value_is =
      subst (λ (s : Main). main_reply s (Load address n) ≡ Says value) view
      (loaded (kept p calls most) address n value (live_in_heap p calls most reserved count is address n above within)
      (value_is ∙ ap big_endian (sym (read_heap p calls most reserved count is address n above within))))

  pub loads_globals : (address n value : ℕ) → 4096 ≤ address → address + n ≤ p.globals_end → value ≡ big_endian (take n (drop (address - 4096) p.low)) → main_reply s (Load address n) ≡ Says value
  loads_globals address n value above within value_is =
      subst (λ (s : Main). main_reply s (Load address n) ≡ Says value) view
      (loaded (kept p calls most) address n value (live_in_globals p calls most reserved count is address n above within)
      (value_is ∙ ap big_endian (sym (read_globals p calls most reserved count is address n above within))))

  module _ (address : ℕ) (bytes : List ℕ) where
    says_live : is_live (kept p calls most) address (length bytes) ≡ true → main_reply s (Store address bytes) ≡ Says 0
    says_live live = subst (λ (s : Main). main_reply s (Store address bytes) ≡ Says 0) view (stores (kept p calls most) address bytes live)

    pub says_stack : place_of p ≤ address → address + length bytes ≤ end_of p → main_reply s (Store address bytes) ≡ Says 0
    says_stack above within = says_live (live_in_stack p calls most reserved count is address (length bytes) above within)

    pub says_heap : p.heap_start ≤ address → address + length bytes ≤ top_of p → main_reply s (Store address bytes) ≡ Says 0
    says_heap above within = says_live (live_in_heap p calls most reserved count is address (length bytes) above within)

    pub says_globals : 4096 ≤ address → address + length bytes ≤ p.globals_end → main_reply s (Store address bytes) ≡ Says 0
    says_globals above within = says_live (live_in_globals p calls most reserved count is address (length bytes) above within)

    learns_live : is_live (kept p calls most) address (length bytes) ≡ true → held (written p address bytes) calls most pages ≡ main_after s (Store address bytes)
    learns_live live =
        ap (λ n. main_with n pages) (written_is p calls most reserved count is address bytes ∙ sym (after_store (kept p calls most) address bytes live))
        ∙ ap (λ (s : Main). main_after s (Store address bytes)) view

    pub learns_stack : (high : List ℕ) → place_of p ≤ address → address + length bytes ≤ end_of p → high ≡ overlaid 0 p.high (address - p.origin) bytes
        → held (record p { high = high }) calls most pages ≡ main_after s (Store address bytes)
    learns_stack high above within is_high =
        ap (λ (q : Parts). held q calls most pages) (high_alone p calls most reserved count is address bytes high above is_high)
        ∙ learns_live (live_in_stack p calls most reserved count is address (length bytes) above within)

    pub learns_heap : (low : List ℕ) → p.heap_start ≤ address → address + length bytes ≤ top_of p → low ≡ overlaid 0 p.low (address - 4096) bytes
        → held (record p { low = low }) calls most pages ≡ main_after s (Store address bytes)
    learns_heap low above within is_low =
        ap (λ (q : Parts). held q calls most pages) (low_alone p calls most reserved count is address bytes low (omega (arith, is.globals, globals_below p calls most reserved count is)) within is_low)
        ∙ learns_live (live_in_heap p calls most reserved count is address (length bytes) above within)

    pub learns_globals : (low : List ℕ) → 4096 ≤ address → address + length bytes ≤ p.globals_end → low ≡ overlaid 0 p.low (address - 4096) bytes
        → held (record p { low = low }) calls most pages ≡ main_after s (Store address bytes)
    learns_globals low above within is_low =
        ap (λ (q : Parts). held q calls most pages) (low_alone p calls most reserved count is address bytes low above (omega (arith, is.heap, globals_below p calls most reserved count is)) is_low)
        ∙ learns_live (live_in_globals p calls most reserved count is address (length bytes) above within)

-- ---- stack limits

abbrev pub stack_limit : (bytes calls : ℕ) → StackLimit
stack_limit bytes calls = record { bytes = bytes; calls = calls }

pub as_erased : (plain : Bool) (bytes calls : ℕ) → plain ≡ true → bytes ≡ 1064960 → calls ≡ 33792 → stack_limit bytes calls ≡ (if plain then erased_stack else main_stack)
as_erased plain bytes calls is b c = rw (is, b, c) refl

pub as_judged : (plain : Bool) (bytes calls : ℕ) → plain ≡ false → bytes ≡ 1048576 → calls ≡ 32768 → stack_limit bytes calls ≡ (if plain then erased_stack else main_stack)
as_judged plain bytes calls is b c = rw (is, b, c) refl

pub same_by : (a b : Bool) → (a ≡ true → b ≡ true) → (a ≡ false → b ≡ false) → a ≡ b
same_by true b on off = sym (on refl)
same_by false b on off = sym (off refl)
