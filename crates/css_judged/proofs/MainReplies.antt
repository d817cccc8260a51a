-- How main's memory replies, by the rules and by the memory that the code keeps.
use Rattle.std.proofs.Common.{◌≡◌, ℕ, zero, suc, ◌+◌, ◌≤◌, Bool, true, false, List, [], ◌∷◌, length, take, drop, min, nat_le, nat_lt, refl, arith, if◌then◌else◌}
use Rattle.std.proofs.lemmas.Bool.{and_from, or_parts, le-leb, lt-ltb}
use Rattle.std.proofs.lemmas.Bool.Decides.{nat_tests}
use Rattle.css_base.specs.declared.rule.Rule.TheVariants as rules
use Rattle.css_semantics.specs.Dialogue.{Enter, Load, Store, Reply}
use Rattle.css_semantics.specs.Memory.{Memory, stack_place, is_live, stored, after}
use Rattle.css_semantics.specs.Flat.{has_room, memory_reply}
use Rattle.css_semantics.specs.Pending.{Object}
use Rattle.css_semantics.specs.WithWindow.{with_rows}
use Rattle.css_semantics.specs.Rules.{check, meets, first_broken, judged_reply, is_main_too_deep}
use Rattle.css_semantics.proofs.StackPlaces as places
use Rattle.css_judged.specs.Judged.{main_reply, erased, IsOfMain}

-- ---- replies

-- by whether the two rules are broken
abbrev pub by_rules : (unsynchronised deep : Bool) → Reply → Reply
by_rules unsynchronised deep reply = judged_reply (first_broken (check rules.Unsynchronised unsynchronised ∷ check rules.MainStack deep ∷ [])) reply

pub is_reply : (unsynchronised : Bool) (reply : Reply) → unsynchronised ≡ false → by_rules unsynchronised false reply ≡ reply
is_reply true reply none = absurd (cc)
is_reply false reply none = refl

-- where no task may write what is loaded, the memory replies
pub load_is : (m : Memory) (objects : List Object) (address count : ℕ) → meets (λ o. o.is_written) objects address count ≡ false
    → main_reply (record { memory = erased m; objects = objects }) (Load address count) ≡ memory_reply m (Load address count)
load_is m objects address count none = is_reply (meets (λ o. o.is_written) objects address count) (memory_reply m (Load address count)) none

-- ---- entries

-- an entry that isn't too deep finds room in the stack of the erased program
pub room_behind : (m : Memory) (size : ℕ) → 2097152 ≤ m.end → is_main_too_deep m (Enter size) ≡ false → has_room (erased m) size ≡ true
room_behind m size large shallow =
    let parts = or_parts (nat_lt 1048576 (length m.stack + size)) (nat_le 32768 m.calls) shallow in
    and_from (nat_le (length m.stack + size) (min 1064960 m.end)) (nat_lt m.calls 33792)
    (le-leb (length m.stack + size) (min 1064960 m.end) (grind (arith, nat_tests)))
    (lt-ltb m.calls 33792 (grind (arith, nat_tests)))

-- ---- what a store does

erased_store : (live : Bool) (m : Memory) (address : ℕ) (bytes : List ℕ) → erased (if live then stored m address bytes else m) ≡ (if live then stored (erased m) address bytes else erased m)
erased_store true m address bytes = refl
erased_store false m address bytes = refl

pub store_does : (m : Memory) (address : ℕ) (bytes : List ℕ) → erased (after m (Store address bytes)) ≡ after (erased m) (Store address bytes)
store_does m address bytes = erased_store (is_live m address (length bytes)) m address bytes

-- ---- the stack stays main's

stored_rest : (live : Bool) (m : Memory) (address : ℕ) (bytes : List ℕ) → IsOfMain m → IsOfMain (if live then stored m address bytes else m)
stored_rest true m address bytes is = record {
  limit = is.limit;
  end = is.end;
  bytes = omega (arith, places.length-overlaid (stack_place m) m.stack address bytes, is.bytes);
  calls = is.calls;
}
stored_rest false m address bytes is = is

pub stored_main : (m : Memory) (address : ℕ) (bytes : List ℕ) → IsOfMain m → IsOfMain (after m (Store address bytes))
stored_main m address bytes is = stored_rest (is_live m address (length bytes)) m address bytes is

-- ---- windows

pub rows_do : (rows : ℕ) (m : Memory) (base width stride : ℕ) (bytes : List ℕ) → erased (with_rows m rows base width stride bytes) ≡ with_rows (erased m) rows base width stride bytes
rows_do zero m base width stride bytes = refl
rows_do (suc rows) m base width stride bytes = rows_do rows (stored m base (take width bytes)) (base + stride) width stride (drop width bytes)

pub rows_main : (rows : ℕ) (m : Memory) (base width stride : ℕ) (bytes : List ℕ) → IsOfMain m → IsOfMain (with_rows m rows base width stride bytes)
rows_main zero m base width stride bytes is = is
rows_main (suc rows) m base width stride bytes is =
    rows_main rows (stored m base (take width bytes)) (base + stride) width stride (drop width bytes) (stored_rest true m base (take width bytes) is)
