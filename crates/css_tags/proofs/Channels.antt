-- A channel after one more entry: its slots, its queue and its room.
use Rattle.std.proofs.Common.{◌≡◌, ◌≢◌, ◌+◌, ◌*◌, ◌<◌, ◌≤◌, ◌^◌, ℕ, zero, suc, Option, Some, None, List, [], ◌∷◌, ◌++◌, length, drop, set, get_or, arith, refl, sym, ap, ◌∙◌, subst, inl, inr, eqb, true, false, not, Bool, IsTrue, Result, Ok, Err, is_err, OnOk, IfSome, IfNone, replicate, All, AllPairs, Contains, length-append}
use Rattle.std.specs.List.{sum_by}
use Rattle.std.proofs.lemmas.Bool.{cases_eq, ne_eqb}
use Rattle.std.proofs.lemmas.List.{append_assoc, get_or-set_same, get_or-set_other, length-set, length-replicate, get_or-replicate}
use Rattle.std.proofs.lemmas.List.Elements.{All-nil, All-head, All-push, All-weaker, All-get_or, All-from_get_or, Contains-push, Contains-append_left, filter-append}
use Rattle.std.proofs.lemmas.List.Quantifiers.{all_pairs_push}
use Rattle.std.proofs.lemmas.List.Sums.{sum_by-set, sum_by-cons, sum_by_more_le}
use Rattle.css_tags.specs.declared.slot.Slot.{Slot}
use Rattle.css_tags.specs.declared.slot.Slot.TheVariants as slots
use Rattle.css_tags.specs.Plans.{Plan}
use Rattle.css_tags.specs.Entries.{Entry, issue, out, finish, collect}
use Rattle.css_tags.specs.Groups.{Underway, left, plan_of}
use Rattle.css_tags.specs.Legal.{entries_on}
use Rattle.css_tags.specs.States.{last_on, IsFree, IsIssued, IsBefore, IsIssuedFirst, IsLeastFree}
use Rattle.css_tags.specs.Slots.{IsFreeSlot, IsSlot, IsQueue, IsChannel, to_come, waiting}
use Rattle.css_tags.proofs.Tags.{on_own, on_other, entries_other, last_own, last_other, issued_number, slot_number, slot_state, slot_other, slot_issued, slot_out, slot_finished, slot_collected, issued_last, taken_low, issued_taken, out_taken, out_slot, free_from_slot, slot_from_free}

-- the slots after one is replaced
each_after : (h : List Entry) (all : List Slot) (tag : ℕ) (e : Entry) (slot : Slot) → length all ≡ 32 → tag < 32
    → e.tag ≡ tag → ((t : ℕ) → t < 32 → IsSlot h t (get_or all t slots.Free)) → IsSlot (h ++ e ∷ []) tag slot
    → (t : ℕ) → t < 32 → IsSlot (h ++ e ∷ []) t (get_or (set all tag slot) t slots.Free)
each_after h all tag e slot count low same each own t below =
    elim (cases_eq t tag) [
      | inl is ↦
          let At : Slot → Type 0 = IsSlot (h ++ e ∷ []) tag in
          let Of : ℕ → Type 0 = λ t. IsSlot (h ++ e ∷ []) t (get_or (set all tag slot) t slots.Free) in
          subst Of (sym is) (subst At (sym (get_or-set_same all tag slot slots.Free (omega arith))) own)
      | inr other ↦
          let At : Slot → Type 0 = IsSlot (h ++ e ∷ []) t in
          subst At (sym (get_or-set_other all tag t slot slots.Free other))
          (slot_other h t (get_or all t slots.Free) e (λ is. other (sym is ∙ same)) (each t below))
    ]

-- a tag is issued after an entry of another one just where it was before
issued_after : (h : List Entry) (e : Entry) (t : ℕ) → e.tag ≢ t → IsIssued t h → IsIssued t (h ++ e ∷ [])
issued_after h e t other (plan, is) = (plan, last_other t h e other ∙ is)

issued_before : (h : List Entry) (e : Entry) (t : ℕ) → e.tag ≢ t → IsIssued t (h ++ e ∷ []) → IsIssued t h
issued_before h e t other (plan, is) = (plan, sym (last_other t h e other) ∙ is)

before_after : (h : List Entry) (e : Entry) (a b : ℕ) → e.tag ≢ a → IsBefore h a b → IsBefore (h ++ e ∷ []) a b
before_after h e a b other (earlier, later, parts, none, some) =
    let more : entries_on b (later ++ e ∷ []) ≡ entries_on b later ++ entries_on b (e ∷ []) = filter-append (λ x. eqb x.tag b) later (e ∷ []) in
    let long = ap length more ∙ length-append (entries_on b later) (entries_on b (e ∷ [])) in (
      earlier,
      later ++ e ∷ [],
      ap (λ es. es ++ e ∷ []) parts ∙ append_assoc earlier later (e ∷ []),
      entries_other a later e other ∙ none,
      omega (arith, long, some),
    )

-- a tag isn't before itself
not_itself : (h : List Entry) (a b : ℕ) → IsBefore h a b → a ≢ b
not_itself h a b (earlier, later, parts, none, some) same =
    let nothing : length (entries_on b later) ≡ 0 = ap (λ t. length (entries_on t later)) (sym same) ∙ ap length none in
    omega (arith, nothing, some)

-- the queue stays where a tag goes on that isn't issued, before or after
queue_kept : (h : List Entry) (all all' : List Slot) (queue : List ℕ) (e : Entry) → IsQueue h all queue
    → ¬ IsIssued e.tag h → ¬ IsIssued e.tag (h ++ e ∷ []) → sum_by waiting all' ≡ sum_by waiting all
    → IsQueue (h ++ e ∷ []) all' queue
queue_kept h all all' queue e is before after sum =
    let other : (t : ℕ) → IsIssued t h → e.tag ≢ t =
    λ t issued same. before (let At : ℕ → Type 0 = λ t. IsIssued t h in subst At (sym same) issued) in
    record {
      number = is.number ∙ sym sum;
      issued = All-weaker (λ t. IsIssued t h) (λ t. IsIssued t (h ++ e ∷ []))
          (λ t issued. issued_after h e t (other t issued) issued) queue is.issued;
      complete = λ t issued. elim (cases_eq e.tag t) [
        | inl same ↦ absurd (after (let At : ℕ → Type 0 = λ t. IsIssued t (h ++ e ∷ []) in subst At (sym same) issued))
        | inr apart ↦ is.complete t (issued_before h e t apart issued)
      ];
      order = λ i j d low below. before_after h e (get_or queue i d) (get_or queue j d)
          (other (get_or queue i d) (All-get_or (λ t. IsIssued t h) queue i d (omega arith) is.issued))
          (is.order i j d low below);
    }

-- the queue after a group is issued
queue_issued : (h : List Entry) (all all' : List Slot) (queue : List ℕ) (e : Entry) → IsQueue h all queue
    → ¬ IsIssued e.tag h → IsIssued e.tag (h ++ e ∷ []) → sum_by waiting all' ≡ sum_by waiting all + 1
    → IsQueue (h ++ e ∷ []) all' (queue ++ e.tag ∷ [])
queue_issued h all all' queue e is before after sum =
    let other : (t : ℕ) → IsIssued t h → e.tag ≢ t =
    λ t issued same. before (let At : ℕ → Type 0 = λ t. IsIssued t h in subst At (sym same) issued) in
    let apart : (k d : ℕ) → k < length queue → e.tag ≢ get_or queue k d =
    λ k d below. other (get_or queue k d) (All-get_or (λ t. IsIssued t h) queue k d below is.issued) in
    let kept : All (λ t. IsIssued t (h ++ e ∷ [])) queue =
    All-weaker (λ t. IsIssued t h) (λ t. IsIssued t (h ++ e ∷ []))
    (λ t issued. issued_after h e t (other t issued) issued) queue is.issued in
    let order : AllPairs (IsBefore (h ++ e ∷ [])) queue =
    λ i j d low below. before_after h e (get_or queue i d) (get_or queue j d) (apart i d (omega arith))
    (is.order i j d low below) in
    let own : length (entries_on e.tag (e ∷ [])) ≡ 1 = ap length (on_own e.tag e refl) in
    record {
      number = (let long = length-append queue (e.tag ∷ []) in let number = is.number in omega (arith, long, sum, number));
      issued = All-push (λ t. IsIssued t (h ++ e ∷ [])) queue e.tag kept after;
      complete = λ t issued. elim (cases_eq e.tag t) [
        | inl same ↦ (let At : ℕ → Type 0 = Contains (queue ++ e.tag ∷ []) in subst At same (Contains-push queue e.tag))
        | inr different ↦
            Contains-append_left queue (e.tag ∷ []) t (is.complete t (issued_before h e t different issued))
      ];
      order = all_pairs_push (IsBefore (h ++ e ∷ [])) queue e.tag order
          (λ k d below. (h, e ∷ [], refl, on_other (get_or queue k d) e (apart k d below), omega (arith, own)));
    }

contains_rest : (y x : ℕ) (xs : List ℕ) → y ≢ x → Contains (y ∷ xs) x → Contains xs x
contains_rest y x xs other (zero, below, is) = absurd (other is)
contains_rest y x xs other (suc k, below, is) = (k, omega arith, is)

-- the queue after the first of it is taken
queue_taken : (h : List Entry) (all all' : List Slot) (queue : List ℕ) (e : Entry) → IsQueue h all (e.tag ∷ queue)
    → ¬ IsIssued e.tag (h ++ e ∷ []) → sum_by waiting all' + 1 ≡ sum_by waiting all
    → IsQueue (h ++ e ∷ []) all' queue
queue_taken h all all' queue e is after sum =
    let apart : (k d : ℕ) → k < length queue → e.tag ≢ get_or queue k d =
    λ k d below. not_itself h e.tag (get_or queue k d) (is.order 0 (suc k) d (omega arith) (omega arith)) in
    record {
      number = (let number : suc (length queue) ≡ sum_by waiting all = is.number in omega (arith, number, sum));
      issued = All-from_get_or (λ t. IsIssued t (h ++ e ∷ [])) queue 0 (λ k below.
          issued_after h e (get_or queue k 0) (apart k 0 below)
          (All-get_or (λ t. IsIssued t h) (e.tag ∷ queue) (suc k) 0 (omega arith) is.issued));
      complete = λ t issued. elim (cases_eq e.tag t) [
        | inl same ↦ absurd (after (let At : ℕ → Type 0 = λ t. IsIssued t (h ++ e ∷ []) in subst At (sym same) issued))
        | inr other ↦ contains_rest e.tag t queue other (is.complete t (issued_before h e t other issued))
      ];
      order = λ i j d low below. before_after h e (get_or queue i d) (get_or queue j d) (apart i d (omega arith))
          (is.order (suc i) (suc j) d (omega arith) (omega arith));
    }

-- at most three entries of each tag are to come
most_to_come : (slot : Slot) → to_come slot ≤ 3
most_to_come slots.Free = omega arith
most_to_come (slots.Issued group) = omega arith
most_to_come slots.Out = omega arith
most_to_come (slots.Finished group) = omega arith

pub all_to_come : (all : List Slot) → sum_by to_come all ≤ 3 * length all
all_to_come [] = omega arith
all_to_come (slot ∷ all) =
    omega (arith, sum_by-cons to_come slot all, most_to_come slot, all_to_come all)

most_waiting : (slot : Slot) → waiting slot ≤ 1
most_waiting slots.Free = omega arith
most_waiting (slots.Issued group) = omega arith
most_waiting slots.Out = omega arith
most_waiting (slots.Finished group) = omega arith

all_waiting : (all : List Slot) → sum_by waiting all ≤ length all
all_waiting [] = omega arith
all_waiting (slot ∷ all) = omega (arith, sum_by-cons waiting slot all, most_waiting slot, all_waiting all)

free_counts : (slot : Slot) → IsFreeSlot slot → (to_come slot ≡ 0) × (waiting slot ≡ 0)
free_counts slots.Free is = (refl, refl)
free_counts (slots.Issued group) is = absurd is
free_counts slots.Out is = absurd is
free_counts (slots.Finished group) is = absurd is

free_is : (slot : Slot) → IsFreeSlot slot → slot ≡ slots.Free
free_is slots.Free is = refl
free_is (slots.Issued group) is = absurd is
free_is slots.Out is = absurd is
free_is (slots.Finished group) is = absurd is

-- while a tag is free, fewer than 32 are issued
pub room_in_queue : {h : List Entry} (all : List Slot) (queue : List ℕ) (tag : ℕ) → IsQueue h all queue
    → length all ≡ 32 → tag < 32 → IsFreeSlot (get_or all tag slots.Free) → length queue < 32
room_in_queue all queue tag is count low free =
    let counts = (free_counts (get_or all tag slots.Free) free).1 in
    let group : Underway = record { put = false; items = [] } in
    let taken = sum_by-set waiting all tag (slots.Issued group) slots.Free (omega arith) in
    let most = all_waiting (set all tag (slots.Issued group)) in
    let long = length-set all tag (slots.Issued group) in
    let number = is.number in
    omega (arith, counts, taken, most, long, number, count)

-- a channel after one more entry
pub channel_after : (h : List Entry) (all : List Slot) (queue queue' : List ℕ) (capacity capacity' tag : ℕ) (e : Entry)
    (slot : Slot) → IsChannel h all queue capacity → tag < 32 → e.tag ≡ tag → IsSlot (h ++ e ∷ []) tag slot
    → IsQueue (h ++ e ∷ []) (set all tag slot) queue'
    → length h + 1 + sum_by to_come (set all tag slot) ≤ capacity'
    → length h + 1 + sum_by to_come (set all tag slot) < 2 ^ 63
    → IsChannel (h ++ e ∷ []) (set all tag slot) queue' capacity'
channel_after h all queue queue' capacity capacity' tag e slot is low same own queued room small =
    let long = length-append h (e ∷ []) in
    record {
      count = length-set all tag slot ∙ is.count;
      tags = All-push (λ (e : Entry). e.tag < 32) h e is.tags (omega (arith, same));
      each = each_after h all tag e slot is.count low same is.each own;
      queued = queued;
      room = omega (arith, long, room);
      small = omega (arith, long, small);
    }

-- a tag whose slot has another number isn't issued
not_issued : (h : List Entry) (tag : ℕ) (slot : Slot) → IsSlot h tag slot → slot_number slot ≢ 1 → ¬ IsIssued tag h
not_issued h tag slot is other issued =
    other (sym (slot_state h tag slot is) ∙ issued_number tag h issued)

pub channel_issued : (h : List Entry) (all : List Slot) (queue : List ℕ) (capacity capacity' tag : ℕ) (group : Underway)
    → IsChannel h all queue capacity → tag < 32 → IsFreeSlot (get_or all tag slots.Free)
    → length h + 128 ≤ capacity' → length h < 2 ^ 62
    → IsChannel (h ++ issue tag (plan_of group) ∷ []) (set all tag (slots.Issued group)) (queue ++ tag ∷ []) capacity'
channel_issued h all queue capacity capacity' tag group is low free room small =
    let e : Entry = issue tag (plan_of group) in
    let slot : Slot = slots.Issued group in
    let At : Slot → Type 0 = IsSlot h tag in
    let was : IsSlot h tag slots.Free = subst At (free_is (get_or all tag slots.Free) free) (is.each tag low) in
    let own = slot_issued h tag group was in
    let wide : tag < length all = (let count = is.count in omega (arith, count)) in
    let come = sum_by-set to_come all tag slot slots.Free wide in
    let wait = sum_by-set waiting all tag slot slots.Free wide in
    let counts = free_counts (get_or all tag slots.Free) free in
    let none = counts.0 in
    let idle = counts.1 in
    let most = all_to_come all in
    let count = is.count in
    let many : sum_by waiting (set all tag slot) ≡ sum_by waiting all + 1 = omega (arith, wait, idle) in
    let queued = queue_issued h all (set all tag slot) queue e is.queued (not_issued h tag slots.Free was (λ n. omega (arith, n)))
    (plan_of group, last_own tag h e refl) many in
    channel_after h all queue (queue ++ tag ∷ []) capacity capacity' tag e slot is low refl own queued
    (omega (arith, come, none, most, count, room)) (omega (arith, come, none, most, count, small))

-- the room after an entry of a round that has begun
later_room : (h : List Entry) (all : List Slot) (queue : List ℕ) (capacity tag : ℕ) (slot : Slot)
    → IsChannel h all queue capacity → tag < 32 → to_come slot + 1 ≡ to_come (get_or all tag slots.Free)
    → (length h + 1 + sum_by to_come (set all tag slot) ≤ capacity)
    × (length h + 1 + sum_by to_come (set all tag slot) < 2 ^ 63)
later_room h all queue capacity tag slot is low less =
    let count = is.count in
    let come = sum_by-set to_come all tag slot slots.Free (omega (arith, count)) in
    let room = is.room in
    let small = is.small in
    (omega (arith, come, less, room), omega (arith, come, less, small))

pub channel_taken : (h : List Entry) (all : List Slot) (queue : List ℕ) (capacity tag : ℕ) (group : Underway)
    → IsChannel h all (tag ∷ queue) capacity → tag < 32 → get_or all tag slots.Free ≡ slots.Issued group
    → IsChannel (h ++ out tag (plan_of group) ∷ []) (set all tag slots.Out) queue capacity
channel_taken h all queue capacity tag group is low there =
    let e : Entry = out tag (plan_of group) in
    let At : Slot → Type 0 = IsSlot h tag in
    let own = slot_out h tag group (subst At there (is.each tag low)) in
    let count = is.count in
    let wait = sum_by-set waiting all tag slots.Out slots.Free (omega (arith, count)) in
    let one : waiting (get_or all tag slots.Free) ≡ 1 = ap waiting there in
    let room = later_room h all (tag ∷ queue) capacity tag slots.Out is low (sym (ap to_come there)) in
    let queued = queue_taken h all (set all tag slots.Out) queue e is.queued
    (not_issued (h ++ e ∷ []) tag slots.Out own (λ n. omega (arith, n))) (omega (arith, wait, one)) in
    channel_after h all (tag ∷ queue) queue capacity capacity tag e slots.Out is low refl own queued room.0 room.1

pub channel_finished : (h : List Entry) (all : List Slot) (queue : List ℕ) (capacity tag : ℕ) (group : Underway)
    → IsChannel h all queue capacity → tag < 32 → get_or all tag slots.Free ≡ slots.Out
    → last_on tag h ≡ Some (out tag (plan_of group)) → left group ≡ []
    → IsChannel (h ++ finish tag (plan_of group) ∷ []) (set all tag (slots.Finished group)) queue capacity
channel_finished h all queue capacity tag group is low there last none =
    let e : Entry = finish tag (plan_of group) in
    let slot : Slot = slots.Finished group in
    let At : Slot → Type 0 = IsSlot h tag in
    let was = subst At there (is.each tag low) in
    let own = slot_finished h tag group was last none in
    let count = is.count in
    let wait = sum_by-set waiting all tag slot slots.Free (omega (arith, count)) in
    let zero' : waiting (get_or all tag slots.Free) ≡ 0 = ap waiting there in
    let room = later_room h all queue capacity tag slot is low (sym (ap to_come there)) in
    let queued = queue_kept h all (set all tag slot) queue e is.queued
    (not_issued h tag slots.Out was (λ n. omega (arith, n)))
    (not_issued (h ++ e ∷ []) tag slot own (λ n. omega (arith, n))) (omega (arith, wait, zero')) in
    channel_after h all queue queue capacity capacity tag e slot is low refl own queued room.0 room.1

pub channel_collected : (h : List Entry) (all : List Slot) (queue : List ℕ) (capacity tag : ℕ) (group : Underway)
    → IsChannel h all queue capacity → tag < 32 → get_or all tag slots.Free ≡ slots.Finished group
    → IsChannel (h ++ collect tag (plan_of group) ∷ []) (set all tag slots.Free) queue capacity
channel_collected h all queue capacity tag group is low there =
    let e : Entry = collect tag (plan_of group) in
    let At : Slot → Type 0 = IsSlot h tag in
    let was = subst At there (is.each tag low) in
    let own = slot_collected h tag group was in
    let count = is.count in
    let wait = sum_by-set waiting all tag slots.Free slots.Free (omega (arith, count)) in
    let zero' : waiting (get_or all tag slots.Free) ≡ 0 = ap waiting there in
    let room = later_room h all queue capacity tag slots.Free is low (sym (ap to_come there)) in
    let queued = queue_kept h all (set all tag slots.Free) queue e is.queued
    (not_issued h tag (slots.Finished group) was (λ n. omega (arith, n)))
    (not_issued (h ++ e ∷ []) tag slots.Free own (λ n. omega (arith, n))) (omega (arith, wait, zero')) in
    channel_after h all queue queue capacity capacity tag e slots.Free is low refl own queued room.0 room.1

-- ---- what the queue tells

pub queue_tells : (h : List Entry) (all : List Slot) (queue : List ℕ) → IsQueue h all queue → (b : Bool)
    → b ≡ eqb (length queue) 0
    → (IsTrue (not b) → (tag : ℕ) × IsIssued tag h) × (((tag : ℕ) × IsIssued tag h) → IsTrue (not b))
queue_tells h all [] is true empty = (λ none. absurd (let wrong = none in cc), λ (tag, issued). (let there = is.complete tag issued in absurd (omega (arith, there.1))))
queue_tells h all [] is false empty = absurd cc
queue_tells h all (t ∷ queue) is true empty =
    absurd (let apart : eqb (length (t ∷ queue)) 0 ≡ false = ne_eqb (length (t ∷ queue)) 0 (λ n. omega (arith, n)) in cc)
queue_tells h all (t ∷ queue) is false empty =
    (λ _. (t, All-head (λ t. IsIssued t h) t queue is.issued), λ _. refl)

pub none_issued : (h : List Entry) (all : List Slot) (queue : List ℕ) → IsQueue h all queue
    → true ≡ eqb (length queue) 0 → (tag : ℕ) → IsIssued tag h → ⊥
none_issued h all queue is empty tag issued =
    let wrong = (queue_tells h all queue is true empty).1 (tag, issued) in
    absurd cc

pub some_waits : (queue : List ℕ) → false ≡ eqb (length queue) 0 → 0 < length queue
some_waits [] some = absurd cc
some_waits (t ∷ queue) some = omega arith

pub head_facts : (h : List Entry) (all : List Slot) (queue : List ℕ) (capacity tag : ℕ) → IsChannel h all queue capacity
    → 0 < length queue → tag ≡ get_or queue 0 tag → IsIssued tag h × (tag < 32) × (queue ≡ tag ∷ drop 1 queue)
head_facts h all [] capacity tag is some first = absurd (omega (arith, some))
head_facts h all (t ∷ queue) capacity tag is some first =
    let At : ℕ → Type 0 = λ t. IsIssued t h in
    let issued : IsIssued tag h = subst At (sym first) (All-head At t queue is.queued.issued) in
    (issued, taken_low h tag is.tags (issued_taken h tag issued), ap (λ t. t ∷ queue) (sym first))

first_of_queue : (h : List Entry) (all : List Slot) (tag : ℕ) (queue : List ℕ) → IsQueue h all (tag ∷ queue)
    → (other : ℕ) → IsIssued other h → other ≢ tag → IsBefore h tag other
first_of_queue h all tag queue is other issued apart =
    let At : ℕ → Type 0 = IsBefore h tag in
    let there = contains_rest tag other queue (λ same. apart (sym same)) (is.complete other issued) in
    let below : there.0 < length queue = there.1 in
    subst At there.2 (is.order 0 (suc there.0) other (omega arith) (omega (arith, below)))

pub first_issued : (h : List Entry) (all : List Slot) (queue : List ℕ) (capacity tag : ℕ) (group : Underway)
    → IsChannel h all queue capacity → tag < 32 → queue ≡ tag ∷ drop 1 queue → get_or all tag slots.Free ≡ slots.Issued group
    → IsIssuedFirst h tag (plan_of group)
first_issued h all queue capacity tag group is low whole there =
    let At : Slot → Type 0 = IsSlot h tag in
    let Of : List ℕ → Type 0 = IsQueue h all in
    record {
      issued = issued_last h tag group (subst At there (is.each tag low));
      first = first_of_queue h all tag (drop 1 queue) (subst Of whole is.queued);
    }

-- ---- what an entry of the history tells of a slot, and room for the next one

pub out_facts : (h : List Entry) (all : List Slot) (queue : List ℕ) (capacity tag : ℕ) (plan : Plan)
    → IsChannel h all queue capacity → last_on tag h ≡ Some (out tag plan)
    → (tag < 32) × (get_or all tag slots.Free ≡ slots.Out) × (1 ≤ to_come (get_or all tag slots.Free))
out_facts h all queue capacity tag plan is last =
    let low = taken_low h tag is.tags (out_taken h tag (plan, last)) in
    let slot = out_slot h tag (get_or all tag slots.Free) (is.each tag low) (plan, last) in
    let two : to_come (get_or all tag slots.Free) ≡ 2 = ap to_come slot in
    (low, slot, omega (arith, two))

pub room_left : (h : List Entry) (all : List Slot) (queue : List ℕ) (capacity tag : ℕ) → IsChannel h all queue capacity
    → tag < 32 → 1 ≤ to_come (get_or all tag slots.Free) → length h < capacity
room_left h all queue capacity tag is low some =
    let count = is.count in
    let part = sum_by_more_le to_come all tag slots.Free (omega (arith, count)) in
    let room = is.room in
    omega (arith, part, room, some)

pub reserved : {T E : Type 0} (r : Result T E) (P : Type 0) → is_err r ≡ false → OnOk r P → P
reserved (Ok x) P ok is = is
reserved (Err e) P ok is = absurd cc

pub channel_new : (capacity : ℕ) → IsChannel [] (replicate 32 slots.Free) [] capacity
channel_new capacity =
    let all : List Slot = replicate 32 slots.Free in
    let none : sum_by to_come all ≡ 0 = refl in
    record {
      count = length-replicate 32 slots.Free;
      tags = All-nil (λ (e : Entry). e.tag < 32);
      each = λ tag low. (let At : Slot → Type 0 = IsSlot [] tag in
          subst At (sym (get_or-replicate 32 tag slots.Free slots.Free low))
          (record { whole = []; begun = []; entries = refl; state = refl }));
      queued = record {
        number = refl;
        issued = All-nil (λ tag. IsIssued tag []);
        complete = λ tag issued. absurd (let some = issued.1 in cc);
        order = λ i j d low below. absurd (omega (arith, below));
      };
      room = omega (arith, none);
      small = omega (arith, none);
    }

-- ---- the least free tag

pub least_free : (h : List Entry) (all : List Slot) (r : Option ℕ)
    → ((tag : ℕ) → tag < 32 → IsSlot h tag (get_or all tag slots.Free)) → IfSome r (λ t. t < 32)
    → IfSome r (λ t. IsFreeSlot (get_or all t slots.Free))
    → IfSome r (λ t. (other : ℕ) → other < t → ¬ IsFreeSlot (get_or all other slots.Free))
    → IfSome r (λ t. IsLeastFree h t)
least_free h all None each below free least = tt
least_free h all (Some t) each below free least = record {
  below = below;
  free = free_from_slot h t (get_or all t slots.Free) (each t below) free;
  least = λ other low is. least other low
      (slot_from_free h other (get_or all other slots.Free) (each other (omega (arith, low, below))) is);
}

pub no_free : (h : List Entry) (all : List Slot) (r : Option ℕ)
    → ((tag : ℕ) → tag < 32 → IsSlot h tag (get_or all tag slots.Free))
    → IfNone r ((t : ℕ) → t < 32 → ¬ IsFreeSlot (get_or all t slots.Free))
    → IfNone r ((t : ℕ) → t < 32 → ¬ IsFree t h)
no_free h all None each none = λ t low is. none t low (slot_from_free h t (get_or all t slots.Free) (each t low) is)
no_free h all (Some t) each none = tt

-- the group of a finished slot has no piece left
pub finished_moved : (h : List Entry) (tag : ℕ) (group : Underway) → IsSlot h tag (slots.Finished group) → left group ≡ []
finished_moved h tag group is = is.state.0
