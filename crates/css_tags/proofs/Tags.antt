-- The state of each tag, by its entries.
use Rattle.std.proofs.Common.{◌≡◌, ◌≢◌, ◌<◌, ◌≤◌, ◌⊎◌, ℕ, cond, eqb, Option, Some, None, List, [], ◌∷◌, ◌++◌, arith, refl, sym, ap, ◌∙◌, inl, inr, All}
use Rattle.std.specs.List.{flat_map, last_or}
use Rattle.std.proofs.lemmas.Bool.{eq-eqb, ne_eqb}
use Rattle.std.proofs.lemmas.List.{append_assoc, append-nil}
use Rattle.std.proofs.lemmas.List.Elements.{filter-append, All-head, All-tail}
use Rattle.std.proofs.lemmas.List.Concat.{flat_map-append}
use Rattle.std.proofs.lemmas.Bool.{cases_lt}
use mathlib.Core.List.{IsPrefix}
use Rattle.css_tags.specs.declared.entry.Step.{Step}
use Rattle.css_tags.specs.declared.entry.Step.TheVariants.{Issue, Out, Finished, Collected}
use Rattle.css_tags.specs.declared.slot.Slot.{Slot}
use Rattle.css_tags.specs.declared.slot.Slot.TheVariants as slots
use Rattle.css_tags.specs.Plans.{Plan}
use Rattle.css_tags.specs.Groups.{Underway, left, plan_of}
use Rattle.css_tags.specs.Entries.{Entry, issue, out, finish, collect}
use Rattle.css_tags.specs.Legal.{round, entries_on, ChannelLegal}
use Rattle.css_tags.specs.States.{last_on, IsFree, IsIssued, IsOut, IsFinished}
use Rattle.css_tags.specs.Slots.{IsFreeSlot, IsFinishedSlot, IsSlot}

-- ---- one more entry

pub on_own : (tag : ℕ) (e : Entry) → e.tag ≡ tag → entries_on tag (e ∷ []) ≡ e ∷ []
on_own tag e same = ap (λ b. cond b (e ∷ []) []) (eq-eqb e.tag tag same)

pub on_other : (tag : ℕ) (e : Entry) → e.tag ≢ tag → entries_on tag (e ∷ []) ≡ []
on_other tag e other = ap (λ b. cond b (e ∷ []) []) (ne_eqb e.tag tag other)

pub entries_own : (tag : ℕ) (h : List Entry) (e : Entry) → e.tag ≡ tag
    → entries_on tag (h ++ e ∷ []) ≡ entries_on tag h ++ e ∷ []
entries_own tag h e same =
    filter-append (λ x. eqb x.tag tag) h (e ∷ []) ∙ ap (λ es. entries_on tag h ++ es) (on_own tag e same)

pub entries_other : (tag : ℕ) (h : List Entry) (e : Entry) → e.tag ≢ tag
    → entries_on tag (h ++ e ∷ []) ≡ entries_on tag h
entries_other tag h e other =
    filter-append (λ x. eqb x.tag tag) h (e ∷ []) ∙ ap (λ es. entries_on tag h ++ es) (on_other tag e other)
    ∙ append-nil (entries_on tag h)

last_append : (o : Option Entry) (xs ys : List Entry) → last_or o (xs ++ ys) ≡ last_or (last_or o xs) ys
last_append o [] ys = refl
last_append o (x ∷ xs) ys = last_append (Some x) xs ys

pub last_own : (tag : ℕ) (h : List Entry) (e : Entry) → e.tag ≡ tag → last_on tag (h ++ e ∷ []) ≡ Some e
last_own tag h e same =
    ap (last_or None) (entries_own tag h e same) ∙ last_append None (entries_on tag h) (e ∷ [])

pub last_other : (tag : ℕ) (h : List Entry) (e : Entry) → e.tag ≢ tag → last_on tag (h ++ e ∷ []) ≡ last_on tag h
last_other tag h e other = ap (last_or None) (entries_other tag h e other)

-- ---- what a slot tells of the last entry

rounds_last : (tag : ℕ) (o : Option Entry) (plans : List Plan)
    → (last_or o (flat_map (round tag) plans) ≡ o)
    ⊎ ((plan : Plan) × (last_or o (flat_map (round tag) plans) ≡ Some (collect tag plan)))
rounds_last tag o [] = inl refl
rounds_last tag o (p ∷ plans) =
    elim (rounds_last tag (Some (collect tag p)) plans) [
      | inl same ↦ inr (p, same)
      | inr later ↦ inr later
    ]

slot_last : {h : List Entry} {tag : ℕ} {slot : Slot} (is : IsSlot h tag slot)
    → last_on tag h ≡ last_or (last_or None (flat_map (round tag) is.whole)) is.begun
slot_last {h = h} {tag = tag} is =
    ap (last_or None) is.entries ∙ last_append None (flat_map (round tag) is.whole) is.begun

pub free_last : (h : List Entry) (tag : ℕ) → IsSlot h tag slots.Free → IsFree tag h
free_last h tag is =
    let last = slot_last is ∙ ap (last_or (last_or None (flat_map (round tag) is.whole))) is.state in
    elim (rounds_last tag None is.whole) [
      | inl none ↦ inl (last ∙ none)
      | inr some ↦ inr (some.0, last ∙ some.1)
    ]

pub issued_last : (h : List Entry) (tag : ℕ) (group : Underway) → IsSlot h tag (slots.Issued group)
    → last_on tag h ≡ Some (issue tag (plan_of group))
issued_last h tag group is =
    slot_last is ∙ ap (last_or (last_or None (flat_map (round tag) is.whole))) is.state

pub out_last : (h : List Entry) (tag : ℕ) → IsSlot h tag slots.Out → IsOut tag h
out_last h tag is =
    (is.state.0, slot_last is ∙ ap (last_or (last_or None (flat_map (round tag) is.whole))) is.state.1)

pub finished_last : (h : List Entry) (tag : ℕ) (group : Underway) → IsSlot h tag (slots.Finished group)
    → last_on tag h ≡ Some (finish tag (plan_of group))
finished_last h tag group is =
    slot_last is ∙ ap (last_or (last_or None (flat_map (round tag) is.whole))) is.state.1

-- ---- no tag is in two states

abbrev number_of : Step → ℕ
number_of Issue = 1
number_of Out = 2
number_of Finished = 3
number_of Collected = 4

abbrev number_after : Option Entry → ℕ
number_after None = 4
number_after (Some e) = number_of e.step

-- 1 where the tag is issued, 2 where it is out, 3 where it is finished, 4 where it is free
abbrev pub state_number : ℕ → List Entry → ℕ
state_number tag h = number_after (last_on tag h)

pub free_number : (tag : ℕ) (h : List Entry) → IsFree tag h → state_number tag h ≡ 4
free_number tag h (inl none) = ap number_after none
free_number tag h (inr (plan, some)) = ap number_after some

pub issued_number : (tag : ℕ) (h : List Entry) → IsIssued tag h → state_number tag h ≡ 1
issued_number tag h (plan, some) = ap number_after some

pub out_number : (tag : ℕ) (h : List Entry) → IsOut tag h → state_number tag h ≡ 2
out_number tag h (plan, some) = ap number_after some

pub finished_number : (tag : ℕ) (h : List Entry) → IsFinished tag h → state_number tag h ≡ 3
finished_number tag h (plan, some) = ap number_after some

abbrev pub slot_number : Slot → ℕ
slot_number slots.Free = 4
slot_number (slots.Issued group) = 1
slot_number slots.Out = 2
slot_number (slots.Finished group) = 3

pub slot_state : (h : List Entry) (tag : ℕ) (slot : Slot) → IsSlot h tag slot → state_number tag h ≡ slot_number slot
slot_state h tag slots.Free is = free_number tag h (free_last h tag is)
slot_state h tag (slots.Issued group) is = ap number_after (issued_last h tag group is)
slot_state h tag slots.Out is = out_number tag h (out_last h tag is)
slot_state h tag (slots.Finished group) is = ap number_after (finished_last h tag group is)

pub free_slot : (slot : Slot) → slot_number slot ≡ 4 → IsFreeSlot slot
free_slot slots.Free is = tt
free_slot (slots.Issued group) is = absurd (omega (arith, is))
free_slot slots.Out is = absurd (omega (arith, is))
free_slot (slots.Finished group) is = absurd (omega (arith, is))

pub finished_slot : (slot : Slot) → slot_number slot ≡ 3 → IsFinishedSlot slot
finished_slot slots.Free is = absurd (omega (arith, is))
finished_slot (slots.Issued group) is = absurd (omega (arith, is))
finished_slot slots.Out is = absurd (omega (arith, is))
finished_slot (slots.Finished group) is = tt

pub free_from_slot : (h : List Entry) (tag : ℕ) (slot : Slot) → IsSlot h tag slot → IsFreeSlot slot → IsFree tag h
free_from_slot h tag slots.Free is free = free_last h tag is
free_from_slot h tag (slots.Issued group) is free = absurd free
free_from_slot h tag slots.Out is free = absurd free
free_from_slot h tag (slots.Finished group) is free = absurd free

pub slot_from_free : (h : List Entry) (tag : ℕ) (slot : Slot) → IsSlot h tag slot → IsFree tag h → IsFreeSlot slot
slot_from_free h tag slot is free = free_slot slot (sym (slot_state h tag slot is) ∙ free_number tag h free)

pub finished_from_slot : (h : List Entry) (tag : ℕ) (slot : Slot) → IsSlot h tag slot → IsFinishedSlot slot
    → IsFinished tag h
finished_from_slot h tag slots.Free is done = absurd done
finished_from_slot h tag (slots.Issued group) is done = absurd done
finished_from_slot h tag slots.Out is done = absurd done
finished_from_slot h tag (slots.Finished group) is done = (plan_of group, finished_last h tag group is)

pub slot_from_finished : (h : List Entry) (tag : ℕ) (slot : Slot) → IsSlot h tag slot → IsFinished tag h
    → IsFinishedSlot slot
slot_from_finished h tag slot is done =
    finished_slot slot (sym (slot_state h tag slot is) ∙ finished_number tag h done)

-- a tag that is neither free nor finished is issued or out
pub not_yet : (h : List Entry) (tag : ℕ) (slot : Slot) → IsSlot h tag slot → ¬ IsFree tag h → ¬ IsFinishedSlot slot
    → IsIssued tag h ⊎ IsOut tag h
not_yet h tag slots.Free is taken undone = absurd (taken (free_last h tag is))
not_yet h tag (slots.Issued group) is taken undone = inl (plan_of group, issued_last h tag group is)
not_yet h tag slots.Out is taken undone = inr (out_last h tag is)
not_yet h tag (slots.Finished group) is taken undone = absurd (undone tt)

-- ---- the steps of a tag

pub slot_other : (h : List Entry) (tag : ℕ) (slot : Slot) (e : Entry) → e.tag ≢ tag → IsSlot h tag slot
    → IsSlot (h ++ e ∷ []) tag slot
slot_other h tag slot e other is = record {
  whole = is.whole;
  begun = is.begun;
  entries = entries_other tag h e other ∙ is.entries;
  state = is.state;
}

one_more : {h : List Entry} {tag : ℕ} {slot : Slot} (is : IsSlot h tag slot) (e : Entry) (es : List Entry) → e.tag ≡ tag
    → is.begun ≡ es → entries_on tag (h ++ e ∷ []) ≡ flat_map (round tag) is.whole ++ (es ++ e ∷ [])
one_more {h = h} {tag = tag} is e es same begun =
    entries_own tag h e same ∙ ap (λ es. es ++ e ∷ []) is.entries
    ∙ append_assoc (flat_map (round tag) is.whole) is.begun (e ∷ [])
    ∙ ap (λ es. flat_map (round tag) is.whole ++ (es ++ e ∷ [])) begun

pub slot_issued : (h : List Entry) (tag : ℕ) (group : Underway) → IsSlot h tag slots.Free
    → IsSlot (h ++ issue tag (plan_of group) ∷ []) tag (slots.Issued group)
slot_issued h tag group is = record {
  whole = is.whole;
  begun = issue tag (plan_of group) ∷ [];
  entries = one_more is (issue tag (plan_of group)) [] refl is.state;
  state = refl;
}

pub slot_out : (h : List Entry) (tag : ℕ) (group : Underway) → IsSlot h tag (slots.Issued group)
    → IsSlot (h ++ out tag (plan_of group) ∷ []) tag slots.Out
slot_out h tag group is = record {
  whole = is.whole;
  begun = issue tag (plan_of group) ∷ out tag (plan_of group) ∷ [];
  entries = one_more is (out tag (plan_of group)) (issue tag (plan_of group) ∷ []) refl is.state;
  state = (plan_of group, refl);
}

abbrev plan_after : Plan → Option Entry → Plan
plan_after p None = p
plan_after p (Some e) = e.plan

out_of_slot : (h : List Entry) (tag : ℕ) (is : IsSlot h tag slots.Out) → last_on tag h ≡ Some (out tag is.state.0)
out_of_slot h tag is = slot_last is ∙ ap (last_or (last_or None (flat_map (round tag) is.whole))) is.state.1

pub slot_finished : (h : List Entry) (tag : ℕ) (group : Underway) → IsSlot h tag slots.Out
    → last_on tag h ≡ Some (out tag (plan_of group)) → left group ≡ []
    → IsSlot (h ++ finish tag (plan_of group) ∷ []) tag (slots.Finished group)
slot_finished h tag group is last none =
    let plan : Plan = plan_of group in
    let own = is.state.0 in
    let there : last_on tag h ≡ Some (out tag own) = (out_of_slot h tag is) in
    let same : own ≡ plan = ap (plan_after plan) (sym there ∙ last) in
    record {
      whole = is.whole;
      begun = issue tag plan ∷ out tag plan ∷ finish tag plan ∷ [];
      entries = one_more is (finish tag plan) (issue tag plan ∷ out tag plan ∷ []) refl
          (is.state.1 ∙ ap (λ p. issue tag p ∷ out tag p ∷ []) same);
      state = (none, refl);
    }

pub slot_collected : (h : List Entry) (tag : ℕ) (group : Underway) → IsSlot h tag (slots.Finished group)
    → IsSlot (h ++ collect tag (plan_of group) ∷ []) tag slots.Free
slot_collected h tag group is =
    let plan : Plan = plan_of group in
    record {
      whole = is.whole ++ plan ∷ [];
      begun = [];
      entries = one_more is (collect tag plan) (issue tag plan ∷ out tag plan ∷ finish tag plan ∷ []) refl is.state.1
          ∙ sym (append-nil (flat_map (round tag) (is.whole ++ plan ∷ []))
          ∙ flat_map-append (round tag) is.whole (plan ∷ []));
      state = refl;
    }

-- ---- a legal history

begun_legal : (h : List Entry) (tag : ℕ) (whole : List Plan) (begun : List Entry) (plan : Plan)
    → entries_on tag h ≡ flat_map (round tag) whole ++ begun → (rest : List Entry) → begun ++ rest ≡ round tag plan
    → (plans : List Plan) × IsPrefix (entries_on tag h) (flat_map (round tag) plans)
begun_legal h tag whole begun plan entries rest one = (
  whole ++ plan ∷ [],
  (
    rest,
    ap (λ es. es ++ rest) entries ∙ append_assoc (flat_map (round tag) whole) begun rest
        ∙ ap (λ es. flat_map (round tag) whole ++ es) (one ∙ sym (append-nil (round tag plan)))
        ∙ sym (flat_map-append (round tag) whole (plan ∷ [])),
  ),
)

slot_legal : (h : List Entry) (tag : ℕ) (slot : Slot) → IsSlot h tag slot
    → (plans : List Plan) × IsPrefix (entries_on tag h) (flat_map (round tag) plans)
slot_legal h tag slots.Free is = (
  is.whole,
  (
    [],
    append-nil (entries_on tag h) ∙ is.entries
        ∙ ap (λ es. flat_map (round tag) is.whole ++ es) is.state ∙ append-nil (flat_map (round tag) is.whole),
  ),
)
slot_legal h tag (slots.Issued group) is =
    begun_legal h tag is.whole is.begun (plan_of group) is.entries
    (out tag (plan_of group) ∷ finish tag (plan_of group) ∷ collect tag (plan_of group) ∷ [])
    (ap (λ es. es ++ (out tag (plan_of group) ∷ finish tag (plan_of group) ∷ collect tag (plan_of group) ∷ [])) is.state)
slot_legal h tag slots.Out is =
    begun_legal h tag is.whole is.begun is.state.0 is.entries (finish tag is.state.0 ∷ collect tag is.state.0 ∷ [])
    (ap (λ es. es ++ (finish tag is.state.0 ∷ collect tag is.state.0 ∷ [])) is.state.1)
slot_legal h tag (slots.Finished group) is =
    begun_legal h tag is.whole is.begun (plan_of group) is.entries (collect tag (plan_of group) ∷ [])
    (ap (λ es. es ++ (collect tag (plan_of group) ∷ [])) is.state.1)

none_on : (h : List Entry) (tag : ℕ) → 32 ≤ tag → All (λ (e : Entry). e.tag < 32) h → entries_on tag h ≡ []
none_on [] tag high each = refl
none_on (e ∷ h) tag high each =
    let low : e.tag < 32 = All-head (λ (e : Entry). e.tag < 32) e h each in
    ap (λ b. cond b (e ∷ entries_on tag h) (entries_on tag h)) (ne_eqb e.tag tag (λ same. omega (arith, low, high, same)))
    ∙ none_on h tag high (All-tail (λ (e : Entry). e.tag < 32) e h each)

pub history_legal : (h : List Entry) → All (λ (e : Entry). e.tag < 32) h → (slot : ℕ → Slot)
    → ((tag : ℕ) → tag < 32 → IsSlot h tag (slot tag)) → ChannelLegal h
history_legal h tags slot each = record {
  tags = tags;
  rounds = λ tag. elim (cases_lt tag 32) [
    | inl low ↦ slot_legal h tag (slot tag) (each tag low)
    | inr high ↦ ([], ([], append-nil (entries_on tag h) ∙ none_on h tag high tags))
  ];
}

-- a tag that no slot has is free
pub high_free : (h : List Entry) (tag : ℕ) → 32 ≤ tag → All (λ (e : Entry). e.tag < 32) h → IsFree tag h
high_free h tag high tags = inl (ap (last_or None) (none_on h tag high tags))

by_number : (slot : Slot) → slot_number slot ≡ 1 → (group : Underway) × (slot ≡ slots.Issued group)
by_number slots.Free is = absurd (omega (arith, is))
by_number (slots.Issued group) is = (group, refl)
by_number slots.Out is = absurd (omega (arith, is))
by_number (slots.Finished group) is = absurd (omega (arith, is))

out_by_number : (slot : Slot) → slot_number slot ≡ 2 → slot ≡ slots.Out
out_by_number slots.Free is = absurd (omega (arith, is))
out_by_number (slots.Issued group) is = absurd (omega (arith, is))
out_by_number slots.Out is = refl
out_by_number (slots.Finished group) is = absurd (omega (arith, is))

two_four : (n : ℕ) → n ≡ 2 → n ≡ 4 → ⊥
two_four n a b = omega (arith, a, b)

one_four : (n : ℕ) → n ≡ 1 → n ≡ 4 → ⊥
one_four n a b = omega (arith, a, b)

three_one : (n : ℕ) → n ≡ 3 → n ≡ 1 → ⊥
three_one n a b = omega (arith, a, b)

three_two : (n : ℕ) → n ≡ 3 → n ≡ 2 → ⊥
three_two n a b = omega (arith, a, b)

pub issued_slot : (h : List Entry) (tag : ℕ) (slot : Slot) → IsSlot h tag slot → IsIssued tag h
    → (group : Underway) × (slot ≡ slots.Issued group)
issued_slot h tag slot is issued = by_number slot (sym (slot_state h tag slot is) ∙ issued_number tag h issued)

pub out_slot : (h : List Entry) (tag : ℕ) (slot : Slot) → IsSlot h tag slot → IsOut tag h → slot ≡ slots.Out
out_slot h tag slot is out = out_by_number slot (sym (slot_state h tag slot is) ∙ out_number tag h out)

pub finished_group : (slot : Slot) → IsFinishedSlot slot → (group : Underway) × (slot ≡ slots.Finished group)
finished_group slots.Free is = absurd is
finished_group (slots.Issued group) is = absurd is
finished_group slots.Out is = absurd is
finished_group (slots.Finished group) is = (group, refl)

-- a tag that isn't free is one of the 32
pub taken_low : (h : List Entry) (tag : ℕ) → All (λ (e : Entry). e.tag < 32) h → ¬ IsFree tag h → tag < 32
taken_low h tag tags taken =
    elim (cases_lt tag 32) [
      | inl low ↦ low
      | inr high ↦ absurd (taken (high_free h tag high tags))
    ]

pub out_taken : (h : List Entry) (tag : ℕ) → IsOut tag h → ¬ IsFree tag h
out_taken h tag is free = two_four (state_number tag h) (out_number tag h is) (free_number tag h free)

pub issued_taken : (h : List Entry) (tag : ℕ) → IsIssued tag h → ¬ IsFree tag h
issued_taken h tag is free = one_four (state_number tag h) (issued_number tag h is) (free_number tag h free)

-- a finished tag is neither issued nor out
pub finished_only : (h : List Entry) (tag : ℕ) → IsFinished tag h → (IsIssued tag h ⊎ IsOut tag h) → ⊥
finished_only h tag is (inl issued) =
    three_one (state_number tag h) (finished_number tag h is) (issued_number tag h issued)
finished_only h tag is (inr out) =
    three_two (state_number tag h) (finished_number tag h is) (out_number tag h out)
