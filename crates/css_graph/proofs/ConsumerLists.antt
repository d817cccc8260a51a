-- The lists of the tasks that need a task.
use Rattle.std.proofs.Common.{◌≡◌, ℕ, zero, suc, ◌+◌, ◌-◌, ◌<◌, ◌≤◌, Bool, true, false, cond, ◌&&◌, ◌||◌, not, eqb, ltb, List, [], ◌∷◌, ◌++◌, length, get_or, set, take, drop, map, vec_len, vec_capacity, refl, sym, ap, ◌∙◌, subst, inl, inr, arith}
use Rattle.std.specs.List.{list_any, list_all, All}
use Rattle.std.proofs.lemmas.Bool.{cases_Bool, eqb-true, eq-eqb, ne_eqb, or_parts, or_cases, and_parts, ltb-true, false≢true}
use Rattle.std.proofs.lemmas.List.{get_or-map, map-set, set-get_or}
use Rattle.std.proofs.lemmas.List.Elements.{All-map}
use Rattle.css_graph.specs.declared.consumers.ConsumerList.{ConsumerList}
use Rattle.css_graph.specs.Tasks.{is_among}
use Rattle.css_graph.specs.Bundle.{AreDifferent}
use Rattle.css_graph.specs.Nodes.{IsAscending}
use Rattle.css_graph.specs.Consumers.{line_of, consumers_at, HaveRoom, with_each}
use Rattle.css_graph.proofs.Counts.{eqb_sym, among_push}
use Rattle.css_graph.proofs.Keyed.{set_changed, changed_at, same_absent}

abbrev pub list_number : ConsumerList → ℕ
list_number l = l.number

abbrev line_number : ℕ × List ℕ → ℕ
line_number line = line.0

-- the numbers of lines and of lists
pub line_numbers : (ls : List ConsumerList) → map line_number (map line_of ls) ≡ map list_number ls
line_numbers [] = refl
line_numbers (l ∷ ls) = ap (λ (ns : List ℕ). l.number ∷ ns) (line_numbers ls)

pub ascending_lines : (ls ms : List ConsumerList) → map line_of ms ≡ map line_of ls → IsAscending (map list_number ls) → IsAscending (map list_number ms)
ascending_lines ls ms e up = subst IsAscending (sym (line_numbers ls) ∙ ap (map line_number) (sym e) ∙ line_numbers ms) up

-- a list that was read at the place of its number
pub line_read : (n : ℕ) (ls : List ConsumerList) (i : ℕ) (l : ConsumerList) → IsAscending (map list_number ls) → i < length ls → (get_or ls i l).number ≡ n → l ≡ get_or ls i l → consumers_at (map line_of ls) n ≡ l.consumers.items
line_read n [] i l up within at is = absurd (omega arith)
line_read n (m ∷ ls) zero l up within at is =
    let e : eqb m.number n ≡ true = eq-eqb m.number n at in
    rw e (ap (λ (k : ConsumerList). k.consumers.items) (sym is))
line_read n (m ∷ ls) (suc i) l up within at is =
    let lt : m.number < n = subst (λ k. m.number < k) at (above m.number ls i l up.0 (omega arith)) in
    let e : eqb m.number n ≡ false = ne_eqb m.number n (λ same. omega arith) in
    rw e (line_read n ls i l up.1 (omega arith) at is)
  where
    above : (m : ℕ) (ls : List ConsumerList) (i : ℕ) (d : ConsumerList) → list_all (ltb m) (map list_number ls) ≡ true → i < length ls → m < (get_or ls i d).number
    above m [] i d h w = absurd (omega arith)
    above m (x ∷ ls) zero d h w = ltb-true m x.number (and_parts (ltb m x.number) (list_all (ltb m) (map list_number ls)) h).0
    above m (x ∷ ls) (suc i) d h w = above m ls i d (and_parts (ltb m x.number) (list_all (ltb m) (map list_number ls)) h).1 (omega arith)

pub line_absent : (n : ℕ) (ls : List ConsumerList) → list_any (λ l. eqb l.number n) ls ≡ false → consumers_at (map line_of ls) n ≡ []
line_absent n [] gone = refl
line_absent n (l ∷ ls) gone =
    let parts = or_parts (eqb l.number n) (list_any (λ l. eqb l.number n) ls) gone in
    rw parts.0 (line_absent n ls parts.1)

-- a list in the place of one with the same line
pub same_lines_set : (ls : List ConsumerList) (i : ℕ) (l d : ConsumerList) → line_of l ≡ line_of (get_or ls i d) → map line_of (set ls i l) ≡ map line_of ls
same_lines_set [] i l d e = refl
same_lines_set (m ∷ ls) zero l d e = ap (λ (x : ℕ × List ℕ). x ∷ map line_of ls) e
same_lines_set (m ∷ ls) (suc i) l d e = ap (λ (xs : List (ℕ × List ℕ)). line_of m ∷ xs) (same_lines_set ls i l d e)

-- a list with room in the place of that of a number
pub room_more : (n : ℕ) (ls : List ConsumerList) (i : ℕ) (l d : ConsumerList) → IsAscending (map list_number ls) → i < length ls → (get_or ls i d).number ≡ n → vec_len l.consumers < vec_capacity l.consumers
    → (ns : List ℕ) → HaveRoom ns ls → HaveRoom (ns ++ n ∷ []) (set ls i l)
room_more n ls i l d up within at room ns all =
    let changed : set ls i l ≡ map (changed_at list_number n (λ _. l)) ls = set_changed list_number (λ _. l) n ls i d up within at in
    let P : ConsumerList → Type 0 = λ (k : ConsumerList). is_among (ns ++ n ∷ []) k.number ≡ true → vec_len k.consumers < vec_capacity k.consumers in
    subst (All P) (sym changed) (All-map P (changed_at list_number n (λ _. l)) ls (λ k e w. each (get_or ls k e) (all k e w)))
  where
    each : (k : ConsumerList) → (is_among ns k.number ≡ true → vec_len k.consumers < vec_capacity k.consumers)
        → is_among (ns ++ n ∷ []) (changed_at list_number n (λ _. l) k).number ≡ true → vec_len (changed_at list_number n (λ _. l) k).consumers < vec_capacity (changed_at list_number n (λ _. l) k).consumers
    each k has = elim (cases_Bool (eqb k.number n)) [
      | inl e ↦ rw e (λ h. room)
      | inr e ↦ rw e (λ h. has (was (is_among ns k.number) (eqb n k.number) (eqb_sym n k.number ∙ e) (sym (among_push ns n k.number) ∙ h)))
    ]
      where
        was : (a b : Bool) → b ≡ false → (a || b) ≡ true → a ≡ true
        was true b e h = refl
        was false b e h = absurd (false≢true (sym e ∙ h))

pub room_absent : (n : ℕ) (ls : List ConsumerList) → list_any (λ l. eqb l.number n) ls ≡ false → (ns : List ℕ) → HaveRoom ns ls → HaveRoom (ns ++ n ∷ []) ls
room_absent n ls gone ns all k d w h = all k d w (was (is_among ns (get_or ls k d).number) (eqb n (get_or ls k d).number) (eqb_sym n (get_or ls k d).number ∙ other ls k d gone w) (sym (among_push ns n (get_or ls k d).number) ∙ h))
  where
    was : (a b : Bool) → b ≡ false → (a || b) ≡ true → a ≡ true
    was true b e h = refl
    was false b e h = absurd (false≢true (sym e ∙ h))

    other : (ls : List ConsumerList) (k : ℕ) (d : ConsumerList) → list_any (λ l. eqb l.number n) ls ≡ false → k < length ls → eqb (get_or ls k d).number n ≡ false
    other [] k d gone w = absurd (omega arith)
    other (l ∷ ls) zero d gone w = (or_parts (eqb l.number n) (list_any (λ l. eqb l.number n) ls) gone).0
    other (l ∷ ls) (suc k) d gone w = other ls k d (or_parts (eqb l.number n) (list_any (λ l. eqb l.number n) ls) gone).1 (omega arith)

pub room_first : (n : ℕ) (ns : List ℕ) (ls : List ConsumerList) → HaveRoom (n ∷ ns) ls → HaveRoom (n ∷ []) ls
room_first n ns ls all k d w h = all k d w (more (eqb n (get_or ls k d).number) (is_among ns (get_or ls k d).number) h)
  where
    more : (a b : Bool) → (a || false) ≡ true → (a || b) ≡ true
    more true b h = refl
    more false b h = absurd (false≢true h)

pub room_rest : (n : ℕ) (ns : List ℕ) (ls : List ConsumerList) → HaveRoom (n ∷ ns) ls → HaveRoom ns ls
room_rest n ns ls all k d w h = all k d w (more (eqb n (get_or ls k d).number) (is_among ns (get_or ls k d).number) h)
  where
    more : (a b : Bool) → b ≡ true → (a || b) ≡ true
    more true b h = refl
    more false b h = h

pub room_none : (ls : List ConsumerList) → HaveRoom [] ls
room_none ls k d w h = absurd (false≢true h)

-- lines, one of which has changed
extended : (c n : ℕ) (lines : List (ℕ × List ℕ)) → map (changed_at line_number n (λ line. (line.0, line.1 ++ c ∷ []))) lines ≡ with_each c (n ∷ []) lines
extended c n [] = refl
extended c n (line ∷ lines) =
    let rest = extended c n lines in
    elim (cases_Bool (eqb line.0 n)) [
      | inl e ↦
          let f : eqb n line.0 ≡ true = eqb_sym n line.0 ∙ e in
          rw (e, f) (ap (λ (ls : List (ℕ × List ℕ)). (line.0, line.1 ++ c ∷ []) ∷ ls) rest)
      | inr e ↦
          let f : eqb n line.0 ≡ false = eqb_sym n line.0 ∙ e in
          rw (e, f) (ap (λ (ls : List (ℕ × List ℕ)). (line.0, line.1) ∷ ls) rest)
    ]

pub lines_set : (c n : ℕ) (ls : List ConsumerList) (i : ℕ) (l d : ConsumerList) → IsAscending (map list_number ls) → i < length ls → (get_or ls i d).number ≡ n
    → line_of l ≡ ((get_or ls i d).number, (get_or ls i d).consumers.items ++ c ∷ []) → map line_of (set ls i l) ≡ with_each c (n ∷ []) (map line_of ls)
lines_set c n ls i l d up within at is =
    let f : ℕ × List ℕ → ℕ × List ℕ = λ (line : ℕ × List ℕ). (line.0, line.1 ++ c ∷ []) in
    let up' : IsAscending (map line_number (map line_of ls)) = subst IsAscending (sym (line_numbers ls)) up in
    let read : get_or (map line_of ls) i (line_of d) ≡ line_of (get_or ls i d) = got ls i d in
    let within' : i < length (map line_of ls) = subst (λ k. i < k) (sym (many ls)) within in
    let at' : line_number (get_or (map line_of ls) i (line_of d)) ≡ n = ap line_number read ∙ at in
    sets ls i l ∙ ap (set (map line_of ls) i) (is ∙ ap f (sym read)) ∙ set_changed line_number f n (map line_of ls) i (line_of d) up' within' at' ∙ extended c n (map line_of ls)
  where
    got : (ls : List ConsumerList) (i : ℕ) (l : ConsumerList) → get_or (map line_of ls) i (line_of l) ≡ line_of (get_or ls i l)
    got [] i l = refl
    got (m ∷ ls) zero l = refl
    got (m ∷ ls) (suc i) l = got ls i l

    many : (ls : List ConsumerList) → length (map line_of ls) ≡ length ls
    many [] = refl
    many (m ∷ ls) = ap suc (many ls)

    sets : (ls : List ConsumerList) (i : ℕ) (l : ConsumerList) → map line_of (set ls i l) ≡ set (map line_of ls) i (line_of l)
    sets [] i l = refl
    sets (m ∷ ls) zero l = refl
    sets (m ∷ ls) (suc i) l = ap (λ (xs : List (ℕ × List ℕ)). line_of m ∷ xs) (sets ls i l)

pub lines_absent : (c n : ℕ) (ls : List ConsumerList) → list_any (λ l. eqb l.number n) ls ≡ false → map line_of ls ≡ with_each c (n ∷ []) (map line_of ls)
lines_absent c n [] gone = refl
lines_absent c n (l ∷ ls) gone =
    let parts = or_parts (eqb l.number n) (list_any (λ l. eqb l.number n) ls) gone in
    let f : eqb n l.number ≡ false = eqb_sym n l.number ∙ parts.0 in
    rw f (ap (λ (xs : List (ℕ × List ℕ)). (l.number, l.consumers.items) ∷ xs) (lines_absent c n ls parts.1))

-- one producer after another
pub each_start : (c : ℕ) (lines : List (ℕ × List ℕ)) → with_each c [] lines ≡ lines
each_start c [] = refl
each_start c (line ∷ lines) = ap (λ (ls : List (ℕ × List ℕ)). line ∷ ls) (each_start c lines)

pub each_more : (c n : ℕ) (ns : List ℕ) → is_among ns n ≡ false → (lines : List (ℕ × List ℕ)) → with_each c (n ∷ []) (with_each c ns lines) ≡ with_each c (ns ++ n ∷ []) lines
each_more c n ns fresh [] = refl
each_more c n ns fresh (line ∷ lines) =
    let rest = each_more c n ns fresh lines in
    let pushed : is_among (ns ++ n ∷ []) line.0 ≡ (is_among ns line.0 || eqb n line.0) = among_push ns n line.0 in
    elim (cases_Bool (eqb n line.0)) [
      | inl e ↦
          let out : is_among ns line.0 ≡ false = ap (is_among ns) (sym (eqb-true n line.0 e)) ∙ fresh in
          let now : is_among (ns ++ n ∷ []) line.0 ≡ true = pushed ∙ ap (λ b. b || eqb n line.0) out ∙ e in
          rw (e, out, now) (ap (λ (ls : List (ℕ × List ℕ)). (line.0, line.1 ++ c ∷ []) ∷ ls) rest)
      | inr e ↦
          let now : is_among (ns ++ n ∷ []) line.0 ≡ is_among ns line.0 = pushed ∙ ap (λ b. is_among ns line.0 || b) e ∙ or_false (is_among ns line.0) in
          rw (e, now) (ap (λ (ls : List (ℕ × List ℕ)). (line.0, cond (is_among ns line.0) (line.1 ++ c ∷ []) line.1) ∷ ls) rest)
    ]
  where
    or_false : (b : Bool) → (b || false) ≡ b
    or_false true = refl
    or_false false = refl

-- the next of different numbers isn't among those before it
pub different_at : (ns : List ℕ) → AreDifferent ns → (i : ℕ) (d : ℕ) → i < length ns → is_among (take i ns) (get_or ns i d) ≡ false
different_at [] h i d l = absurd (omega arith)
different_at (n ∷ ns) h zero d l = refl
different_at (n ∷ ns) h (suc i) d l =
    let rest = different_at ns h.1 i d (omega arith) in
    let e : eqb n (get_or ns i d) ≡ false = ne_eqb n (get_or ns i d) (λ same. false≢true (sym h.0 ∙ ap (is_among ns) same ∙ here ns i d (omega arith))) in
    rw e rest
  where
    here : (ns : List ℕ) (i : ℕ) (d : ℕ) → i < length ns → is_among ns (get_or ns i d) ≡ true
    here [] i d l = absurd (omega arith)
    here (n ∷ ns) zero d l =
        let e : eqb n n ≡ true = eq-eqb n n refl in
        rw e refl
    here (n ∷ ns) (suc i) d l = after (eqb n (get_or ns i d)) (here ns i d (omega arith))
      where
        after : (a : Bool) {b : Bool} → b ≡ true → (a || b) ≡ true
        after true h = refl
        after false h = h

pub among_later : (ns : List ℕ) → AreDifferent ns → (i : ℕ) (d : ℕ) → i < length ns → is_among (drop (i + 1) ns) (get_or ns i d) ≡ false
among_later ns h i d l = rw one (at ns h i d l)
  where
    one : i + 1 ≡ suc i
    one = omega arith

    at : (ns : List ℕ) → AreDifferent ns → (i : ℕ) (d : ℕ) → i < length ns → is_among (drop (suc i) ns) (get_or ns i d) ≡ false
    at [] h i d l = absurd (omega arith)
    at (n ∷ ns) h zero d l = h.0
    at (n ∷ ns) h (suc i) d l = at ns h.1 i d (omega arith)

-- what a step of a loop over the producers has room for
pub room_next : (ls : List ConsumerList) (ns : List ℕ) (i : ℕ) (d : ℕ) → i < length ns → HaveRoom (drop i ns) ls → HaveRoom (drop (i + 1) ns) ls
room_next ls ns i d l all = rw one (at ns i l all)
  where
    one : i + 1 ≡ suc i
    one = omega arith

    at : (ns : List ℕ) (i : ℕ) → i < length ns → HaveRoom (drop i ns) ls → HaveRoom (drop (suc i) ns) ls
    at [] i l all = absurd (omega arith)
    at (n ∷ ns) zero l all = room_rest n ns ls all
    at (n ∷ ns) (suc i) l all = at ns i (omega arith) all

-- the numbers stay
pub each_numbers : (c : ℕ) (ns : List ℕ) (lines : List (ℕ × List ℕ)) → map line_number (with_each c ns lines) ≡ map line_number lines
each_numbers c ns [] = refl
each_numbers c ns (line ∷ lines) = ap (λ (ms : List ℕ). line.0 ∷ ms) (each_numbers c ns lines)

pub numbers_stay : (c : ℕ) (ns : List ℕ) (ls ms : List ConsumerList) → map line_of ms ≡ with_each c ns (map line_of ls) → map list_number ms ≡ map list_number ls
numbers_stay c ns ls ms e = sym (line_numbers ms) ∙ ap (map line_number) e ∙ each_numbers c ns (map line_of ls) ∙ line_numbers ls

all_lists : (q : ℕ → Bool) (ls : List ConsumerList) → list_all (λ l. q l.number) ls ≡ list_all q (map list_number ls)
all_lists q [] = refl
all_lists q (l ∷ ls) = ap (λ b. q l.number && b) (all_lists q ls)

all_lines : (q : ℕ → Bool) (lines : List (ℕ × List ℕ)) → list_all (λ line. q line.0) lines ≡ list_all q (map line_number lines)
all_lines q [] = refl
all_lines q (line ∷ lines) = ap (λ b. q line.0 && b) (all_lines q lines)

-- what stands below a number stays there
pub below_stays : (n : ℕ) (ls ms : List ConsumerList) → map list_number ms ≡ map list_number ls → list_all (λ line. ltb line.0 n) (map line_of ls) ≡ true → list_all (λ l. ltb l.number n) ms ≡ true
below_stays n ls ms e h =
    all_lists (λ m. ltb m n) ms ∙ ap (list_all (λ m. ltb m n)) (e ∙ sym (line_numbers ls)) ∙ sym (all_lines (λ m. ltb m n) (map line_of ls)) ∙ h
