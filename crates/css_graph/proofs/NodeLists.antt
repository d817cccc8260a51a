-- The nodes at places of a slab.
use Rattle.std.proofs.Common.{◌≡◌, ℕ, zero, suc, ◌<◌, Bool, false, cond, ◌&&◌, ◌||◌, eqb, List, [], ◌∷◌, ◌++◌, length, get_or, set, map, Option, Some, None, is_some, refl, sym, ap, ◌∙◌, subst, inl, inr, arith}
use Rattle.std.specs.List.{HoldsAt, All, list_any, list_all}
use Rattle.std.specs.Prelude.{IsSome}
use Rattle.std.proofs.lemmas.Bool.{cases_Bool, eqb-true, eqb-false, or_parts}
use Rattle.std.proofs.lemmas.List.{map-append}
use Rattle.std.proofs.lemmas.List.Elements.{All-head, All-tail, All-cons, All-nil, All-push, filter_map-append}
use Rattle.std.proofs.lemmas.List.Sums.{sum_by-set}
use Rattle.slab.specs.Slab.{Slab, get, ContainsKey, slab_len, Updates, with_value}
use Rattle.slab.proofs.SlabLemmas.{ContainsKey-within, Updates-with_value}
use Rattle.css_graph.specs.declared.node.Node.{Node}
use Rattle.css_graph.specs.declared.nodes.Place.{Place}
use Rattle.css_graph.specs.Tasks.{is_among}
use Rattle.css_graph.specs.Bundle.{AreDifferent}
use Rattle.css_graph.specs.Places.{nodes_at, HasNode}
use Rattle.css_graph.proofs.Counts.{eqb_sym, among_push}
use Rattle.css_graph.proofs.Keyed.{Finds}

abbrev pub key_of : Place → ℕ
key_of p = p.key

module _ (s : Slab Node) where
  pub nodes_length : (ps : List Place) → All (HasNode s) ps → length (nodes_at s ps) ≡ length ps
  nodes_length [] has = refl
  nodes_length (p ∷ ps) has =
      let here = (All-head (HasNode s) p ps has).1 in
      let rest = nodes_length ps (All-tail (HasNode s) p ps has) in
      rw here (ap suc rest)

  pub nodes_numbers : (ps : List Place) → All (HasNode s) ps → map (λ (x : Node). x.number) (nodes_at s ps) ≡ map (λ (p : Place). p.number) ps
  nodes_numbers [] has = refl
  nodes_numbers (p ∷ ps) has =
      let head = All-head (HasNode s) p ps has in
      let here = head.1 in
      let rest = nodes_numbers ps (All-tail (HasNode s) p ps has) in
      let one : head.0.number ≡ p.number = head.2 in
      rw here (ap (λ m. m ∷ map (λ (x : Node). x.number) (nodes_at s ps)) one ∙ ap (λ ms. p.number ∷ ms) rest)

  pub nodes_read : (ps : List Place) (i : ℕ) (e : Place) (d : Node) → All (HasNode s) ps → i < length ps → get s (get_or ps i e).key ≡ Some (get_or (nodes_at s ps) i d)
  nodes_read [] i e d has l = absurd (omega arith)
  nodes_read (p ∷ ps) zero e d has l =
      let here = (All-head (HasNode s) p ps has).1 in
      rw here refl
  nodes_read (p ∷ ps) (suc i) e d has l =
      let here = (All-head (HasNode s) p ps has).1 in
      let rest = nodes_read ps i e d (All-tail (HasNode s) p ps has) (omega arith) in
      rw here rest

  pub nodes_found : (n : ℕ) (ps : List Place) (i : ℕ) → All (HasNode s) ps → i < length ps → HoldsAt (λ (p : Place). p.number ≡ n) ps i → HoldsAt (λ (x : Node). x.number ≡ n) (nodes_at s ps) i
  nodes_found n [] i has l at = absurd (omega arith)
  nodes_found n (p ∷ ps) zero has l at =
      let head = All-head (HasNode s) p ps has in
      let here = head.1 in
      let number : head.0.number ≡ n = head.2 ∙ at p in
      rw here (λ d. number)
  nodes_found n (p ∷ ps) (suc i) has l at =
      let here = (All-head (HasNode s) p ps has).1 in
      let rest = nodes_found n ps i (All-tail (HasNode s) p ps has) (omega arith) (λ d. at d) in
      rw here (λ d. rest d)

  -- a test of the number alone
  pub any_node : (test : ℕ → Bool) (ps : List Place) → All (HasNode s) ps → list_any (λ (x : Node). test x.number) (nodes_at s ps) ≡ list_any (λ (p : Place). test p.number) ps
  any_node test [] has = refl
  any_node test (p ∷ ps) has =
      let head = All-head (HasNode s) p ps has in
      let here = head.1 in
      let one : head.0.number ≡ p.number = head.2 in
      let rest = any_node test ps (All-tail (HasNode s) p ps has) in
      rw here (ap (λ m. test m || list_any (λ (x : Node). test x.number) (nodes_at s ps)) one ∙ ap (λ b. test p.number || b) rest)

  pub all_nodes : (test : ℕ → Bool) (ps : List Place) → All (HasNode s) ps → list_all (λ (x : Node). test x.number) (nodes_at s ps) ≡ list_all (λ (p : Place). test p.number) ps
  all_nodes test [] has = refl
  all_nodes test (p ∷ ps) has =
      let head = All-head (HasNode s) p ps has in
      let here = head.1 in
      let one : head.0.number ≡ p.number = head.2 in
      let rest = all_nodes test ps (All-tail (HasNode s) p ps has) in
      rw here (ap (λ m. test m && list_all (λ (x : Node). test x.number) (nodes_at s ps)) one ∙ ap (λ b. test p.number && b) rest)

  -- a vacant key is that of no place
  pub fresh_key : (k : ℕ) (ps : List Place) → All (HasNode s) ps → get s k ≡ None → is_among (map key_of ps) k ≡ false
  fresh_key k [] has gone = refl
  fresh_key k (p ∷ ps) has gone =
      let here = (All-head (HasNode s) p ps has).1 in
      let rest = fresh_key k ps (All-tail (HasNode s) p ps has) gone in
      elim (cases_Bool (eqb p.key k)) [
        | inl e ↦
            let same = ap (get s) (eqb-true p.key k e) in
            absurd (none_some (sym gone ∙ sym same ∙ here))
        | inr e ↦ rw e rest
      ]
    where
      none_some : {x : Node} → None ≡ Some x → ⊥
      none_some e = absurd cc

module _ (s t : Slab Node) (k : ℕ) (y : Node) (updates : Updates s t k (Some y)) where
  kept : (p : Place) → eqb p.key k ≡ false → get t p.key ≡ get s p.key
  kept p e = updates.others p.key (eqb-false p.key k e)

  -- the places of other keys keep their nodes
  pub nodes_elsewhere : (ps : List Place) → is_among (map key_of ps) k ≡ false → nodes_at t ps ≡ nodes_at s ps
  nodes_elsewhere [] other = refl
  nodes_elsewhere (p ∷ ps) other =
      let parts = or_parts (eqb p.key k) (is_among (map key_of ps) k) other in
      let here : get t p.key ≡ get s p.key = kept p parts.0 in
      let rest = nodes_elsewhere ps parts.1 in
      rw (here, rest) refl

  pub has_elsewhere : (ps : List Place) → is_among (map key_of ps) k ≡ false → All (HasNode s) ps → All (HasNode t) ps
  has_elsewhere [] other has = All-nil (HasNode t)
  has_elsewhere (p ∷ ps) other has =
      let parts = or_parts (eqb p.key k) (is_among (map key_of ps) k) other in
      let head = All-head (HasNode s) p ps has in
      All-cons (HasNode t) p ps (head.0, kept p parts.0 ∙ head.1, head.2) (has_elsewhere ps parts.1 (All-tail (HasNode s) p ps has))

  -- a node at a new place
  pub nodes_pushed : (p : Place) (ps : List Place) → p.key ≡ k → is_among (map key_of ps) k ≡ false → nodes_at t (ps ++ p ∷ []) ≡ nodes_at s ps ++ y ∷ []
  nodes_pushed p ps is other =
      let here : get t p.key ≡ Some y = ap (get t) is ∙ updates.changed in
      let last : nodes_at t (p ∷ []) ≡ y ∷ [] = rw here refl in
      filter_map-append (λ (q : Place). get t q.key) ps (p ∷ [])
      ∙ ap (λ xs. xs ++ nodes_at t (p ∷ [])) (nodes_elsewhere ps other)
      ∙ ap (λ xs. nodes_at s ps ++ xs) last

  pub has_pushed : (p : Place) (ps : List Place) → p.key ≡ k → y.number ≡ p.number → is_among (map key_of ps) k ≡ false → All (HasNode s) ps → All (HasNode t) (ps ++ p ∷ [])
  has_pushed p ps is number other has = All-push (HasNode t) ps p (has_elsewhere ps other has) (y, ap (get t) is ∙ updates.changed, number)

different_push : (ns : List ℕ) (n : ℕ) → AreDifferent ns → is_among ns n ≡ false → AreDifferent (ns ++ n ∷ [])
different_push [] n differ other = (refl, tt)
different_push (m ∷ ns) n differ other =
    let parts = or_parts (eqb m n) (is_among ns n) other in
    (apart m n ns parts.0 differ.0, different_push ns n differ.1 parts.1)
  where
    apart : (m n : ℕ) (ns : List ℕ) → eqb m n ≡ false → is_among ns m ≡ false → is_among (ns ++ n ∷ []) m ≡ false
    apart m n ns e gone = among_push ns n m ∙ ap (λ b. b || eqb n m) gone ∙ eqb_sym n m ∙ e

pub keys_pushed : (p : Place) (ps : List Place) (k : ℕ) → p.key ≡ k → AreDifferent (map key_of ps) → is_among (map key_of ps) k ≡ false → AreDifferent (map key_of (ps ++ p ∷ []))
keys_pushed p ps k is differ other =
    subst AreDifferent (sym (map-append key_of ps (p ∷ []))) (different_push (map key_of ps) p.key differ (subst (λ m. is_among (map key_of ps) m ≡ false) (sym is) other))

-- a place has another key than one that isn't among them
other_key : (n : ℕ) (ps : List Place) (i : ℕ) (e : Place) → is_among (map key_of ps) n ≡ false → i < length ps → eqb (get_or ps i e).key n ≡ false
other_key n [] i e other l = absurd (omega arith)
other_key n (p ∷ ps) zero e other l = (or_parts (eqb p.key n) (is_among (map key_of ps) n) other).0
other_key n (p ∷ ps) (suc i) e other l = other_key n ps i e (or_parts (eqb p.key n) (is_among (map key_of ps) n) other).1 (omega arith)

-- the nodes after a write at the key of a place
pub nodes_set : (s t : Slab Node) (y : Node) (ps : List Place) (i : ℕ) (e : Place) → Updates s t (get_or ps i e).key (Some y) → All (HasNode s) ps → AreDifferent (map key_of ps) → i < length ps → nodes_at t ps ≡ set (nodes_at s ps) i y
nodes_set s t y [] i e updates has differ l = absurd (omega arith)
nodes_set s t y (p ∷ ps) zero e updates has differ l =
    let before = (All-head (HasNode s) p ps has).1 in
    let after : get t p.key ≡ Some y = updates.changed in
    let rest = nodes_elsewhere s t p.key y updates ps differ.0 in
    rw (before, after, rest) refl
nodes_set s t y (p ∷ ps) (suc i) e updates has differ l =
    let before = (All-head (HasNode s) p ps has).1 in
    let apart = eqb_sym p.key (get_or ps i e).key ∙ other_key p.key ps i e differ.0 (omega arith) in
    let after = updates.others p.key (eqb-false p.key (get_or ps i e).key apart) ∙ before in
    let rest = nodes_set s t y ps i e updates (All-tail (HasNode s) p ps has) differ.1 (omega arith) in
    rw (before, after, rest) refl

pub has_set : (s t : Slab Node) (y : Node) (ps : List Place) (i : ℕ) (e : Place) → Updates s t (get_or ps i e).key (Some y) → y.number ≡ (get_or ps i e).number → All (HasNode s) ps → AreDifferent (map key_of ps) → i < length ps → All (HasNode t) ps
has_set s t y [] i e updates number has differ l = absurd (omega arith)
has_set s t y (p ∷ ps) zero e updates number has differ l =
    All-cons (HasNode t) p ps (y, updates.changed, number) (has_elsewhere s t p.key y updates ps differ.0 (All-tail (HasNode s) p ps has))
has_set s t y (p ∷ ps) (suc i) e updates number has differ l =
    let head = All-head (HasNode s) p ps has in
    let apart = eqb_sym p.key (get_or ps i e).key ∙ other_key p.key ps i e differ.0 (omega arith) in
    let after = updates.others p.key (eqb-false p.key (get_or ps i e).key apart) ∙ head.1 in
    All-cons (HasNode t) p ps (head.0, after, head.2) (has_set s t y ps i e updates number (All-tail (HasNode s) p ps has) differ.1 (omega arith))

-- a write at a key with a value leaves the count as it is
pub len_set : (s : Slab Node) (k : ℕ) (x y : Node) → get s k ≡ Some x → slab_len (with_value s k y) ≡ slab_len s
len_set s k x y found =
    let within = ContainsKey-within s k (subst IsSome (sym found) refl) in
    let counts = sum_by-set (λ (o : Option Node). cond (is_some o) 1 0) s.slots k (Some y) None within in
    let old = ap {B = ℕ} (λ (o : Option Node). cond (is_some o) 1 0) found in
    omega (arith, counts, old)

same_node : (x y : Node) → Some x ≡ Some y → x ≡ y
same_node x y e = cc

-- the node that a place's key leads to
pub node_read : (s : Slab Node) (ps : List Place) (i : ℕ) (e : Place) (x d : Node) → All (HasNode s) ps → i < length ps → e ≡ get_or ps i e → get s e.key ≡ Some x → x ≡ get_or (nodes_at s ps) i d
node_read s ps i e x d has l is found =
    same_node x (get_or (nodes_at s ps) i d) (sym found ∙ ap (λ (p : Place). get s p.key) is ∙ nodes_read s ps i e d has l)

pub contains_at : (s : Slab Node) (ps : List Place) (i : ℕ) (e : Place) → All (HasNode s) ps → i < length ps → e ≡ get_or ps i e → ContainsKey s e.key
contains_at s ps i e has l is =
    let head = has i e l in
    subst IsSome (sym (ap (λ (p : Place). get s p.key) is ∙ head.1)) refl

-- what a write of one node changes
pub record Written (s : Slab Node) (ps : List Place) (i k : ℕ) (x y : Node) : Type 0 where
  pub before : (d : Node) → x ≡ get_or (nodes_at s ps) i d
  pub nodes : nodes_at (with_value s k y) ps ≡ set (nodes_at s ps) i y
  pub present : All (HasNode (with_value s k y)) ps
  pub len : slab_len (with_value s k y) ≡ slab_len s

pub written : (s : Slab Node) (ps : List Place) (i : ℕ) (e : Place) (x y : Node) → All (HasNode s) ps → AreDifferent (map key_of ps) → i < length ps → e ≡ get_or ps i e → get s e.key ≡ Some x → y.number ≡ x.number → Written s ps i e.key x y
written s ps i e x y has differ l is found number =
    let own = has i e l in
    let x_is : x ≡ own.0 = same_node x own.0 (sym found ∙ ap (λ (p : Place). get s p.key) is ∙ own.1) in
    let updates = subst (λ k. Updates s (with_value s e.key y) k (Some y)) (ap key_of is) (Updates-with_value s e.key y (contains_at s ps i e has l is)) in
    record {
      before = λ d. node_read s ps i e x d has l is found;
      nodes = nodes_set s (with_value s e.key y) y ps i e updates has differ l;
      present = has_set s (with_value s e.key y) y ps i e updates (number ∙ ap (λ (z : Node). z.number) x_is ∙ own.2) has differ l;
      len = len_set s e.key x y found;
    }

-- a slab of the same slots
pub has_same : (s t : Slab Node) (ps qs : List Place) → t.slots ≡ s.slots → qs ≡ ps → All (HasNode s) ps → All (HasNode t) qs
has_same s t ps qs slots places has =
    let moved = subst (λ (xs : List (Option Node)). All (λ (p : Place). (x : Node) × (get_or xs p.key None ≡ Some x) × (x.number ≡ p.number)) ps) (sym slots) has in
    subst (All (HasNode t)) (sym places) moved

-- what a search of the places answers
pub nodes_finds : (s : Slab Node) (n : ℕ) (ps : List Place) (o : Option ℕ) → All (HasNode s) ps → Finds (λ (p : Place). p.number) ps n o → Finds (λ (x : Node). x.number) (nodes_at s ps) n o
nodes_finds s n ps (Some at) has f =
    let long = nodes_length s ps has in
    record { within = omega (arith, f.within, long); found = nodes_found s n ps at has f.within f.found; absent = tt }
nodes_finds s n ps None has f = record { within = tt; found = tt; absent = any_node s (λ m. eqb m n) ps has ∙ f.absent }
