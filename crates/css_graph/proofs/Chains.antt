-- What is known of a bundle while it is made.
use Rattle.std.proofs.Common.{◌≡◌, ◌≢◌, ℕ, zero, suc, ◌+◌, ◌-◌, ◌<◌, ◌≤◌, Bool, true, false, cond, ◌&&◌, ◌||◌, not, eqb, ltb, List, [], ◌∷◌, ◌++◌, length, get_or, take, map, Option, Some, None, unwrap_or, slice_get, refl, sym, ap, ◌∙◌, subst, inl, inr, arith}
use Rattle.std.specs.List.{filter, list_any, list_all, All}
use Rattle.std.specs.Ordering.{nat_cmp}
use Rattle.std.proofs.lemmas.Bool.{cases_Bool, eqb-true, eq-eqb, ne_eqb, or_parts, or_cases, and_parts, false≢true}
use Rattle.std.proofs.lemmas.Bool.Decides.{nat_tests}
use Rattle.std.proofs.lemmas.List.Elements.{All-head, All-tail}
use Rattle.css_graph.specs.declared.node.Node.{Node}
use Rattle.css_graph.specs.declared.chain.Chain.{Chain}
use Rattle.css_graph.specs.Tasks.{Task, is_waiting, is_among, is_number_added, is_number_waiting, is_number_finished}
use Rattle.css_graph.specs.Bundle.{AreDifferent, following, next_number}
use Rattle.css_graph.specs.Nodes.{Agenda, IsAscending, task_of, is_below, numbers_where, count_where, put, below, above}
use Rattle.css_graph.specs.Consumers.{consumers_of, consumers_at, lines_of}
use Rattle.css_graph.specs.Graph.{IsTied}
use Rattle.css_graph.specs.Chain.{missing_at, left_at, is_member, may_follow, is_candidate, HasCandidates, Knows}
use Rattle.css_graph.proofs.Counts.{eqb_sym, among_push}
use Rattle.css_graph.proofs.States.{number_unfinished, waiting_unfinished, added_from}
use Rattle.css_graph.proofs.Following.{following_is, next_waits, next_fresh, next_is, next_none, lines_at, left_after}
use Rattle.css_graph.proofs.Updates.{task_numbers}
use Rattle.css_graph.proofs.Agendas.{missing_read}
use Rattle.css_graph.proofs.Keyed.{put_changed}

abbrev number_of : Node → ℕ
number_of x = x.number

-- a queue grows by one number at most
pub put_length : (n : ℕ) (w : Bool) (ns : List ℕ) → length (put n w ns) ≤ length ns + 1
put_length n w ns =
    let parts = both ns in
    let joined = appended (below n ns) (cond w (n ∷ []) [] ++ above n ns) in
    let rest = appended (cond w (n ∷ []) []) (above n ns) in
    let one = single w in
    omega (arith, parts, joined, rest, one)
  where
    appended : (a b : List ℕ) → length (a ++ b) ≡ length a + length b
    appended [] b = omega arith
    appended (x ∷ a) b =
        let rest = appended a b in
        omega (arith, rest)

    single : (w : Bool) → length (cond w (n ∷ []) []) ≤ 1
    single true = omega arith
    single false = omega arith

    both : (ns : List ℕ) → length (below n ns) + length (above n ns) ≤ length ns
    both [] = omega arith
    both (m ∷ ns) =
        let rest = both ns in
        elim (cases_Bool (ltb m n)) [
          | inl t ↦
              let f : ltb n m ≡ false = apart m n t in
              rw (t, f) (omega (arith, rest))
          | inr f ↦ elim (cases_Bool (ltb n m)) [
            | inl u ↦ rw (f, u) (omega (arith, rest))
            | inr u ↦ rw (f, u) (omega (arith, rest))
          ]
        ]
      where
        apart : (m n : ℕ) → ltb m n ≡ true → ltb n m ≡ false
        apart m n t = grind (arith, nat_tests)

-- a test of the number alone
any_split : (a : Node → Bool) (q : ℕ → Bool) (n : ℕ) (xs : List Node) → list_any (λ x. eqb x.number n && (a x && q x.number)) xs ≡ (list_any (λ x. eqb x.number n && a x) xs && q n)
any_split a q n [] = refl
any_split a q n (x ∷ xs) =
    let rest = any_split a q n xs in
    elim (cases_Bool (eqb x.number n)) [
      | inl e ↦ rw e (ap (λ b. (a x && b) || list_any (λ x. eqb x.number n && (a x && q x.number)) xs) (ap q (eqb-true x.number n e)) ∙ ap (λ b. (a x && q n) || b) rest ∙ factored (a x) (q n) (list_any (λ x. eqb x.number n && a x) xs))
      | inr e ↦ rw e rest
    ]
  where
    factored : (a q l : Bool) → ((a && q) || (l && q)) ≡ ((a || l) && q)
    factored true true l = refl
    factored true false true = refl
    factored true false false = refl
    factored false q l = refl

-- the task of one number has one producer less to wait for
pub candidates_met : (left after : ℕ → ℕ) (member then : ℕ → Bool) (bound : Option ℕ) (xs : List Node) (n : ℕ) (w : Bool) → IsAscending (map number_of xs)
    → ((m : ℕ) → after m ≡ left m - cond (eqb n m) 1 0) → ((m : ℕ) → then m ≡ member m) → w ≡ (list_any (λ x. eqb x.number n && may_follow bound x) xs && (not (then n) && eqb (after n) 0))
    → put n w (numbers_where (is_candidate left member bound) xs) ≡ numbers_where (is_candidate after then bound) xs
candidates_met left after member then bound xs n w up less stays w_is =
    put_changed number_of n (is_candidate left member bound) (is_candidate after then bound)
    (λ x e. ap (λ k. may_follow bound x && (not (member x.number) && eqb k 0)) (sym (same x.number e)) ∙ ap (λ b. may_follow bound x && (not b && eqb (after x.number) 0)) (sym (stays x.number))) xs up w
    (w_is ∙ sym (any_split (may_follow bound) (λ m. not (then m) && eqb (after m) 0) n xs))
  where
    same : (m : ℕ) → eqb m n ≡ false → after m ≡ left m
    same m e =
        let f : eqb n m ≡ false = eqb_sym n m ∙ e in
        let l : after m ≡ left m - 0 = less m ∙ ap (λ b. left m - cond b 1 0) f in
        omega (arith, l)

-- a number has become a member
pub candidates_admitted : (left then : ℕ → ℕ) (member after : ℕ → Bool) (bound : Option ℕ) (xs : List Node) (n : ℕ) → IsAscending (map number_of xs)
    → ((m : ℕ) → then m ≡ left m) → ((m : ℕ) → after m ≡ (member m || eqb n m))
    → put n false (numbers_where (is_candidate left member bound) xs) ≡ numbers_where (is_candidate then after bound) xs
candidates_admitted left then member after bound xs n up stays is =
    put_changed number_of n (is_candidate left member bound) (is_candidate then after bound)
    (λ x e. ap (λ b. may_follow bound x && (not b && eqb (left x.number) 0)) (sym (same x.number e)) ∙ ap (λ k. may_follow bound x && (not (after x.number) && eqb k 0)) (sym (stays x.number))) xs up false (sym (none xs))
  where
    same : (m : ℕ) → eqb m n ≡ false → after m ≡ member m
    same m e = is m ∙ ap (λ b. member m || b) (eqb_sym n m ∙ e) ∙ or_false (member m)
      where
        or_false : (b : Bool) → (b || false) ≡ b
        or_false true = refl
        or_false false = refl

    none : (xs : List Node) → list_any (λ x. eqb x.number n && is_candidate then after bound x) xs ≡ false
    none xs = any_split (may_follow bound) (λ m. not (after m) && eqb (then m) 0) n xs
        ∙ ap (λ b. list_any (λ x. eqb x.number n && may_follow bound x) xs && (not b && eqb (then n) 0)) (is n ∙ ap (λ b. member n || b) (eq-eqb n n refl) ∙ or_true (member n)) ∙ and_false (list_any (λ x. eqb x.number n && may_follow bound x) xs)
      where
        or_true : (b : Bool) → (b || true) ≡ true
        or_true true = refl
        or_true false = refl

        and_false : (b : Bool) → (b && false) ≡ false
        and_false true = refl
        and_false false = refl

-- before any member there is no candidate
pub none_known : (chain : Chain) (plan : Agenda) → IsAscending (map number_of plan.nodes) → ((n : ℕ) → left_at chain plan.nodes n ≡ missing_at plan.nodes n) → ((n : ℕ) → is_member chain n ≡ false) → chain.candidates.numbers ≡ [] → Knows chain plan []
none_known chain plan up left members empty =
    let each : All (λ (x : Node). left_at chain plan.nodes x.number ≡ x.missing) plan.nodes = λ k d l. left (get_or plan.nodes k d).number ∙ read plan.nodes k d up l in
    record {
      left = λ k d l. each k d l ∙ whole (get_or plan.nodes k d).missing (get_or plan.nodes k d).producers.items;
      members = members;
      candidates = empty ∙ sym (none plan.nodes each);
    }
  where
    read : (xs : List Node) (k : ℕ) (d : Node) → IsAscending (map number_of xs) → k < length xs → missing_at xs (get_or xs k d).number ≡ (get_or xs k d).missing
    read xs k d up l =
        let x = get_or xs k d in
        let same : x ≡ get_or xs k x = default xs k d x l in
        missing_read x.number xs k x up l (ap number_of (sym same)) same
      where
        default : (xs : List Node) (k : ℕ) (d e : Node) → k < length xs → get_or xs k d ≡ get_or xs k e
        default [] k d e l = absurd (omega arith)
        default (x ∷ xs) zero d e l = refl
        default (x ∷ xs) (suc k) d e l = default xs k d e (omega arith)

    whole : (m : ℕ) (ps : List ℕ) → m ≡ m - count_where (is_among []) ps
    whole m ps =
        let z = zeroes ps in
        omega (arith, z)
      where
        zeroes : (ps : List ℕ) → count_where (is_among []) ps ≡ 0
        zeroes [] = refl
        zeroes (p ∷ ps) =
            let rest = zeroes ps in
            omega (arith, rest)

    none : (xs : List Node) → All (λ (x : Node). left_at chain plan.nodes x.number ≡ x.missing) xs → numbers_where (is_candidate (left_at chain plan.nodes) (is_member chain) plan.bound) xs ≡ []
    none [] all = refl
    none (x ∷ xs) all =
        let here : left_at chain plan.nodes x.number ≡ x.missing = All-head (λ (x : Node). left_at chain plan.nodes x.number ≡ x.missing) x xs all in
        let rest = none xs (All-tail (λ (x : Node). left_at chain plan.nodes x.number ≡ x.missing) x xs all) in
        let fails : is_candidate (left_at chain plan.nodes) (is_member chain) plan.bound x ≡ false = out (is_waiting x.state) (is_below plan.bound x.number) (is_member chain x.number) (left_at chain plan.nodes x.number) x.missing here in
        rw fails rest
      where
        out : (w b m : Bool) (k j : ℕ) → k ≡ j → ((w && (b && ltb 0 j)) && (not m && eqb k 0)) ≡ false
        out w b m k zero e = ends (w && (b && false)) w b (not m && eqb k 0) refl
          where
            ends : (a w b c : Bool) → a ≡ (w && (b && false)) → ((w && (b && false)) && c) ≡ false
            ends a true true c e = refl
            ends a true false c e = refl
            ends a false b c e = refl
        out w b m k (suc j) e =
            let f : eqb k 0 ≡ false = ne_eqb k 0 (λ same. omega arith) in
            rw f (ends (w && (b && ltb 0 (suc j))) m)
          where
            ends : (a m : Bool) → (a && (not m && false)) ≡ false
            ends true true = refl
            ends true false = refl
            ends false m = refl

pub all_at : (q : ℕ → Bool) (ns : List ℕ) (i : ℕ) (d : ℕ) → i < length ns → list_all q ns ≡ true → q (get_or ns i d) ≡ true
all_at q [] i d l h = absurd (omega arith)
all_at q (n ∷ ns) zero d l h = (and_parts (q n) (list_all q ns) h).0
all_at q (n ∷ ns) (suc i) d l h = all_at q ns i d (omega arith) (and_parts (q n) (list_all q ns) h).1

module _ (plan : Agenda) (lines : List (ℕ × List ℕ)) (tied : IsTied plan lines) (members : List ℕ) where
  -- waiting numbers aren't finished
  pub unfinished : list_all (is_number_waiting (map task_of plan.nodes)) members ≡ true → (p : ℕ) → is_among members p ≡ true → is_number_finished (map task_of plan.nodes) p ≡ false
  unfolding is_number_waiting
  unfinished waiting p among =
      let up : IsAscending (map (λ (t : Task). t.number) (map task_of plan.nodes)) = subst IsAscending (sym (task_numbers plan.nodes)) tied.ordered in
      number_unfinished is_waiting waiting_unfinished (map task_of plan.nodes) up p (found members waiting among)
    where
      found : (ns : List ℕ) → list_all (is_number_waiting (map task_of plan.nodes)) ns ≡ true → is_among ns p ≡ true → is_number_waiting (map task_of plan.nodes) p ≡ true
      found [] h e = absurd (false≢true e)
      found (n ∷ ns) h e =
          let parts = and_parts (is_number_waiting (map task_of plan.nodes) n) (list_all (is_number_waiting (map task_of plan.nodes)) ns) h in
          elim (cases_Bool (eqb n p)) [
            | inl y ↦ subst (λ m. is_number_waiting (map task_of plan.nodes) m ≡ true) (eqb-true n p y) parts.0
            | inr f ↦ found ns parts.1 (rw f at e)
          ]

  -- what is known tells who goes on
  pub known_following : list_all (is_number_waiting (map task_of plan.nodes)) members ≡ true → (chain : Chain) → Knows chain plan members → chain.candidates.numbers ≡ map (λ (t : Task). t.number) (following (map task_of plan.nodes) members)
  known_following waiting chain known =
      known.candidates ∙ following_is plan.bound plan.nodes tied.bound tied.counted members (unfinished waiting) (left_at chain plan.nodes) (is_member chain) known.left known.members

  pub known_none : list_all (is_number_waiting (map task_of plan.nodes)) members ≡ true → (chain : Chain) → Knows chain plan members → None ≡ slice_get chain.candidates.numbers 0 → next_number (map task_of plan.nodes) members ≡ []
  known_none waiting chain known e = next_none (map task_of plan.nodes) members (sym (known_following waiting chain known) ∙ empty chain.candidates.numbers e)
    where
      empty : (ns : List ℕ) → None ≡ slice_get ns 0 → ns ≡ []
      empty [] e = refl
      empty (n ∷ ns) e = absurd cc

  -- what the next number is known by
  pub record IsNext (n : ℕ) : Type 0 where
    pub next : next_number (map task_of plan.nodes) members ≡ n ∷ []
    pub waits : is_number_waiting (map task_of plan.nodes) n ≡ true
    pub fresh : is_among members n ≡ false

  pub known_next : list_all (is_number_waiting (map task_of plan.nodes)) members ≡ true → (chain : Chain) → Knows chain plan members → (n : ℕ) → Some n ≡ slice_get chain.candidates.numbers 0 → IsNext n
  known_next waiting chain known n e =
      let ts = map task_of plan.nodes in
      let first = head chain.candidates.numbers e in
      let whole : map (λ (t : Task). t.number) (following ts members) ≡ n ∷ first.0 = sym (known_following waiting chain known) ∙ first.1 in
      record { next = next_is ts members n first.0 whole; waits = next_waits ts members n first.0 whole; fresh = next_fresh ts members n first.0 whole }
    where
      head : (ns : List ℕ) → Some n ≡ slice_get ns 0 → (rest : List ℕ) × (ns ≡ n ∷ rest)
      head [] e = absurd cc
      head (m ∷ ns) e =
          let same : m ≡ n = cc in
          (ns, ap (λ (k : ℕ). k ∷ ns) same)

  -- one more member
  pub known_more : (chain after : Chain) (n : ℕ) → Knows chain plan members → is_among members n ≡ false → is_number_waiting (map task_of plan.nodes) n ≡ true
      → ((m : ℕ) → left_at after plan.nodes m ≡ left_at chain plan.nodes m - count_where (λ c. eqb c m) (consumers_at lines n))
      → ((m : ℕ) → is_member after m ≡ (is_member chain m || eqb n m)) → HasCandidates after plan → Knows after plan (members ++ n ∷ [])
  unfolding is_number_waiting
  known_more chain after n known fresh waits left member candidates =
      let ts = map task_of plan.nodes in
      let added : is_number_added ts n ≡ true = added_from is_waiting ts n waits in
      let cs : consumers_at lines n ≡ consumers_of ts n = ap (λ (ls : List (ℕ × List ℕ)). consumers_at ls n) tied.consumers ∙ lines_at (consumers_of ts) ts n added in
      record {
        left = λ k d l.
            let x = get_or plan.nodes k d in
            left_after plan.nodes members n fresh k d tied.ordered l (tied.counted k d l).different (left_at chain plan.nodes x.number) (left_at after plan.nodes x.number) (known.left k d l)
            (left x.number ∙ ap (λ (ns : List ℕ). left_at chain plan.nodes x.number - count_where (λ c. eqb c x.number) ns) cs);
        members = λ m. member m ∙ ap (λ b. b || eqb n m) (known.members m) ∙ sym (among_push members n m);
        candidates = candidates;
      }
