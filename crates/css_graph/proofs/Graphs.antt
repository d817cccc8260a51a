-- What the calls leave of a graph.
use Rattle.std.proofs.Common.{◌≡◌, ◌≢◌, ◌↔◌, ℕ, zero, suc, ◌+◌, ◌-◌, ◌<◌, ◌≤◌, Bool, true, false, cond, ◌&&◌, ◌||◌, not, eqb, ltb, List, [], ◌∷◌, ◌++◌, length, get_or, take, min, map, Option, Some, None, IsTrue, refl, sym, ap, ◌∙◌, subst, inl, inr, append-nil, arith}
use Rattle.std.specs.List.{filter, list_any, list_all, All}
use Rattle.std.specs.Int.{div_ceil}
use Rattle.std.proofs.lemmas.Bool.{cases_Bool, and_parts, and_from, false≢true, eqb-true, ne_eqb, eq-eqb, ltb-true, lt-ltb, le-ltb}
use Rattle.std.proofs.lemmas.List.Elements.{All-push, All-head, All-tail}
use Rattle.css_graph.specs.declared.node.Node.{Node}
use Rattle.css_graph.specs.declared.state.TaskState.{TaskState}
use Rattle.css_graph.specs.declared.state.TaskState.TheVariants.{Waiting, Out, Finished, Stopped}
use Rattle.css_graph.specs.Tasks.{Task, TaskGraph, is_out, is_waiting, is_finished, is_stopped, is_among, some_task, is_number_added, is_number_out, is_number_waiting, is_number_finished, is_below_stops, come_to}
use Rattle.css_graph.specs.Bundle.{AreDifferent, takeable, in_turn, beginning, continued, bundle}
use Rattle.css_graph.specs.Nodes.{Agenda, IsAscending, task_of, is_below, lower_bound, count_where, in_state_by, less_by}
use Rattle.css_graph.specs.Consumers.{consumers_of, lines_of, consumers_at, with_line, with_each}
use Rattle.css_graph.specs.Graph.{IsCounted, IsTied}
use Rattle.css_graph.proofs.Keyed.{ascending_pushed}
use Rattle.css_graph.proofs.States.{are_all, all_pass, added_from, number_unfinished, out_unfinished, out_unstopped, waiting_unfinished, waiting_unstopped}
use Rattle.css_graph.proofs.Updates.{state_tasks, less_tasks, task_numbers, tied_at, tied_state, tied_done, tied_stopped}

abbrev number_of : Node → ℕ
number_of x = x.number

module _ (plan : Agenda) (lines : List (ℕ × List ℕ)) (tied : IsTied plan lines) where
  ascending : IsAscending (map (λ (t : Task). t.number) (map task_of plan.nodes))
  ascending = subst IsAscending (sym (task_numbers plan.nodes)) tied.ordered

  -- tasks that were out, or that waited, come to a state that is neither finished nor stopped
  pub states_tied : (after : Agenda) (s : TaskState) (test : TaskState → Bool) (ns : List ℕ) → is_finished s ≡ false → is_stopped s ≡ false
      → ((s : TaskState) → test s ≡ true → is_finished s ≡ false) → ((s : TaskState) → test s ≡ true → is_stopped s ≡ false)
      → list_all (some_task test (map task_of plan.nodes)) ns ≡ true
      → after.nodes ≡ map (in_state_by s ns) plan.nodes → after.bound ≡ plan.bound → IsTied after lines
  states_tied after s test ns unfinished unstopped w v all nodes bound =
      tied_at lines after (map (in_state_by s ns) plan.nodes) plan.bound nodes bound
      (tied_state plan.nodes plan.bound plan.room lines tied after.room s test ns unfinished unstopped w v (all_pass test ns (map task_of plan.nodes) ascending all))

  -- the same nodes and bound, whatever the room
  pub same_tied : (after : Agenda) → after.nodes ≡ plan.nodes → after.bound ≡ plan.bound → IsTied after lines
  same_tied after nodes bound =
      tied_at lines after plan.nodes plan.bound nodes bound
      (record { ordered = tied.ordered; counted = tied.counted; bound = tied.bound; consumers = tied.consumers })

  pub back_tied : (after : Agenda) (ns : List ℕ) → list_all (is_number_out (map task_of plan.nodes)) ns ≡ true
      → after.nodes ≡ map (in_state_by Waiting ns) plan.nodes → after.bound ≡ plan.bound → IsTied after lines
  unfolding is_number_out
  back_tied after ns out nodes bound = states_tied after Waiting is_out ns refl refl out_unfinished out_unstopped out nodes bound

  pub out_tied : (after : Agenda) (ns : List ℕ) → list_all (is_number_waiting (map task_of plan.nodes)) ns ≡ true
      → after.nodes ≡ map (in_state_by Out ns) plan.nodes → after.bound ≡ plan.bound → IsTied after lines
  unfolding is_number_waiting
  out_tied after ns waiting nodes bound = states_tied after Out is_waiting ns refl refl waiting_unfinished waiting_unstopped waiting nodes bound

  pub done_tied : (middle after : Agenda) (n : ℕ) → is_number_out (map task_of plan.nodes) n ≡ true
      → middle.nodes ≡ map (in_state_by Finished (n ∷ [])) plan.nodes → middle.bound ≡ plan.bound
      → after.nodes ≡ map (less_by (consumers_at lines n)) middle.nodes → after.bound ≡ middle.bound → IsTied after lines
  unfolding is_number_out
  done_tied middle after n out nodes bound nodes' bound' =
      let ts = map task_of plan.nodes in
      tied_at lines after (map (less_by (consumers_at lines n)) (map (in_state_by Finished (n ∷ [])) plan.nodes)) plan.bound
      (nodes' ∙ ap (map (less_by (consumers_at lines n))) nodes) (bound' ∙ bound)
      (tied_done plan.nodes plan.bound plan.room lines tied after.room n out (added_from is_out ts n out) (number_unfinished is_out out_unfinished ts ascending n out)
      (all_pass is_out (n ∷ []) ts ascending (and_from (some_task is_out ts n) true out refl)))

  pub stopped_tied : (middle after : Agenda) (n : ℕ) → is_number_out (map task_of plan.nodes) n ≡ true
      → middle.nodes ≡ map (in_state_by Stopped (n ∷ [])) plan.nodes → middle.bound ≡ plan.bound
      → after.nodes ≡ middle.nodes → after.bound ≡ lower_bound middle.bound n → IsTied after lines
  unfolding is_number_out
  stopped_tied middle after n out nodes bound nodes' bound' =
      let ts = map task_of plan.nodes in
      tied_at lines after (map (in_state_by Stopped (n ∷ [])) plan.nodes) (lower_bound plan.bound n)
      (nodes' ∙ nodes) (bound' ∙ ap (λ (b : Option ℕ). lower_bound b n) bound)
      (tied_stopped plan.nodes plan.bound plan.room lines tied after.room n out (added_from is_out ts n out)
      (all_pass is_out (n ∷ []) ts ascending (and_from (some_task is_out ts n) true out refl)))

-- the tasks after a change of states
pub states_tasks : (s : TaskState) (ns : List ℕ) (xs ys : List Node) → ys ≡ map (in_state_by s ns) xs → map task_of ys ≡ come_to s ns (map task_of xs)
states_tasks s ns xs ys e = ap (map task_of) e ∙ state_tasks s ns xs

pub done_tasks : (s : TaskState) (ns cs : List ℕ) (xs ys zs : List Node) → ys ≡ map (in_state_by s ns) xs → zs ≡ map (less_by cs) ys → map task_of zs ≡ come_to s ns (map task_of xs)
done_tasks s ns cs xs ys zs e f = ap (map task_of) f ∙ less_tasks cs ys ∙ states_tasks s ns xs ys e

-- a graph with no tasks
pub empty_tied : (plan : Agenda) (lines : List (ℕ × List ℕ)) → plan ≡ record { nodes = []; bound = None; room = 0 } → lines ≡ [] → IsTied plan lines
unfolding is_below_stops
empty_tied plan lines e f =
    let none : IsTied (record { nodes = []; bound = None; room = 0 }) [] = record { ordered = tt; counted = λ k d l. absurd (omega arith); bound = λ n. refl; consumers = refl } in
    subst (λ (ls : List (ℕ × List ℕ)). IsTied plan ls) (sym f) (subst (λ (p : Agenda). IsTied p []) (sym e) none)

-- one more task, which waits
any_push : {X : Type 0} (p : X → Bool) (xs : List X) (x : X) → p x ≡ false → list_any p (xs ++ x ∷ []) ≡ list_any p xs
any_push p [] x e = rw e refl
any_push p (y ∷ xs) x e = ap (λ b. p y || b) (any_push p xs x e)

all_push : {X : Type 0} (p : X → Bool) (xs : List X) (x : X) → p x ≡ true → list_all p (xs ++ x ∷ []) ≡ list_all p xs
all_push p [] x e = rw e refl
all_push p (y ∷ xs) x e = ap (λ b. p y && b) (all_push p xs x e)

map_push : {X Y : Type 0} (f : X → Y) (xs : List X) (x : X) → map f (xs ++ x ∷ []) ≡ map f xs ++ f x ∷ []
map_push f [] x = refl
map_push f (y ∷ xs) x = ap (λ l. f y ∷ l) (map_push f xs x)

added_below : (ts : List Task) (n p : ℕ) → list_all (λ (t : Task). ltb t.number n) ts ≡ true → is_number_added ts p ≡ true → ltb p n ≡ true
unfolding is_number_added
added_below [] n p h e = absurd (false≢true e)
added_below (t ∷ ts) n p h e =
    let parts = and_parts (ltb t.number n) (list_all (λ (t : Task). ltb t.number n) ts) h in
    elim (cases_Bool (eqb t.number p)) [
      | inl y ↦ subst (λ m. ltb m n ≡ true) (eqb-true t.number p y) parts.0
      | inr f ↦
          let rest : list_any (λ (u : Task). eqb u.number p && true) ts ≡ true = rw f at e in
          added_below ts n p parts.1 rest
    ]

producers_below : (ts : List Task) (n : ℕ) (ps : List ℕ) → list_all (λ (t : Task). ltb t.number n) ts ≡ true → list_all (is_number_added ts) ps ≡ true → list_all (λ p. ltb p n) ps ≡ true
producers_below ts n [] h e = refl
producers_below ts n (p ∷ ps) h e =
    let parts = and_parts (is_number_added ts p) (list_all (is_number_added ts) ps) e in
    and_from (ltb p n) (list_all (λ p. ltb p n) ps) (added_below ts n p h parts.0) (producers_below ts n ps h parts.1)

-- no number below another is that one
not_among : (n : ℕ) (ps : List ℕ) → list_all (λ p. ltb p n) ps ≡ true → is_among ps n ≡ false
not_among n [] h = refl
not_among n (p ∷ ps) h =
    let parts = and_parts (ltb p n) (list_all (λ p. ltb p n) ps) h in
    let e : eqb p n ≡ false = ne_eqb p n (λ same. omega (arith, ltb-true p n parts.0)) in
    rw e (not_among n ps parts.1)

lower_below : (m n : ℕ) (ps : List ℕ) → ltb m n ≡ true → list_all (λ p. ltb p m) ps ≡ true → list_all (λ p. ltb p n) ps ≡ true
lower_below m n [] l h = refl
lower_below m n (p ∷ ps) l h =
    let parts = and_parts (ltb p m) (list_all (λ p. ltb p m) ps) h in
    and_from (ltb p n) (list_all (λ p. ltb p n) ps) (lt-ltb p n (omega (arith, ltb-true p m parts.0, ltb-true m n l))) (lower_below m n ps l parts.1)

-- who needs a task, with one more task
consumers_push : (ts : List Task) (t : Task) (m : ℕ) → consumers_of (ts ++ t ∷ []) m ≡ (cond (is_among t.producers m) (consumers_of ts m ++ t.number ∷ []) (consumers_of ts m))
unfolding consumers_of
consumers_push [] t m = elim (cases_Bool (is_among t.producers m)) [
  | inl e ↦ rw e refl
  | inr e ↦ rw e refl
]
consumers_push (u ∷ ts) t m =
    let rest = consumers_push ts t m in
    elim (cases_Bool (is_among u.producers m)) [
      | inl e ↦ rw e (ap (λ (l : List ℕ). u.number ∷ l) rest ∙ out (is_among t.producers m) u.number (consumers_of ts m) t.number)
      | inr e ↦ rw e rest
    ]
  where
    out : (b : Bool) (n : ℕ) (l : List ℕ) (k : ℕ) → n ∷ cond b (l ++ k ∷ []) l ≡ cond b (n ∷ (l ++ k ∷ [])) (n ∷ l)
    out true n l k = refl
    out false n l k = refl

no_consumers : (xs : List Node) (n : ℕ) → list_all (λ (x : Node). ltb x.number n) xs ≡ true → All (λ (x : Node). list_all (λ p. ltb p x.number) x.producers.items ≡ true) xs → consumers_of (map task_of xs) n ≡ []
unfolding consumers_of
no_consumers [] n h all = refl
no_consumers (x ∷ xs) n h all =
    let parts = and_parts (ltb x.number n) (list_all (λ (x : Node). ltb x.number n) xs) h in
    let here = All-head (λ (x : Node). list_all (λ p. ltb p x.number) x.producers.items ≡ true) x xs all in
    let e : is_among x.producers.items n ≡ false = not_among n x.producers.items (lower_below x.number n x.producers.items parts.0 here) in
    rw e (no_consumers xs n parts.1 (All-tail (λ (x : Node). list_all (λ p. ltb p x.number) x.producers.items ≡ true) x xs all))

lines_push : (ts us : List Task) (t : Task) → with_each t.number t.producers (map {B = ℕ × List ℕ} (λ u. (u.number, consumers_of ts u.number)) us) ≡ map {B = ℕ × List ℕ} (λ u. (u.number, consumers_of (ts ++ t ∷ []) u.number)) us
lines_push ts [] t = refl
lines_push ts (u ∷ us) t =
    ap (λ (c : List ℕ). let line : ℕ × List ℕ = (u.number, c) in line ∷ with_each t.number t.producers (map {B = ℕ × List ℕ} (λ u. (u.number, consumers_of ts u.number)) us)) (sym (consumers_push ts t u.number))
    ∙ ap (λ (l : List (ℕ × List ℕ)). (u.number, consumers_of (ts ++ t ∷ []) u.number) ∷ l) (lines_push ts us t)

count_same : (f g : ℕ → Bool) → ((p : ℕ) → f p ≡ g p) → (ps : List ℕ) → count_where f ps ≡ count_where g ps
count_same f g same [] = refl
count_same f g same (p ∷ ps) = ap (λ b. cond b 1 0 + count_where f ps) (same p) ∙ ap (λ k. cond (g p) 1 0 + k) (count_same f g same ps)

pub tasks_below : (xs : List Node) (n : ℕ) → list_all (λ (t : Task). ltb t.number n) (map task_of xs) ≡ list_all (λ (x : Node). ltb x.number n) xs
tasks_below [] n = refl
tasks_below (x ∷ xs) n = ap (λ b. ltb x.number n && b) (tasks_below xs n)

pub nodes_below : (xs : List Node) (n : ℕ) → list_all (λ (t : Task). ltb t.number n) (map task_of xs) ≡ true → list_all (λ (x : Node). ltb x.number n) xs ≡ true
nodes_below xs n h = sym (tasks_below xs n) ∙ h

pub lines_below : (ts : List Task) (n : ℕ) → list_all (λ (t : Task). ltb t.number n) ts ≡ true → list_all (λ (line : ℕ × List ℕ). ltb line.0 n) (lines_of ts) ≡ true
lines_below ts n h = along ts ∙ h
  where
    along : (us : List Task) → list_all (λ (line : ℕ × List ℕ). ltb line.0 n) (map {B = ℕ × List ℕ} (λ u. (u.number, consumers_of ts u.number)) us) ≡ list_all (λ (t : Task). ltb t.number n) us
    along [] = refl
    along (u ∷ us) = ap (λ b. ltb u.number n && b) (along us)

-- the new task is counted, and so is what was there
pub added_tied : (plan after : Agenda) (lines : List (ℕ × List ℕ)) (x : Node) → IsTied plan lines → x.state ≡ Waiting
    → x.missing ≡ count_where (λ p. not (is_number_finished (map task_of plan.nodes) p)) x.producers.items
    → list_all (λ (t : Task). ltb t.number x.number) (map task_of plan.nodes) ≡ true → list_all (is_number_added (map task_of plan.nodes)) x.producers.items ≡ true → AreDifferent x.producers.items
    → after.nodes ≡ plan.nodes ++ x ∷ [] → after.bound ≡ plan.bound → IsTied after (with_line x.number x.producers.items lines)
unfolding is_number_finished is_below_stops
added_tied plan after lines x tied waits missing above added different nodes bound =
    let xs = plan.nodes in
    let ts = map task_of xs in
    let t : Task = task_of x in
    let ts' = map task_of (xs ++ x ∷ []) in
    let ts_is : ts' ≡ ts ++ t ∷ [] = map_push task_of xs x in
    let unfinished : is_finished x.state ≡ false = ap is_finished waits in
    let unstopped : is_stopped x.state ≡ false = ap is_stopped waits in
    let finished : (p : ℕ) → is_number_finished ts' p ≡ is_number_finished ts p = λ p.
    ap (λ us. is_number_finished us p) ts_is ∙ any_push (λ (u : Task). eqb u.number p && is_finished u.state) ts t (and_false (eqb x.number p) (is_finished x.state) unfinished) in
    let stops : (m : ℕ) → is_below_stops ts' m ≡ is_below_stops ts m = λ m.
    ap (λ us. is_below_stops us m) ts_is ∙ all_push (λ (u : Task). not (is_stopped u.state) || ltb m u.number) ts t (or_not (is_stopped x.state) (ltb m x.number) unstopped) in
    let under = nodes_below xs x.number above in
    let earlier = producers_below ts x.number x.producers.items above added in
    let none : consumers_of (ts ++ t ∷ []) x.number ≡ [] =
    consumers_push ts t x.number ∙ ap (λ b. cond b (consumers_of ts x.number ++ x.number ∷ []) (consumers_of ts x.number)) (not_among x.number x.producers.items earlier)
    ∙ no_consumers xs x.number under (λ k d l. (tied.counted k d l).earlier) in
    let more : IsTied (record { nodes = xs ++ x ∷ []; bound = plan.bound; room = after.room }) (with_line x.number x.producers.items lines) = record {
      ordered = ascending_pushed number_of xs x tied.ordered under;
      counted = All-push (IsCounted ts') xs x
          (λ k d l. record {
            earlier = (tied.counted k d l).earlier;
            different = (tied.counted k d l).different;
            missing = (tied.counted k d l).missing ∙ count_same (λ p. not (is_number_finished ts p)) (λ p. not (is_number_finished ts' p)) (λ p. ap not (sym (finished p))) (get_or xs k d).producers.items;
          })
          (record { earlier = earlier; different = different; missing = missing ∙ count_same (λ p. not (is_number_finished ts p)) (λ p. not (is_number_finished ts' p)) (λ p. ap not (sym (finished p))) x.producers.items });
      bound = λ m. tied.bound m ∙ sym (stops m);
      consumers =
          ap (with_line x.number x.producers.items) tied.consumers
          ∙ ap (λ (l : List (ℕ × List ℕ)). l ++ (x.number, []) ∷ []) (lines_push ts ts t)
          ∙ ap (λ (c : List ℕ). let last : ℕ × List ℕ = (x.number, c) in map {B = ℕ × List ℕ} (λ u. (u.number, consumers_of (ts ++ t ∷ []) u.number)) ts ++ last ∷ []) (sym none)
          ∙ sym (map_push {Y = ℕ × List ℕ} (λ u. (u.number, consumers_of (ts ++ t ∷ []) u.number)) ts t)
          ∙ ap lines_of (sym ts_is);
    } in
    tied_at (with_line x.number x.producers.items lines) after (xs ++ x ∷ []) plan.bound nodes bound more
  where
    and_false : (a b : Bool) → b ≡ false → (a && b) ≡ false
    and_false true b e = e
    and_false false b e = refl

    or_not : (a b : Bool) → a ≡ false → (not a || b) ≡ true
    or_not true b e = absurd (false≢true (sym e))
    or_not false b e = refl

pub added_tasks : (xs ys : List Node) (x : Node) → ys ≡ xs ++ x ∷ [] → map task_of ys ≡ map task_of xs ++ task_of x ∷ []
added_tasks xs ys x e = ap (map task_of) e ∙ map_push task_of xs x

-- whether any task may be taken
pub none_takeable : (ts : List Task) (r : ℕ) → r ≡ length (takeable ts) → r ≡ 0 → takeable ts ≡ []
none_takeable ts r e z = empty (takeable ts) (sym e ∙ z)
  where
    empty : (us : List Task) → length us ≡ 0 → us ≡ []
    empty [] e = refl
    empty (u ∷ us) e = absurd (omega arith)

pub some_takeable : (ts : List Task) (r : ℕ) → r ≡ length (takeable ts) → 0 < r → takeable ts ≡ [] → ⊥
some_takeable ts r e l none =
    let z : length (takeable ts) ≡ 0 = ap length none in
    omega arith

-- what is made is the bundle
pub bundle_is : (g : TaskGraph) (most r share : ℕ) (first whole : List ℕ) → r ≡ length (takeable g.tasks) → share ≡ min most (div_ceil r g.workers) → first ≡ take share (in_turn g.tasks)
    → whole ≡ continued g.tasks (most - length first) first → whole ≡ bundle g most
unfolding bundle beginning
bundle_is g most r share first whole r_is share_is first_is whole_is =
    let shares : share ≡ min most (div_ceil (length (takeable g.tasks)) g.workers) = share_is ∙ ap (λ k. min most (div_ceil k g.workers)) r_is in
    let firsts : first ≡ take (min most (div_ceil (length (takeable g.tasks)) g.workers)) (in_turn g.tasks) = first_is ∙ ap (λ k. take k (in_turn g.tasks)) shares in
    whole_is ∙ ap (λ ns. continued g.tasks (most - length ns) ns) firsts

pub take_short : (k : ℕ) (ns : List ℕ) → length (take k ns) ≤ k
take_short zero ns = omega arith
take_short (suc k) [] = omega arith
take_short (suc k) (n ∷ ns) =
    let rest = take_short k ns in
    omega (arith, rest)
