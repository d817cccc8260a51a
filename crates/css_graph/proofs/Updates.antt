-- What stays true of a graph while its nodes change.
use Rattle.std.proofs.Common.{◌≡◌, ℕ, zero, suc, ◌+◌, ◌-◌, ◌<◌, ◌≤◌, Bool, true, false, cond, ◌&&◌, ◌||◌, not, eqb, ltb, List, [], ◌∷◌, ◌++◌, length, get_or, map, Option, Some, None, min, refl, sym, ap, ◌∙◌, subst, inl, inr, arith}
use Rattle.std.specs.List.{filter, list_any, list_all, All}
use Rattle.std.proofs.lemmas.Bool.{cases_Bool, and_parts, and_from, false≢true, eqb-true, ne_eqb, eq-eqb, ltb-true, lt-ltb, le-ltb}
use Rattle.std.proofs.lemmas.Bool.Decides.{nat_tests}
use Rattle.std.proofs.lemmas.List.{get_or-map}
use Rattle.std.proofs.lemmas.List.Elements.{All-map, All-push, All-head, All-tail, All-cons, All-nil}
use Rattle.css_graph.specs.declared.node.Node.{Node}
use Rattle.css_graph.specs.declared.state.TaskState.{TaskState}
use Rattle.css_graph.specs.declared.state.TaskState.TheVariants.{Waiting, Out, Finished, Stopped}
use Rattle.css_graph.specs.Tasks.{Task, is_out, is_waiting, is_finished, is_stopped, is_among, is_number_added, is_number_out, is_number_finished, is_below_stops, come_to}
use Rattle.css_graph.specs.Nodes.{Agenda, IsAscending, task_of, is_below, lower_bound, count_where, at_number, in_state, one_less_missing, in_state_by, less_by}
use Rattle.css_graph.specs.Consumers.{consumers_of, lines_of, consumers_at, with_line}
use Rattle.css_graph.specs.Graph.{IsCounted, IsTied}
use Rattle.css_graph.proofs.Counts.{eqb_sym, among_push, count_push, one_finished}
use Rattle.css_graph.proofs.Keyed.{keys_kept}
use Rattle.css_graph.proofs.States.{are_all, same_finished, same_stops, same_lines, finished_other, finished_self, stops_with, out_unfinished, out_unstopped, added_from, number_unfinished, all_pass}
use Rattle.css_graph.proofs.Following.{consumer_counts, lines_at}

abbrev number_of : Node → ℕ
number_of x = x.number

map_twice : {X Y Z : Type 0} (f : Y → Z) (g : X → Y) (h : X → Z) → ((x : X) → f (g x) ≡ h x) → (xs : List X) → map f (map g xs) ≡ map h xs
map_twice f g h same [] = refl
map_twice f g h same (x ∷ xs) = ap (λ y. y ∷ map f (map g xs)) (same x) ∙ ap (λ l. h x ∷ l) (map_twice f g h same xs)

map_same : (f : Node → Node) → ((x : Node) → f x ≡ x) → (xs : List Node) → map f xs ≡ xs
map_same f same [] = refl
map_same f same (x ∷ xs) = ap (λ y. y ∷ map f xs) (same x) ∙ ap (λ l. x ∷ l) (map_same f same xs)

abbrev missing_node : Node → ℕ → Node
missing_node x k = record { number = x.number; producers = x.producers; high = x.high; state = x.state; missing = k }

abbrev state_node : Node → TaskState → Node
state_node x s = record { number = x.number; producers = x.producers; high = x.high; state = s; missing = x.missing }

missing_with : (x : Node) (k m : ℕ) → k ≡ m → missing_node x k ≡ missing_node x m
missing_with x k m e = ap (missing_node x) e

state_with : (x : Node) (s t : TaskState) → s ≡ t → state_node x s ≡ state_node x t
state_with x s t e = ap (state_node x) e

-- one after another, numbers come to a state
pub state_start : (s : TaskState) (xs : List Node) → map (in_state_by s []) xs ≡ xs
state_start s xs = map_same (in_state_by s []) (λ x. refl) xs

pub state_more : (s : TaskState) (ns : List ℕ) (n : ℕ) (xs : List Node) → at_number n (in_state s) (map (in_state_by s ns) xs) ≡ map (in_state_by s (ns ++ n ∷ [])) xs
state_more s ns n xs = map_twice (λ x. cond (eqb x.number n) (in_state s x) x) (in_state_by s ns) (in_state_by s (ns ++ n ∷ [])) each xs
  where
    or_true : (b : Bool) → (b || true) ≡ true
    or_true true = refl
    or_true false = refl

    or_false : (b : Bool) → (b || false) ≡ b
    or_false true = refl
    or_false false = refl

    each : (x : Node) → cond (eqb x.number n) (in_state s (in_state_by s ns x)) (in_state_by s ns x) ≡ in_state_by s (ns ++ n ∷ []) x
    each x =
        let pushed : is_among (ns ++ n ∷ []) x.number ≡ (is_among ns x.number || eqb n x.number) = among_push ns n x.number in
        elim (cases_Bool (eqb x.number n)) [
          | inl e ↦
              let f : eqb n x.number ≡ true = eqb_sym n x.number ∙ e in
              let now : is_among (ns ++ n ∷ []) x.number ≡ true = pushed ∙ ap (λ b. is_among ns x.number || b) f ∙ or_true (is_among ns x.number) in
              rw e (state_with x s (cond (is_among (ns ++ n ∷ []) x.number) s x.state) (sym (ap (λ b. cond b s x.state) now)))
          | inr e ↦
              let f : eqb n x.number ≡ false = eqb_sym n x.number ∙ e in
              let now : is_among (ns ++ n ∷ []) x.number ≡ is_among ns x.number = pushed ∙ ap (λ b. is_among ns x.number || b) f ∙ or_false (is_among ns x.number) in
              rw e (state_with x (cond (is_among ns x.number) s x.state) (cond (is_among (ns ++ n ∷ []) x.number) s x.state) (sym (ap (λ b. cond b s x.state) now)))
        ]

pub state_once : (s : TaskState) (n : ℕ) (xs : List Node) → at_number n (in_state s) xs ≡ map (in_state_by s (n ∷ [])) xs
state_once s n xs = ap (at_number n (in_state s)) (sym (state_start s xs)) ∙ state_more s [] n xs

pub state_tasks : (s : TaskState) (ns : List ℕ) (xs : List Node) → map task_of (map (in_state_by s ns) xs) ≡ come_to s ns (map task_of xs)
unfolding come_to
state_tasks s ns [] = refl
state_tasks s ns (x ∷ xs) = ap (λ l. task_of (in_state_by s ns x) ∷ l) (state_tasks s ns xs)

-- one after another, numbers miss one less
pub less_start : (xs : List Node) → map (less_by []) xs ≡ xs
less_start xs = map_same (less_by []) (λ x. missing_with x (x.missing - 0) x.missing (omega arith)) xs

pub less_more : (cs : List ℕ) (c : ℕ) (xs : List Node) → at_number c one_less_missing (map (less_by cs) xs) ≡ map (less_by (cs ++ c ∷ [])) xs
less_more cs c xs = map_twice (λ x. cond (eqb x.number c) (one_less_missing x) x) (less_by cs) (less_by (cs ++ c ∷ [])) each xs
  where
    each : (x : Node) → cond (eqb x.number c) (one_less_missing (less_by cs x)) (less_by cs x) ≡ less_by (cs ++ c ∷ []) x
    each x =
        let test : ℕ → Bool = λ m. eqb m x.number in
        let pushed : count_where test (cs ++ c ∷ []) ≡ count_where test cs + cond (eqb c x.number) 1 0 = count_push test cs c in
        elim (cases_Bool (eqb x.number c)) [
          | inl e ↦
              let f : eqb c x.number ≡ true = eqb_sym c x.number ∙ e in
              let one : count_where test (cs ++ c ∷ []) ≡ count_where test cs + 1 = pushed ∙ ap (λ b. count_where test cs + cond b 1 0) f in
              rw e (missing_with x ((x.missing - count_where test cs) - 1) (x.missing - count_where test (cs ++ c ∷ [])) (omega (arith, one)))
          | inr e ↦
              let f : eqb c x.number ≡ false = eqb_sym c x.number ∙ e in
              let none : count_where test (cs ++ c ∷ []) ≡ count_where test cs + 0 = pushed ∙ ap (λ b. count_where test cs + cond b 1 0) f in
              rw e (missing_with x (x.missing - count_where test cs) (x.missing - count_where test (cs ++ c ∷ [])) (omega (arith, none)))
        ]

pub less_tasks : (cs : List ℕ) (xs : List Node) → map task_of (map (less_by cs) xs) ≡ map task_of xs
less_tasks cs xs = map_twice task_of (less_by cs) task_of (λ x. refl) xs

-- counts by tests that agree
count_same : (f g : ℕ → Bool) → ((p : ℕ) → f p ≡ g p) → (ps : List ℕ) → count_where f ps ≡ count_where g ps
count_same f g same [] = refl
count_same f g same (p ∷ ps) = ap (λ b. cond b 1 0 + count_where f ps) (same p) ∙ ap (λ k. cond (g p) 1 0 + k) (count_same f g same ps)

ascending_numbers : (s : TaskState) (ns : List ℕ) (xs : List Node) → IsAscending (map number_of xs) → IsAscending (map number_of (map (in_state_by s ns) xs))
ascending_numbers s ns xs up = subst IsAscending (sym (keys_kept number_of (in_state_by s ns) (λ x. refl) xs)) up

pub task_numbers : (xs : List Node) → map (λ (t : Task). t.number) (map task_of xs) ≡ map number_of xs
task_numbers xs = map_twice (λ (t : Task). t.number) task_of number_of (λ x. refl) xs

-- another plan with these nodes and this bound
pub tied_at : (lines : List (ℕ × List ℕ)) (plan : Agenda) (xs : List Node) (bound : Option ℕ) → plan.nodes ≡ xs → plan.bound ≡ bound → IsTied (record { nodes = xs; bound = bound; room = plan.room }) lines → IsTied plan lines
tied_at lines plan xs bound e f t =
    let at_nodes : IsTied (record { nodes = plan.nodes; bound = bound; room = plan.room }) lines =
    subst (λ (ys : List Node). IsTied (record { nodes = ys; bound = bound; room = plan.room }) lines) (sym e) t in
    subst (λ (b : Option ℕ). IsTied (record { nodes = plan.nodes; bound = b; room = plan.room }) lines) (sym f) at_nodes

module _ (xs : List Node) (bound : Option ℕ) (room : ℕ) (lines : List (ℕ × List ℕ)) (tied : IsTied (record { nodes = xs; bound = bound; room = room }) lines) (room' : ℕ) where
  tasks : List Task
  tasks = map task_of xs

  -- tasks that are neither finished nor stopped come to a state that is neither
  pub tied_state : (s : TaskState) (test : TaskState → Bool) (ns : List ℕ) → is_finished s ≡ false → is_stopped s ≡ false
      → ((s : TaskState) → test s ≡ true → is_finished s ≡ false) → ((s : TaskState) → test s ≡ true → is_stopped s ≡ false)
      → are_all test ns (map task_of xs) ≡ true → IsTied (record { nodes = map (in_state_by s ns) xs; bound = bound; room = room' }) lines
  tied_state s test ns unfinished unstopped w v all =
      let ts = map task_of xs in
      let ts_is : map task_of (map (in_state_by s ns) xs) ≡ come_to s ns ts = state_tasks s ns xs in
      let finished : (p : ℕ) → is_number_finished (map task_of (map (in_state_by s ns) xs)) p ≡ is_number_finished ts p =
      λ p. ap (λ us. is_number_finished us p) ts_is ∙ same_finished s test unfinished w ns ts all p in
      record {
        ordered = ascending_numbers s ns xs tied.ordered;
        counted = All-map (IsCounted (map task_of (map (in_state_by s ns) xs))) (in_state_by s ns) xs (λ k d l. record {
          earlier = (tied.counted k d l).earlier;
          different = (tied.counted k d l).different;
          missing = (tied.counted k d l).missing ∙ count_same (λ p. not (is_number_finished ts p)) (λ p. not (is_number_finished (map task_of (map (in_state_by s ns) xs)) p)) (λ p. ap not (sym (finished p))) (get_or xs k d).producers.items;
        });
        bound = λ n. tied.bound n ∙ sym (ap (λ us. is_below_stops us n) ts_is ∙ same_stops s test unstopped v ns ts all n);
        consumers = tied.consumers ∙ sym (ap lines_of ts_is ∙ same_lines s ns ts);
      }

  -- a task that was out has stopped
  pub tied_stopped : (n : ℕ) → is_number_out (map task_of xs) n ≡ true → is_number_added (map task_of xs) n ≡ true → are_all is_out (n ∷ []) (map task_of xs) ≡ true
      → IsTied (record { nodes = map (in_state_by Stopped (n ∷ [])) xs; bound = lower_bound bound n; room = room' }) lines
  tied_stopped n out added all =
      let ns : List ℕ = n ∷ [] in
      let ts = map task_of xs in
      let ts_is : map task_of (map (in_state_by Stopped ns) xs) ≡ come_to Stopped ns ts = state_tasks Stopped ns xs in
      let finished : (p : ℕ) → is_number_finished (map task_of (map (in_state_by Stopped ns) xs)) p ≡ is_number_finished ts p =
      λ p. ap (λ us. is_number_finished us p) ts_is ∙ same_finished Stopped is_out refl out_unfinished ns ts all p in
      record {
        ordered = ascending_numbers Stopped ns xs tied.ordered;
        counted = All-map (IsCounted (map task_of (map (in_state_by Stopped ns) xs))) (in_state_by Stopped ns) xs (λ k d l. record {
          earlier = (tied.counted k d l).earlier;
          different = (tied.counted k d l).different;
          missing = (tied.counted k d l).missing ∙ count_same (λ p. not (is_number_finished ts p)) (λ p. not (is_number_finished (map task_of (map (in_state_by Stopped ns) xs)) p)) (λ p. ap not (sym (finished p))) (get_or xs k d).producers.items;
        });
        bound = λ m.
            lowered bound m n ∙ ap (λ b. b && ltb m n) (tied.bound m)
            ∙ sym (ap (λ us. is_below_stops us m) ts_is ∙ stops_with n ts all m ∙ ap (λ b. is_below_stops ts m && (not b || ltb m n)) added);
        consumers = tied.consumers ∙ sym (ap lines_of ts_is ∙ same_lines Stopped ns ts);
      }
    where
      lowered : (bound : Option ℕ) (m n : ℕ) → is_below (lower_bound bound n) m ≡ (is_below bound m && ltb m n)
      lowered None m n = refl
      lowered (Some b) m n = least m b n
        where
          least : (m b n : ℕ) → ltb m (min b n) ≡ (ltb m b && ltb m n)
          least m b n = grind (arith, nat_tests)

  -- a task that was out is finished, and those that need it miss one less
  pub tied_done : (n : ℕ) → is_number_out (map task_of xs) n ≡ true → is_number_added (map task_of xs) n ≡ true → is_number_finished (map task_of xs) n ≡ false → are_all is_out (n ∷ []) (map task_of xs) ≡ true
      → IsTied (record { nodes = map (less_by (consumers_at lines n)) (map (in_state_by Finished (n ∷ [])) xs); bound = bound; room = room' }) lines
  tied_done n out added fresh all =
      let ns : List ℕ = n ∷ [] in
      let ts = map task_of xs in
      let ys = map (in_state_by Finished ns) xs in
      let cs = consumers_at lines n in
      let cs_is : cs ≡ consumers_of ts n = ap (λ ls. consumers_at ls n) tied.consumers ∙ lines_at (consumers_of ts) ts n added in
      let ts_is : map task_of (map (less_by cs) ys) ≡ come_to Finished ns ts = less_tasks cs ys ∙ state_tasks Finished ns xs in
      let after : ℕ → Bool = is_number_finished (map task_of (map (less_by cs) ys)) in
      let finished_n : after n ≡ true = ap (λ us. is_number_finished us n) ts_is ∙ finished_self n ts added in
      let others : (p : ℕ) → eqb p n ≡ false → after p ≡ is_number_finished ts p = λ p e. ap (λ us. is_number_finished us p) ts_is ∙ finished_other n ts p e in
      let both : Node → Node = λ x. less_by cs (in_state_by Finished ns x) in
      let whole : map (less_by cs) ys ≡ map both xs = map_twice (less_by cs) (in_state_by Finished ns) both (λ x. refl) xs in
      record {
        ordered = subst IsAscending (sym (keys_kept number_of (less_by cs) (λ x. refl) ys)) (ascending_numbers Finished ns xs tied.ordered);
        counted = subst (All (IsCounted (map task_of (map (less_by cs) ys)))) (sym whole) (All-map (IsCounted (map task_of (map (less_by cs) ys))) both xs (λ k d l.
            let x = get_or xs k d in
            let c = tied.counted k d l in
            let one = one_finished (is_number_finished ts) after n fresh finished_n others x.producers.items c.different in
            let here : count_where (λ c. eqb c x.number) cs ≡ cond (is_among x.producers.items n) 1 0 =
            ap (count_where (λ c. eqb c x.number)) cs_is ∙ consumer_counts xs n k d tied.ordered l in
            record { earlier = c.earlier; different = c.different; missing = omega (arith, one, here, c.missing) }));
        bound = λ m. tied.bound m ∙ sym (ap (λ us. is_below_stops us m) ts_is ∙ same_stops Finished is_out refl out_unstopped ns ts all m);
        consumers = tied.consumers ∙ sym (ap lines_of ts_is ∙ same_lines Finished ns ts);
      }
