-- A board, once its history has one entry more.
use Rattle.std.proofs.Common.{◌≡◌, ◌≢◌, ℕ, ◌+◌, ◌<◌, ◌≤◌, ◌^◌, ◌||◌, ◌==◌, Bool, true, false, true≢false, IsTrue, nat_eq, nat_lt, cond, not, List, [], ◌∷◌, ◌++◌, length, set, get_or, Some, None, slice_get, map, refl, ap, ap₂, sym, ◌∙◌, subst, inl, inr, arith, length-append}
use Rattle.std.specs.List.{list_all}
use Rattle.std.proofs.lemmas.Bool.{cases_Bool, cases_lt, eqb-true, eq-eqb}
use Rattle.std.proofs.lemmas.List.Sums.{sum_by_more_le}
use Rattle.std.proofs.lemmas.Option.{slice_get_within, get_or_from_slice_get}
use Rattle.css_base.specs.Limits.{IsInRange}
use Rattle.css_base.specs.declared.ending.Stop.{Stop}
use Rattle.css_record.specs.declared.task_record.TaskRecord.{TaskRecord}
use Rattle.css_record.specs.declared.version.VersionName.{VersionName}
use Rattle.css_record.specs.declared.version.VersionName.TheVariants as names
use Rattle.css_task.specs.Alone.{End, Outs, Halted}
use Rattle.css_yard.specs.Values.{Submit, IsValue}
use Rattle.css_yard.specs.Yards.{MaySubmit}
use Rattle.css_yard.proofs.Lists.{place_of, is_within, has_place}
use Rattle.css_graph.specs.Tasks.{Task, TaskGraph, come_to, is_among, where_come, with_task, is_number_out, is_number_added}
use Rattle.css_graph.specs.declared.state.TaskState.{TaskState}
use Rattle.css_graph.specs.declared.state.TaskState.TheVariants as states
use Rattle.css_graph.specs.Bundle.{AreDifferent, bundle}
use Rattle.css_history.proofs.Standings.{taken_waits, held_are}
use Rattle.css_graph.proofs.Takeable.{among_append}
use Rattle.css_board.proofs.Lists.{all_among}
use Rattle.css_board.proofs.Bundles.{bundle_may}
use Rattle.css_seen.proofs.Lasting.{legal_more}
use Rattle.css_history.specs.declared.entry.Entry.{Entry}
use Rattle.css_history.specs.declared.entry.Entry.TheVariants as entries
use Rattle.css_history.specs.declared.fixed.Fixed.{Fixed}
use Rattle.css_history.specs.Terms.{Terms, terms_of}
use Rattle.css_history.specs.Histories.{maker, Waiting, Held, Ended, standing, submitted, submits, named, comes, without, held, closes, hungry, is_some_worker, is_worker, is_closed, is_starved, has_starved, IsFinished}
use Rattle.css_history.specs.Rules.{IsSubmit, IsNext, AreReady, MayTake, MayEnd}
use Rattle.css_history.specs.Legal.{MayFollow, Legal}
use Rattle.css_history.proofs.Bools.{or_left, or_right}
use Rattle.css_history.proofs.Histories.{held_more, any_more}
use Rattle.css_history.proofs.Numbers.{index_of, numbered, submit_of}
use Rattle.css_history.proofs.Values.{are_submitted, values_are_own}
use Rattle.css_yard.proofs.Numbers.{one_submit}
use Rattle.css_board.specs.Drafts.{HasPlace}
use Rattle.css_board.proofs.Jobs.{has_place_of}
use Rattle.css_history.specs.Seats.{IsFirst}
use Rattle.css_board.specs.declared.cell.Cell.{Cell}
use Rattle.css_board.specs.declared.post.Post.{Post}
use Rattle.css_board.specs.Graphs.{state_of, producers_of, task_of, tasks_of, graph_of}
use Rattle.css_board.specs.Cells.{told_by, IsFinish, IsEndBy, with_end, AreCells, IsFront, IsFinishedCell, IsFoundMade, IsStopOf, AreKept}
use Rattle.css_board.specs.Posts.{one_if_not, coming_of, coming, IsPost}
use Rattle.css_board.specs.Boards.{IsBoard, AreAllFinished}
use Rattle.css_board.proofs.Graphs.{graph_named, graph_same, graph_submit, above_all, producers_added, out_number, all_out}
use Rattle.css_board.proofs.Cells.{cells_same, cells_ended, cells_submit, stop_of, stopped_cell}
use Rattle.css_board.proofs.Fronts.{front_same, front_moved, front_submit, finishes_none}
use Rattle.css_board.proofs.Posts.{same_any, starved_same, posts_same, posts_set, coming_set}

one_bound : (b : Bool) → one_if_not b ≤ 1
one_bound true = omega arith
one_bound false = omega arith

without_bound : (n : ℕ) (numbers : List ℕ) → length (without n numbers) ≤ length numbers
without_bound n [] = omega arith
without_bound n (m ∷ numbers) = elim (cases_Bool (m == n)) [
  | inl same ↦ rw same (let rest = without_bound n numbers in omega (arith, rest))
  | inr apart ↦ rw apart (let rest = without_bound n numbers in omega (arith, rest))
]

pub without_less : (n : ℕ) (numbers : List ℕ) → is_among numbers n ≡ true → length (without n numbers) + 1 ≤ length numbers
without_less n [] e = absurd (cc)
without_less n (m ∷ numbers) e = elim (cases_Bool (m == n)) [
  | inl same ↦ rw same (let rest = without_bound n numbers in omega (arith, rest))
  | inr apart ↦ let rest = without_less n numbers (rw apart at e) in rw apart (omega (arith, rest))
]

-- a board with no entries
pub board_new : (f : Fixed) (posts : List Post) (g : TaskGraph) (room : ℕ) → IsInRange f.limits → g ≡ record { workers = f.limits.workers; tasks = [] } → length posts ≡ f.limits.workers
    → ((w : ℕ) (p : Post) → slice_get posts w ≡ Some p → (p.held.items ≡ []) × (p.starved ≡ false)) → coming posts ≡ f.limits.workers → f.limits.workers + 1 ≤ room
    → IsBoard f [] [] posts g 0 false false room
board_new f posts g room limits graph_is many each few enough = record {
  limits = limits;
  legal = tt;
  graph_is = graph_is;
  cells_are = record { all = refl; each = λ k c at. absurd (cc) };
  posts_are = record { all = many; each = λ w p at. record { held_is = (each w p at).0; starved_is = (each w p at).1 } };
  front_is = record { within = omega arith; finished = λ k below. absurd (omega (arith, below)); unfinished = λ below. absurd (omega (arith, below)) };
  closed_is = refl;
  starved_is = refl;
  within = omega (arith, few, enough);
  small = omega (arith, few, limits.workers.1);
}

-- what an entry says that tells an end
pub record IsTold (log : List Entry) (e : Entry) (w n : ℕ) : Type 0 where
  pub end : End
  pub by : maker e ≡ w + 1
  pub not_close : closes e ≡ false
  pub fed : hungry e ≡ None
  pub none : submitted e ≡ []
  pub names : named e ≡ n ∷ []
  pub told : told_by e ≡ Some end
  pub comes_is : comes e ≡ Ended end
  pub holds : held w (log ++ e ∷ []) ≡ without n (held w log)

let_go_by : (log : List Entry) (v m w n : ℕ) → v ≡ w → m ≡ n → cond (v == w) (without m (held w log)) (held w log) ≡ without n (held w log)
let_go_by log v m w n same is = ap (λ x. cond x (without m (held w log)) (held w log)) (eq-eqb v w same) ∙ ap (λ k. without k (held w log)) is

pub told_end : (log : List Entry) (e : Entry) (w n : ℕ) → IsEndBy w n e → IsTold log e w n
told_end log (entries.Submit rec given) w n is = absurd is
told_end log (entries.Take v numbers) w n is = absurd is
told_end log (entries.Finish v m outs) w n is = record {
  end = Outs outs;
  by = ap (λ x. x + 1) is.0;
  not_close = refl;
  fed = refl;
  none = refl;
  names = ap (λ k. k ∷ []) is.1;
  told = refl;
  comes_is = refl;
  holds = held_more w log (entries.Finish v m outs) ∙ let_go_by log v m w n is.0 is.1;
}
told_end log (entries.Stop v m stop line) w n is = record {
  end = Halted stop line;
  by = ap (λ x. x + 1) is.0;
  not_close = refl;
  fed = refl;
  none = refl;
  names = ap (λ k. k ∷ []) is.1;
  told = refl;
  comes_is = refl;
  holds = held_more w log (entries.Stop v m stop line) ∙ let_go_by log v m w n is.0 is.1;
}
told_end log (entries.Back v numbers) w n is = absurd is
told_end log (entries.Starved v) w n is = absurd is
told_end log entries.Close w n is = absurd is

-- a task that came to an end, and wasn't finished, stopped
pub not_finished_stops : (e : Entry) (w n : ℕ) → IsEndBy w n e → ¬ IsFinish (Some e) → state_of (comes e) ≡ states.Stopped
not_finished_stops (entries.Submit rec given) w n is not = absurd is
not_finished_stops (entries.Take v numbers) w n is not = absurd is
not_finished_stops (entries.Finish v m outs) w n is not = absurd (not tt)
not_finished_stops (entries.Stop v m stop line) w n is not = refl
not_finished_stops (entries.Back v numbers) w n is not = absurd is
not_finished_stops (entries.Starved v) w n is not = absurd is
not_finished_stops entries.Close w n is not = absurd is

pub finish_finishes : (e : Entry) → IsFinish (Some e) → state_of (comes e) ≡ states.Finished
finish_finishes (entries.Submit rec given) is = absurd is
finish_finishes (entries.Take v numbers) is = absurd is
finish_finishes (entries.Finish v m outs) is = refl
finish_finishes (entries.Stop v m stop line) is = absurd is
finish_finishes (entries.Back v numbers) is = absurd is
finish_finishes (entries.Starved v) is = absurd is
finish_finishes entries.Close is = absurd is

ended_by : {log : List Entry} (v m w n : ℕ) → (v ≡ w) × (m ≡ n) → MayEnd log v m → MayEnd log w n
ended_by {log = log} v m w n (same, is) may = subst (λ (x : ℕ). MayEnd log x n) same (subst (λ (x : ℕ). MayEnd log v x) is may)

module _ (f : Fixed) (log : List Entry) (cells : List Cell) (posts : List Post) (g : TaskGraph) (front : ℕ) (closed starved : Bool) (room : ℕ) (is : IsBoard f log cells posts g front closed starved room) where
  abbrev b : Terms
  b = terms_of f

  -- a worker's post
  pub post_at : (w : ℕ) (p : Post) → slice_get posts w ≡ Some p → IsPost log w p
  post_at w p at = is.posts_are.each w p at

  -- there is room for an entry that is to come
  pub room_left : (w : ℕ) (p : Post) → slice_get posts w ≡ Some p → 1 ≤ coming_of p → length log < room
  room_left w p at some_left =
      let inside = slice_get_within posts w p at in
      let here : coming_of (get_or posts w p) ≡ coming_of p = ap coming_of (get_or_from_slice_get posts w p p at) in
      let below = sum_by_more_le coming_of posts w p inside in
      omega (arith, is.within, here, below, some_left)

  -- with more room
  pub more_room : (room' : ℕ) → room ≤ room' → IsBoard f log cells posts g front closed starved room'
  more_room room' more = record {
    limits = is.limits;
    legal = is.legal;
    graph_is = is.graph_is;
    cells_are = is.cells_are;
    posts_are = is.posts_are;
    front_is = is.front_is;
    closed_is = is.closed_is;
    starved_is = is.starved_is;
    within = omega (arith, is.within, more);
    small = is.small;
  }

  pub board_close : is_closed log ≡ false → IsBoard f (log ++ entries.Close ∷ []) cells posts g front true starved room
  board_close open_is =
      let e : Entry = entries.Close in
      let may : MayFollow b log e = record { follows = tt; own = tt } in
      let was_open : one_if_not closed ≡ 1 = ap one_if_not (is.closed_is ∙ open_is) in
      let count = length-append log (e ∷ []) in
      record {
        limits = is.limits;
        legal = legal_more maker (MayFollow b) log e is.legal may;
        graph_is = is.graph_is ∙ sym (graph_same f.limits.workers log e refl refl);
        cells_are = cells_same b log e is.legal may cells refl refl is.cells_are;
        posts_are = posts_same f.limits.workers log e posts refl is.posts_are;
        front_is = front_same b log e is.legal may front refl (finishes_none log e refl) is.front_is;
        closed_is = sym (any_more closes log e ∙ or_right (is_closed log) (true || false) refl);
        starved_is = is.starved_is ∙ sym (same_any (λ x. is_some_worker (hungry x)) log e refl);
        within = omega (arith, count, was_open, is.within);
        small = omega (arith, count, was_open, is.small);
      }

  pub board_submit : (r : TaskRecord) (given : List (List ℕ)) (g' : TaskGraph) (room' : ℕ) → IsNext f.first log r → MaySubmit b.code b.limits (submits log) r given
      → g' ≡ with_task g r.number (producers_of r.inputs.items) r.high → length log + (coming posts + 2) ≤ room' → length log < 2 ^ 60 → coming posts + 2 < 2 ^ 60
      → IsBoard f (log ++ entries.Submit r given ∷ []) (cells ++ record { submit = length log; end = None } ∷ []) posts g' front closed starved room'
  board_submit r given g' room' next own added enough few small_coming =
      let e : Entry = entries.Submit r given in
      let may : MayFollow b log e = record { follows = next; own = own } in
      let count = length-append log (e ∷ []) in
      record {
        limits = is.limits;
        legal = legal_more maker (MayFollow b) log e is.legal may;
        graph_is = added ∙ (ap (λ (x : TaskGraph). with_task x r.number (producers_of r.inputs.items) r.high) is.graph_is ∙ sym (graph_submit b f.limits.workers log r given is.legal next));
        cells_are = cells_submit b log r given is.legal may cells is.cells_are;
        posts_are = posts_same f.limits.workers log e posts refl is.posts_are;
        front_is = front_submit b log r given is.legal may front is.front_is;
        closed_is = is.closed_is ∙ sym (same_any closes log e refl);
        starved_is = is.starved_is ∙ sym (same_any (λ x. is_some_worker (hungry x)) log e refl);
        within = omega (arith, count, one_bound closed, enough);
        small = omega (arith, count, one_bound closed, few, small_coming);
      }

  -- an entry of a worker, which has fewer to make then
  board_by : (e : Entry) (w : ℕ) (p q : Post) (cells' : List Cell) (g' : TaskGraph) (front' : ℕ) (starved' : Bool) → MayFollow b log e → maker e ≡ w + 1 → closes e ≡ false
      → AreCells f.first (log ++ e ∷ []) cells' → IsFront f.first (log ++ e ∷ []) front' → slice_get posts w ≡ Some p → IsPost (log ++ e ∷ []) w q → coming_of q + 1 ≤ coming_of p
      → starved' ≡ is_starved (log ++ e ∷ []) → g' ≡ graph_of f.limits.workers (log ++ e ∷ []) → IsBoard f (log ++ e ∷ []) cells' (set posts w q) g' front' closed starved' room
  board_by e w p q cells' g' front' starved' may by not_close are front_are at post less starved_are graph_are =
      let count = length-append log (e ∷ []) in
      let change = coming_set posts w p q at in
      record {
        limits = is.limits;
        legal = legal_more maker (MayFollow b) log e is.legal may;
        graph_is = graph_are;
        cells_are = are;
        posts_are = posts_set f.limits.workers log e posts w q by post is.posts_are;
        front_is = front_are;
        closed_is = is.closed_is ∙ sym (same_any closes log e not_close);
        starved_is = starved_are;
        within = omega (arith, count, change, less, is.within);
        small = omega (arith, count, change, less, is.small);
      }

  pub board_starve : (w : ℕ) (p : Post) → slice_get posts w ≡ Some p → has_starved w log ≡ false
      → IsBoard f (log ++ entries.Starved w ∷ []) cells (set posts w (record p { starved = true })) g front closed true room
  board_starve w p at first =
      let e : Entry = entries.Starved w in
      let may : MayFollow b log e = record { follows = tt; own = tt } in
      let here = post_at w p at in
      let was : one_if_not p.starved ≡ 1 = ap one_if_not (here.starved_is ∙ first) in
      board_by e w p (record p { starved = true }) cells g front true may refl refl
      (cells_same b log e is.legal may cells refl refl is.cells_are)
      (front_same b log e is.legal may front refl (finishes_none log e refl) is.front_is)
      at
      (record {
        held_is = here.held_is ∙ sym (held_more w log e);
        starved_is = sym (any_more (λ x. is_worker w (hungry x)) log e ∙ or_right (has_starved w log) ((w == w) || false) (or_left (w == w) false (eq-eqb w w refl)));
      })
      (omega (arith, was))
      (sym (any_more (λ x. is_some_worker (hungry x)) log e ∙ or_right (is_starved log) (true || false) refl))
      (is.graph_is ∙ sym (graph_same f.limits.workers log e refl refl))

  some_held : (numbers : List ℕ) → numbers ≢ [] → 1 ≤ length numbers
  some_held [] some = absurd (some refl)
  some_held (n ∷ numbers) some = omega arith

  -- a worker that holds something is to make an entry
  pub holds_some : (w : ℕ) (p : Post) → slice_get posts w ≡ Some p → held w log ≢ [] → 1 ≤ coming_of p
  holds_some w p at some =
      let many = some_held (held w log) some in
      omega (arith, many, ap length (post_at w p at).held_is)

  pub board_back : (w : ℕ) (p q : Post) (numbers : List ℕ) (g' : TaskGraph) → slice_get posts w ≡ Some p → q.held.items ≡ [] → q.starved ≡ p.starved → held w log ≢ [] → numbers ≡ p.held.items
      → g' ≡ where_come g (state_of (comes (entries.Back w numbers))) numbers
      → IsBoard f (log ++ entries.Back w numbers ∷ []) cells (set posts w q) g' front closed starved room
  board_back w p q numbers g' at empty same some all came =
      let e : Entry = entries.Back w numbers in
      let here = post_at w p at in
      let may : MayFollow b log e = record { follows = all ∙ here.held_is; own = tt } in
      let many = some_held (held w log) some in
      board_by e w p q cells g' front starved may refl refl
      (cells_same b log e is.legal may cells refl refl is.cells_are)
      (front_same b log e is.legal may front refl (finishes_none log e refl) is.front_is)
      at
      (record {
        held_is = empty ∙ sym (held_more w log e ∙ ap (λ x. cond x [] (held w log)) (eq-eqb w w refl));
        starved_is = same ∙ (here.starved_is ∙ sym (starved_same w log e refl));
      })
      (omega (arith, many, ap length here.held_is, ap length empty, ap one_if_not same))
      (is.starved_is ∙ sym (same_any (λ x. is_some_worker (hungry x)) log e refl))
      (came ∙ (ap (λ (x : TaskGraph). where_come x (state_of (comes e)) numbers) is.graph_is ∙ sym (graph_named f.limits.workers log e refl)))

  -- ---- ends

  -- where the cell of a task stands
  pub place_in : (w n : ℕ) → MayEnd log w n → (k : ℕ) × (n ≡ f.first + k) × (k < length cells)
  place_in w n may =
      let at = index_of b log is.legal n may.submit may.is_submit in
      (at.0, at.2, omega (arith, slice_get_within (submits log) at.0 may.submit at.1, is.cells_are.all))

  pub may_end_left : (w n : ℕ) (p : Post) → slice_get posts w ≡ Some p → MayEnd log w n → length (without n p.held.items) + 1 ≤ length p.held.items
  may_end_left w n p at may = without_less n p.held.items (subst (λ l. is_among l n ≡ true) (sym (post_at w p at).held_is) may.mine)

  pub ends_some : (w n : ℕ) (p : Post) → slice_get posts w ≡ Some p → MayEnd log w n → 1 ≤ coming_of p
  ends_some w n p at may = let less = may_end_left w n p at may in omega (arith, less)

  pub out_is : (w n : ℕ) → MayEnd log w n → is_number_out g.tasks n ≡ true
  out_is w n may = subst (λ (x : TaskGraph). is_number_out x.tasks n ≡ true) (sym is.graph_is) (out_number b log w n is.legal may.mine)

  pub held_out : (w : ℕ) (p : Post) → slice_get posts w ≡ Some p → list_all (is_number_out g.tasks) p.held.items ≡ true
  held_out w p at =
      subst (λ (x : TaskGraph). list_all (is_number_out x.tasks) p.held.items ≡ true) (sym is.graph_is)
      (subst (λ l. list_all (is_number_out (tasks_of log)) l ≡ true) (sym (post_at w p at).held_is) (all_out b log w is.legal))

  board_ended : (e : Entry) (w n k : ℕ) (end : End) (p q : Post) (g' : TaskGraph) (front' : ℕ) → MayFollow b log e → MayEnd log w n → maker e ≡ w + 1 → closes e ≡ false → hungry e ≡ None → submitted e ≡ [] → named e ≡ n ∷ []
      → told_by e ≡ Some end → comes e ≡ Ended end → held w (log ++ e ∷ []) ≡ without n (held w log) → n ≡ f.first + k → slice_get posts w ≡ Some p → q.held.items ≡ without n p.held.items → q.starved ≡ p.starved
      → g' ≡ where_come g (state_of (comes e)) (n ∷ []) → IsFront f.first (log ++ e ∷ []) front'
      → IsBoard f (log ++ e ∷ []) (with_end cells k (length log)) (set posts w q) g' front' closed starved room
  board_ended e w n k end p q g' front' may may_end by not_close fed none names told comes_is holds n_is at left same came front_are =
      let here = post_at w p at in
      let less = may_end_left w n p at may_end in
      let place = place_in w n may_end in
      board_by e w p q (with_end cells k (length log)) g' front' starved may by not_close
      (cells_ended b log e is.legal may cells k n end none names told comes_is n_is (omega (arith, place.1, place.2, n_is)) is.cells_are)
      front_are
      at
      (record {
        held_is = left ∙ (ap (without n) here.held_is ∙ sym holds);
        starved_is = same ∙ (here.starved_is ∙ sym (starved_same w log e (ap (is_worker w) fed)));
      })
      (omega (arith, less, ap length left, ap one_if_not same))
      (is.starved_is ∙ sym (same_any (λ x. is_some_worker (hungry x)) log e (ap is_some_worker fed)))
      (came ∙ (ap (λ (x : TaskGraph). where_come x (state_of (comes e)) (n ∷ [])) is.graph_is ∙ (ap (λ ns. where_come (graph_of f.limits.workers log) (state_of (comes e)) ns) (sym names) ∙ sym (graph_named f.limits.workers log e none))))

  -- the task of an entry that tells an end
  pub end_of_task : (e : Entry) (w n : ℕ) → IsEndBy w n e → MayFollow b log e → MayEnd log w n
  end_of_task (entries.Submit rec given) w n end may = absurd end
  end_of_task (entries.Take v numbers) w n end may = absurd end
  end_of_task (entries.Finish v m outs) w n end may = ended_by v m w n end may.follows
  end_of_task (entries.Stop v m stop line) w n end may = ended_by v m w n end may.follows
  end_of_task (entries.Back v numbers) w n end may = absurd end
  end_of_task (entries.Starved v) w n end may = absurd end
  end_of_task entries.Close w n end may = absurd end

  pub board_end : (e : Entry) (w n k : ℕ) (p q : Post) (g' : TaskGraph) (front' : ℕ) (h : List Entry) (cs : List Cell) → IsEndBy w n e → MayFollow b log e → n ≡ f.first + k → slice_get posts w ≡ Some p
      → q.held.items ≡ without n p.held.items → q.starved ≡ p.starved → g' ≡ where_come g (state_of (comes e)) (n ∷ []) → h ≡ log ++ e ∷ [] → cs ≡ with_end cells k (length log) → front ≤ front' → front' ≤ length cs
      → ((j : ℕ) (c : Cell) → front ≤ j → j < front' → slice_get cs j ≡ Some c → IsFinishedCell h c)
      → ((c : Cell) → slice_get cs front' ≡ Some c → ¬ IsFinishedCell h c)
      → IsBoard f (log ++ e ∷ []) (with_end cells k (length log)) (set posts w q) g' front' closed starved room
  board_end e w n k p q g' front' h cs end may n_is at left same came h_is cs_is more within finished unfinished =
      let may_end = end_of_task e w n end may in
      let told = told_end log e w n end in
      let place = place_in w n may_end in
      let new : List Cell = with_end cells k (length log) in
      let longer : List Entry = log ++ e ∷ [] in
      let are : AreCells f.first longer new = cells_ended b log e is.legal may cells k n told.end told.none told.names told.told told.comes_is n_is (omega (arith, place.1, place.2, n_is)) is.cells_are in
      board_ended e w n k told.end p q g' front' may may_end told.by told.not_close told.fed told.none told.names told.told told.comes_is told.holds n_is at left same came
      (front_moved b log e is.legal may front front' new told.none are is.front_is more (subst (λ (x : List Cell). front' ≤ length x) cs_is within)
      (subst (λ (x : List Cell). (j : ℕ) (c : Cell) → front ≤ j → j < front' → slice_get x j ≡ Some c → IsFinishedCell longer c) cs_is
      (subst (λ (y : List Entry). (j : ℕ) (c : Cell) → front ≤ j → j < front' → slice_get cs j ≡ Some c → IsFinishedCell y c) h_is finished))
      (subst (λ (x : List Cell). (c : Cell) → slice_get x front' ≡ Some c → ¬ IsFinishedCell longer c) cs_is
      (subst (λ (y : List Entry). (c : Cell) → slice_get cs front' ≡ Some c → ¬ IsFinishedCell y c) h_is unfinished)))

  -- ---- what is asked of it

  pub holds_it : (w n : ℕ) (p : Post) → slice_get posts w ≡ Some p → is_among p.held.items n ≡ true → is_among (held w log) n ≡ true
  holds_it w n p at among = subst (λ l. is_among l n ≡ true) (post_at w p at).held_is among

  pub held_place : (w n : ℕ) → is_among (held w log) n ≡ true → HasPlace f.first log n
  held_place w n mine =
      let stands : standing n log ≡ Held w = held_are b log is.legal w n mine in
      let it = submit_of b log is.legal n (λ waits. absurd (let both : Waiting ≡ Held w = sym waits ∙ stands in cc)) in
      has_place_of b log is.legal n it.0 it.1

  pub may_end_by : (w n : ℕ) (s : Submit) (ready : Bool) → is_among (held w log) n ≡ true → IsSubmit log n s → (IsTrue ready → AreReady log [] s.rec) × (AreReady log [] s.rec → IsTrue ready)
      → (IsTrue ready → MayEnd log w n) × (MayEnd log w n → IsTrue ready)
  may_end_by w n s ready mine submit both = (
    (λ yes. record { submit = s; is_submit = submit; mine = mine; ready = both.0 yes }),
    (λ may. both.1 (subst (λ (x : Submit). AreReady log [] x.rec) (one_submit (terms_of f).code f.limits (submits log) (are_submitted b log is.legal) may.submit s may.is_submit.is_there submit.is_there (may.is_submit.number ∙ sym submit.number)) may.ready)),
  )

  pub all_done : front ≡ length cells → AreAllFinished log
  all_done whole s has =
      let at = place_of (submits log) s has in
      let number = numbered b log is.legal at.0 s at.1 in
      subst (λ (n : ℕ). IsFinished n log) (sym number) (is.front_is.finished at.0 (omega (arith, whole, is.cells_are.all, slice_get_within (submits log) at.0 s at.1)))

  pub not_done : AreAllFinished log → front ≢ length cells → ⊥
  not_done all apart =
      let below : front < length (submits log) = omega (arith, is.front_is.within, is.cells_are.all, apart) in
      let s = is_within (submits log) front below in
      let number = numbered b log is.legal front s.0 s.1 in
      is.front_is.unfinished below (subst (λ (n : ℕ). IsFinished n log) number (all s.0 (has_place (submits log) front s.0 s.1)))

  pub fed_some : (w : ℕ) (p : Post) → slice_get posts w ≡ Some p → has_starved w log ≡ false → 1 ≤ coming_of p
  fed_some w p at first = omega (arith, ap one_if_not ((post_at w p at).starved_is ∙ first))

  pub done_is : (n : ℕ) → n ≡ length cells → (IsTrue (nat_eq front n) → AreAllFinished log) × (AreAllFinished log → IsTrue (nat_eq front n))
  done_is n whole = elim (cases_Bool (nat_eq front n)) [
    | inl same ↦ ((λ e. all_done (eqb-true front n same ∙ whole)), (λ all. same))
    | inr apart ↦ ((λ e. absurd (true≢false (sym e ∙ apart))), (λ all. absurd (not_done all (λ same. true≢false (sym (eq-eqb front n (same ∙ sym whole)) ∙ apart)))))
  ]

  pub above_tasks : (r : TaskRecord) → IsNext f.first log r → list_all (λ t. nat_lt t.number r.number) g.tasks ≡ true
  above_tasks r next = subst (λ (x : TaskGraph). list_all (λ t. nat_lt t.number r.number) x.tasks ≡ true) (sym is.graph_is) (above_all b log r is.legal next)

  pub added_tasks : (r : TaskRecord) (given : List (List ℕ)) → MaySubmit b.code b.limits (submits log) r given → list_all (is_number_added g.tasks) (producers_of r.inputs.items) ≡ true
  added_tasks r given may = subst (λ (x : TaskGraph). list_all (is_number_added x.tasks) (producers_of r.inputs.items) ≡ true) (sym is.graph_is) (producers_added b log r given may)

  pub kept_is : AreKept f.first log cells
  kept_is = record {
    cells_are = is.cells_are;
    named = λ n out. (
        let it = submit_of b log is.legal n out in
        let at = index_of b log is.legal n it.0 it.1 in
        (at.0, omega (arith, slice_get_within (submits log) at.0 it.0 at.1, is.cells_are.all), at.2)
        );
  }

  pub made_value : (version : VersionName) (bytes : List ℕ) → IsFoundMade log version bytes → IsValue b.code b.limits.task_units (submits log) [] version bytes
  made_value (names.Given place) bytes found = absurd found
  made_value (names.Made task out) bytes found = values_are_own b log is.legal [] (names.Made task out) bytes found

  -- the task at the front is first, if it stopped
  pub front_first : (c : Cell) (n : ℕ) (stop : Stop) (line : ℕ) → slice_get cells front ≡ Some c → IsStopOf log c n stop line → IsFirst log n stop line
  front_first c n stop line at stops =
      let here = stop_of log front (f.first + front) n c stop line (is.cells_are.each front c at) stops in
      record {
        stops = subst (λ (m : ℕ). standing m log ≡ Ended (Halted stop line)) (sym here.0) here.1;
        lower = λ s has below. (
            let place = place_of (submits log) s has in
            let number = numbered b log is.legal place.0 s place.1 in
            subst (λ (m : ℕ). IsFinished m log) (sym number) (is.front_is.finished place.0 (omega (arith, here.0, number, below)))
            );
      }

  -- and no other
  pub first_at_front : (n : ℕ) (stop : Stop) (line : ℕ) → IsFirst log n stop line → (n ≡ f.first + front) × (front < length cells)
  first_at_front n stop line first =
      let at = kept_is.named n (λ waits. absurd (let both : Waiting ≡ Ended (Halted stop line) = sym waits ∙ first.stops in cc)) in
      elim (cases_lt front at.0) [
        | inl below ↦
            let inside : front < length (submits log) = omega (arith, below, at.1, is.cells_are.all) in
            let s = is_within (submits log) front inside in
            let number = numbered b log is.legal front s.0 s.1 in
            absurd (is.front_is.unfinished inside (subst (λ (m : ℕ). IsFinished m log) number (first.lower s.0 (has_place (submits log) front s.0 s.1) (omega (arith, number, at.2, below)))))
        | inr above ↦ elim (cases_lt at.0 front) [
          | inl under ↦
              let done = subst (λ (m : ℕ). IsFinished m log) (sym at.2) (is.front_is.finished at.0 under) in
              let both : Ended (Outs done.0) ≡ Ended (Halted stop line) = sym done.1 ∙ first.stops in
              absurd (cc)
          | inr same ↦ (omega (arith, above, same, at.2), omega (arith, above, same, at.1))
        ]
      ]

  pub none_first : (c : Cell) → slice_get cells front ≡ Some c → ((n : ℕ) (stop : Stop) (line : ℕ) → ¬ IsStopOf log c n stop line) → (n : ℕ) (stop : Stop) (line : ℕ) → ¬ IsFirst log n stop line
  none_first c at none n stop line first =
      let where_is = first_at_front n stop line first in
      none (f.first + front) stop line (stopped_cell log front (f.first + front) c stop line (is.cells_are.each front c at) (subst (λ (m : ℕ). standing m log ≡ Ended (Halted stop line)) where_is.0 first.stops))

  pub none_behind : length cells ≤ front → (n : ℕ) (stop : Stop) (line : ℕ) → ¬ IsFirst log n stop line
  none_behind behind n stop line first = let where_is = first_at_front n stop line first in absurd (omega (arith, where_is.1, behind))

  restored_map : (ns : List ℕ) → MayTake log [] ns → (ss : List Submit) → come_to states.Waiting ns (come_to states.Out ns (map (task_of log) ss)) ≡ map (task_of log) ss
  unfolding come_to
  restored_map ns may [] = refl
  restored_map ns may (s ∷ ss) = elim (cases_Bool (is_among ns s.rec.number)) [
    | inl among ↦ rw among (ap₂ (λ (st : TaskState) (xs : List Task). record { number = s.rec.number; producers = producers_of s.rec.inputs.items; high = s.rec.high; state = st } ∷ xs) (sym (ap state_of (taken_waits log [] ns s.rec.number may among))) (restored_map ns may ss))
    | inr apart ↦ rw apart (ap (λ (xs : List Task). task_of log s ∷ xs) (restored_map ns may ss))
  ]

  -- what was taken out and came back
  pub restored : (ns : List ℕ) → MayTake log [] ns → where_come (where_come g states.Out ns) states.Waiting ns ≡ g
  restored ns may =
      ap (λ (x : TaskGraph). where_come (where_come x states.Out ns) states.Waiting ns) is.graph_is
      ∙ (ap (λ (ts : List Task). record { workers = f.limits.workers; tasks = ts }) (restored_map ns may (submits log)) ∙ sym is.graph_is)

  pub takes : (most : ℕ) (ns : List ℕ) → ns ≡ bundle g most → AreDifferent ns → MayTake log [] ns
  takes most ns are differ =
      let all : ns ≡ bundle (graph_of f.limits.workers log) most = are ∙ ap (λ (x : TaskGraph). bundle x most) is.graph_is in
      subst (MayTake log []) (sym all) (bundle_may b log is.legal f.limits.workers most (subst AreDifferent all differ))

  pub board_take : (w : ℕ) (p q : Post) (ns : List ℕ) (g' : TaskGraph) (most room' : ℕ) → MayTake log [] ns → slice_get posts w ≡ Some p → q.held.items ≡ p.held.items ++ ns → q.starved ≡ p.starved → length ns ≤ most
      → g' ≡ where_come g states.Out ns → length log + (coming posts + most + 2) ≤ room' → length log < 2 ^ 60 → coming posts + most + 2 < 2 ^ 60
      → IsBoard f (log ++ entries.Take w ns ∷ []) cells (set posts w q) g' front closed starved room'
  board_take w p q ns g' most room' take at more same short came enough few little =
      let e : Entry = entries.Take w ns in
      let may : MayFollow b log e = record { follows = take; own = tt } in
      let here = post_at w p at in
      let count = length-append log (e ∷ []) in
      let change = coming_set posts w p q at in
      let longer_held : length q.held.items ≡ length p.held.items + length ns = ap length more ∙ length-append p.held.items ns in
      let stays = ap one_if_not same in
      record {
        limits = is.limits;
        legal = legal_more maker (MayFollow b) log e is.legal may;
        graph_is = came ∙ (ap (λ (x : TaskGraph). where_come x states.Out ns) is.graph_is ∙ sym (graph_named f.limits.workers log e refl));
        cells_are = cells_same b log e is.legal may cells refl refl is.cells_are;
        posts_are = posts_set f.limits.workers log e posts w q refl (record {
          held_is = more ∙ (ap (λ l. l ++ ns) here.held_is ∙ sym (held_more w log e ∙ ap (λ x. cond x (held w log ++ ns) (held w log)) (eq-eqb w w refl)));
          starved_is = same ∙ (here.starved_is ∙ sym (starved_same w log e refl));
        }) is.posts_are;
        front_is = front_same b log e is.legal may front refl (finishes_none log e refl) is.front_is;
        closed_is = is.closed_is ∙ sym (same_any closes log e refl);
        starved_is = is.starved_is ∙ sym (same_any (λ x. is_some_worker (hungry x)) log e refl);
        within = omega (arith, count, change, longer_held, stays, short, one_bound closed, enough);
        small = omega (arith, count, change, longer_held, stays, short, one_bound closed, few, little);
      }

  -- tasks that were taken are out
  pub out_after : (ns : List ℕ) → MayTake log [] ns → list_all (is_number_out (where_come g states.Out ns).tasks) ns ≡ true
  out_after ns take =
      let e : Entry = entries.Take 0 ns in
      let may : MayFollow b log e = record { follows = take; own = tt } in
      let after : Legal b (log ++ e ∷ []) = legal_more maker (MayFollow b) log e is.legal may in
      let same : where_come g states.Out ns ≡ graph_of f.limits.workers (log ++ e ∷ []) = ap (λ (x : TaskGraph). where_come x states.Out ns) is.graph_is ∙ sym (graph_named f.limits.workers log e refl) in
      subst (λ (x : TaskGraph). list_all (is_number_out x.tasks) ns ≡ true) (sym same)
      (all_among (is_number_out (tasks_of (log ++ e ∷ []))) ns (λ n mine. out_number b (log ++ e ∷ []) 0 n after
      (subst (λ l. is_among l n ≡ true) (sym (held_more 0 log e)) (among_append (held 0 log) ns n ∙ or_right (is_among (held 0 log) n) (is_among ns n) mine))))
