use Rattle.std.proofs.Common.{◌≡◌, ◌≤◌, ◌∷◌, [], ◌++◌, ℕ, List, length, vec_capacity, Some, arith, ap, refl, sym, ◌∙◌, subst}
use Rattle.css_graph.specs.declared.chosen.Chosen.{Chosen}
use Rattle.css_graph.specs.declared.state.TaskState.TheVariants as states
use Rattle.css_graph.specs.Tasks.{TaskGraph, where_come}
use Rattle.css_graph.specs.Bundle.{AreDifferent, bundle, IfBundle}
use Rattle.css_history.specs.declared.entry.Entry.{Entry}
use Rattle.css_history.specs.declared.entry.Entry.TheVariants as entries
use Rattle.css_history.specs.Terms.{terms_of}
use Rattle.css_history.specs.Rules.{MayTake}
use Rattle.css_board.specs.declared.post.Post.{Post as Desk}
use Rattle.css_board.specs.Posts.{coming, has_held}
use Rattle.css_board.specs.Drafts.{AreDrafts}
use Rattle.css_history.specs.Legal.{MayFollow}
use Rattle.css_board.specs.Graphs.{graph_of}
use Rattle.css_board.specs.Jobs.{AreJobs}
use Rattle.css_board.specs.Boards.{State, graph}
use Rattle.css_board.proofs.Jobs.{have_places, jobs_are}
use Rattle.css_board.proofs.Boards.{takes, restored, out_after, board_take, more_room, kept_is}
use Rattle.css_board.proofs.board.Board.take.Goals as goal

pub readied-requires-clause-kept : goal.readied-requires-clause-kept
readied-requires-clause-kept c =
    let i = c.self.inside in
    rw (c.deref-2.ensures.value, c.deref-3.ensures.value, c.reserve.ensures.items) (kept_is i.fixed i.history.items i.cells.items i.posts.items i.graph i.front i.closed i.starved (vec_capacity i.history) c.self.invariant)

pub readied-requires-clause-places : goal.readied-requires-clause-places
readied-requires-clause-places c =
    let i = c.self.inside in
    let most : ℕ = i.fixed.limits.bundle in
    let ns : List ℕ = c.in-Bundle.numbers.items in
    let chosen = c.in_ok-numbers.ensures in
    let all : ns ≡ bundle i.graph most = subst (λ (x : Chosen). IfBundle x (λ numbers. numbers ≡ bundle i.graph most)) c.in-Bundle.is chosen.bundle in
    let differ : AreDifferent ns = subst (λ (x : Chosen). IfBundle x AreDifferent) c.in-Bundle.is chosen.different in
    let take : MayTake i.history.items [] ns = takes i.fixed i.history.items i.cells.items i.posts.items i.graph i.front i.closed i.starved (vec_capacity i.history) c.self.invariant most ns all differ in
    rw (c.deref-5.ensures.value, c.deref-2.ensures.value, c.reserve.ensures.items) (have_places (terms_of i.fixed) i.history.items c.self.invariant.legal [] ns take)

pub back-requires : goal.back-requires
back-requires c =
    let i = c.self.inside in
    let most : ℕ = i.fixed.limits.bundle in
    let ns : List ℕ = c.in-Bundle.numbers.items in
    let chosen = c.in_ok-numbers.ensures in
    let all : ns ≡ bundle i.graph most = subst (λ (x : Chosen). IfBundle x (λ numbers. numbers ≡ bundle i.graph most)) c.in-Bundle.is chosen.bundle in
    let differ : AreDifferent ns = subst (λ (x : Chosen). IfBundle x AreDifferent) c.in-Bundle.is chosen.different in
    let out : c.choose_bundle.new.self ≡ where_come i.graph states.Out ns = subst (λ (x : Chosen). IfBundle x (λ numbers. c.choose_bundle.new.self ≡ where_come i.graph states.Out numbers)) c.in-Bundle.is chosen.out in
    let take : MayTake i.history.items [] ns = takes i.fixed i.history.items i.cells.items i.posts.items i.graph i.front i.closed i.starved (vec_capacity i.history) c.self.invariant most ns all differ in
    rw (c.deref-in_default-readied.ensures.value, out) (out_after i.fixed i.history.items i.cells.items i.posts.items i.graph i.front i.closed i.starved (vec_capacity i.history) c.self.invariant ns take)

pub invariant_of-self-in_default-readied : goal.invariant_of-self-in_default-readied
invariant_of-self-in_default-readied c =
    let i = c.self.inside in
    let most : ℕ = i.fixed.limits.bundle in
    let ns : List ℕ = c.in-Bundle.numbers.items in
    let chosen = c.in_ok-numbers.ensures in
    let all : ns ≡ bundle i.graph most = subst (λ (x : Chosen). IfBundle x (λ numbers. numbers ≡ bundle i.graph most)) c.in-Bundle.is chosen.bundle in
    let differ : AreDifferent ns = subst (λ (x : Chosen). IfBundle x AreDifferent) c.in-Bundle.is chosen.different in
    let out : c.choose_bundle.new.self ≡ where_come i.graph states.Out ns = subst (λ (x : Chosen). IfBundle x (λ numbers. c.choose_bundle.new.self ≡ where_come i.graph states.Out numbers)) c.in-Bundle.is chosen.out in
    let take : MayTake i.history.items [] ns = takes i.fixed i.history.items i.cells.items i.posts.items i.graph i.front i.closed i.starved (vec_capacity i.history) c.self.invariant most ns all differ in
    let back : c.back.new.self ≡ i.graph = rw (c.deref-in_default-readied.ensures.value, out) at c.back.ensures ∙ restored i.fixed i.history.items i.cells.items i.posts.items i.graph i.front i.closed i.starved (vec_capacity i.history) c.self.invariant ns take in
    rw (c.reserve.ensures.items, back) (more_room i.fixed i.history.items i.cells.items i.posts.items i.graph i.front i.closed i.starved (vec_capacity i.history) c.self.invariant (vec_capacity c.reserve.new.self) c.reserve.ensures.capacity)

pub invariant_of-self-2 : goal.invariant_of-self-2
invariant_of-self-2 c =
    let i = c.self.inside in
    let most : ℕ = i.fixed.limits.bundle in
    let ns : List ℕ = c.in-Bundle.numbers.items in
    let chosen = c.in_ok-numbers.ensures in
    let all : ns ≡ bundle i.graph most = subst (λ (x : Chosen). IfBundle x (λ numbers. numbers ≡ bundle i.graph most)) c.in-Bundle.is chosen.bundle in
    let differ : AreDifferent ns = subst (λ (x : Chosen). IfBundle x AreDifferent) c.in-Bundle.is chosen.different in
    let out : c.choose_bundle.new.self ≡ where_come i.graph states.Out ns = subst (λ (x : Chosen). IfBundle x (λ numbers. c.choose_bundle.new.self ≡ where_come i.graph states.Out numbers)) c.in-Bundle.is chosen.out in
    let take : MayTake i.history.items [] ns = takes i.fixed i.history.items i.cells.items i.posts.items i.graph i.front i.closed i.starved (vec_capacity i.history) c.self.invariant most ns all differ in
    let own = i.history.ok.0 in
    let held = rw (c.deref-4.ensures.value, c.deref-5.ensures.value) at c.in-Ok.ensures.held in
    let put = c.replace_held.ensures in
    let more : c.coming.result ≡ coming i.posts.items = c.coming.ensures ∙ ap (λ l. coming l) c.deref.ensures.value in
    let same : held.0 ≡ put.0 = (let both : Some held.0 ≡ Some put.0 = sym held.1 ∙ put.1 in cc) in
    let short : length ns ≤ most = subst (λ (x : Chosen). IfBundle x (λ numbers. length numbers ≤ most)) c.in-Bundle.is chosen.short in
    let room = c.in_ok-reserve.ensures.ok in
    let few = c.if-len-ge-MOST_ENTRIES.false in
    let less = c.if-more-ge-MOST_ENTRIES.false in
    let len = c.len.ensures in
    let entered : c.push_reserved.new.self.items ≡ i.history.items ++ entries.Take c.args.worker ns ∷ []
    = c.push_reserved.ensures.items ∙ (ap (λ l. l ++ entries.Take c.args.worker c.new.result ∷ []) c.reserve.ensures.items ∙ ap (λ numbers. i.history.items ++ entries.Take c.args.worker numbers ∷ []) c.new.ensures) in
    rw (entered, c.push_reserved.ensures.capacity, put.3)
    (board_take i.fixed i.history.items i.cells.items i.posts.items i.graph i.front i.closed i.starved (vec_capacity i.history) c.self.invariant c.args.worker put.0 (has_held put.0 c.in-Ok.held) ns c.choose_bundle.new.self most (vec_capacity c.reserve.new.self) take put.1
    (held.2 ∙ ap (λ (p : Desk). p.held.items ++ ns) same) refl short out (omega (arith, room, more, own)) (omega (arith, few, len, own)) (omega (arith, less, more)))

pub returns-clause-jobs : goal.returns-clause-jobs
returns-clause-jobs c =
    let i = c.self.inside in
    let most : ℕ = i.fixed.limits.bundle in
    let ns : List ℕ = c.in-Bundle.numbers.items in
    let chosen = c.in_ok-numbers.ensures in
    let all : ns ≡ bundle i.graph most = subst (λ (x : Chosen). IfBundle x (λ numbers. numbers ≡ bundle i.graph most)) c.in-Bundle.is chosen.bundle in
    let differ : AreDifferent ns = subst (λ (x : Chosen). IfBundle x AreDifferent) c.in-Bundle.is chosen.different in
    let take : MayTake i.history.items [] ns = takes i.fixed i.history.items i.cells.items i.posts.items i.graph i.front i.closed i.starved (vec_capacity i.history) c.self.invariant most ns all differ in
    let drafts : AreDrafts i.history.items ns c.in-Ok.jobs.items = rw (c.deref-2.ensures.value, c.deref-5.ensures.value, c.reserve.ensures.items) at c.in-Ok.ensures.drafts in
    let e : Entry = entries.Take c.args.worker ns in
    let may : MayFollow (terms_of i.fixed) i.history.items e = record { follows = take; own = tt } in
    let entered : c.push_reserved.new.self.items ≡ i.history.items ++ e ∷ []
    = c.push_reserved.ensures.items ∙ (ap (λ l. l ++ entries.Take c.args.worker c.new.result ∷ []) c.reserve.ensures.items ∙ ap (λ numbers. i.history.items ++ entries.Take c.args.worker numbers ∷ []) c.new.ensures) in
    let of_graph : ns ≡ bundle (graph_of i.fixed.limits.workers i.history.items) most = all ∙ ap (λ (x : TaskGraph). bundle x most) c.self.invariant.graph_is in
    let are : AreJobs (terms_of i.fixed) (i.history.items ++ e ∷ []) [] ns c.in-Ok.jobs.items = jobs_are (terms_of i.fixed) i.history.items c.self.invariant.legal e may [] ns c.in-Ok.jobs.items take drafts in
    subst (λ (s : State). AreJobs (terms_of i.fixed) c.push_reserved.new.self.items [] (bundle (graph s) s.fixed.limits.bundle) c.in-Ok.jobs.items) c.self.view_is
    (subst (λ (ns : List ℕ). AreJobs (terms_of i.fixed) c.push_reserved.new.self.items [] ns c.in-Ok.jobs.items) of_graph
    (subst (λ (l : List Entry). AreJobs (terms_of i.fixed) l [] ns c.in-Ok.jobs.items) (sym entered) are))
