use Rattle.std.proofs.Common.{◌≡◌, ◌<◌, ◌≤◌, ℕ, ◌+◌, Bool, true, false, List, ltb, length, take, drop, ap, sym, ◌∙◌, subst, rules, arith}
use Rattle.std.specs.List.{insert, remove}
use Rattle.std.proofs.lemmas.List.Edits.{length-insert}
use Rattle.css_graph.specs.Nodes.{Queue, IsAscending, put, begins_with}
use Rattle.css_graph.proofs.Numbers.{put_same, put_inserts, put_removes, ascending_put, begins_at}
use Rattle.css_graph.proofs.queue.Queue.put.Goals as goal

pub returns-then-stands_at-wanted-clause-numbers : goal.returns-then-stands_at-wanted-clause-numbers
returns-then-stands_at-wanted-clause-numbers c =
    let e : c.self.inside.numbers.items ≡ c.args.self.now.numbers = ap (λ (q : Queue). q.numbers) c.self.view_is in
    let is : begins_with (drop c.place_of-place.result c.args.self.now.numbers) c.args.number ≡ c.args.wanted = grind arith in
    sym (put_same c.args.number c.args.self.now.numbers (subst IsAscending e c.self.invariant) c.place_of-place.result c.place_of-place.ensures.before c.place_of-place.ensures.after c.args.wanted is)

pub insert_at-requires-clause-room : goal.insert_at-requires-clause-room
insert_at-requires-clause-room c =
    let e : c.self.inside.numbers.items ≡ c.args.self.now.numbers = ap (λ (q : Queue). q.numbers) c.self.view_is in
    let out : begins_with (drop c.place_of-place.result c.args.self.now.numbers) c.args.number ≡ false = grind arith in
    let puts : insert c.args.self.now.numbers c.place_of-place.result c.args.number ≡ put c.args.number true c.args.self.now.numbers =
    put_inserts c.args.number c.args.self.now.numbers (subst IsAscending e c.self.invariant) c.place_of-place.result c.place_of-place.ensures.before c.place_of-place.ensures.after out in
    let long = length-insert c.args.self.now.numbers c.place_of-place.result c.args.number c.place_of-place.ensures.bound in
    let puts_length = ap length puts in
    let same = ap length e in
    let wants : c.args.wanted ≡ true = c.if-wanted.true in
    let put_length : length (put c.args.number c.args.wanted c.args.self.now.numbers) ≡ length (put c.args.number true c.args.self.now.numbers) = ap (λ b. length (put c.args.number b c.args.self.now.numbers)) wants in
    let room = ap (λ (q : Queue). q.room) c.self.view_is in
    omega (arith, long, puts_length, same, put_length, room, c.requires)

pub remove_at-requires : goal.remove_at-requires
remove_at-requires c =
    let e : c.self.inside.numbers.items ≡ c.args.self.now.numbers = ap (λ (q : Queue). q.numbers) c.self.view_is in
    let is : begins_with (drop c.place_of-place.result c.args.self.now.numbers) c.args.number ≡ true = grind arith in
    rw e (begins_at c.place_of-place.result c.args.self.now.numbers c.args.number is)

pub returns-then-wanted-clause-numbers : goal.returns-then-wanted-clause-numbers
returns-then-wanted-clause-numbers c =
    let e : c.self.inside.numbers.items ≡ c.args.self.now.numbers = ap (λ (q : Queue). q.numbers) c.self.view_is in
    let out : begins_with (drop c.place_of-place.result c.args.self.now.numbers) c.args.number ≡ false = grind arith in
    c.insert_at.ensures.items ∙ ap (λ l. insert l c.place_of-place.result c.args.number) e
    ∙ put_inserts c.args.number c.args.self.now.numbers (subst IsAscending e c.self.invariant) c.place_of-place.result c.place_of-place.ensures.before c.place_of-place.ensures.after out
    ∙ ap (λ b. put c.args.number b c.args.self.now.numbers) (sym c.if-wanted.true)

pub returns-else-wanted-clause-numbers : goal.returns-else-wanted-clause-numbers
returns-else-wanted-clause-numbers c =
    let e : c.self.inside.numbers.items ≡ c.args.self.now.numbers = ap (λ (q : Queue). q.numbers) c.self.view_is in
    let is : begins_with (drop c.place_of-place.result c.args.self.now.numbers) c.args.number ≡ true = grind arith in
    c.remove_at.ensures.items ∙ ap (λ l. remove l c.place_of-place.result) e
    ∙ put_removes c.args.number c.args.self.now.numbers (subst IsAscending e c.self.invariant) c.place_of-place.result c.place_of-place.ensures.before c.place_of-place.ensures.after is
    ∙ ap (λ b. put c.args.number b c.args.self.now.numbers) (sym c.if-wanted.false)

pub invariant_of-self : goal.invariant_of-self
invariant_of-self c =
    let e : c.self.inside.numbers.items ≡ c.args.self.now.numbers = ap (λ (q : Queue). q.numbers) c.self.view_is in
    let out : begins_with (drop c.place_of-place.result c.args.self.now.numbers) c.args.number ≡ false = grind arith in
    let puts = c.insert_at.ensures.items ∙ ap (λ l. insert l c.place_of-place.result c.args.number) e
    ∙ put_inserts c.args.number c.args.self.now.numbers (subst IsAscending e c.self.invariant) c.place_of-place.result c.place_of-place.ensures.before c.place_of-place.ensures.after out in
    subst IsAscending (sym puts) (ascending_put c.args.number true c.args.self.now.numbers (subst IsAscending e c.self.invariant))

pub invariant_of-self-else-wanted : goal.invariant_of-self-else-wanted
invariant_of-self-else-wanted c =
    let e : c.self.inside.numbers.items ≡ c.args.self.now.numbers = ap (λ (q : Queue). q.numbers) c.self.view_is in
    let is : begins_with (drop c.place_of-place.result c.args.self.now.numbers) c.args.number ≡ true = grind arith in
    let puts = c.remove_at.ensures.items ∙ ap (λ l. remove l c.place_of-place.result) e
    ∙ put_removes c.args.number c.args.self.now.numbers (subst IsAscending e c.self.invariant) c.place_of-place.result c.place_of-place.ensures.before c.place_of-place.ensures.after is in
    subst IsAscending (sym puts) (ascending_put c.args.number false c.args.self.now.numbers (subst IsAscending e c.self.invariant))
