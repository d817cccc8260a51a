-- Which tasks may be taken, and the bundle of those that are taken together.
use Rattle.std.specs.Prelude.{◌≡◌, ◌↔◌, ℕ, zero, suc, ◌+◌, ◌-◌, ◌/◌, min, Bool, true, false, ◌&&◌, ◌||◌, not, List, [], ◌∷◌, ◌++◌, length, take, filter, map}
use Rattle.std.specs.List.{list_any, list_all}
use Rattle.std.specs.Int.{div_ceil}
use Rattle.css_graph.specs.declared.chosen.Chosen.{Chosen}
use Rattle.css_graph.specs.declared.chosen.Chosen.TheVariants.{Bundle, Nothing}
use Rattle.css_graph.specs.Tasks.{Task, TaskGraph, is_waiting, is_among, is_number_finished, is_below_stops}

-- a task may be taken where it is neither out nor finished, all its producers are finished, and it
-- stands below every stopped number
unfoldable pub may_be_taken : List Task → Task → Bool
may_be_taken tasks t =
    is_waiting t.state && (list_all (is_number_finished tasks) t.producers && is_below_stops tasks t.number)

-- the tasks that may be taken, in order of number
unfoldable pub takeable : List Task → List Task
takeable tasks = filter (may_be_taken tasks) tasks

-- their numbers: those with `high` first, then by number
unfoldable pub in_turn : List Task → List ℕ
in_turn tasks =
    map (λ t. t.number) (filter (λ t. t.high) (takeable tasks))
    ++ map (λ t. t.number) (filter (λ t. not t.high) (takeable tasks))

-- what a bundle begins with: a worker's share, rounded up, of the tasks that may be taken
unfoldable pub beginning : TaskGraph → ℕ → List ℕ
beginning g most = take (min most (div_ceil (length (takeable g.tasks)) g.workers)) (in_turn g.tasks)

-- a task goes on after a bundle where it is neither out nor finished nor in the bundle, stands below
-- every stopped number, and each of its producers is finished or in the bundle, at least one of them
-- in the bundle
unfoldable pub goes_on : List Task → List ℕ → Task → Bool
goes_on tasks bundle t =
    is_waiting t.state
    && (not (is_among bundle t.number)
    && (is_below_stops tasks t.number
    && (list_all (λ p. is_number_finished tasks p || is_among bundle p) t.producers
    && list_any (is_among bundle) t.producers)))

-- the tasks that go on after a bundle, in order of number
unfoldable pub following : List Task → List ℕ → List Task
following tasks bundle = filter (goes_on tasks bundle) tasks

-- the number of the first task that goes on after a bundle, if there is one
unfoldable pub next_number : List Task → List ℕ → List ℕ
next_number tasks bundle = take 1 (map (λ t. t.number) (following tasks bundle))

-- the bundle with up to `room` more tasks, each the one of least number that goes on after those
-- before it; it ends where none goes on
unfoldable pub continued : List Task → ℕ → List ℕ → List ℕ
continued tasks zero bundle = bundle
continued tasks (suc room) bundle = continued tasks room (bundle ++ next_number tasks bundle)

-- the bundle of at most so many tasks
unfoldable pub bundle : TaskGraph → ℕ → List ℕ
bundle g most =
    let first = beginning g most in continued g.tasks (most - length first) first

-- no two of the numbers are the same
abbrev pub AreDifferent : List ℕ → Type 0
AreDifferent [] = Unit {0}
AreDifferent (n ∷ numbers) = (is_among numbers n ≡ false) × AreDifferent numbers

-- what is said of the numbers of a bundle, and of there being none
abbrev pub IfBundle : Chosen → (List ℕ → Type 0) → Type 0
IfBundle (Bundle numbers) P = P numbers.items
IfBundle Nothing P = Unit {0}

abbrev pub IfNothing : Chosen → Type 0 → Type 0
IfNothing (Bundle _) P = Unit {0}
IfNothing Nothing P = P
