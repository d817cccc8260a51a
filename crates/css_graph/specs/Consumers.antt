-- The tasks that need a task.
use Rattle.std.specs.Prelude.{◌≡◌, ◌<◌, true, vec_len, vec_capacity, ℕ, ◌==◌, List, [], ◌∷◌, ◌++◌, map, filter, if◌then◌else◌}
use Rattle.std.specs.List.{All}
use Rattle.css_graph.specs.declared.consumers.ConsumerList.{ConsumerList}
use Rattle.css_graph.specs.Tasks.{Task, is_among}

-- the numbers of the tasks that need the task of a number
unfoldable pub consumers_of : List Task → ℕ → List ℕ
consumers_of tasks n = map (λ t. t.number) (filter (λ t. is_among t.producers n) tasks)

-- each task's number, with those of the tasks that need it
abbrev pub lines_of : List Task → List (ℕ × List ℕ)
lines_of tasks = map (λ t. (t.number, consumers_of tasks t.number)) tasks

-- what stands beside a number
abbrev pub consumers_at : List (ℕ × List ℕ) → ℕ → List ℕ
consumers_at [] n = []
consumers_at (line ∷ lines) n = if line.0 == n then line.1 else consumers_at lines n

-- what is kept of a task
abbrev pub line_of : ConsumerList → ℕ × List ℕ
line_of l = (l.number, l.consumers.items)

-- each of the numbers' lists has room for one more
abbrev pub HaveRoom : List ℕ → List ConsumerList → Type 0
HaveRoom numbers lists =
    All (λ (l : ConsumerList). is_among numbers l.number ≡ true → vec_len l.consumers < vec_capacity l.consumers) lists

-- the lines, where a number stands at the end of those of its producers
abbrev pub with_each : ℕ → List ℕ → List (ℕ × List ℕ) → List (ℕ × List ℕ)
with_each n producers lines =
    map (λ line. (line.0, (if is_among producers line.0 then line.1 ++ n ∷ [] else line.1))) lines

-- the same, with a line of the number's own
abbrev pub with_line : ℕ → List ℕ → List (ℕ × List ℕ) → List (ℕ × List ℕ)
with_line n producers lines = with_each n producers lines ++ (n, []) ∷ []
