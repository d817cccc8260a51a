-- What a board's history says: what was submitted, what has become of each task, and what each worker holds.
use Rattle.std.specs.Prelude.{◌≡◌, ℕ, ◌+◌, ◌==◌, Bool, true, false, not, List, [], ◌∷◌, ◌++◌, Option, Some, None, if◌then◌else◌}
use Rattle.std.specs.List.{filter, flat_map, list_any}
use Rattle.css_task.specs.Alone.{End, Outs, Halted}
use Rattle.css_yard.specs.Values.{Submit}
use Rattle.css_graph.specs.Tasks.{is_among}
use Rattle.css_history.specs.declared.entry.Entry.{Entry}
use Rattle.css_history.specs.declared.entry.Entry.TheVariants as entries

-- the seat that made an entry: main's is 0, and that of worker w is w + 1
abbrev pub maker : Entry → ℕ
maker (entries.Submit rec given) = 0
maker (entries.Take w numbers) = w + 1
maker (entries.Finish w n outs) = w + 1
maker (entries.Stop w n stop line) = w + 1
maker (entries.Back w numbers) = w + 1
maker (entries.Starved w) = w + 1
maker entries.Close = 0

-- ---- what was submitted, in order

abbrev pub submitted : Entry → List Submit
submitted (entries.Submit rec given) = record { rec = rec; given = given } ∷ []
submitted (entries.Take w numbers) = []
submitted (entries.Finish w n outs) = []
submitted (entries.Stop w n stop line) = []
submitted (entries.Back w numbers) = []
submitted (entries.Starved w) = []
submitted entries.Close = []

abbrev pub submits : List Entry → List Submit
submits log = flat_map submitted log

-- ---- what has become of a task: that is what the last entry says that names it

-- nobody has it, a worker has it, or it came to its end
pub data Standing : Type 0 where
  Waiting : Standing
  Held : (worker : ℕ) → Standing
  Ended : (end : End) → Standing

-- the tasks that an entry names, but for a submit's
abbrev pub named : Entry → List ℕ
named (entries.Submit rec given) = []
named (entries.Take w numbers) = numbers
named (entries.Finish w n outs) = n ∷ []
named (entries.Stop w n stop line) = n ∷ []
named (entries.Back w numbers) = numbers
named (entries.Starved w) = []
named entries.Close = []

-- what these have come to
abbrev pub comes : Entry → Standing
comes (entries.Submit rec given) = Waiting
comes (entries.Take w numbers) = Held w
comes (entries.Finish w n outs) = Ended (Outs outs)
comes (entries.Stop w n stop line) = Ended (Halted stop line)
comes (entries.Back w numbers) = Waiting
comes (entries.Starved w) = Waiting
comes entries.Close = Waiting

abbrev pub after : (n : ℕ) → Standing → Entry → Standing
after n s e = if is_among (named e) n then comes e else s

abbrev pub standing_after : (n : ℕ) → Standing → List Entry → Standing
standing_after n s [] = s
standing_after n s (e ∷ log) = standing_after n (after n s e) log

abbrev pub standing : (n : ℕ) → List Entry → Standing
standing n log = standing_after n Waiting log

-- it is finished
abbrev pub IsFinished : (n : ℕ) → List Entry → Type 0
IsFinished n log = (outs : List (List ℕ)) × (standing n log ≡ Ended (Outs outs))

-- ---- what a worker holds, in the order in which it took it

abbrev pub without : ℕ → List ℕ → List ℕ
without n numbers = filter (λ m. not (m == n)) numbers

abbrev pub holding : (worker : ℕ) → List ℕ → Entry → List ℕ
holding w numbers (entries.Submit rec given) = numbers
holding w numbers (entries.Take v more) = if v == w then numbers ++ more else numbers
holding w numbers (entries.Finish v n outs) = if v == w then without n numbers else numbers
holding w numbers (entries.Stop v n stop line) = if v == w then without n numbers else numbers
holding w numbers (entries.Back v all) = if v == w then [] else numbers
holding w numbers (entries.Starved v) = numbers
holding w numbers entries.Close = numbers

abbrev pub holding_after : (worker : ℕ) → List ℕ → List Entry → List ℕ
holding_after w numbers [] = numbers
holding_after w numbers (e ∷ log) = holding_after w (holding w numbers e) log

abbrev pub held : (worker : ℕ) → List Entry → List ℕ
held w log = holding_after w [] log

-- ---- closed, starved

abbrev pub closes : Entry → Bool
closes (entries.Submit rec given) = false
closes (entries.Take w numbers) = false
closes (entries.Finish w n outs) = false
closes (entries.Stop w n stop line) = false
closes (entries.Back w numbers) = false
closes (entries.Starved w) = false
closes entries.Close = true

abbrev pub is_closed : List Entry → Bool
is_closed log = list_any closes log

-- the worker that an entry says had no memory
abbrev pub hungry : Entry → Option ℕ
hungry (entries.Submit rec given) = None
hungry (entries.Take w numbers) = None
hungry (entries.Finish w n outs) = None
hungry (entries.Stop w n stop line) = None
hungry (entries.Back w numbers) = None
hungry (entries.Starved w) = Some w
hungry entries.Close = None

abbrev pub is_some_worker : Option ℕ → Bool
is_some_worker None = false
is_some_worker (Some w) = true

abbrev pub is_worker : (worker : ℕ) → Option ℕ → Bool
is_worker w None = false
is_worker w (Some v) = v == w

-- some worker had no memory; and this one
abbrev pub is_starved : List Entry → Bool
is_starved log = list_any (λ e. is_some_worker (hungry e)) log

abbrev pub has_starved : (worker : ℕ) → List Entry → Bool
has_starved w log = list_any (λ e. is_worker w (hungry e)) log
