-- What is known of a bundle while it is made.
use Rattle.std.specs.Prelude.{◌≡◌, ℕ, ◌==◌, ◌-◌, nat_lt, Bool, true, false, ◌&&◌, ◌||◌, not, List, [], ◌∷◌, map, if◌then◌else◌, Option, unwrap_or}
use Rattle.std.specs.List.{All}
use Rattle.std.specs.Ordering.{nat_cmp}
use Rattle.std.specs.BTreeMap as maps
use Rattle.std.specs.BTreeSet as sets
use Rattle.css_graph.specs.declared.node.Node.{Node}
use Rattle.css_graph.specs.declared.chain.Chain.{Chain}
use Rattle.css_graph.specs.Tasks.{is_waiting, is_among}
use Rattle.css_graph.specs.Nodes.{Agenda, count_where, numbers_where, is_below}

-- how many producers the node of a number misses
abbrev pub missing_at : List Node → ℕ → ℕ
missing_at [] n = 0
missing_at (x ∷ nodes) n = if x.number == n then x.missing else missing_at nodes n

-- how many producers it misses besides the bundle's members
abbrev pub left_at : Chain → List Node → ℕ → ℕ
left_at chain nodes n = unwrap_or (maps.get nat_cmp chain.left n) (missing_at nodes n)

abbrev pub is_member : Chain → ℕ → Bool
is_member chain n = sets.contains nat_cmp chain.members n

-- a node may go on, if its producers allow it
abbrev pub may_follow : Option ℕ → Node → Bool
may_follow bound x = is_waiting x.state && (is_below bound x.number && nat_lt 0 x.missing)

-- a node goes on after a bundle, by what is left to it and by the members
abbrev pub is_candidate : (ℕ → ℕ) → (ℕ → Bool) → Option ℕ → Node → Bool
is_candidate left member bound x = may_follow bound x && (not (member x.number) && (left x.number == 0))

-- the candidates are the nodes that go on
abbrev pub HasCandidates : Chain → Agenda → Type 0
HasCandidates chain plan =
    chain.candidates.numbers ≡ numbers_where (is_candidate (left_at chain plan.nodes) (is_member chain) plan.bound) plan.nodes

-- what is known is what holds of this bundle
pub record Knows (chain : Chain) (plan : Agenda) (bundle : List ℕ) : Type 0 where
  pub left : All (λ (x : Node). left_at chain plan.nodes x.number ≡ x.missing - count_where (is_among bundle) x.producers.items) plan.nodes
  pub members : (n : ℕ) → is_member chain n ≡ is_among bundle n
  pub candidates : HasCandidates chain plan
