-- What leaves it as it is whether a task runs, and whether calls make tasks.
use Rattle.std.proofs.Common.{◌≡◌, ℕ, Bool, true, false, not, ◌&&◌, Option, Some, None, is_none, option_map, ◌∷◌, refl, ap}
use Rattle.css_semantics.specs.Dialogue.{Action, Load, Calls, Returns, Wait, Item, item, item_in, Mode, Tape}
use Rattle.css_semantics.specs.Tasks.{Body, body_after, is_started, body}
use Rattle.css_semantics.specs.Actions.{is_of_calls}
use Rattle.css_semantics.specs.Tasks.{is_inside, makes_tasks}

none_mapped : {A B : Type 0} (f : A → B) (o : Option A) → is_none (option_map f o) ≡ is_none o
none_mapped f None = refl
none_mapped f (Some a) = refl

none_after : (action : Action) (o : Option Body) → is_of_calls action ≡ false → is_none (body_after o action) ≡ is_none o
none_after (Calls call) o h = cc
none_after Returns o h = cc
none_after action o h = none_mapped _ o

-- all but a task's call and its return
pub stays_inside : (i : Item) (tape : Tape) → is_of_calls i.action ≡ false → is_inside (i ∷ tape) ≡ is_inside tape
stays_inside i tape h = ap not (none_after i.action (body tape) h)

-- a load, and a wait
pub makes_behind_load : (mode : Mode) (address width line : ℕ) (tape : Tape) → makes_tasks (item_in mode (Load address width) line ∷ tape) ≡ makes_tasks tape
makes_behind_load mode address width line tape = ap (λ b. is_started tape && not b) (stays_inside (item_in mode (Load address width) line) tape refl)

pub makes_behind_wait : (address line : ℕ) (tape : Tape) → makes_tasks (item (Wait address) line ∷ tape) ≡ makes_tasks tape
makes_behind_wait address line tape = ap (λ b. is_started tape && not b) (stays_inside (item (Wait address) line) tape refl)

none_if : (o : Option Body) → not (is_none o) ≡ false → o ≡ None
none_if None h = refl
none_if (Some b) h = cc

some_if : (o : Option Body) → not (is_none o) ≡ true → (b : Body) × (o ≡ Some b)
some_if None h = cc
some_if (Some b) h = (b, refl)

pub outside_none : (tape : Tape) → is_inside tape ≡ false → body tape ≡ None
outside_none tape outside = none_if (body tape) outside

pub inside_some : (tape : Tape) → is_inside tape ≡ true → (b : Body) × (body tape ≡ Some b)
inside_some tape inside = some_if (body tape) inside

outside_if : (a b : Bool) → (a && not b) ≡ true → b ≡ false
outside_if true true h = cc
outside_if true false h = refl
outside_if false b h = cc

-- calls make tasks outside of all tasks
pub makes_outside : (tape : Tape) → makes_tasks tape ≡ true → body tape ≡ None
makes_outside tape makes = outside_none tape (outside_if (is_started tape) (is_inside tape) makes)
