-- The rules on what a call is given.
use Rattle.std.specs.Prelude.{◌≤◌, ◌<◌, ◌+◌, ◌*◌, ◌^◌, ℕ, not, List, [], ◌∷◌, length, map, nat_lt, Option, Some, None, Result, Ok, Err}
use Rattle.std.specs.List.{list_any}
use Rattle.css_base.specs.declared.rule.Rule.{Rule}
use Rattle.css_base.specs.declared.rule.Rule.TheVariants as rules
use Rattle.css_semantics.specs.Tasks.{Window, window}
use Rattle.css_semantics.specs.Pending.{Object}
use Rattle.css_semantics.specs.Rules.{Check, check, first_broken, room_of, all_of_window, overlaps_partly, has_alias}
use Rattle.css_record.specs.declared.layout.Layout.{Layout}
use Rattle.css_arguments.specs.declared.argument.Argument.{Argument}
use Rattle.css_arguments.specs.Arguments.{given, is_unfit}
use Rattle.css_arguments.specs.Layouts.{is_live_at}
use Rattle.css_objects.specs.Table.{Table, objects}

-- ---- the rules

-- what a call may break, of the rules on what it is given
abbrev pub checks_of_call : Layout → (local_store : ℕ) → List Object → List Argument → List Check
checks_of_call l local_store objects arguments =
    let all = map given arguments in
    check rules.Dimension (list_any is_unfit arguments)
    ∷ check rules.TooLarge (nat_lt local_store (room_of (map window all)))
    ∷ check rules.DeadArgument (list_any (λ a. not (all_of_window (is_live_at l) (window a))) all)
    ∷ check rules.PartialOverlap (list_any (overlaps_partly objects all) all)
    ∷ check rules.AliasedArguments (has_alias all)
    ∷ []

-- the first rule that a call breaks
abbrev pub broken_by : Layout → (local_store : ℕ) → Table → List Argument → Option Rule
broken_by l local_store t arguments = first_broken (checks_of_call l local_store (objects t) arguments)

-- what is answered where a rule is broken, or none is
abbrev pub judgement : Option Rule → Result (Unit {0}) Rule
judgement None = Ok tt
judgement (Some rule) = Err rule

-- ---- steps

-- for each window as many steps as there are entries to scan, and one search for each of its rows
abbrev pub steps_of : (scanned depth : ℕ) → List Window → ℕ
steps_of scanned depth [] = 0
steps_of scanned depth (w ∷ windows) = scanned + w.rows * depth + steps_of scanned depth windows

-- From one number of steps to another there are at most those of probes of all arguments' windows.
abbrev pub JudgesWithin : Table → List Argument → (old new : ℕ) → Type 0
JudgesWithin t arguments old new =
    (depth : ℕ) → 2 * length t.rows + 1 < 2 ^ (depth + 1) → new ≤ old + steps_of (length t.blocks) depth (map window (map given arguments))
