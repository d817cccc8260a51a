-- Calls and accesses as the definitions of rules judge them, by a table that has the pending objects.
use Rattle.std.proofs.Common.{◌≡◌, ℕ, Bool, true, false, not, ◌||◌, ◌&&◌, List, [], ◌∷◌, length, map, nat_lt, Option, Some, None, refl, sym, ap, ◌∙◌, subst}
use Rattle.std.specs.Prelude.{IsPermutation}
use Rattle.std.specs.List.{list_any}
use Rattle.std.proofs.lemmas.List.Sorted.{list_any-IsPermutation}
use Rattle.css_base.specs.declared.limits.Limits.{Limits}
use Rattle.css_base.specs.declared.rule.Rule.{Rule}
use Rattle.css_base.specs.declared.rule.Rule.TheVariants as rules
use Rattle.css_semantics.specs.Dialogue as dialogue
use Rattle.css_semantics.specs.Dialogue.{Action, Calls, DimFault, Tape}
use Rattle.css_semantics.specs.Actions.{Access, Enters, Leaves, Loads, Stores, Allots, NoAccess, access_of}
use Rattle.css_semantics.specs.Memory.{Memory, all_from, is_live_byte, memory_after}
use Rattle.css_semantics.specs.Tasks.{Window, window, Body, has_byte, body}
use Rattle.css_semantics.specs.Pending.{Object, some_from, pending}
use Rattle.css_semantics.specs.Rules.{share_byte, check, first_broken, checks_of_main, checks_of_task, hit, has_bad_dimension, room_of, all_of_window, overlap, overlaps_partly, has_alias, meets, meets_pending, is_unsynchronised}
use Rattle.css_record.specs.declared.window.Window as coded
use Rattle.css_record.specs.Windows.{window as coded_window}
use Rattle.css_record.specs.declared.layout.Layout.{Layout}
use Rattle.css_arguments.specs.declared.argument.Argument as code
use Rattle.css_arguments.specs.Arguments.{given, is_stopped, is_unfit}
use Rattle.css_objects.specs.Table.{Table, objects}
use Rattle.css_arguments.specs.Layouts.{layout_of, is_live_at}
use Rattle.css_objects.specs.Judged.{broken_by}
use Rattle.css_objects.proofs.Judges.{broken}

-- ---- dimensions

-- an argument is at fault, for a dimension was stopped or is no dimension
unfit_by : (arguments : List code.Argument) → list_any (λ a. is_stopped a.dims) arguments ≡ false → list_any is_unfit arguments ≡ list_any has_bad_dimension (map given arguments)
unfit_by [] none = refl
unfit_by (a ∷ arguments) none = by (is_stopped a.dims) (list_any (λ b. is_stopped b.dims) arguments) none (unfit_by arguments)
  where
    by : (here later : Bool) → (here || later) ≡ false → (later ≡ false → list_any is_unfit arguments ≡ list_any has_bad_dimension (map given arguments))
        → ((here || has_bad_dimension (given a)) || list_any is_unfit arguments) ≡ (has_bad_dimension (given a) || list_any has_bad_dimension (map given arguments))
    by true later none rest = absurd (cc)
    by false later none rest = ap (λ b. has_bad_dimension (given a) || b) (rest none)

stopped_unfit : (arguments : List code.Argument) → list_any (λ a. is_stopped a.dims) arguments ≡ true → list_any is_unfit arguments ≡ true
stopped_unfit [] some = absurd (cc)
stopped_unfit (a ∷ arguments) some = by (is_stopped a.dims) (list_any (λ b. is_stopped b.dims) arguments) some (stopped_unfit arguments)
  where
    by : (here later : Bool) → (here || later) ≡ true → (later ≡ true → list_any is_unfit arguments ≡ true) → ((here || has_bad_dimension (given a)) || list_any is_unfit arguments) ≡ true
    by true later some rest = refl
    by false later some rest = or_later (has_bad_dimension (given a)) (list_any is_unfit arguments) (rest some)
      where
        or_later : (x y : Bool) → y ≡ true → (x || y) ≡ true
        or_later true y h = refl
        or_later false y h = h

-- ---- objects in another order

partly_alike : (os ps : List Object) → IsPermutation os ps → (all arguments : List dialogue.Argument) → list_any (overlaps_partly os all) arguments ≡ list_any (overlaps_partly ps all) arguments
partly_alike os ps permuted all [] = refl
partly_alike os ps permuted all (a ∷ arguments) =
    ap (λ b. (b || list_any (λ c. overlap (window a) (window c)) all) || list_any (overlaps_partly os all) arguments) (list_any-IsPermutation (λ o. overlap (window a) o.window) os ps permuted)
    ∙ ap (λ b. overlaps_partly ps all a || b) (partly_alike os ps permuted all arguments)

met_alike : (os ps : List Object) → IsPermutation os ps → (access : Access) → meets_pending os access ≡ meets_pending ps access
met_alike os ps permuted (Enters size) = refl
met_alike os ps permuted (Leaves base size) = list_any-IsPermutation (λ o. true && some_from (has_byte o.window) base size) os ps permuted
met_alike os ps permuted (Loads address width) = list_any-IsPermutation (λ o. o.is_written && some_from (has_byte o.window) address width) os ps permuted
met_alike os ps permuted (Stores address bytes) = list_any-IsPermutation (λ o. o.is_written && some_from (has_byte o.window) address (length bytes)) os ps permuted
met_alike os ps permuted (Allots size) = refl
met_alike os ps permuted NoAccess = refl

pub accesses_alike : (t : Table) (tape : Tape) → IsPermutation (objects t) (pending tape) → (action : Action) → is_unsynchronised (objects t) action ≡ is_unsynchronised (pending tape) action
accesses_alike t tape permuted action = met_alike (objects t) (pending tape) permuted (access_of action)

-- ---- the rules of a call

-- of what main may break a call breaks nothing else
of_call : (x3 x4 x5 x6 x7 : Bool)
    → first_broken
    (check rules.StartTwice false
    ∷ check rules.FinishWithout false
    ∷ check rules.Dimension x3
    ∷ check rules.TooLarge x4
    ∷ check rules.DeadArgument x5
    ∷ check rules.PartialOverlap x6
    ∷ check rules.AliasedArguments x7
    ∷ check rules.Unsynchronised false
    ∷ check rules.MainStack false
    ∷ check rules.Units false
    ∷ check rules.BadWait false
    ∷ [])
    ≡ broken x3 x4 x5 x6 x7
of_call true x4 x5 x6 x7 = refl
of_call false true x5 x6 x7 = refl
of_call false false true x6 x7 = refl
of_call false false false true x7 = refl
of_call false false false false true = refl
of_call false false false false false = refl

module _ (m : Memory) (limits : Limits) (tape : Tape) (t : Table) (arguments : List code.Argument) where
  -- what a call that is given this breaks
  abbrev broken_of : List dialogue.Argument → Option Rule
  broken_of all =
      broken (list_any has_bad_dimension all) (nat_lt limits.local_store (room_of (map window all))) (list_any (λ a. not (all_of_window (is_live_byte m) (window a))) all)
      (list_any (overlaps_partly (pending tape) all) all) (has_alias all)

  pub calls_judged : (call : dialogue.Call) → IsPermutation (objects t) (pending tape) → call.arguments ≡ map given arguments → list_any (λ a. is_stopped a.dims) arguments ≡ false
      → first_broken (checks_of_main m limits tape (Calls call)) ≡ broken_by (layout_of m) limits.local_store t arguments
  calls_judged call permuted same none =
      let all = map given arguments in
      let given_all = call.arguments in
      of_call (list_any has_bad_dimension given_all) (nat_lt limits.local_store (room_of (map window given_all)))
      (list_any (λ a. not (all_of_window (is_live_byte m) (window a))) given_all) (list_any (overlaps_partly (pending tape) given_all) given_all) (has_alias given_all)
      ∙ ap broken_of same
      ∙ ap
      (λ b. broken b (nat_lt limits.local_store (room_of (map window all))) (list_any (λ a. not (all_of_window (is_live_byte m) (window a))) all) (list_any (overlaps_partly (pending tape) all) all)
      (has_alias all))
      (sym (unfit_by arguments none))
      ∙ ap
      (λ b. broken (list_any is_unfit arguments) (nat_lt limits.local_store (room_of (map window all))) (list_any (λ a. not (all_of_window (is_live_byte m) (window a))) all) b (has_alias all))
      (sym (partly_alike (objects t) (pending tape) permuted all all))

-- what main breaks is what its checks say
of_main : (start : Memory) (limits : Limits) (tape : Tape) (action : Action) (b : Option Body) → b ≡ None
    → (elim b [ None ↦ first_broken (checks_of_main (memory_after start tape) limits tape action) | Some c ↦ first_broken (checks_of_task limits c action) ])
    ≡ first_broken (checks_of_main (memory_after start tape) limits tape action)
of_main start limits tape action None main = refl
of_main start limits tape action (Some c) main = absurd (cc)

pub main_judged : (start : Memory) (limits : Limits) (tape : Tape) (call : dialogue.Call) (t : Table) (arguments : List code.Argument) → body tape ≡ None → IsPermutation (objects t) (pending tape)
    → call.arguments ≡ map given arguments → list_any (λ a. is_stopped a.dims) arguments ≡ false
    → hit start limits tape (Calls call) ≡ broken_by (layout_of (memory_after start tape)) limits.local_store t arguments
main_judged start limits tape call t arguments main permuted same none =
    of_main start limits tape (Calls call) (body tape) main ∙ calls_judged (memory_after start tape) limits tape t arguments call permuted same none

-- a call of which a dimension was stopped
pub stopped_judged : (start : Memory) (limits : Limits) (tape : Tape) (l : Layout) (local_store : ℕ) (t : Table) (arguments : List code.Argument) → body tape ≡ None
    → list_any (λ a. is_stopped a.dims) arguments ≡ true → hit start limits tape DimFault ≡ broken_by l local_store t arguments
stopped_judged start limits tape l local_store t arguments main some =
    of_main start limits tape DimFault (body tape) main
    ∙ sym
    (ap
    (λ b. broken b (nat_lt local_store (room_of (map window (map given arguments)))) (list_any (λ a. not (all_of_window (is_live_at l) (window a))) (map given arguments))
    (list_any (overlaps_partly (objects t) (map given arguments)) (map given arguments)) (has_alias (map given arguments)))
    (stopped_unfit arguments some))

-- ---- frames

-- a window of one row shares a byte exactly where one of its bytes is the other's
row_shares : (rows base width stride : ℕ) (os : List Object) → rows ≡ 1
    → list_any (λ o. let w : Window = record { base = base; rows = rows; width = width; stride = stride } in share_byte w o.window) os ≡ meets (λ o. true) os base width
row_shares rows base width stride os one =
    subst
    (λ (n : ℕ). list_any (λ o. let w : Window = record { base = base; rows = n; width = width; stride = stride } in share_byte w o.window) os ≡ meets (λ o. true) os base width)
    (sym one)
    (by os)
  where
    true_last : (b : Bool) → (b && true) ≡ b
    true_last true = refl
    true_last false = refl

    by : (os : List Object) → list_any (λ o. let w : Window = record { base = base; rows = 1; width = width; stride = stride } in share_byte w o.window) os ≡ meets (λ o. true) os base width
    by [] = refl
    by (o ∷ os) =
        ap (λ b. not b || list_any (λ p. let w : Window = record { base = base; rows = 1; width = width; stride = stride } in share_byte w p.window) os)
        (true_last (all_from (λ address. not (has_byte o.window address)) base width))
        ∙ ap (λ b. some_from (has_byte o.window) base width || b) (by os)

pub frame_meets : (w : coded.Window) (os : List Object) (answer : Bool) → answer ≡ not (list_any (λ o. share_byte (coded_window w) o.window) os) → w.rows ≡ 1
    → answer ≡ not (meets (λ o. true) os w.base w.width)
frame_meets w os answer is one = is ∙ ap not (row_shares w.rows w.base w.width w.stride os one)
