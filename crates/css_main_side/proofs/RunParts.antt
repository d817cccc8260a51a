-- Main's run in parts, one behind another.
use Rattle.std.proofs.Common.{◌≡◌, ℕ, ◌≤◌, List, [], ◌∷◌, ◌++◌, length, Option, slice_get, refl, sym, ap, ◌∙◌, subst, append_assoc, false, arith}
use Rattle.std.proofs.lemmas.List.{append-nil}
use Rattle.css_base.specs.declared.ending.Ending.{Ending}
use Rattle.css_base.specs.declared.limits.Limits.{Limits}
use Rattle.css_base.specs.Limits.{IsInRange}
use Rattle.css_io.specs.Changes.{Change, change}
use Rattle.css_io.proofs.Told.{Appends-more}
use Rattle.css_semantics.specs.Units.{with_units}
use Rattle.css_semantics.specs.Flat.{FlatState, IsStart}
use Rattle.css_semantics.specs.Verdict.{Verdict}
use Rattle.css_semantics.proofs.LaidOut.{no_globals_start}
use Rattle.css_vm.specs.Code.{Code}
use Rattle.css_vm.specs.Machine.{State, Begin, At, entry_line, answered}
use Rattle.css_vm.specs.Soundness.{Spot, IsSound, IsAt, Fits}
use Rattle.css_vm.specs.Events.{Falls, IsStacked}
use Rattle.css_main_side.specs.OutputBuffer.{Passes}
use Rattle.css_main_side.specs.Playing.{begins, ComesToVerdict, Side, Stands, Playing, GoesOn, EndsRun}
use Rattle.css_main_side.specs.Ran.{RanAs, Fails}
use Rattle.css_main_side.specs.declared.ran.Ran.{Ran}
use Rattle.css_main_side.specs.declared.ran.Ran.TheVariants as rans
use Rattle.css_main_side.proofs.Sinks.{Appends-nothing, AppendsPrefix-nothing, AppendsPrefix-front, RanAs-more}
use Rattle.css_main_side.proofs.Turns.{Moves, ComesToEnd, playing_moves, playing_ends, output_playing}

module _ (limits : Limits) (start : FlatState) (code : Code) (old new : Side) where
  -- where a run moves on and writes nothing, what stands does, and the run goes on
  pub goes_silently : {S : Type 0} (told : S → Option (List ℕ)) (faults : S → ℕ) → ((st : Stands limits start old) → Moves limits start code old new [] st)
      → (pending pending' : List ℕ) (out out' : S) → pending' ≡ pending → out' ≡ out → GoesOn limits start code old new pending pending' (change told faults out out')
  goes_silently told faults moves pending pending' out out' same as_was =
      rw (same, as_was) (record {
        front = [];
        got = Appends-nothing (told out);
        playing = λ v written p.
            subst (λ b. Playing limits start code v new b) (append-nil (written ++ pending) ∙ ap (λ b. b ++ pending) (sym (append-nil written)))
            (playing_moves limits start code v old (written ++ pending) p new [] (moves p.stands));
        never_fell = omega arith;
      })

  -- what is written passes through the buffer
  pub goes_out : (bytes pending pending' : List ℕ) (c : Change) → ((st : Stands limits start old) → Moves limits start code old new bytes st)
      → Passes c (pending ++ bytes) pending' → c.faults_before ≤ c.faults_after → GoesOn limits start code old new pending pending' c
  goes_out bytes pending pending' c moves (front, parts, got) never_fell =
      record {
        front = front;
        got = got;
        playing = λ v written p.
            let wrote : (written ++ pending) ++ bytes ≡ (written ++ front) ++ pending' =
            append_assoc written pending bytes ∙ ap (λ b. written ++ b) parts ∙ sym (append_assoc written front pending') in
            subst (λ b. Playing limits start code v new b) wrote (playing_moves limits start code v old (written ++ pending) p new bytes (moves p.stands));
        never_fell = never_fell;
      }

module _ (limits : Limits) (start : FlatState) (code : Code) (old : Side) (pending : List ℕ) (c : Change) (ran : Ran) where
  -- the run comes to an ending, with all that is pending
  pub ends_so : (ending : Ending) → ((st : Stands limits start old) → ComesToEnd limits start code old ending st) → RanAs ending pending c ran → EndsRun limits start code old pending c ran
  ends_so ending comes ran_as v written p =
      let is = playing_ends limits start code v old (written ++ pending) p ending (comes p.stands) in
      (pending, is.1, subst (λ e. RanAs e pending c ran) is.0 ran_as)

  fails_so : (ran : Ran) (ending : Ending) (more : List ℕ) → Fails pending c ran → RanAs ending (pending ++ more) c ran
  fails_so (rans.Ended e) ending more fails = absurd fails
  fails_so rans.WriteFault ending more (failed, last) = (failed, AppendsPrefix-front c.before c.after pending more last)
  fails_so rans.NoMemory ending more last = AppendsPrefix-front c.before c.after pending more last

  -- the run fails
  pub fails : Fails pending c ran → EndsRun limits start code old pending c ran
  fails failed v written p =
      let more = output_playing limits start code v old (written ++ pending) p in
      (pending ++ more.0, more.1 ∙ append_assoc written pending more.0, fails_so ran v.ending more.0 failed)

module _ {S : Type 0} (told : S → Option (List ℕ)) (faults : S → ℕ) (limits : Limits) (start : FlatState) (code : Code) where
  -- nothing was done
  pub goes_nowhere : (side : Side) (pending : List ℕ) (out : S) → GoesOn limits start code side side pending pending (change told faults out out)
  goes_nowhere side pending out =
      record {
        front = [];
        got = Appends-nothing (told out);
        playing = λ v written p. subst (λ b. Playing limits start code v side (b ++ pending)) (sym (append-nil written)) p;
        never_fell = omega arith;
      }

  -- one part, and then another
  pub goes_further : (s s' s'' : Side) (pending pending' pending'' : List ℕ) (out out' out'' : S)
      → GoesOn limits start code s s' pending pending' (change told faults out out') → GoesOn limits start code s' s'' pending' pending'' (change told faults out' out'')
      → GoesOn limits start code s s'' pending pending'' (change told faults out out'')
  goes_further s s' s'' pending pending' pending'' out out' out'' one two =
      record {
        front = one.front ++ two.front;
        got = Appends-more (told out) (told out') (told out'') one.front two.front one.got two.got;
        playing = λ v written p.
            subst (λ b. Playing limits start code v s'' (b ++ pending'')) (append_assoc written one.front two.front) (two.playing v (written ++ one.front) (one.playing v written p));
        never_fell = omega (arith, one.never_fell, two.never_fell);
      }

  -- one part, and then the last one
  pub goes_to_end : (s s' : Side) (pending pending' : List ℕ) (out out' out'' : S) (ran : Ran)
      → GoesOn limits start code s s' pending pending' (change told faults out out') → EndsRun limits start code s' pending' (change told faults out' out'') ran
      → EndsRun limits start code s pending (change told faults out out'') ran
  goes_to_end s s' pending pending' out out' out'' ran one last v written p =
      let ends = last v (written ++ one.front) (one.playing v written p) in (
        one.front ++ ends.0,
        ends.1 ∙ append_assoc written one.front ends.0,
        RanAs-more told faults out out' out'' v.ending one.front ends.0 ran one.got one.never_fell ends.2,
      )

  -- where no more is done, the sink has a prefix
  pub gives_up : (s : Side) (pending : List ℕ) (out : S) → EndsRun limits start code s pending (change told faults out out) rans.NoMemory
  gives_up s pending out = fails limits start code s pending (change told faults out out) rans.NoMemory (AppendsPrefix-nothing (told out) pending)

-- a run begins at a start
pub begins_well : (limits : Limits) → IsInRange limits → IsStart limits.memory (begins limits)
begins_well limits in_range = no_globals_start limits.memory (omega (arith, in_range.memory.0))

-- main before its entry
abbrev pub first_side : Limits → (start : FlatState) → Code → (line : ℕ) → Side
first_side limits start code line = record {
  machine = Begin code.main [] line;
  space = with_units (record { memory = start.memory; objects = [] }) limits.main_units;
  is_started = false;
  called = 0;
}

module _ (limits : Limits) (start : FlatState) (code : Code) where
  abbrev pub first : Side
  first = first_side limits start code (entry_line (slice_get code.functions code.main))

  pub stands_first : Stands limits start first
  stands_first = record { so_far = []; at = record { by_main = refl; memory = refl; objects = refl; units = omega arith }; started_is = refl; called_is = refl }

  -- a whole run is on its way
  pub playing_first : (v : Verdict) → ComesToVerdict limits start code v → Playing limits start code v first []
  unfolding stands_first
  playing_first v comes = record {
    stands = stands_first;
    written_is = refl;
    steps = comes.steps;
    outcome = comes.outcome;
    goes = comes.comes;
    verdict_is = comes.is;
  }

  -- the last part of a run from main's entry
  pub ran_whole : (c : Change) (ran : Ran) → EndsRun limits start code first [] c ran → (v : Verdict) → ComesToVerdict limits start code v → RanAs v.ending v.output c ran
  ran_whole c ran last v comes =
      let ends = last v [] (playing_first v comes) in
      subst (λ b. RanAs v.ending b c ran) (sym ends.1) ends.2

-- sound code fits before main's entry
pub fits_begun : (code : Code) (line : ℕ) (plans : List (List Spot)) → IsSound code plans → Fits code (Begin code.main [] line)
fits_begun code line plans sound =
    let f = sound.main in
    (plans, sound, (0, (refl, (f.0, f.1, sym (ap length f.2)))))

-- an answer leaves the state at its place
IsAt-answered : (code : Code) (plans : List (List Spot)) (steps value : ℕ) (s : State) → IsAt code plans steps s → IsAt code plans steps (answered value s)
IsAt-answered code plans steps value (Begin function arguments line) at = at
IsAt-answered code plans steps value (At a callers place []) at = at
IsAt-answered code plans steps value (At a callers place (x ∷ rest)) at = at

-- behind an event the code still fits, and behind its answer
pub fits_behind : (code : Code) (old new : State) (units units' : ℕ) → Fits code old → Falls code old units new units' → Fits code new
fits_behind code old new units units' (plans, sound, (steps, at)) falls =
    let next = falls plans steps sound at in
    (plans, sound, (next.0, next.1))

pub fits_answered : (code : Code) (value : ℕ) (s : State) → Fits code s → Fits code (answered value s)
fits_answered code value s (plans, sound, (steps, at)) = (plans, sound, (steps, IsAt-answered code plans steps value s at))

pub stacked_answered : (code : Code) (place value : ℕ) (s : State) → IsStacked code place s → IsStacked code place (answered value s)
stacked_answered code place value (Begin function arguments line) stacked = tt
stacked_answered code place value (At a callers at []) stacked = stacked
stacked_answered code place value (At a callers at (x ∷ rest)) stacked = stacked
