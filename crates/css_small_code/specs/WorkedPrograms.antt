-- Worked programs: a task that adds one, called with `&x` between start and finish.
use Rattle.std.specs.Prelude.{ℕ, ◌+◌, pos, true, false, List, [], ◌∷◌}
use Rattle.css_base.specs.declared.direction.Direction.TheVariants.{InOut}
use Rattle.css_base.specs.declared.ending.Stop.TheVariants.{Rule}
use Rattle.css_base.specs.declared.ending.Ending.TheVariants as endings
use Rattle.css_base.specs.declared.ending.Who.TheVariants as whose
use Rattle.css_base.specs.declared.limits.Limits.{Limits}
use Rattle.css_base.specs.declared.rule.Rule.TheVariants.{Unsynchronised, OutsideArguments}
use Rattle.css_num.specs.declared.operators.BinOp.TheVariants.{Add}
use Rattle.css_semantics.specs.Dialogue as dialogue
use Rattle.css_semantics.specs.Dialogue.{Enter, Leave, Load, Store, Out, Calls, Returns, Tape, item}
use Rattle.css_semantics.specs.Flat.{FlatState, no_globals}
use Rattle.css_semantics.specs.Verdict.{OfBarrier, OfFinish, CallIn, Verdict}
use Rattle.css_small.specs.declared.tree.Directive.TheVariants.{Start, Finish, Barrier}
use Rattle.css_small.specs.Tree.{Number, Variable, Element, Binary, Initialise, AssignElement, Call, Mark, Put, Return, Statements, End, More, Function, Program}

-- the smallest memory
abbrev pub row_limits : Limits
row_limits = record { workers = 1; bundle = 1; local_store = 32768; memory = 2097152; main_units = 100; task_units = 100 }

-- they have no globals, and read nothing
abbrev pub row_start : FlatState
row_start = no_globals row_limits.memory

-- 2 void inc(int *p) { p[i] = p[0] + 1; }
abbrev pub adds_one_to : (i : ℕ) → Function
adds_one_to i = record {
  is_task = true;
  line = 2;
  end = 2;
  parameters = 1;
  variables = 0;
  body = More (AssignElement 2 (Number i) (Binary Add (Element (Number 0)) (Number 1))) End;
}

-- 8   putchar(48 + x); 9   #pragma css finish 10   return 0; 11 }, from a line on
abbrev pub prints_from : (line : ℕ) → Statements
prints_from line =
    More (Put line (Binary Add (Number 48) (Variable 0))) (More (Mark (line + 1) Finish) (More (Return (line + 2) (Number 0)) End))

-- 3 int main(void) { 4   int x = 4; 5   #pragma css start 6   inc(&x);
abbrev pub calls_inc : (rest : Statements) → (end : ℕ) → Function
calls_inc rest end = record {
  is_task = false;
  line = 3;
  end = end;
  parameters = 0;
  variables = 1;
  body = More (Initialise 4 0 (Number 4)) (More (Mark 5 Start) (More (Call 6 0 0) rest));
}

-- with `#pragma css barrier` in line 7; with `p[1]` in place of `p[0]`; and without line 7
abbrev pub waits : Program
waits = record { functions = adds_one_to 0 ∷ []; main = calls_inc (More (Mark 7 Barrier) (prints_from 8)) 11 }

abbrev pub writes_outside : Program
writes_outside = record { functions = adds_one_to 1 ∷ []; main = calls_inc (More (Mark 7 Barrier) (prints_from 8)) 11 }

abbrev pub never_waits : Program
never_waits = record { functions = adds_one_to 0 ∷ []; main = calls_inc (prints_from 7) 10 }

-- ---- what each comes to: main's frame lies at the memory's end, and x at its front

abbrev pub call_of_inc : dialogue.Call
call_of_inc = record {
  function = 0;
  scalars = [];
  arguments = record { base = 2097144; element = 4; dimensions = []; is_strided = false; direction = InOut } ∷ [];
  stack_place = 2097144;
  is_high = false;
}

abbrev pub one_call : List CallIn
one_call = record { call = call_of_inc; line = 6 } ∷ []

-- the bytes of main's frame behind the task: x is 5
abbrev pub frame_behind : List ℕ
frame_behind = 0 ∷ 0 ∷ 0 ∷ 5 ∷ 0 ∷ 0 ∷ 0 ∷ 0 ∷ []

abbrev pub verdict_of_waits : Verdict
verdict_of_waits = record {
  output = 53 ∷ [];
  calls = one_call;
  images = record { kind = OfBarrier; line = 7; address = 0; bytes = frame_behind } ∷ record { kind = OfFinish; line = 9; address = 0; bytes = frame_behind } ∷ [];
  ending = endings.Result (pos 0);
}

abbrev pub verdict_of_writes_outside : Verdict
verdict_of_writes_outside = record { output = []; calls = one_call; images = []; ending = endings.Stopped (Rule OutsideArguments) 2 (whose.Task 0) }

abbrev pub verdict_of_never_waits : Verdict
verdict_of_never_waits = record { output = []; calls = one_call; images = []; ending = endings.Stopped (Rule Unsynchronised) 7 whose.Main }

-- ---- the tapes: up to where the task stores what it has added

abbrev pub tape_of_sum : Tape
tape_of_sum =
    item (Load 2097144 4) 2
    ∷ item (Load 2097136 4) 2
    ∷ item (Load 2097136 4) 2
    ∷ item (Store 2097136 (0 ∷ 31 ∷ 255 ∷ 248 ∷ [])) 6
    ∷ item (Enter 8) 6
    ∷ item (Calls call_of_inc) 6
    ∷ item dialogue.Start 5
    ∷ item (Store 2097144 (0 ∷ 0 ∷ 0 ∷ 4 ∷ [])) 4
    ∷ item (Enter 8) 3
    ∷ []

-- and behind the task
abbrev pub tape_of_task : Tape
tape_of_task = item Returns 2 ∷ item (Leave 2097136 8) 2 ∷ item (Store 2097144 (0 ∷ 0 ∷ 0 ∷ 5 ∷ [])) 2 ∷ tape_of_sum

abbrev pub tape_of_waits : Tape
tape_of_waits =
    item (dialogue.End (pos 0)) 10
    ∷ item (Leave 2097144 8) 10
    ∷ item dialogue.Finish 9
    ∷ item (Out (53 ∷ [])) 8
    ∷ item (Load 2097144 4) 8
    ∷ item dialogue.Barrier 7
    ∷ tape_of_task
