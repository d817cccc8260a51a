-- What follows a state goes on following it, and a machine by itself writes nothing and begins and ends nothing.
use Rattle.std.proofs.Common.{◌≡◌, [], ◌∷◌, ◌++◌, Bool, ◌||◌, IsTrue, refl, ap, sym, ◌∙◌, append_assoc}
use Rattle.std.proofs.lemmas.List.{append-nil}
use Rattle.css_semantics.specs.Dialogue.{Action, Enter, Turn, Leave, Load, Store, Out, In, Malloc, Calls, Returns, Start, Finish, Barrier, Wait, WaitFault, DimFault, Fault, End, Tape, Reply, World, output, written_by}
use Rattle.css_semantics.specs.Worlds.{state_after, is_of_machine, is_fault, AreOfMachine, Follows}
use Rattle.css_semantics.specs.Tasks.{started_after, is_started}

-- the state after two parts of a tape
pub after_both : {S : Type 0} (learn : S → Action → S) (start : S) (more tape : Tape) → state_after learn start (more ++ tape) ≡ state_after learn (state_after learn start tape) more
after_both learn start [] tape = refl
after_both learn start (i ∷ more) tape = ap (λ s. learn s i.action) (after_both learn start more tape)

pub both_of_machine : (more tape : Tape) → AreOfMachine more → AreOfMachine tape → AreOfMachine (more ++ tape)
both_of_machine [] tape of_more of_tape = of_tape
both_of_machine (i ∷ more) tape of_more of_tape = (of_more.0, both_of_machine more tape of_more.1 of_tape)

-- behind what a machine adds the world still follows
pub follows_on : {S : Type 0} (w : World) (reply : S → Action → Reply) (learn : S → Action → S) (tape : Tape) (state : S) (more : Tape) → AreOfMachine more → Follows w reply learn tape state → Follows w reply learn (more ++ tape) (state_after learn state more)
follows_on w reply learn tape state more of_more follows = record {
  replies = λ newer i of_newer asked.
      ap (λ t. w t i) (sym (append_assoc newer more tape))
      ∙ follows.replies (newer ++ more) i (both_of_machine newer more of_newer of_more) asked
      ∙ ap (λ s. reply s i.action) (after_both learn state newer more);
}

writes_nothing : (action : Action) → IsTrue (is_of_machine action || is_fault action) → written_by action ≡ []
writes_nothing (Enter size) h = refl
writes_nothing Turn h = refl
writes_nothing (Leave base size) h = refl
writes_nothing (Load address width) h = refl
writes_nothing (Store address bytes) h = refl
writes_nothing (Fault kind) h = refl
writes_nothing (Out bytes) h = absurd (cc)
writes_nothing In h = absurd (cc)
writes_nothing (Malloc size) h = absurd (cc)
writes_nothing (Calls call) h = absurd (cc)
writes_nothing Returns h = absurd (cc)
writes_nothing Start h = absurd (cc)
writes_nothing Finish h = absurd (cc)
writes_nothing Barrier h = absurd (cc)
writes_nothing (Wait address) h = absurd (cc)
writes_nothing WaitFault h = absurd (cc)
writes_nothing DimFault h = absurd (cc)
writes_nothing (End result) h = absurd (cc)

-- a machine by itself writes nothing
pub same_output : (more tape : Tape) → AreOfMachine more → output (more ++ tape) ≡ output tape
same_output [] tape of_more = refl
same_output (i ∷ more) tape of_more =
    ap (λ bytes. output (more ++ tape) ++ bytes) (writes_nothing i.action of_more.0) ∙ append-nil (output (more ++ tape)) ∙ same_output more tape of_more.1

begins_nothing : (before : Bool) (action : Action) → IsTrue (is_of_machine action || is_fault action) → started_after before action ≡ before
begins_nothing before (Enter size) h = refl
begins_nothing before Turn h = refl
begins_nothing before (Leave base size) h = refl
begins_nothing before (Load address width) h = refl
begins_nothing before (Store address bytes) h = refl
begins_nothing before (Fault kind) h = refl
begins_nothing before (Out bytes) h = absurd (cc)
begins_nothing before In h = absurd (cc)
begins_nothing before (Malloc size) h = absurd (cc)
begins_nothing before (Calls call) h = absurd (cc)
begins_nothing before Returns h = absurd (cc)
begins_nothing before Start h = absurd (cc)
begins_nothing before Finish h = absurd (cc)
begins_nothing before Barrier h = absurd (cc)
begins_nothing before (Wait address) h = absurd (cc)
begins_nothing before WaitFault h = absurd (cc)
begins_nothing before DimFault h = absurd (cc)
begins_nothing before (End result) h = absurd (cc)

-- and leaves it as it is whether calls make tasks
pub same_started : (more tape : Tape) → AreOfMachine more → is_started (more ++ tape) ≡ is_started tape
same_started [] tape of_more = refl
same_started (i ∷ more) tape of_more = begins_nothing (is_started (more ++ tape)) i.action of_more.0 ∙ same_started more tape of_more.1
