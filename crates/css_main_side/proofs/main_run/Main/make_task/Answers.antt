use Rattle.std.proofs.Common.{◌≡◌, ◌+◌, ℕ, List, ◌∙◌, ap, ap₂, sym, subst, length, true, arith}
use Rattle.std.proofs.lemmas.Grind.{common_steps}
use Rattle.css_base.specs.declared.limits.Limits.{Limits}
use Rattle.css_judged.specs.Judged.{Judged, main_place, plain_argument}
use Rattle.css_semantics.specs.Pending.{with_argument}
use Rattle.css_semantics.specs.WithWindow.{with_window}
use Rattle.css_semantics.specs.Units.{with_units}
use Rattle.css_judged.proofs.CallWindows.{call_live}
use Rattle.css_record.specs.Windows.{window}
use Rattle.css_semantics.specs.Memory.{Memory, is_live_byte}
use Rattle.css_semantics.specs.Rules.{all_of_window}
use Rattle.css_semantics.specs.Tasks.{Window, window_length}
use Rattle.css_semantics.specs.Verdict.{bytes_of_window}
use Rattle.css_vm.specs.Code.{code_of}
use Rattle.css_main_side.specs.Calls.{IsRecordOf, judged_behind}
use Rattle.css_main_side.specs.Playing.{begins, AreOneByOne, Side}
use Rattle.css_main_side.specs.Sides.{side}
use Rattle.css_main_side.proofs.OneByOne.{one_more, one_longer, refused_parts}
use Rattle.css_main_side.proofs.TaskCalls.{task_may_run, out_length, task_returns, task_stops}
use Rattle.css_main_side.proofs.RunParts.{begins_well}
use Rattle.css_main_side.proofs.main_run.Main.make_task.Goals as goal

pub run_alone-requires-clause-may : goal.run_alone-requires-clause-may
run_alone-requires-clause-may g c =
    let of : IsRecordOf c.in_ok-rec.rec (code_of c.args.code.now) c.args.call.now c.args.self.now.called (main_place c.args.self.now.memory) c.args.base =
    subst (λ p. IsRecordOf c.in_ok-rec.rec (code_of c.args.code.now) c.args.call.now c.args.self.now.called p c.args.base) c.place-place.ensures.value (c.in_ok-rec.ensures c.args.base c.plain-part.ensures.value) in
    let is = c.in_ok-bytes.ensures ∙ ap (bytes_of_window c.args.self.now.memory.memory) c.plain-part.ensures.value in
    task_may_run c.args.limits.now (begins c.args.limits.now) (code_of c.args.code.now) c.requires.sound.0 c.requires.sound.1 c.requires.plain c.requires.in_range (begins_well c.args.limits.now c.requires.in_range) (side c.args.self.now) c.requires.stands
    c.args.call.now c.args.base c.requires.to c.requires.whole c.requires.none c.requires.place c.place-place.ensures.bytes c.place-place.ensures.calls c.in_ok-rec.rec of
    (g.Y.Yard.code c.args.yard.now) (g.Y.Yard.limits c.args.yard.now) c.in_ok-bytes.bytes c.requires.ready.code_is c.requires.ready.limits_are is

pub returns-in-Err-clause-stops : goal.returns-in-Err-clause-stops
returns-in-Err-clause-stops g c =
    let of : IsRecordOf c.in_ok-rec.rec (code_of c.args.code.now) c.args.call.now c.args.self.now.called (main_place c.args.self.now.memory) c.args.base =
    subst (λ p. IsRecordOf c.in_ok-rec.rec (code_of c.args.code.now) c.args.call.now c.args.self.now.called p c.args.base) c.place-place.ensures.value (c.in_ok-rec.ensures c.args.base c.plain-part.ensures.value) in
    let is = c.in_ok-bytes.ensures ∙ ap (bytes_of_window c.args.self.now.memory.memory) c.plain-part.ensures.value in
    task_stops c.args.limits.now (begins c.args.limits.now) (code_of c.args.code.now) c.requires.sound.0 c.requires.sound.1 c.requires.plain c.requires.in_range (begins_well c.args.limits.now c.requires.in_range) (side c.args.self.now) c.requires.stands
    c.args.call.now c.args.base c.requires.to c.requires.whole c.requires.none c.requires.place c.place-place.ensures.bytes c.place-place.ensures.calls c.in_ok-rec.rec of
    (g.Y.Yard.code c.args.yard.now) (g.Y.Yard.limits c.args.yard.now).task_units c.in_ok-bytes.bytes c.requires.ready.code_is (ap (λ (l : Limits). l.task_units) c.requires.ready.limits_are) is c.in-Err.answer c.in-Err.ensures.stops

pub write_back-requires-clause-live : goal.write_back-requires-clause-live
write_back-requires-clause-live g c =
    let same : c.add.new.self.memory ≡ c.args.self.now.memory.memory = ap (λ (j : Judged). j.memory) c.in_ok-add.ensures.added in
    subst (λ (m : Memory). all_of_window (is_live_byte m) (window c.plain-part.result) ≡ true) (sym same)
    (subst (λ (w : Window). all_of_window (is_live_byte c.args.self.now.memory.memory) w ≡ true) (sym c.plain-part.ensures.value)
    (call_live c.args.limits.now c.args.self.now.memory c.args.base c.requires.none))

pub write_back-requires-clause-whole : goal.write_back-requires-clause-whole
write_back-requires-clause-whole g c =
    let of : IsRecordOf c.in_ok-rec.rec (code_of c.args.code.now) c.args.call.now c.args.self.now.called (main_place c.args.self.now.memory) c.args.base =
    subst (λ p. IsRecordOf c.in_ok-rec.rec (code_of c.args.code.now) c.args.call.now c.args.self.now.called p c.args.base) c.place-place.ensures.value (c.in_ok-rec.ensures c.args.base c.plain-part.ensures.value) in
    let is = c.in_ok-bytes.ensures ∙ ap (bytes_of_window c.args.self.now.memory.memory) c.plain-part.ensures.value in
    let four =
    out_length c.args.limits.now (begins c.args.limits.now) (code_of c.args.code.now) c.requires.sound.0 c.requires.sound.1 c.requires.plain c.requires.in_range (begins_well c.args.limits.now c.requires.in_range) (side c.args.self.now) c.requires.stands
    c.args.call.now c.args.base c.requires.to c.requires.whole c.requires.none c.requires.place c.place-place.ensures.bytes c.place-place.ensures.calls c.in_ok-rec.rec of
    (g.Y.Yard.code c.args.yard.now) (g.Y.Yard.limits c.args.yard.now).task_units c.in_ok-bytes.bytes c.requires.ready.code_is (ap (λ (l : Limits). l.task_units) c.requires.ready.limits_are) is c.in-Ok.value c.in-Ok.ensures.value in
    ap length c.bytes-in-Ok.ensures ∙ four ∙ sym (ap window_length c.plain-part.ensures.value)

pub returns-in-Ok-clause-returns : goal.returns-in-Ok-clause-returns
returns-in-Ok-clause-returns g c =
    let of : IsRecordOf c.in_ok-rec.rec (code_of c.args.code.now) c.args.call.now c.args.self.now.called (main_place c.args.self.now.memory) c.args.base =
    subst (λ p. IsRecordOf c.in_ok-rec.rec (code_of c.args.code.now) c.args.call.now c.args.self.now.called p c.args.base) c.place-place.ensures.value (c.in_ok-rec.ensures c.args.base c.plain-part.ensures.value) in
    let is = c.in_ok-bytes.ensures ∙ ap (bytes_of_window c.args.self.now.memory.memory) c.plain-part.ensures.value in
    let written : Window → List ℕ → Judged = λ w b. record { memory = with_window c.args.self.now.memory.memory w b; objects = with_argument c.args.self.now.memory.objects (plain_argument c.args.base) } in
    let over : Judged → Judged = λ j. record { memory = with_window j.memory (window c.plain-part.result) c.bytes-in-Ok.result.now; objects = j.objects } in
    let memory_is : c.write_back.new.self ≡ judged_behind c.args.self.now.memory c.args.base c.in-Ok.value = c.write_back.ensures ∙ ap over c.in_ok-add.ensures.added ∙ ap₂ written c.plain-part.ensures.value c.bytes-in-Ok.ensures in
    let called_is : c.in-Some.next ≡ c.args.self.now.called + 1 = grind (arith, common_steps) in
    let new : Judged → ℕ → Side = λ j n. record { machine = c.args.self.now.machine.state; space = with_units j c.args.self.now.units; is_started = c.args.self.now.is_started; called = n } in
    task_returns c.args.limits.now (begins c.args.limits.now) (code_of c.args.code.now) c.requires.sound.0 c.requires.sound.1 c.requires.plain c.requires.in_range (begins_well c.args.limits.now c.requires.in_range) (side c.args.self.now) c.requires.stands
    c.args.call.now c.args.base c.requires.to c.requires.whole c.requires.none c.requires.place c.place-place.ensures.bytes c.place-place.ensures.calls c.in_ok-rec.rec of
    (g.Y.Yard.code c.args.yard.now) (g.Y.Yard.limits c.args.yard.now).task_units c.in_ok-bytes.bytes c.requires.ready.code_is (ap (λ (l : Limits). l.task_units) c.requires.ready.limits_are) is c.in-Ok.value _ c.in-Ok.ensures.value
    (ap₂ new memory_is called_is)

-- ---- the yard

pub returns-in-Ok-clause-ready : goal.returns-in-Ok-clause-ready
returns-in-Ok-clause-ready g c =
    let ready = c.requires.ready in
    let parts = (g.Y.Yard.state c.args.yard.now).parts in
    let next = (c.in_ok-rec.ensures c.args.base c.plain-part.ensures.value).number_is ∙ sym ready.many in
    let called_is : c.in-Some.next ≡ c.args.self.now.called + 1 = grind (arith, common_steps) in
    record {
      code_is = c.in-Ok.ensures.kept.0 ∙ ready.code_is;
      limits_are = c.in-Ok.ensures.kept.1 ∙ ready.limits_are;
      takes_calls = c.in-Ok.ensures.quiet.takes_calls;
      settled = c.in-Ok.ensures.quiet.settled;
      parts = subst AreOneByOne (sym c.in-Ok.ensures.parts) (one_more parts c.in_ok-rec.rec ready.parts next);
      many = ap length c.in-Ok.ensures.parts ∙ one_longer parts c.in_ok-rec.rec ready.parts next ∙ ap (λ n. n + 1) ready.many ∙ sym called_is;
    }

pub returns-in-Err-clause-left : goal.returns-in-Err-clause-left
returns-in-Err-clause-left g c =
    let ready = c.requires.ready in
    let next = (c.in_ok-rec.ensures c.args.base c.plain-part.ensures.value).number_is ∙ sym ready.many in
    let left = c.in-Err.ensures.left in
    record {
      code_is = c.in-Err.ensures.kept.0 ∙ ready.code_is;
      limits_are = c.in-Err.ensures.kept.1 ∙ ready.limits_are;
      settled = left.settled;
      parts = refused_parts (g.Y.Yard.state c.args.yard.now).parts c.in_ok-rec.rec ready.parts next (g.Y.Yard.state c.run_alone.new.yard).parts left.parts;
    }
