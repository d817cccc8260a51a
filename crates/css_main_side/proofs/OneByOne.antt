-- Parts of a yard's records, of which each is one record.
use Rattle.std.proofs.Common.{◌≡◌, ◌+◌, ℕ, true, false, List, [], ◌∷◌, ◌++◌, length, Some, ◌⊎◌, inl, inr, refl, sym, ◌∙◌, ap, subst, arith}
use Rattle.std.specs.List.{slice_get}
use Rattle.std.proofs.lemmas.List.{length-append}
use Rattle.css_base.specs.declared.limits.Limits.{Limits}
use Rattle.css_record.specs.declared.task_record.TaskRecord.{TaskRecord}
use Rattle.css_vm.specs.declared.code.MarkKind.{MarkKind}
use Rattle.css_vm.specs.declared.code.MarkKind.TheVariants as marks
use Rattle.css_vm.specs.Code.{Code}
use Rattle.css_yard.specs.Yards.{State, Open, Closed, IfNotSettled, with_record, fresh}
use Rattle.css_yard.specs.declared.answer.YardAnswer.{YardAnswer}
use Rattle.css_yard.specs.declared.answer.YardAnswer.TheVariants as answers
use Rattle.css_yard.proofs.Lists.{last_or_before}
use Rattle.css_main_side.specs.Alone.{HasRefused}
use Rattle.css_main_side.specs.Events.{Marked}
use Rattle.css_main_side.specs.Playing.{AreOneByOne, IsReady, IsLeft, Side}

-- the first record of a generation is a part of its own, behind the others
pub part_behind : (parts : List (List TaskRecord)) (r : TaskRecord) → with_record parts true r ≡ parts ++ (r ∷ []) ∷ []
part_behind [] r = refl
part_behind (part ∷ []) r = refl
part_behind (part ∷ next ∷ parts) r = ap (λ ps. part ∷ ps) (part_behind (next ∷ parts) r)

pub none_yet : AreOneByOne []
none_yet k part is = cc

module _ (parts : List (List TaskRecord)) (r : TaskRecord) (are : AreOneByOne parts) (next : r.number ≡ length parts) where
  at_place : (k : ℕ) (part : List TaskRecord) → ((slice_get parts k ≡ Some part) ⊎ ((k ≡ length parts) × (r ∷ [] ≡ part))) → (x : TaskRecord) × (part ≡ x ∷ []) × (x.number ≡ k)
  at_place k part (inl before) = are k part before
  at_place k part (inr (last, is)) = (r, sym is, next ∙ sym last)

  pub one_more : AreOneByOne (with_record parts true r)
  one_more k part is = at_place k part (last_or_before parts (r ∷ []) k part (ap (λ ps. slice_get ps k) (sym (part_behind parts r)) ∙ is))

  pub one_longer : length (with_record parts true r) ≡ length parts + 1
  one_longer = ap length (part_behind parts r) ∙ length-append parts ((r ∷ []) ∷ [])

  pub refused_parts : (new : List (List TaskRecord)) → (new ≡ parts) ⊎ (new ≡ with_record parts true r) → AreOneByOne new
  refused_parts new (inl is) = subst AreOneByOne (sym is) are
  refused_parts new (inr is) = subst AreOneByOne (sym is) one_more

module _ (code : Code) (limits : Limits) (its_code : Code) (its_limits : Limits) where
  -- a yard that is ready may be left
  pub left_ready : (called : ℕ) (state : State) → IsReady code limits called its_code its_limits state → IsLeft code limits its_code its_limits state
  left_ready called state ready = record {
    code_is = ready.code_is;
    limits_are = ready.limits_are;
    settled = inr ready.settled;
    parts = ready.parts;
  }

  pub left_fresh : (state : State) → its_code ≡ code → its_limits ≡ limits → state ≡ fresh → IsLeft code limits its_code its_limits state
  left_fresh state code_is limits_are is = record {
    code_is = code_is;
    limits_are = limits_are;
    settled = inr (ap (λ (s : State). s.submits) is);
    parts = subst (λ (s : State). AreOneByOne s.parts) (sym is) none_yet;
  }

-- what a settle leaves that is refused
pub closed_by : (code : Code) (units : ℕ) (old new : State) (answer : YardAnswer) → IfNotSettled code units old new answer → (new.phase ≡ Closed) × (new.parts ≡ old.parts)
closed_by code units old new (answers.Stopped task stop line) (first, is) = (ap (λ (s : State). s.phase) is, ap (λ (s : State). s.parts) is)
closed_by code units old new answers.NoMemory is = (ap (λ (s : State). s.phase) is, ap (λ (s : State). s.parts) is)

-- a mark calls no task
pub marked_called : (kind : MarkKind) (old new : Side) → Marked kind old new → new.called ≡ old.called
marked_called marks.Started old new is = ap (λ (x : Side). x.called) is
marked_called marks.Start old new is = ap (λ (x : Side). x.called) is.1
marked_called marks.Finish old new is = ap (λ (x : Side). x.called) is.1
marked_called marks.Barrier old new is = ap (λ (x : Side). x.called) is
