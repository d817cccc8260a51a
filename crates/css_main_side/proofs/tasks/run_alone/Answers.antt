use Rattle.std.proofs.Common.{inl, inr, ◌≡◌, List, [], ◌∷◌, ◌++◌, ◌∙◌, ap, ℕ}
use Rattle.css_record.specs.declared.version.VersionName.TheVariants as names
use Rattle.css_yard.specs.Values.{Submit, AreValues}
use Rattle.css_yard.specs.Yards.{State, IfNotSettled, with_record, is_empty}
use Rattle.css_main_side.proofs.OneByOne.{closed_by}
use Rattle.css_main_side.proofs.Yards.{comes_alone, stops_alone}
use Rattle.css_main_side.proofs.tasks.run_alone.Goals as goal

pub returns-in-Some-clause-value : goal.returns-in-Some-clause-value
returns-in-Some-clause-value g c =
    let submitted = ap (λ (s : State). s.submits) c.in_default.ensures.submitted in
    let behind = ap (λ (ss : List Submit). ss ++ record { rec = c.args.rec; given = c.in_ok-given.given.items } ∷ []) c.requires.quiet.settled in
    let one = ap (λ (gs : List (List ℕ)). record { rec = c.args.rec; given = gs } ∷ []) c.in_ok-given.ensures in
    let submits : (g.Y.Yard.state c.submit.new.self).submits ≡ record { rec = c.args.rec; given = c.args.bytes ∷ [] } ∷ [] = submitted ∙ behind ∙ one in
    let kept = c.in_default.ensures.kept in
    let values : AreValues (g.Y.Yard.code c.submit.new.self) (g.Y.Yard.limits c.submit.new.self).task_units (g.Y.Yard.state c.submit.new.self).submits [] (names.Made c.args.rec.number 0 ∷ []) c.in-Ok.values.items = c.in-Ok.ensures.values in
    let of_one = rw (submits, kept.0, kept.1) at values in
    comes_alone (g.Y.Yard.code c.args.yard.now) (g.Y.Yard.limits c.args.yard.now) c.args.rec c.args.bytes c.requires.may c.in-Some.value c.in-Ok.values.items c.pop.new.self.items of_one c.in-Some.ensures.items

pub returns-in-Err-settle-clause-stops : goal.returns-in-Err-settle-clause-stops
returns-in-Err-settle-clause-stops g c =
    let submitted = ap (λ (s : State). s.submits) c.in_default.ensures.submitted in
    let behind = ap (λ (ss : List Submit). ss ++ record { rec = c.args.rec; given = c.in_ok-given.given.items } ∷ []) c.requires.quiet.settled in
    let one = ap (λ (gs : List (List ℕ)). record { rec = c.args.rec; given = gs } ∷ []) c.in_ok-given.ensures in
    let submits : (g.Y.Yard.state c.submit.new.self).submits ≡ record { rec = c.args.rec; given = c.args.bytes ∷ [] } ∷ [] = submitted ∙ behind ∙ one in
    let kept = c.in_default.ensures.kept in
    let left : IfNotSettled (g.Y.Yard.code c.submit.new.self) (g.Y.Yard.limits c.submit.new.self).task_units (g.Y.Yard.state c.submit.new.self) (g.Y.Yard.state c.settle.new.self) c.in-Err-settle.answer = c.in-Err-settle.ensures.refused in
    let of_one = rw (kept.0, kept.1) at left in
    stops_alone (g.Y.Yard.code c.args.yard.now) (g.Y.Yard.limits c.args.yard.now) c.args.rec c.args.bytes c.requires.may (g.Y.Yard.state c.submit.new.self) (g.Y.Yard.state c.settle.new.self) c.in-Err-settle.answer submits of_one

-- ---- what is left on the yard

pub returns-in-Some-clause-parts : goal.returns-in-Some-clause-parts
returns-in-Some-clause-parts g c =
    ap (λ (s : State). s.parts) c.in-Ok.ensures.settled
    ∙ ap (λ (s : State). s.parts) c.in_default.ensures.submitted
    ∙ ap (λ (ss : List Submit). with_record (g.Y.Yard.state c.args.yard.now).parts (is_empty ss) c.args.rec) c.requires.quiet.settled

pub returns-in-Err-settle-clause-left : goal.returns-in-Err-settle-clause-left
returns-in-Err-settle-clause-left g c =
    let closed = closed_by (g.Y.Yard.code c.submit.new.self) (g.Y.Yard.limits c.submit.new.self).task_units (g.Y.Yard.state c.submit.new.self) (g.Y.Yard.state c.settle.new.self) c.in-Err-settle.answer c.in-Err-settle.ensures.refused in
    record {
      settled = inl closed.0;
      parts = inr (closed.1 ∙ ap (λ (s : State). s.parts) c.in_default.ensures.submitted
          ∙ ap (λ (ss : List Submit). with_record (g.Y.Yard.state c.args.yard.now).parts (is_empty ss) c.args.rec) c.requires.quiet.settled);
    }
