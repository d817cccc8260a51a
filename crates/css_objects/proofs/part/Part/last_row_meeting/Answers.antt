use Rattle.std.proofs.Common.{List, sym, subst, ℕ, MatchOption}
use Rattle.css_record.specs.declared.window.Window.{Window}
use Rattle.css_objects.specs.Ordered.{IsSearch}
use Rattle.css_objects.specs.Found.{AreRows, NoneMeets, IsLastMeeting}
use Rattle.css_objects.proofs.Tables.{part_windows, part_length}
use Rattle.css_objects.proofs.part.Part.last_row_meeting.Goals as goal

pub last_meeting-requires : goal.last_meeting-requires
last_meeting-requires g c =
    let p = c.self.inside in
    subst AreRows (sym (part_windows p.windows p.versions.items c.args.self.now c.self.invariant c.self.view_is)) c.requires

pub returns-clause-found : goal.returns-clause-found
returns-clause-found g c =
    let p = c.self.inside in
    subst (λ (ws : List Window). MatchOption c.last_meeting.result (NoneMeets ws c.args.from c.args.to) (IsLastMeeting ws c.args.from c.args.to))
    (part_windows p.windows p.versions.items c.args.self.now c.self.invariant c.self.view_is) c.last_meeting.ensures.found

pub returns-clause-cost : goal.returns-clause-cost
returns-clause-cost g c =
    let p = c.self.inside in
    subst (λ (n : ℕ). IsSearch n c.args.steps.now c.last_meeting.new.steps)
    (part_length p.windows p.versions.items c.args.self.now c.self.invariant c.self.view_is) c.last_meeting.ensures.cost
