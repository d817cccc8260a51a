-- How far a yard has come, as it is kept.
use Rattle.std.specs.Prelude.{true, Some}
use Rattle.css_yard.specs.declared.answer.YardAnswer.{YardAnswer}
use Rattle.css_yard.specs.declared.answer.YardAnswer.TheVariants as answers
use Rattle.css_yard.specs.declared.standing.Phase.{Phase}
use Rattle.css_yard.specs.declared.standing.Phase.TheVariants as phases
use Rattle.css_yard.specs.declared.standing.Standing.{Standing}

abbrev pub used : Standing → Standing
used s = record s { is_used = true }

-- behind a settle that gives its answer
abbrev pub settled_phase : Phase → Phase
settled_phase phases.Open = phases.Open
settled_phase phases.Refused = phases.Closed
settled_phase phases.Closed = phases.Closed

abbrev pub settled : Standing → Standing
settled s = record s { phase = settled_phase s.phase; is_used = true }

abbrev pub refused_by : Standing → YardAnswer → Standing
refused_by s (answers.Stopped task stop line) = record s { phase = phases.Refused; is_used = true }
refused_by s answers.NoMemory = record s { phase = phases.Refused; is_used = true; is_starved = true }

abbrev pub closed_by : Standing → YardAnswer → Standing
closed_by s (answers.Stopped task stop line) =
    record s { phase = phases.Closed; is_used = true; stopped = Some (record { task = task; stop = stop; line = line }) }
closed_by s answers.NoMemory = record s { phase = phases.Closed; is_used = true; is_starved = true }
