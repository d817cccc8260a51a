use Rattle.std.proofs.Common.{◌≡◌, ◌+◌, false}
use Rattle.css_seen.proofs.Lasting.{still, still_lasts}
use Rattle.css_history.specs.Histories.{maker, submits, Ended, standing, held, is_closed, has_starved}
use Rattle.css_history.specs.Rules.{IsSubmit}
use Rattle.css_history.specs.Bodies.{IsFound}
use Rattle.css_history.specs.Legal.{MayFollow}
use Rattle.css_history.specs.Seats.{AreInTurn, MayTell}
use Rattle.css_history.proofs.Standings.{ended_lasts}
use Rattle.css_history.proofs.Facts.{holds_stays, fed_stays, submits_stay, open_stays, submit_lasts, found_lasts, in_turn_lasts, may_tell_stays, taken, rest}
use Rattle.css_history.proofs.laws.facts_remain.Goals as goal

pub returns : goal.returns
returns c = λ b. record {
  holds = λ w numbers. still maker (MayFollow b) (w + 1) (λ log. held w log ≡ numbers) (holds_stays b w numbers);
  may_tell = λ w n end. still maker (MayFollow b) (w + 1) (λ log. MayTell b log w n end) (may_tell_stays b w n end);
  well_fed = λ w. still maker (MayFollow b) (w + 1) (λ log. has_starved w log ≡ false) (fed_stays b w);
  submitted = λ tasks. still maker (MayFollow b) 0 (λ log. submits log ≡ tasks) (submits_stay b tasks);
  is_open = still maker (MayFollow b) 0 (λ log. is_closed log ≡ false) (open_stays b);
  is_submit = λ seat n s. still_lasts maker (MayFollow b) seat (λ log. IsSubmit log n s) (submit_lasts b n s);
  has_ended = λ seat n end. still_lasts maker (MayFollow b) seat (λ log. standing n log ≡ Ended end) (ended_lasts b n end);
  is_found = λ seat given version bytes. still_lasts maker (MayFollow b) seat (λ log. IsFound log given version bytes) (found_lasts b given version bytes);
  in_turn = λ seat before numbers. still_lasts maker (MayFollow b) seat (λ log. AreInTurn log before numbers) (in_turn_lasts b before numbers);
  taken = taken b;
  rest = λ log w n outs numbers was may are. rest b log w n outs was may numbers are;
}
