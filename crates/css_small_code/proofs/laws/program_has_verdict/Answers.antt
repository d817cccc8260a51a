use Rattle.std.proofs.Common.{◌+◌}
use Rattle.css_semantics.specs.Verdict.{judged_in}
use Rattle.css_small_code.specs.Meaning.{source}
use Rattle.css_small_code.proofs.EnoughJudged.{judged_never_tired}
use Rattle.css_small_code.proofs.Verdicts.{has_verdict}
use Rattle.css_small_code.proofs.laws.program_has_verdict.Goals as goal

pub returns : goal.returns
returns c limits start p numbers =
    has_verdict start.memory (source (judged_in limits start) (limits.main_units + limits.task_units + 2) p) (judged_never_tired limits start p numbers)
