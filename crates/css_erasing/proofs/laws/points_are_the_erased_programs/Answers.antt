use Rattle.css_semantics.proofs.PlainTapes.{same_output, same_memory}
use Rattle.css_semantics.specs.Verdict.{judged_in}
use Rattle.css_small_code.specs.Meaning.{source}
use Rattle.css_semantics.proofs.Points.{verdict_images}
use Rattle.css_erasing.proofs.Points.{passed, passed_points}
use Rattle.css_erasing.proofs.laws.points_are_the_erased_programs.Goals as goal

pub returns-clause-passed : goal.returns-clause-passed
returns-clause-passed c = passed

pub returns-clause-memory : goal.returns-clause-memory
returns-clause-memory c = same_memory

pub returns-clause-written : goal.returns-clause-written
returns-clause-written c = same_output

pub returns-clause-images : goal.returns-clause-images
returns-clause-images c limits start fuel p v e = verdict_images start.memory (source (judged_in limits start) fuel p) v e

pub returns-clause-points : goal.returns-clause-points
returns-clause-points c = passed_points
