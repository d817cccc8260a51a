use Rattle.css_semantics.specs.Verdict.{judged_in}
use Rattle.css_semantics.proofs.Points.{verdict_images}
use Rattle.css_core.specs.Functions.{source}
use Rattle.css_core.proofs.ErasedVerdicts.{passed, passed_points}
use Rattle.css_core.proofs.laws.images_are_the_erased_programs.Goals as goal

pub returns-clause-passed : goal.returns-clause-passed
returns-clause-passed c limits start fuel enough n p newer tape quiet e few le = passed limits start n p quiet fuel enough newer tape e few le

pub returns-clause-images : goal.returns-clause-images
returns-clause-images c limits start fuel p v e = verdict_images start.memory (source (judged_in limits start) fuel p) v e

pub returns-clause-points : goal.returns-clause-points
returns-clause-points c limits start fuel enough n p quiet few le = passed_points limits start n p quiet fuel enough few le
