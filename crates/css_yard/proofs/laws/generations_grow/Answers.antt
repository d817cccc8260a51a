use Rattle.css_yard.specs.Values.{Submit}
use Rattle.css_yard.proofs.Generations as grow
use Rattle.css_yard.proofs.laws.generations_grow.Goals as goal

pub returns : goal.returns
returns c = record {
  none = grow.none_submitted;
  one_more = λ code limits submits r given are may. let s : Submit = record { rec = r; given = given } in grow.one_more_submitted code limits submits s are may;
}
