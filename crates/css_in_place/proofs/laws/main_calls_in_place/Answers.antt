use Rattle.css_in_place.proofs.MainCalls.{calls_placed, main_clear}
use Rattle.css_in_place.proofs.laws.main_calls_in_place.Goals as goal

pub returns : goal.returns
returns c = record {
  clear = λ code plans sound limits start in_range starts n. main_clear code limits start in_range starts plans sound n;
  placed = λ code plans sound limits start in_range starts n. calls_placed code limits start in_range starts plans sound n;
}
