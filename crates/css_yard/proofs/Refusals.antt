-- What a refused call leaves.
use Rattle.std.proofs.Common.{ℕ, List, refl}
use Rattle.css_base.specs.declared.limits.Limits.{Limits}
use Rattle.css_vm.specs.Code.{Code}
use Rattle.css_yard.specs.declared.answer.YardAnswer.{YardAnswer}
use Rattle.css_yard.specs.declared.answer.YardAnswer.TheVariants as answers
use Rattle.css_yard.specs.declared.done.Done.{Done}
use Rattle.css_yard.specs.declared.note.Note.{Note}
use Rattle.css_yard.specs.declared.standing.Standing.{Standing}
use Rattle.css_yard.specs.Yards.{IfRefused, IfNotSettled}
use Rattle.css_yard.specs.Kept.{AreDone}
use Rattle.css_yard.specs.Standings.{refused_by, closed_by}
use Rattle.css_yard.specs.InOrders.{state_of, IsAnswer}
use Rattle.css_yard.proofs.Stops.{first_stop_is}

module _ (code : Code) (limits : Limits) (tasks : List Done) (done : AreDone code limits tasks) (notes : List Note) (s : Standing) where
  abbrev units : ℕ
  units = limits.task_units

  pub refused_is : (e : YardAnswer) → IsAnswer tasks e → IfRefused code units (state_of tasks notes s) (state_of tasks notes (refused_by s e)) e
  refused_is (answers.Stopped task stop line) is = (first_stop_is code limits tasks done (record { task = task; stop = stop; line = line }) is, refl)
  refused_is answers.NoMemory is = refl

  pub closed_is : (e : YardAnswer) → IsAnswer tasks e → IfNotSettled code units (state_of tasks notes s) (state_of tasks notes (closed_by s e)) e
  closed_is (answers.Stopped task stop line) is = (first_stop_is code limits tasks done (record { task = task; stop = stop; line = line }) is, refl)
  closed_is answers.NoMemory is = refl
