-- The records of all submits, parted by settles.
use Rattle.std.proofs.Common.{◌≡◌, List, [], ◌∷◌, ◌++◌, refl}
use Rattle.css_record.specs.declared.task_record.TaskRecord.{TaskRecord}
use Rattle.css_yard.specs.declared.note.Note.{Note}
use Rattle.css_yard.specs.Yards.{with_record}
use Rattle.css_yard.specs.InOrders.{parts_behind}

-- one more note
pub parts_more : (parts : List (List TaskRecord)) (notes : List Note) (n : Note) → parts_behind parts (notes ++ n ∷ []) ≡ with_record (parts_behind parts notes) n.is_first.value n.rec.value
parts_more parts [] n = refl
parts_more parts (m ∷ notes) n = parts_more (with_record parts m.is_first.value m.rec.value) notes n
