-- Whether a byte is left that a task has yet to write.
use Rattle.std.proofs.Common.{◌≡◌, ℕ, ◌+◌, ◌≤◌, Bool, true, false, List, length, get_or, Option, Some, None, inl, inr, refl, ◌∙◌}
use Rattle.std.proofs.lemmas.Bool.{cases_lt}
use Rattle.std.proofs.lemmas.Option.{slice_get-get_or}
use Rattle.css_semantics.specs.Tasks.{Use}
use Rattle.css_task.specs.OffsetSets.{has_bit}
use Rattle.css_task.specs.Cells.{addresses, cell, is_set, room, Kept}
use Rattle.css_task.specs.Keeping.{AreKept, kept}
use Rattle.css_task.specs.Returned.{IsWritten, IsUnwritten}
use Rattle.css_task.proofs.Found.{listed_at}
use Rattle.css_task.proofs.KeptRooms.{cell_at}
use Rattle.css_task.proofs.CellAccess.{flag_at}

never : (b : Bool) → b ≡ true → b ≡ false → ⊥
never true is is' = absurd (cc)
never false is is' = absurd (cc)

module _ (uses : List Use) (end : ℕ) (stack frames bytes words : List ℕ) (are : AreKept uses end bytes words) (short : length stack ≤ 16384) (high : 16384 ≤ end) where
  abbrev m : Kept
  m = kept uses end stack frames bytes words

  none_by : ((k : ℕ) → has_bit words k ≡ false) → (at : ℕ) (o : Option ℕ) → cell (addresses uses) at ≡ o → is_set m.unwritten o ≡ false
  none_by none at None is = refl
  none_by none at (Some k) is = listed_at (has_bit words) 0 (addresses uses) k at (cell_at (addresses uses) at k is) ∙ none (0 + k)

  pub written : ((k : ℕ) → has_bit words k ≡ false) → IsWritten (room m)
  written none at = none_by none at (cell (addresses uses) at) refl

  pub unwritten : (k : ℕ) → has_bit words k ≡ true → IsUnwritten (room m)
  unwritten k has =
      elim (cases_lt k (length (addresses uses))) [
        | inl below ↦
            let at = get_or (addresses uses) k 0 in
            (at, flag_at uses end stack frames bytes words are short high k at (slice_get-get_or (addresses uses) k 0 below) ∙ has)
        | inr above ↦ absurd (never (has_bit words k) has (are.none k above))
      ]
