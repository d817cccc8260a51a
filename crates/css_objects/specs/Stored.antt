-- What main's stores take out of the table.
use Rattle.std.specs.Prelude.{◌≡◌, ◌≤◌, ℕ, true, false, not, ◌||◌, List, filter, slice_get, Option, Some, IfSome}
use Rattle.std.specs.List.{remove}
use Rattle.css_semantics.specs.Tasks.{has_byte}
use Rattle.css_semantics.specs.Pending.{some_from, without_stored}
use Rattle.css_semantics.specs.Rules.{meets}
use Rattle.css_record.specs.declared.window.Window.{Window}
use Rattle.css_record.specs.Windows.{window}
use Rattle.css_objects.specs.declared.ordered.Found.{Found}
use Rattle.css_objects.specs.declared.search.Place.{Place}
use Rattle.css_objects.specs.declared.search.Place.TheVariants as places
use Rattle.css_objects.specs.Table.{Entry, Table, all_entries, objects, is_written}

-- without the objects that are only read and have one of so many bytes from an address
abbrev pub without_read : List Entry → (address count : ℕ) → List Entry
without_read es address count = filter (λ e. is_written e || not (some_from (has_byte (window e.window)) address count)) es

-- no object has one of so many bytes from an address, and the table stays
pub record IsUntouched (old : Table) (address count : ℕ) (new : Table) : Type 0 where
  pub none : meets (λ o. true) (objects old) address count ≡ false
  pub all : without_stored (objects old) address count ≡ objects old
  pub stays : new ≡ old

-- The object of this window, which is only read and has one of the bytes, is taken away. Of the objects that have one it has the
-- greatest base.
pub record IsTaken (old : Table) (address count : ℕ) (new : Table) (w : Window) : Type 0 where
  pub place : ℕ
  pub entry : Entry
  pub at : slice_get (all_entries old) place ≡ Some entry
  pub is : entry.window ≡ w
  pub read : is_written entry ≡ false
  pub meets : some_from (has_byte (window w)) address count ≡ true
  pub greatest : (i : ℕ) (e : Entry) → slice_get (all_entries old) i ≡ Some e → some_from (has_byte (window e.window)) address count ≡ true → e.window.base ≤ w.base
  pub rest : all_entries new ≡ remove (all_entries old) place

-- Of what was found among the windows of one row and among the others this is the one of greater base.
abbrev pub IsLater : (row block : Option Found) → Place → Type 0
IsLater row block (places.Row f) = (row ≡ Some f) × IfSome block (λ b. b.window.base ≤ f.window.base)
IsLater row block (places.Block f) = (block ≡ Some f) × IfSome row (λ r. r.window.base ≤ f.window.base)
