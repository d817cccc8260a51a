-- The code's parts (src/) as pieces.
use Rattle.std.specs.Prelude.{◌≡◌, ℕ}
use Rattle.css_blocks.specs.declared.part.Targets.{Targets}
use Rattle.css_blocks.specs.declared.part.Part as parts
use Rattle.css_blocks.specs.declared.part.Part.{Part, Row_of-Part, end_of-Part, more_of-Part}
use Rattle.css_blocks.specs.Pieces.{Piece, Skip, Then, Do, Choice, When, Loop, Catch, Exit, Unless, Invoke, Submit, Leave, Ways}
use Rattle.css_blocks.specs.Layout.{size}

abbrev mutual
  pub shape : Part → Piece
  shape (parts.Row' s ps) = shapes ps
  shape (parts.Do line op) = Do line op
  shape (parts.Choice' line k p a m q b) = Choice line (shape a) (shape b)
  shape (parts.When' line k p a) = When line (shape a)
  shape (parts.Loop' line k p a m q b) = Loop line (shape a) (shape b)
  shape (parts.Catch' way k p a) = Catch way (shape a)
  shape (parts.Exit line way) = Exit line way
  shape (parts.Unless line way) = Unless line way
  shape (parts.Invoke line f count) = Invoke line f count
  shape (parts.Submit line f count dims) = Submit line f count dims
  shape (parts.Leave line) = Leave line

  pub shapes : {m : _} → Row_of-Part m → Piece
  shapes end_of-Part = Skip
  shapes (more_of-Part p ps) = Then (shape p) (shapes ps)

-- the sizes inside are right
abbrev mutual
  pub IsSized : Part → Type 0
  IsSized (parts.Row' s ps) = AreSized ps
  IsSized (parts.Choice' line k p a m q b) = (k ≡ size (shape a)) × IsSized a × (m ≡ size (shape b)) × IsSized b
  IsSized (parts.When' line k p a) = (k ≡ size (shape a)) × IsSized a
  IsSized (parts.Loop' line k p a m q b) = (k ≡ size (shape a)) × IsSized a × (m ≡ size (shape b)) × IsSized b
  IsSized (parts.Catch' way k p a) = (k ≡ size (shape a)) × IsSized a
  IsSized p = Unit {0}

  pub AreSized : {m : _} → Row_of-Part m → Type 0
  AreSized end_of-Part = Unit {0}
  AreSized (more_of-Part p ps) = IsSized p × AreSized ps

abbrev pub ways_of : Targets → Ways ℕ
ways_of t = record { breaks = t.breaks; continues = t.continues }
