-- Pieces that are gathered one behind another.
use Rattle.std.proofs.Common.{◌≡◌, List, [], ◌∷◌, ◌++◌, Option, Some, None, refl, sym, ap, append_assoc, append-nil}
use Rattle.css_core.specs.Core.{Piece}
use Rattle.css_types.specs.Formats.{and_then}

-- some pieces before those of the rest, where it has any
abbrev pub put : List Piece → Option (List Piece) → Option (List Piece)
put done None = None
put done (Some more) = Some (done ++ more)

pub put-none : (x : Option (List Piece)) → x ≡ put [] x
put-none None = refl
put-none (Some more) = refl

pub put-more : (done : List Piece) (p : Piece) (x : Option (List Piece)) → put done (and_then p x) ≡ put (done ++ p ∷ []) x
put-more done p None = refl
put-more done p (Some more) = ap Some (sym (append_assoc done (p ∷ []) more))

pub put-all : (done : List Piece) → put done (Some []) ≡ Some done
put-all done = ap Some (append-nil done)
