-- The pieces of a line that `puts` writes.
use Rattle.std.proofs.Common.{◌≡◌, ℕ, ◌+◌, ◌<◌, ◌≤◌, List, [], ◌∷◌, ◌++◌, length, map, drop, get_or, sym, ap, ◌∙◌, append_assoc}
use Rattle.std.proofs.lemmas.List.{drop_more, at_drop_all, map-append}
use Rattle.css_core.specs.declared.expression.Piece.{Piece}
use Rattle.css_core.specs.declared.expression.Piece.TheVariants as code
use Rattle.css_core.specs.Core as core
use Rattle.css_core.specs.Shapes.{piece}
use Rattle.css_core.specs.Elaboration.{lines_of}

-- what is done, before the pieces of the other bytes
abbrev pub with_rest : List Piece → List ℕ → List core.Piece
with_rest done bytes = map piece done ++ lines_of bytes

pub one_byte : (done : List Piece) (bytes : List ℕ) (i b : ℕ) → i < length bytes → b ≡ get_or bytes i b
    → with_rest (done ++ code.Literal b ∷ []) (drop (i + 1) bytes) ≡ with_rest done (drop i bytes)
one_byte done bytes i b within is =
    ap (λ l. l ++ lines_of (drop (i + 1) bytes)) (map-append piece done (code.Literal b ∷ []))
    ∙ append_assoc (map piece done) (core.Literal b ∷ []) (lines_of (drop (i + 1) bytes))
    ∙ ap (λ x. with_rest done (x ∷ drop (i + 1) bytes)) is
    ∙ ap (with_rest done) (sym (drop_more bytes i b within))

pub all_bytes : (done : List Piece) (bytes : List ℕ) (i : ℕ) → length bytes ≤ i → map piece (done ++ code.Literal 10 ∷ []) ≡ with_rest done (drop i bytes)
all_bytes done bytes i past = map-append piece done (code.Literal 10 ∷ []) ∙ sym (at_drop_all (with_rest done) bytes i past)
