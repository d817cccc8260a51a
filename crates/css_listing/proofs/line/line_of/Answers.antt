use Rattle.std.proofs.Common.{◌≡◌, ◌∙◌, List, ℕ, [], length, map, refl, sym, ap, arith, None, Bor}
use Rattle.std.proofs.lemmas.Bool.Decides.{nat_tests}
use Rattle.std.proofs.lemmas.List.{nil_from_length}
use Rattle.css_listing.specs.Reading.{line_of_words}
use Rattle.css_listing.proofs.line.line_of.Goals as goal

no_words : line_of_words [] ≡ None
unfolding line_of_words
no_words = refl

pub returns-then-is_empty : goal.returns-then-is_empty
returns-then-is_empty c =
    let counted : length c.in_ok-words.words.items ≡ 0 = grind (arith, nat_tests, c.is_empty.ensures, c.if-is_empty.true) in
    ap line_of_words (sym c.in_ok-words.ensures ∙ ap (λ (ws : List (Bor (List ℕ))). map (λ w. w.now) ws) (nil_from_length c.in_ok-words.words.items counted)) ∙ no_words
