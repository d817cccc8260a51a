use Rattle.std.proofs.Common.{◌≡◌, ◌∷◌, ◌++◌, map, take}
use Rattle.std.specs.List.{flat_map}
use Rattle.css_listing.specs.Lines.{width_word}
use Rattle.css_listing.proofs.writing.put_widths.Given as goal

abbrev pub invariant-loop-width : goal.invariant-loop-width
invariant-loop-width l = l.text.items ≡ l.fn.text.items ++ flat_map (λ w. 32 ∷ w) (map width_word (take l.width-index l.widths))
