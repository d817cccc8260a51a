use Rattle.std.proofs.Common.{◌≡◌, ◌++◌, map, take}
use Rattle.std.specs.List.{flat_map}
use Rattle.css_listing.specs.declared.listing_line.ListingLine.TheVariants as lines
use Rattle.css_listing.specs.Lines.{line_text}
use Rattle.css_listing.proofs.writing.put_instrs.Given as goal

abbrev pub invariant-loop-instr : goal.invariant-loop-instr
invariant-loop-instr l = l.text.items ≡ l.fn.text.items ++ flat_map line_text (map lines.Instr (take l.instr-index l.instrs))
