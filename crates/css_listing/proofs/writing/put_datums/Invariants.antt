use Rattle.std.proofs.Common.{◌≡◌, ◌++◌, map, take}
use Rattle.std.specs.List.{flat_map}
use Rattle.css_listing.specs.declared.listing_line.ListingLine.TheVariants as lines
use Rattle.css_listing.specs.Lines.{line_text}
use Rattle.css_listing.proofs.writing.put_datums.Given as goal

abbrev pub invariant-loop-datum : goal.invariant-loop-datum
invariant-loop-datum l = l.text.items ≡ l.fn.text.items ++ flat_map line_text (map lines.Data (take l.datum-index l.datums))
