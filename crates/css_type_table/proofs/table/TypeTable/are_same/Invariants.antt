use Rattle.std.proofs.Common.{◌≡◌, map, drop}
use Rattle.css_types.specs.Types.{are_same}
use Rattle.css_type_table.specs.Flat.{ctype}
use Rattle.css_type_table.proofs.table.TypeTable.are_same.Given as goal

abbrev pub invariant-loop-a : goal.invariant-loop-a
invariant-loop-a l =
    are_same (map (ctype l.self) (drop l.a-index l.all)) (map (ctype l.self) l.rest) ≡ are_same (map (ctype l.fn.self) l.fn.all) (map (ctype l.fn.self) l.fn.others)
