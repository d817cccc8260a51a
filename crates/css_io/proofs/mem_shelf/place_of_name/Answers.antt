use Rattle.std.proofs.Common.{rules, tests, string_bytes}
use Rattle.std.specs.Str.{bytes_eq}
use Rattle.std.proofs.lemmas.Iterator.{YieldsList-from_slice}
use Rattle.std.proofs.lemmas.Iterator.Search.{position_from_yields_List}
use Rattle.css_io.proofs.Files.{place_of-files}
use Rattle.css_io.proofs.mem_shelf.place_of_name.Goals as goal

pub returns : goal.returns
returns c =
    let name = c.args.name.now in
    rw place_of-files
    (position_from_yields_List (λ file. bytes_eq (string_bytes file.0) name) _ _ _ c.position.ensures.ran (YieldsList-from_slice c.args.files.now cc) (λ x b q k. search (rules, tests)))
