use Rattle.std.proofs.Common.{◌≡◌, ◌∙◌, ◌<◌, ap, length, arith, slice_index}
use Rattle.std.specs.Prelude.{nat_eq}
use Rattle.std.proofs.lemmas.List.{length-map, get_or-map}
use Rattle.css_lexemes.specs.Longest.{pieces_of}
use Rattle.css_lex.specs.Reading.{behind_first}
use Rattle.css_lexemes.proofs.Erasing.{at_place}
use Rattle.css_lex.proofs.DefinitionWords.{opens_at}
use Rattle.css_lex.proofs.definition.is_function_like.Goals as goal

pub returns-then-behind-line : goal.returns-then-behind-line
returns-then-behind-line c =
    let line = c.args.line.now in
    let k = c.behind_solid-behind.result in
    let inside : k < length line.source.now = let l = ap length line.same ∙ length-map line.source.now (λ b. b.byte) in let t = c.if-behind-line.true in omega (arith, l, t) in
    let byte : slice_index line.bytes.now k ≡ (at_place line.source.now k).byte =
    ap (λ bs. slice_index bs k) line.same ∙ get_or-map (λ b. b.byte) line.source.now k (record { byte = 0; place = 0 }) 0 inside in
    ap (λ b. nat_eq b 40) byte
    ∙ opens_at line.source.now (behind_first (behind_first (pieces_of line.source.now))) k inside
    (c.behind_solid-behind.ensures.pieces ∙ ap behind_first (c.behind_solid-name.ensures.pieces ∙ ap behind_first c.behind_solid-word.ensures.pieces))
