use Rattle.std.proofs.Common.{◌≡◌, true, not, cond, [], ◌∷◌, ◌++◌, map, is_ok, sym, ap, ◌∙◌}
use Rattle.std.proofs.lemmas.List.{map-append}
use Rattle.css_core.specs.Shapes.{piece}
use Rattle.css_types.specs.Formats.{pieces_of}
use Rattle.css_types.proofs.Pieces.{put, put-more}
use Rattle.css_types.proofs.formats.pieces_of.Goals as goal

pub loop-rest-preserved : goal.loop-rest-preserved
loop-rest-preserved c =
    let old = c.loop-rest.all.items in
    let next = c.in-Some.next in
    let behind = pieces_of c.in-Some.behind.now in
    let ok : is_ok c.push.result ≡ true = c.is_err.ensures.negation ∙ ap not c.if-is_err.false in
    let items : c.push.new.self.items ≡ old ++ next ∷ [] = c.push.ensures.items ∙ ap (λ b. cond b (old ++ next ∷ []) old) ok in
    c.loop-rest.invariant ∙ ap (put (map piece old)) c.in-Some.ensures.found ∙ put-more (map piece old) (piece next) behind
    ∙ ap (λ l. put l behind) (sym (ap (map piece) items ∙ map-append piece old (next ∷ [])))
