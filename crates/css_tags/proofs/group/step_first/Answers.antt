use Rattle.std.proofs.Common.{◌≡◌, ◌++◌, List, [], ◌∷◌, ap, subst, ◌∙◌, get_or, set}
use Rattle.std.specs.List.{flat_map, between}
use Rattle.std.proofs.lemmas.List.{set-get_or}
use Rattle.std.proofs.lemmas.List.Edits.{between_more}
use Rattle.std.proofs.lemmas.List.Concat.{flat_map-append}
use Rattle.css_tags.specs.Groups.{Moving, left_of}
use Rattle.css_tags.proofs.group.step_first.Goals as goal

pub loop-index-preserved : goal.loop-index-preserved
loop-index-preserved c =
    let i = c.loop-index.index in
    let m : Moving = c.index-transfers-index.result in
    let now : List Moving = c.args.transfers.now in
    let had : List Moving = c.loop-index.transfers in
    let same : c.step.new.self ≡ get_or had i m = c.if-step.ensures.unchanged in
    let none : left_of (get_or had i m) ≡ [] = c.if-step.ensures.none in
    let At : List Moving → Type 0 = λ ms. left_of (get_or ms i m) ≡ [] in
    let nothing : left_of (get_or now i m) ≡ [] = subst At c.loop-index.invariant.0 none in (
      ap (set had i) same ∙ set-get_or had i m ∙ c.loop-index.invariant.0,
      ap (flat_map left_of) (between_more now c.args.next i m c.loop-index.auto.index c.loop-index-test.true)
          ∙ flat_map-append left_of (between c.args.next i now) (get_or now i m ∷ [])
          ∙ ap (λ ps. ps ++ (left_of (get_or now i m) ++ [])) c.loop-index.invariant.1 ∙ ap (λ ps. ps ++ []) nothing,
    )
