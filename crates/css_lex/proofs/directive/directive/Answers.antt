use Rattle.std.proofs.Common.{◌≡◌, ◌<◌, ◌∙◌, sym, ap, subst, length}
use Rattle.css_lexemes.specs.declared.line_kind.LineKind.TheVariants as kinds
use Rattle.css_lexemes.specs.Source.{bytes_of}
use Rattle.css_lexemes.specs.LineKinds.{line_kind}
use Rattle.css_lex.proofs.LineBreaches.{all_inside}
use Rattle.css_lex.proofs.Hashes.{blanks, has_hash, hash_is}
use Rattle.css_lex.proofs.directive.directive.Goals as goal

pub line_end-end-requires : goal.line_end-end-requires
line_end-end-requires c = all_inside 0 (length c.args.numbered.now.text.now) c.args.line.now.source.now c.requires.between

pub token-requires-clause-place : goal.token-requires-clause-place
token-requires-clause-place c =
    let text = c.args.numbered.now.text.now in
    let line = c.args.line.now in
    let other : line_kind (bytes_of line.source.now) ≡ kinds.Text → ⊥ = λ e. c.requires.kind (ap line_kind line.same ∙ e) in
    subst (λ n. n < length text) (sym (c.hash_place-place.ensures ∙ hash_is line.source.now other))
    (all_inside 0 (length text) line.source.now c.requires.between (blanks line.source.now) (record { byte = 0; place = 0 }) (has_hash line.source.now other).inside)
