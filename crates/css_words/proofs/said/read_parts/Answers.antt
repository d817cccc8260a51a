use Rattle.std.proofs.Common.{◌≡◌, ◌≢◌, ◌∙◌, List, [], ◌∷◌, ◌++◌, Some, codes, sym, ap, true≢false}
use Rattle.std.specs.Prelude.{flat_map}
use Rattle.std.proofs.lemmas.Slice.Eq.{bytes_eq-Decides}
use Rattle.std.proofs.lemmas.List.Elements.{All-push}
use Rattle.css_words.specs.Options.{Text}
use Rattle.css_words.specs.Items.{Given, IsItem, spelling, given_by, operand_by}
use Rattle.css_words.specs.KeptWords.{texts, given_in, operand_in}
use Rattle.css_words.proofs.Saying.{blocked, more_items, flat_map_push}
use Rattle.css_words.proofs.said.read_parts.Goals as goal

pub returns-then-eq-clause-ok : goal.returns-then-eq-clause-ok
returns-then-eq-clause-ok c =
    let so_far = c.loop-first.invariant in
    let others = texts c.in-Some.others.now in
    let dashes : c.as_str-first.result.now ≡ codes "--" = (bytes_eq-Decides c.as_str-first.result.now (codes "--")).0 (sym c.eq.ensures ∙ c.if-eq.true) in
    let rest : texts c.loop-first.rest.now ≡ codes "--" ∷ others =
    ap texts c.in-Some.ensures.cases.0 ∙ ap (λ (word : Text). word ∷ others) (sym c.as_str-first.ensures.value ∙ dashes) in
    record {
      items = so_far.0;
      behind = Some others;
      are_items = so_far.1;
      spelled = so_far.2 ∙ ap (λ (words : List Text). flat_map spelling so_far.0 ++ words) rest;
      given_are = c.in_ok-with_words.ensures.given ∙ so_far.3;
      operands_are = c.in_ok-with_words.ensures.operands ∙ ap (λ (words : List Text). words ++ others) so_far.4;
    }

pub returns-in_default-first_part-clause-refused : goal.returns-in_default-first_part-clause-refused
returns-in_default-first_part-clause-refused c =
    let so_far = c.loop-first.invariant in
    let others = texts c.in-Some.others.now in
    let rest : texts c.loop-first.rest.now ≡ c.as_str-first.result.now ∷ others =
    ap texts c.in-Some.ensures.cases.0 ∙ ap (λ (word : Text). word ∷ others) (sym c.as_str-first.ensures.value) in
    let other : c.as_str-first.result.now ≢ codes "--" =
    λ e. true≢false (sym (c.eq.ensures ∙ (bytes_eq-Decides c.as_str-first.result.now (codes "--")).1 e) ∙ c.if-eq.false) in
    λ _. blocked (texts c.args.words.now) so_far.0 c.as_str-first.result.now others so_far.1
    (so_far.2 ∙ ap (λ (words : List Text). flat_map spelling so_far.0 ++ words) rest) other c.in_default-first_part.ensures.found

pub loop-first-preserved : goal.loop-first-preserved
loop-first-preserved c =
    let so_far = c.loop-first.invariant in
    let others = texts c.in-Some.others.now in
    let rest : texts c.loop-first.rest.now ≡ c.as_str-first.result.now ∷ others =
    ap texts c.in-Some.ensures.cases.0 ∙ ap (λ (word : Text). word ∷ others) (sym c.as_str-first.ensures.value) in
    let found = c.in-Some-first_part.ensures.found in (
      so_far.0 ++ found.item ∷ [],
      All-push IsItem so_far.0 found.item so_far.1 found.begins.is_item,
      so_far.2 ∙ (ap (λ (words : List Text). flat_map spelling so_far.0 ++ words) (rest ∙ found.begins.spelled) ∙ more_items so_far.0 found.item (texts c.in-Some-first_part.behind.now)),
      c.in_ok-said.ensures.given
          ∙ (ap (λ (given : List Given). given ++ given_in c.in-Some-first_part.part) so_far.3
          ∙ (ap (λ (given : List Given). flat_map given_by so_far.0 ++ given) found.given ∙ sym (flat_map_push given_by so_far.0 found.item))),
      c.in_ok-said.ensures.operands
          ∙ (ap (λ (words : List Text). words ++ operand_in c.in-Some-first_part.part) so_far.4
          ∙ (ap (λ (words : List Text). flat_map operand_by so_far.0 ++ words) found.operand ∙ sym (flat_map_push operand_by so_far.0 found.item))),
    )
