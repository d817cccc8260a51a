use Rattle.std.proofs.Common.{◌≡◌, ◌∙◌, ◌∷◌, ◌++◌, [], ap, sym, map, bytes_eq, Some, None}
use Rattle.std.specs.Prelude.{if◌then◌else◌}
use Rattle.std.specs.List.{list_any}
use Rattle.std.proofs.lemmas.List.{map_push}
use Rattle.css_macros.specs.Numbers.{number_in}
use Rattle.css_macros.specs.NumberedWords.{words_of}
use Rattle.css_macros.proofs.Numbering.{position-mapped}
use Rattle.css_macros.proofs.Listing.{inserted}
use Rattle.css_macros.proofs.listed_token.number_of_word.Goals as goal

pub returns-in-Some-clause-number : goal.returns-in-Some-clause-number
returns-in-Some-clause-number c =
    sym (position-mapped (bytes_eq c.args.word.now) (λ k. k.items) c.args.words.now.keys) ∙ sym c.in-Some.ensures.index

pub returns-clause-grows : goal.returns-clause-grows
returns-clause-grows c =
    let keys = c.args.words.now.keys in
    let key = c.in_ok-from_slice.field-0 in
    let apart = ap (λ w. list_any (λ k. bytes_eq w k.items) keys) c.in_ok-from_slice.ensures.items ∙ sym c.in_default.ensures.found in
    let pushed = c.in_ok-number.ensures.keys ∙ ap (λ b. if b then keys else keys ++ key ∷ []) apart in
    (key.items ∷ [], ap (map (λ k. k.items)) pushed ∙ map_push (λ k. k.items) keys key)

pub returns-clause-number : goal.returns-clause-number
returns-clause-number c =
    let keys = c.args.words.now.keys in
    let key = c.in_ok-from_slice.field-0 in
    let apart = ap (λ w. list_any (λ k. bytes_eq w k.items) keys) c.in_ok-from_slice.ensures.items ∙ sym c.in_default.ensures.found in
    let pushed = c.in_ok-number.ensures.keys ∙ ap (λ b. if b then keys else keys ++ key ∷ []) apart in
    let none : number_in (words_of c.args.words.now) key.items ≡ None =
    ap (number_in (words_of c.args.words.now)) c.in_ok-from_slice.ensures.items
    ∙ sym (position-mapped (bytes_eq c.args.word.now) (λ k. k.items) keys) ∙ sym c.in_default.ensures.index in
    ap (λ w. number_in (words_of c.insert_full.new.self) w) (sym c.in_ok-from_slice.ensures.items)
    ∙ ap (λ ks. number_in (map (λ k. k.items) ks) key.items) pushed
    ∙ inserted (λ k. k.items) keys key none
    ∙ ap Some (sym c.in_ok-number.ensures.index)
