use Rattle.std.proofs.Common.{◌∙◌, ◌++◌, ◌∷◌, [], sym, ap, length, arith, append_assoc}
use Rattle.std.specs.Vec.Iter.{into_iter_items}
use Rattle.std.proofs.lemmas.List.{map_push}
use Rattle.css_macros.specs.MacroTokens.{plain_kind, plain_kinds}
use Rattle.css_macros.specs.ListedTokens.{listed_kind, listed_kinds}
use Rattle.css_macros.specs.NumberedWords.{words_of}
use Rattle.css_macros.proofs.Listing.{listed-pushed, grows-again}
use Rattle.css_macros.proofs.listed_token.listed_tokens.Goals as goal

pub loop-token-preserved : goal.loop-token-preserved
loop-token-preserved c =
    let h = c.loop-token.invariant in
    let token = c.in-Some.token in
    let rest = plain_kinds (into_iter_items c.next.new.self) in
    let made = c.in_ok-listed_token.field-0 in
    let pushed = ap listed_kinds c.in_ok-push.ensures.items ∙ map_push listed_kind c.loop-token.listed.items made in
    let more = c.in_ok-listed_token.ensures.grows in
    record {
      grows = grows-again c.args.words.now c.loop-token.words c.listed_token.new.words h.grows more;
      listed = listed-pushed (words_of c.loop-token.words) more.0 (words_of c.listed_token.new.words) c.loop-token.listed.items c.push.new.self.items made
          more.1 c.in_ok-push.ensures.items h.listed c.in_ok-listed_token.ensures.listed;
      kinds =
          h.kinds ∙ ap (λ items. listed_kinds c.loop-token.listed.items ++ plain_kinds items) c.in-Some.ensures.items
          ∙ sym (append_assoc (listed_kinds c.loop-token.listed.items) (plain_kind token ∷ []) rest)
          ∙ ap (λ k. (listed_kinds c.loop-token.listed.items ++ k ∷ []) ++ rest) (sym c.in_ok-listed_token.ensures.kind)
          ∙ ap (λ ks. ks ++ rest) (sym pushed);
      size = let l = c.in-Some.ensures.len in let s = ap length c.in-Some.ensures.items in let z = h.size in omega (arith, l, z, s);
    }
