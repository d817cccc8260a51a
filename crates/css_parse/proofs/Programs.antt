-- Items one behind another, and where they end.
use Rattle.std.proofs.Common.{◌≡◌, ℕ, ◌+◌, ◌<◌, ◌≤◌, List, [], ◌∷◌, ◌++◌, length, refl, sym, ap, ◌∙◌, subst, arith, append-nil, append_assoc}
use Rattle.std.proofs.lemmas.List.{length-append}
use Rattle.css_base.specs.Tokens.{Lexeme}
use Rattle.css_tree.specs.Syntax.{Item, Tree}
use Rattle.css_tree.specs.TokenParts.{line_of}
use Rattle.css_parse.specs.Refusals.{Spells, IsUnspelledAt}
use Rattle.css_parse.specs.ItemReadings.{ReadsItem, ReadsItems}
use Rattle.css_parse.proofs.OneItem.{one_item}
use Rattle.css_parse.proofs.Sound.{SpelledBefore, items_spelled}
use Rattle.css_parse.proofs.Complete.{items_read}

-- Items were read. What is read here goes on them, and so does what is read from the front on and passes here.
pub record AreItemsSoFar (ts : List Lexeme) (done : List Item) (here : List Lexeme) : Type 0 where
  pub more : (xs : List Item) (rest : List Lexeme) → ReadsItems here xs rest → ReadsItems ts (done ++ xs) rest
  pub left : (xs : List Item) (rest : List Lexeme) → ReadsItems ts xs rest → length rest < length here → (ys : List Item) × ReadsItems here ys rest

pub no_items_yet : (ts : List Lexeme) → AreItemsSoFar ts [] ts
no_items_yet ts = record { more = λ xs rest r. r; left = λ xs rest r short. (xs, r) }

pub one_more_item : (ts : List Lexeme) (done : List Item) (here next : List Lexeme) (i : Item) → AreItemsSoFar ts done here → ReadsItem 500 here i next → length next < length here → AreItemsSoFar ts (done ++ i ∷ []) next
one_more_item ts done here next i so r shorter = record {
  more = λ xs rest more. subst (λ l. ReadsItems ts l rest) (sym (append_assoc done (i ∷ []) xs)) (so.more (i ∷ xs) rest (next, r, more));
  left = λ xs rest more short. (let l = so.left xs rest more (omega arith) in drop l.0 rest l.1 short);
}
  where
    drop : (xs : List Item) (rest : List Lexeme) → ReadsItems here xs rest → length rest < length next → (ys : List Item) × ReadsItems next ys rest
    drop [] rest e short = (let l = ap length e in absurd (omega arith))
    drop (x ∷ xs) rest (next', r', more) short = (xs, subst (λ l. ReadsItems l xs rest) (one_item 500 here x i r' r).1 more)

done_spelled : (ts : List Lexeme) (done : List Item) (here : List Lexeme) → AreItemsSoFar ts done here → SpelledBefore ts done here
done_spelled ts done here so = items_spelled done ts here (subst (λ l. ReadsItems ts l here) (append-nil done) (so.more [] here refl))

pub all_spelled : (ts : List Lexeme) (done : List Item) (here : List Lexeme) → AreItemsSoFar ts done here → here ≡ [] → Spells ts done
all_spelled ts done here so none =
    let s = done_spelled ts done here so in
    subst (λ l. Spells l done) (sym (s.parts.parts ∙ ap (λ l. s.front ++ l) none ∙ append-nil s.front)) s.spells

pub unspelled : (ts : List Lexeme) (done : List Item) (here : List Lexeme) (t : Lexeme) (behind : List Lexeme) (line : ℕ) → AreItemsSoFar ts done here → here ≡ t ∷ behind → line ≡ line_of t
    → ((i : Item) (next : List Lexeme) → ReadsItem 500 here i next → ⊥) → IsUnspelledAt ts line
unspelled ts done here t behind line so is line_is none =
    let s = done_spelled ts done here so in
    record {
      front = s.front;
      token = t;
      rest = behind;
      parts = s.parts.parts ∙ ap (λ l. s.front ++ l) is;
      tree = done;
      spells = s.spells;
      longest = λ more rest other e spells. longest s more rest other e spells;
      line_is = line_is;
    }
  where
    first : (ys : List Item) (rest : List Lexeme) → ReadsItems here ys rest → length rest < length here → ⊥
    first [] rest e short = (let l = ap length e in absurd (omega arith))
    first (i ∷ ys) rest (next, r, more) short = none i next r

    beyond : (more rest : List Lexeme) (other : Tree) → ts ≡ more ++ rest → Spells more other → length rest < length here → ⊥
    beyond more rest other e spells short =
        let left = so.left other rest (subst (λ l. ReadsItems l other rest) (sym e) (items_read other more rest spells)) short in
        first left.0 rest left.1 short

    split : (n m : ℕ) → (n < m → ⊥) → m ≤ n
    split n m other = grind arith

    longest : (s : SpelledBefore ts done here) (more rest : List Lexeme) (other : Tree) → ts ≡ more ++ rest → Spells more other → length more ≤ length s.front
    longest s more rest other e spells =
        let far = split (length rest) (length here) (λ short. beyond more rest other e spells short) in
        let sizes = ap length (sym s.parts.parts ∙ e) in
        omega (arith, length-append s.front here, length-append more rest)
