-- Words say at most one thing.
use Rattle.std.proofs.Common.{◌≡◌, ◌∙◌, ◌≢◌, List, [], ◌∷◌, ◌++◌, Option, Some, None, codes, All, refl, sym, ap, ap₂}
use Rattle.std.specs.List.{flat_map, AllByRecursion}
use Rattle.std.proofs.lemmas.List.{append_assoc, append-nil}
use Rattle.std.proofs.lemmas.List.Elements.{recursion_from_All}
use Rattle.css_words.specs.Options.{Text}
use Rattle.css_words.specs.Items.{Item, Raised, Apart, Joined, Operand, IsItem, Given, Says, spelling, given_by, operand_by, tail_of, behind_of}
use Rattle.css_words.specs.KeptWords.{NothingStandsFirst, SayNothing}
use Rattle.css_words.proofs.Items.{one_item, dashes_alone}

no_words : (i : Item) (ps : List Text) → spelling i ++ ps ≡ [] → ⊥
no_words (Raised o) ps e = cc
no_words (Apart o v) ps e = cc
no_words (Joined o v) ps e = cc
no_words (Operand w) ps e = cc

-- an item doesn't stand where the items end
no_tail : (i : Item) (ps : List Text) (behind : Option (List Text)) → IsItem i → tail_of behind ≡ spelling i ++ ps → ⊥
no_tail i ps None is e = no_words i ps (sym e)
no_tail i ps (Some words) is e = dashes_alone words i ps (record { is_item = is; spelled = e })

-- Items that words begin with are the first of those that they consist of.
pub record GoOn (items all : List Item) (rest : List Text) (behind : Option (List Text)) : Type 0 where
  pub more : List Item
  pub are : AllByRecursion IsItem more
  pub all_are : all ≡ items ++ more
  pub spelled : rest ≡ flat_map spelling more ++ tail_of behind

go_on : (items all : List Item) (rest : List Text) (behind : Option (List Text)) → AllByRecursion IsItem items → AllByRecursion IsItem all
    → flat_map spelling items ++ rest ≡ flat_map spelling all ++ tail_of behind → GoOn items all rest behind
go_on [] all rest behind f g e = record { more = all; are = g; all_are = refl; spelled = e }
go_on (i ∷ is) [] rest behind f g e =
    absurd (no_tail i (flat_map spelling is ++ rest) behind f.0 (sym e ∙ append_assoc (spelling i) (flat_map spelling is) rest))
go_on (i ∷ is) (j ∷ js) rest behind f g e =
    let parts = one_item i j (flat_map spelling is ++ rest) (flat_map spelling js ++ tail_of behind) f.0 g.0
    (sym (append_assoc (spelling i) (flat_map spelling is) rest) ∙ (e ∙ append_assoc (spelling j) (flat_map spelling js) (tail_of behind))) in
    let next = go_on is js rest behind f.1 g.1 parts.1 in
    record { more = next.more; are = next.are; all_are = ap₂ (λ (x : Item) (xs : List Item). x ∷ xs) (sym parts.0) next.all_are; spelled = next.spelled }

same_tail : (a b : Option (List Text)) → tail_of a ≡ tail_of b → a ≡ b
same_tail None None e = refl
same_tail None (Some ws) e = cc
same_tail (Some vs) None e = cc
same_tail (Some vs) (Some ws) e = let same : vs ≡ ws = cc in ap Some same

ends : (items all : List Item) (a b : Option (List Text)) → GoOn items all (tail_of a) b → (all ≡ items) × (a ≡ b)
ends items all a b g = step g.more g.are g.all_are g.spelled
  where
    step : (more : List Item) → AllByRecursion IsItem more → all ≡ items ++ more → tail_of a ≡ flat_map spelling more ++ tail_of b → (all ≡ items) × (a ≡ b)
    step [] f is e = (is ∙ append-nil items, same_tail a b e)
    step (m ∷ ms) f is e = absurd (no_tail m (flat_map spelling ms ++ tail_of b) a f.0 (e ∙ append_assoc (spelling m) (flat_map spelling ms) (tail_of b)))

pub one_saying : (words : List Text) (g h : List Given) (os ps : List Text) → Says words g os → Says words h ps → (g ≡ h) × (os ≡ ps)
one_saying words g h os ps s t =
    let same = ends s.items t.items s.behind t.behind
    (go_on s.items t.items (tail_of s.behind) t.behind (recursion_from_All IsItem s.items s.are_items) (recursion_from_All IsItem t.items t.are_items) (sym s.spelled ∙ t.spelled)) in
    let items : t.items ≡ s.items = same.0 in
    let behind : s.behind ≡ t.behind = same.1 in (
      s.given_are ∙ (ap (flat_map given_by) (sym items) ∙ sym t.given_are),
      s.operands_are ∙ (ap₂ (λ (x : List Item) (y : Option (List Text)). flat_map operand_by x ++ behind_of y) (sym items) behind ∙ sym t.operands_are),
    )

-- Where items are followed by what is no item and not the end, the words say nothing.
pub blocked : (words : List Text) (items : List Item) (first : Text) (others : List Text) → All IsItem items
    → words ≡ flat_map spelling items ++ (first ∷ others) → first ≢ codes "--" → NothingStandsFirst (first ∷ others) → SayNothing words
blocked words items first others f is other none g os s =
    step (go_on items s.items (first ∷ others) s.behind (recursion_from_All IsItem items f) (recursion_from_All IsItem s.items s.are_items) (sym is ∙ s.spelled))
  where
    no_end : (behind : Option (List Text)) → first ∷ others ≡ tail_of behind → ⊥
    no_end None e = cc
    no_end (Some ws) e = let bad : first ≡ codes "--" = cc in other bad

    step2 : (more : List Item) → AllByRecursion IsItem more → first ∷ others ≡ flat_map spelling more ++ tail_of s.behind → ⊥
    step2 [] a e = no_end s.behind e
    step2 (m ∷ ms) a e = none m (flat_map spelling ms ++ tail_of s.behind) (record { is_item = a.0; spelled = e ∙ append_assoc (spelling m) (flat_map spelling ms) (tail_of s.behind) })

    step : GoOn items s.items (first ∷ others) s.behind → ⊥
    step n = step2 n.more n.are n.spelled

-- Items that are kept so far, and one more.
pub more_items : (items : List Item) (i : Item) (rest : List Text) → flat_map spelling items ++ (spelling i ++ rest) ≡ flat_map spelling (items ++ i ∷ []) ++ rest
more_items [] i rest = ap (λ (ws : List Text). ws ++ rest) (sym (append-nil (spelling i)))
more_items (j ∷ js) i rest =
    append_assoc (spelling j) (flat_map spelling js) (spelling i ++ rest)
    ∙ (ap (λ (ws : List Text). spelling j ++ ws) (more_items js i rest) ∙ sym (append_assoc (spelling j) (flat_map spelling (js ++ i ∷ [])) rest))

pub flat_map_push : {X A : Type 0} (f : X → List A) (xs : List X) (x : X) → flat_map f (xs ++ x ∷ []) ≡ flat_map f xs ++ f x
flat_map_push f [] x = append-nil (f x)
flat_map_push f (y ∷ ys) x = ap (λ (l : List _). f y ++ l) (flat_map_push f ys x) ∙ sym (append_assoc (f y) (flat_map f ys) (f x))
