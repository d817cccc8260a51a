-- First breaches.
use Rattle.std.proofs.Common.{◌≡◌, ℕ, ◌<◌, ◌≤◌, inl, inr, List, [], ◌∷◌, ◌++◌, refl, sym, ap, ◌∙◌, subst, arith, le_trans, append_assoc, All, Option, Some, None, cond}
use Rattle.std.specs.Prelude.{nat_lt}
use Rattle.std.proofs.lemmas.Bool.{lt-ltb, le-ltb, cond-true, cond-false, cases_Bool}
use Rattle.std.proofs.lemmas.List.Elements.{All-nil, All-cons, All-head, All-tail, All-append, All-weaker}
use Rattle.css_lex.specs.declared.breach.Breach.{Breach}
use Rattle.css_lex.specs.Refusals.{first_breach}
use Rattle.css_lex.specs.Found.{IsFirst}

-- All breaches are at a place or behind it, or behind it.
abbrev pub AllFrom : (place : ℕ) → List Breach → Type 0
AllFrom place breaches = All (λ c. place ≤ c.place) breaches

abbrev pub AllBehind : (place : ℕ) → List Breach → Type 0
AllBehind place breaches = All (λ c. place < c.place) breaches

pub behind_from : (place : ℕ) (breaches : List Breach) → AllBehind place breaches → AllFrom place breaches
behind_from place breaches all = All-weaker (λ c. place < c.place) (λ c. place ≤ c.place) (λ c h. omega (arith, h)) breaches all

pub from_more : (low high : ℕ) (breaches : List Breach) → low ≤ high → AllFrom high breaches → AllFrom low breaches
from_more low high breaches l all = All-weaker (λ c. high ≤ c.place) (λ c. low ≤ c.place) (λ c h. le_trans l h) breaches all

pub from_behind : (low high : ℕ) (breaches : List Breach) → low < high → AllFrom high breaches → AllBehind low breaches
from_behind low high breaches l all = All-weaker (λ c. high ≤ c.place) (λ c. low < c.place) (λ c h. omega (arith, l, h)) breaches all

pub in_front : (b : Breach) (breaches : List Breach) → AllFrom b.place breaches → IsFirst b (b ∷ breaches)
in_front b breaches all =
    record { front = []; back = breaches; parts = refl; later = All-nil (λ c. b.place < c.place); not_earlier = all }

pub before_others : (b : Breach) (breaches others : List Breach) → IsFirst b breaches → AllFrom b.place others → IsFirst b (breaches ++ others)
before_others b breaches others first all =
    record {
      front = first.front;
      back = first.back ++ others;
      parts = ap (λ r. r ++ others) first.parts ∙ append_assoc first.front (b ∷ first.back) others;
      later = first.later;
      not_earlier = All-append (λ c. b.place ≤ c.place) first.back others first.not_earlier all;
    }

pub behind_others : (b : Breach) (others breaches : List Breach) → AllBehind b.place others → IsFirst b breaches → IsFirst b (others ++ breaches)
behind_others b others breaches all first =
    record {
      front = others ++ first.front;
      back = first.back;
      parts = ap (λ r. others ++ r) first.parts ∙ sym (append_assoc others first.front (b ∷ first.back));
      later = All-append (λ c. b.place < c.place) others first.front all first.later;
      not_earlier = first.not_earlier;
    }

-- No breach is before the first.
pub all_from : (b : Breach) (breaches : List Breach) → IsFirst b breaches → AllFrom b.place breaches
all_from b breaches first =
    subst (AllFrom b.place) (sym first.parts)
    (All-append (λ c. b.place ≤ c.place) first.front (b ∷ first.back) (behind_from b.place first.front first.later)
    (All-cons (λ c. b.place ≤ c.place) b first.back (omega arith) first.not_earlier))

some_same : (e d : Breach) → Some e ≡ Some d → e ≡ d
some_same e d is = cc

-- One breach in front of others.
one_more : (e : Breach) (breaches : List Breach) (found : Option Breach) → first_breach breaches ≡ found
    → first_breach (e ∷ breaches) ≡ elim found [ None ↦ Some e | Some c ↦ cond (nat_lt c.place e.place) (Some c) (Some e) ]
one_more e breaches found is = ap (λ (f : Option Breach). elim f [ None ↦ Some e | Some c ↦ cond (nat_lt c.place e.place) (Some c) (Some e) ]) is

least_of : (place : ℕ) (e d : Breach) (breaches : List Breach) (found : Option Breach) → first_breach breaches ≡ found → place ≤ e.place
    → ((c : Breach) → found ≡ Some c → place ≤ c.place) → first_breach (e ∷ breaches) ≡ Some d → place ≤ d.place
least_of place e d breaches None is low rest first = subst (λ (x : Breach). place ≤ x.place) (some_same e d (sym (one_more e breaches None is) ∙ first)) low
least_of place e d breaches (Some c) is low rest first =
    elim (cases_Bool (nat_lt c.place e.place)) [
      | inl holds ↦
          subst (λ (x : Breach). place ≤ x.place)
          (some_same c d (sym (one_more e breaches (Some c) is ∙ cond-true (nat_lt c.place e.place) _ _ holds) ∙ first)) (rest c refl)
      | inr fails ↦
          subst (λ (x : Breach). place ≤ x.place)
          (some_same e d (sym (one_more e breaches (Some c) is ∙ cond-false (nat_lt c.place e.place) _ _ fails) ∙ first)) low
    ]

-- None is found before all.
pub least_in : (place : ℕ) (breaches : List Breach) (d : Breach) → AllFrom place breaches → first_breach breaches ≡ Some d → place ≤ d.place
least_in place [] d all is = absurd cc
least_in place (e ∷ breaches) d all is =
    let rest = All-tail (λ c. place ≤ c.place) e breaches all in
    least_of place e d breaches (first_breach breaches) refl (All-head (λ c. place ≤ c.place) e breaches all) (λ c found. least_in place breaches c rest found) is

leads_by : (b : Breach) (back : List Breach) (found : Option Breach) → first_breach back ≡ found → ((d : Breach) → found ≡ Some d → b.place ≤ d.place)
    → first_breach (b ∷ back) ≡ Some b
leads_by b back None is least = one_more b back None is
leads_by b back (Some d) is least = one_more b back (Some d) is ∙ cond-false (nat_lt d.place b.place) _ _ (le-ltb d.place b.place (least d refl))

leads : (b : Breach) (back : List Breach) → AllFrom b.place back → first_breach (b ∷ back) ≡ Some b
leads b back all = leads_by b back (first_breach back) refl (λ d found. least_in b.place back d all found)

first_of_parts : (b : Breach) (front back : List Breach) → AllBehind b.place front → AllFrom b.place back → first_breach (front ++ b ∷ back) ≡ Some b
first_of_parts b [] back later not_earlier = leads b back not_earlier
first_of_parts b (f ∷ front) back later not_earlier =
    let rest = first_of_parts b front back (All-tail (λ c. b.place < c.place) f front later) not_earlier in
    one_more f (front ++ b ∷ back) (Some b) rest
    ∙ cond-true (nat_lt b.place f.place) _ _ (lt-ltb b.place f.place (All-head (λ c. b.place < c.place) f front later))

-- The first at the least place is the one that is found.
pub first_is : (b : Breach) (breaches : List Breach) → IsFirst b breaches → first_breach breaches ≡ Some b
first_is b breaches first = ap first_breach first.parts ∙ first_of_parts b first.front first.back first.later first.not_earlier
