-- What holds of each element, and of each pair, of a list that one more is put into or taken out of.
use Rattle.std.proofs.Common.{suc, List, [], ◌∷◌, ◌++◌, arith, All, AllPairs}
use Rattle.std.proofs.lemmas.List.Elements.{All-nil, All-cons, All-head, All-tail, All-append}
use Rattle.std.proofs.lemmas.List.Kept.{AllPairs-cons}

module _ {X : Type 0} where
  pub All-left : (P : X → Type 0) (xs ys : List X) → All P (xs ++ ys) → All P xs
  All-left P [] ys each = All-nil P
  All-left P (x ∷ xs) ys each =
      All-cons P x xs (All-head P x (xs ++ ys) each) (All-left P xs ys (All-tail P x (xs ++ ys) each))

  pub All-right : (P : X → Type 0) (xs ys : List X) → All P (xs ++ ys) → All P ys
  All-right P [] ys each = each
  All-right P (x ∷ xs) ys each = All-right P xs ys (All-tail P x (xs ++ ys) each)

  pub All-inserted : (P : X → Type 0) (xs ys : List X) (y : X) → All P (xs ++ ys) → P y → All P (xs ++ y ∷ ys)
  All-inserted P xs ys y each one =
      All-append P xs (y ∷ ys) (All-left P xs ys each) (All-cons P y ys one (All-right P xs ys each))

  pub All-removed : (P : X → Type 0) (xs ys : List X) (y : X) → All P (xs ++ y ∷ ys) → All P (xs ++ ys)
  All-removed P xs ys y each =
      All-append P xs ys (All-left P xs (y ∷ ys) each) (All-tail P y ys (All-right P xs (y ∷ ys) each))

  pub All-middle : (P : X → Type 0) (xs ys : List X) (y : X) → All P (xs ++ y ∷ ys) → P y
  All-middle P xs ys y each = All-head P y ys (All-right P xs (y ∷ ys) each)

  pub AllPairs-head : (R : X → X → Type 0) (x : X) (xs : List X) → AllPairs R (x ∷ xs) → All (R x) xs
  AllPairs-head R x xs pairs = λ k d below. pairs 0 (suc k) d (omega arith) (omega arith)

  pub AllPairs-tail : (R : X → X → Type 0) (x : X) (xs : List X) → AllPairs R (x ∷ xs) → AllPairs R xs
  AllPairs-tail R x xs pairs = λ i j d before below. pairs (suc i) (suc j) d (omega arith) (omega arith)

  pub AllPairs-inserted : (R : X → X → Type 0) (xs ys : List X) (y : X)
      → AllPairs R (xs ++ ys) → All (λ x. R x y) xs → All (R y) ys → AllPairs R (xs ++ y ∷ ys)
  AllPairs-inserted R [] ys y pairs before after = AllPairs-cons R y ys after pairs
  AllPairs-inserted R (x ∷ xs) ys y pairs before after =
      let rest = AllPairs-head R x (xs ++ ys) pairs in
      let Before : X → Type 0 = λ x. R x y in
      AllPairs-cons R x (xs ++ y ∷ ys)
      (All-inserted (R x) xs ys y rest (All-head Before x xs before))
      (AllPairs-inserted R xs ys y (AllPairs-tail R x (xs ++ ys) pairs) (All-tail Before x xs before) after)

  -- each pair round an element stands in order with it
  pub AllPairs-before : (R : X → X → Type 0) (xs ys : List X) (y : X)
      → AllPairs R (xs ++ y ∷ ys) → All (λ x. R x y) xs
  AllPairs-before R [] ys y pairs = All-nil (λ x. R x y)
  AllPairs-before R (x ∷ xs) ys y pairs =
      let Before : X → Type 0 = λ x. R x y in
      All-cons Before x xs
      (All-middle (R x) xs ys y (AllPairs-head R x (xs ++ y ∷ ys) pairs))
      (AllPairs-before R xs ys y (AllPairs-tail R x (xs ++ y ∷ ys) pairs))

  pub AllPairs-after : (R : X → X → Type 0) (xs ys : List X) (y : X)
      → AllPairs R (xs ++ y ∷ ys) → All (R y) ys
  AllPairs-after R [] ys y pairs = AllPairs-head R y ys pairs
  AllPairs-after R (x ∷ xs) ys y pairs =
      AllPairs-after R xs ys y (AllPairs-tail R x (xs ++ y ∷ ys) pairs)
