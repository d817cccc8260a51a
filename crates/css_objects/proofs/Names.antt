-- Names of versions that are read.
use Rattle.std.proofs.Common.{◌≡◌, ℕ, zero, suc, ◌<◌, ◌≤◌, Bool, true, false, ◌||◌, List, [], ◌∷◌, ◌++◌, length, get_or, Some, None, refl, sym, ap, ◌∙◌, inl, inr, arith, eqb}
use Rattle.std.specs.List.{list_any, insert}
use Rattle.std.proofs.lemmas.Bool.{cases_order}
use Rattle.std.proofs.lemmas.List.Folds.{list_any-append}
use Rattle.std.proofs.lemmas.List.Sorted.{list_any-IsPermutation, IsPermutation-insert}
use Rattle.css_objects.specs.declared.version.Held.{Held}
use Rattle.css_objects.specs.Table.{maker}
use Rattle.css_objects.specs.Naming.{AreMakers, Rises, IsTaskAdded, is_made_by}
use Rattle.css_objects.proofs.Inserts.{rises_with}

-- ---- tasks that made versions

pub not_below : (xs : List ℕ) → Rises xs → (i j : ℕ) → i ≤ j → j < length xs → get_or xs i 0 ≤ get_or xs j 0
not_below xs rise i j up_to inside =
    elim (cases_order i j) [
      | inl same ↦ omega (arith, ap (λ n. get_or xs n 0) same)
      | inr (inl less) ↦ omega (arith, rise i j less inside)
      | inr (inr more) ↦ absurd (omega arith)
    ]

pub task_there : (tasks : List ℕ) (task place : ℕ) → Rises tasks → place < length tasks → get_or tasks place 0 ≡ task → IsTaskAdded tasks task tasks
task_there tasks task place rise inside is = record {
  rise = rise;
  all = λ t. by t (eqb task t) refl;
}
  where
    there : (xs : List ℕ) (i t : ℕ) → i < length xs → eqb (get_or xs i 0) t ≡ true → list_any (λ u. eqb u t) xs ≡ true
    there [] i t inside passes = absurd (omega arith)
    there (x ∷ xs) zero t inside passes = ap (λ b. b || list_any (λ u. eqb u t) xs) passes
    there (x ∷ xs) (suc i) t inside passes = or_true (eqb x t) (there xs i t (omega arith) passes)
      where
        or_true : (b : Bool) → list_any (λ u. eqb u t) xs ≡ true → (b || list_any (λ u. eqb u t) xs) ≡ true
        or_true true h = refl
        or_true false h = h

    by : (t : ℕ) (b : Bool) → eqb task t ≡ b → list_any (λ u. eqb u t) tasks ≡ (list_any (λ u. eqb u t) tasks || eqb task t)
    by t true same = there tasks place t inside (ap (λ n. eqb n t) is ∙ same) ∙ sym (ap (λ b. b || eqb task t) (there tasks place t inside (ap (λ n. eqb n t) is ∙ same)))
    by t false other = sym (ap (λ b. list_any (λ u. eqb u t) tasks || b) other ∙ or_false (list_any (λ u. eqb u t) tasks))
      where
        or_false : (b : Bool) → (b || false) ≡ b
        or_false true = refl
        or_false false = refl

pub task_new : (tasks : List ℕ) (task place : ℕ) → Rises tasks → place ≤ length tasks → ((k : ℕ) → k < place → get_or tasks k 0 < task)
    → ((k : ℕ) → place ≤ k → k < length tasks → task < get_or tasks k 0) → IsTaskAdded tasks task (insert tasks place task)
task_new tasks task place rise within below above = record {
  rise = rises_with tasks place task within rise below above;
  all = λ t.
      sym (list_any-IsPermutation (λ u. eqb u t) (task ∷ tasks) (insert tasks place task) (IsPermutation-insert tasks place task))
      ∙ or_turned (eqb task t) (list_any (λ u. eqb u t) tasks);
}
  where
    or_turned : (a b : Bool) → (a || b) ≡ (b || a)
    or_turned true true = refl
    or_turned true false = refl
    or_turned false true = refl
    or_turned false false = refl

-- those of the first versions
pub makers_begin : AreMakers [] []
makers_begin = record { rise = λ i j before inside. absurd (omega arith); all = λ t. refl }

any_last : {X : Type 0} (p : X → Bool) (xs : List X) (x : X) → list_any p (xs ++ x ∷ []) ≡ (list_any p xs || p x)
any_last p xs x = list_any-append p xs (x ∷ []) ∙ ap (λ b. list_any p xs || b) (or_false (p x))
  where
    or_false : (b : Bool) → (b || false) ≡ b
    or_false true = refl
    or_false false = refl

pub makers_more : (versions : List Held) (tasks new : List ℕ) (v : Held) (task : ℕ) → AreMakers versions tasks → maker v ≡ Some task → IsTaskAdded tasks task new → AreMakers (versions ++ v ∷ []) new
makers_more versions tasks new v task before is added = record {
  rise = added.rise;
  all = λ t.
      added.all t
      ∙ ap (λ b. b || eqb task t) (before.all t)
      ∙ ap (λ o. list_any (λ u. is_made_by t (maker u)) versions || is_made_by t o) (sym is)
      ∙ sym (any_last (λ u. is_made_by t (maker u)) versions v);
}

pub makers_same : (versions : List Held) (tasks : List ℕ) (v : Held) → AreMakers versions tasks → maker v ≡ None → AreMakers (versions ++ v ∷ []) tasks
makers_same versions tasks v before none = record {
  rise = before.rise;
  all = λ t.
      before.all t
      ∙ sym (or_false (list_any (λ u. is_made_by t (maker u)) versions))
      ∙ ap (λ o. list_any (λ u. is_made_by t (maker u)) versions || is_made_by t o) (sym none)
      ∙ sym (any_last (λ u. is_made_by t (maker u)) versions v);
}
  where
    or_false : (b : Bool) → (b || false) ≡ b
    or_false true = refl
    or_false false = refl
