-- A node over its children.
use Rattle.std.proofs.Common.{◌≡◌, ℕ, ◌+◌, ◌<◌, ◌≤◌, max, Bool, true, false, nat_le, Option, Some, None, refl, sym, ap, ◌∙◌, subst, if◌then◌else◌}
use Rattle.std.specs.Prelude.{option_map, option_and_then}
use Rattle.css_tree.specs.Syntax.{Expression}
use Rattle.css_tree.specs.Heights.{height}
use Rattle.css_pexpr.specs.Frames.{Node, capped, made_of, made_of_two, made_of_three, under, under_two, under_three, Two, Three}

-- the same test, of one height
tested : {A : Type 0} (most n k : ℕ) (make : A → Expression) (x : A) → n ≡ k → (if nat_le n most then Some (make x) else None) ≡ option_map make (if nat_le k most then Some x else None)
tested most n k make x e = ap (λ n. if nat_le n most then Some (make x) else None) e ∙ by (nat_le k most)
  where
    by : (b : Bool) → (if b then Some (make x) else None) ≡ option_map make (if b then Some x else None)
    by true = refl
    by false = refl

one_node : (most : ℕ) (make : Expression → Expression) (a : Node) → ((x : Expression) → height (make x) ≡ 1 + height x) → made_of most make a ≡ option_map make (under most a)
unfolding capped
one_node most make None h = refl
one_node most make (Some x) h = tested most (height (make x)) (1 + height x) make x (h x)

pub two_of : (Expression → Expression → Expression) → Two → Expression
two_of make t = make t.first t.second

pub three_of : (Expression → Expression → Expression → Expression) → Three → Expression
three_of make t = make t.first t.second t.third

two_node : (most : ℕ) (make : Expression → Expression → Expression) (a b : Node) → ((x y : Expression) → height (make x y) ≡ 1 + max (height x) (height y)) → made_of_two most make a b ≡ option_map (two_of make) (under_two most a b)
unfolding capped two_of
two_node most make None b h = refl
two_node most make (Some x) None h = refl
two_node most make (Some x) (Some y) h = tested most (height (make x y)) (1 + max (height x) (height y)) (λ (t : Two). make t.first t.second) (record { first = x; second = y }) (h x y)

three_node : (most : ℕ) (make : Expression → Expression → Expression → Expression) (a b c : Node) → ((x y z : Expression) → height (make x y z) ≡ 1 + max (height x) (max (height y) (height z)))
    → made_of_three most make a b c ≡ option_map (three_of make) (under_three most a b c)
unfolding capped three_of
three_node most make None b c h = refl
three_node most make (Some x) None c h = refl
three_node most make (Some x) (Some y) None h = refl
three_node most make (Some x) (Some y) (Some z) h =
    tested most (height (make x y z)) (1 + max (height x) (max (height y) (height z))) (λ (t : Three). make t.first t.second t.third) (record { first = x; second = y; third = z }) (h x y z)

module _ {B : Type 0} (most : ℕ) (o : Option B) where
  pub no_node : (child : B → Expression) (make : Expression → Expression) (a : Node) → ((x : Expression) → height (make x) ≡ 1 + height x) → option_map child o ≡ under most a → o ≡ None → None ≡ made_of most make a
  no_node child make a h e none = sym (one_node most make a h ∙ ap (option_map make) (sym e ∙ ap (option_map child) none))

  pub some_node : (child : B → Expression) (make : Expression → Expression) (a : Node) (b : B) → ((x : Expression) → height (make x) ≡ 1 + height x) → option_map child o ≡ under most a → o ≡ Some b → Some (make (child b)) ≡ made_of most make a
  some_node child make a b h e some = sym (one_node most make a h ∙ ap (option_map make) (sym e ∙ ap (option_map child) some))

  pub no_node_two : (child : B → Two) (make : Expression → Expression → Expression) (a b : Node) → ((x y : Expression) → height (make x y) ≡ 1 + max (height x) (height y)) → option_map child o ≡ under_two most a b → o ≡ None → None ≡ made_of_two most make a b
  no_node_two child make a b h e none = sym (two_node most make a b h ∙ ap (option_map (two_of make)) (sym e ∙ ap (option_map child) none))

  pub some_node_two : (child : B → Two) (make : Expression → Expression → Expression) (a b : Node) (p : B) → ((x y : Expression) → height (make x y) ≡ 1 + max (height x) (height y)) → option_map child o ≡ under_two most a b → o ≡ Some p
      → Some (make (child p).first (child p).second) ≡ made_of_two most make a b
  unfolding two_of
  some_node_two child make a b p h e some = sym (two_node most make a b h ∙ ap (option_map (two_of make)) (sym e ∙ ap (option_map child) some))

  pub no_node_three : (child : B → Three) (make : Expression → Expression → Expression → Expression) (a b c : Node) → ((x y z : Expression) → height (make x y z) ≡ 1 + max (height x) (max (height y) (height z)))
      → option_map child o ≡ under_three most a b c → o ≡ None → None ≡ made_of_three most make a b c
  no_node_three child make a b c h e none = sym (three_node most make a b c h ∙ ap (option_map (three_of make)) (sym e ∙ ap (option_map child) none))

  pub some_node_three : (child : B → Three) (make : Expression → Expression → Expression → Expression) (a b c : Node) (p : B) → ((x y z : Expression) → height (make x y z) ≡ 1 + max (height x) (max (height y) (height z)))
      → option_map child o ≡ under_three most a b c → o ≡ Some p → Some (make (child p).first (child p).second (child p).third) ≡ made_of_three most make a b c
  unfolding three_of
  some_node_three child make a b c p h e some = sym (three_node most make a b c h ∙ ap (option_map (three_of make)) (sym e ∙ ap (option_map child) some))
