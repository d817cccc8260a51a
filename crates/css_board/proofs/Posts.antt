-- The posts of a board, once its history has one entry more.
use Rattle.std.proofs.Common.{◌≡◌, ◌≢◌, ℕ, ◌+◌, ◌||◌, Bool, true, false, List, [], ◌∷◌, ◌++◌, set, get_or, Some, slice_get, refl, ap, sym, ◌∙◌, subst, inl, inr, arith}
use Rattle.std.specs.List.{list_any}
use Rattle.std.proofs.Math.ListN.{length-set}
use Rattle.std.proofs.lemmas.List.Sums.{sum_by-set}
use Rattle.std.proofs.lemmas.Option.{slice_get_within, get_or_from_slice_get}
use Rattle.css_history.specs.declared.entry.Entry.{Entry}
use Rattle.css_history.specs.Histories.{maker, hungry, is_worker, has_starved}
use Rattle.css_history.proofs.Histories.{held_same, any_more, other_fed}
use Rattle.css_board.specs.declared.post.Post.{Post}
use Rattle.css_board.specs.Posts.{coming_of, coming, IsPost, ArePosts}
use Rattle.css_board.proofs.Lists.{get_set}

or_none : (a b : Bool) → b ≡ false → (a || (b || false)) ≡ a
or_none true b is = refl
or_none false true is = is
or_none false false is = refl

pub same_any : (test : Entry → Bool) (log : List Entry) (e : Entry) → test e ≡ false → list_any test (log ++ e ∷ []) ≡ list_any test log
same_any test log e is = any_more test log e ∙ or_none (list_any test log) (test e) is

pub starved_same : (w : ℕ) (log : List Entry) (e : Entry) → is_worker w (hungry e) ≡ false → has_starved w (log ++ e ∷ []) ≡ has_starved w log
starved_same w log e is = same_any (λ x. is_worker w (hungry x)) log e is

post_kept : (w : ℕ) (log : List Entry) (e : Entry) (p : Post) → maker e ≢ w + 1 → IsPost log w p → IsPost (log ++ e ∷ []) w p
post_kept w log e p apart is = record {
  held_is = is.held_is ∙ sym (held_same w log e apart);
  starved_is = is.starved_is ∙ sym (starved_same w log e (other_fed w e apart));
}

-- main's entries leave them
pub posts_same : (workers : ℕ) (log : List Entry) (e : Entry) (posts : List Post) → maker e ≡ 0 → ArePosts workers log posts → ArePosts workers (log ++ e ∷ []) posts
posts_same workers log e posts main are = record {
  all = are.all;
  each = λ w p at. post_kept w log e p (λ same. absurd (omega (arith, same, main))) (are.each w p at);
}

-- a worker's entry changes its post
pub posts_set : (workers : ℕ) (log : List Entry) (e : Entry) (posts : List Post) (w : ℕ) (q : Post) → maker e ≡ w + 1 → IsPost (log ++ e ∷ []) w q → ArePosts workers log posts → ArePosts workers (log ++ e ∷ []) (set posts w q)
posts_set workers log e posts w q by is are = record {
  all = length-set posts w q ∙ are.all;
  each = λ v p at. elim (get_set posts w v q p at) [
    | inl h ↦ subst (λ (x : Post). IsPost (log ++ e ∷ []) v x) h.1 (subst (λ (n : ℕ). IsPost (log ++ e ∷ []) n q) (sym h.0) is)
    | inr h ↦ post_kept v log e p (λ same. h.0 (omega (arith, same, by))) (are.each v p h.1)
  ];
}

pub coming_set : (posts : List Post) (w : ℕ) (p q : Post) → slice_get posts w ≡ Some p → coming (set posts w q) + coming_of p ≡ coming posts + coming_of q
coming_set posts w p q at =
    let one = sum_by-set coming_of posts w q p (slice_get_within posts w p at) in
    let here : coming_of (get_or posts w p) ≡ coming_of p = ap coming_of (get_or_from_slice_get posts w p p at) in
    omega (arith, one, here)
