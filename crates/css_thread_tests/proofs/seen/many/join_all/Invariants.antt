use Rattle.std.proofs.Common.{◌≡◌, ◌+◌, ◌<◌, ℕ, [], ◌∷◌, IfOk, length, vec_len, slice_index_or}
use Rattle.std.specs.Vec.Iter.{into_iter_items, into_iter_len}
use Rattle.css_seen.specs.Accounts.{HasMade, numbered}
use Rattle.css_thread_tests.proofs.seen.many.join_all.Given as goal

abbrev pub invariant-loop-p : goal.invariant-loop-p
invariant-loop-p l = record {
  same : l.pass ≡ record l.initial.pass { seen = l.pass.seen; joined = l.pass.joined };
  all : length l.pass.joined + into_iter_len l.p-iterator ≡ vec_len l.fn.passes;
  rest : (k : ℕ) (d : _) → k < into_iter_len l.p-iterator → IfOk (slice_index_or (into_iter_items l.p-iterator) k d) (HasMade l.lock (length l.pass.joined + k + 1) ((length l.pass.joined + k + 1, l._cell) ∷ []));
  joined : l.pass.joined ≡ numbered (length l.pass.joined) (λ k. (k, l._cell) ∷ []);
}
