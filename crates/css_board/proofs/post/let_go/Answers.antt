use Rattle.std.proofs.Common.{rules, refl, length}
use Rattle.std.proofs.lemmas.Option.{slice_get_read}
use Rattle.std.proofs.lemmas.Fn.{filter_same}
use Rattle.css_board.proofs.post.let_go.Goals as goal

pub returns : goal.returns
returns c = (
  c.index_mut-post.result.now,
  record { held = c.retain.new.self; starved = c.index_mut-post.result.now.starved },
  slice_get_read c.args.posts.now.items (length c.args.posts.now.items) c.args.worker c.index_mut-post.result.now refl c.requires c.index_mut-post.ensures.value,
  filter_same _ _ _ (λ x b f' k. search rules) _ _ c.retain.ensures.filtered,
  refl,
  refl,
)
