use Rattle.std.proofs.Common.{refl, length}
use Rattle.std.proofs.lemmas.Option.{slice_get_read}
use Rattle.css_board.proofs.post.replace_held.Goals as goal

pub returns : goal.returns
returns c = (
  c.index_mut.result.now,
  slice_get_read c.args.posts.now.items (length c.args.posts.now.items) c.args.worker c.index_mut.result.now refl c.requires c.index_mut.ensures.value,
  c.replace.ensures.value,
  rw c.replace.ensures.after refl,
)
