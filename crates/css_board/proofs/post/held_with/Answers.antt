use Rattle.std.proofs.Common.{rules, refl, length}
use Rattle.std.proofs.lemmas.Option.{slice_get_read}
use Rattle.css_board.proofs.post.held_with.Goals as goal

pub returns : goal.returns
returns c = (c.index-posts-worker.result, slice_get_read c.args.posts.now (length c.args.posts.now) c.args.worker c.index-posts-worker.result refl c.requires c.index-posts-worker.is, search rules)
