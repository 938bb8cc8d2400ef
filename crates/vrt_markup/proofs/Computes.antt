-- The definitions compute on small texts.
use Rattle.std.proofs.Common.{◌≡◌, [], Ok, refl, codes, true}
use Rattle.vrt_markup.specs.Items.{item_at, tag_at, tag_front, close_at, pair_at, run, comment}
use Rattle.vrt_markup.specs.Forest.{nodes, stop, text, element}

comment_behind : item_at (codes "<!-->-->x") ≡ comment (codes "x")
unfolding item_at
comment_behind = refl

bad_entity : item_at (codes "a&#65;") ≡ run (codes "a") (codes "&#65;")
unfolding item_at
bad_entity = refl

small_tree : nodes 9 0 (codes "a") (codes "b<c/></a>") ≡ Ok (text (codes "b") (element 1 (record { name = codes "c"; pairs = []; empty = true }) stop stop), [])
unfolding item_at tag_at tag_front pair_at close_at
small_tree = refl
