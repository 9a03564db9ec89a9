use Rattle.surf_treecheck.proofs.Common.{◌≡◌, ◌<◌, ◌^◌, length, sym, subst, loop_walk, walk_signature, number, certified_tree}
use Rattle.surf_certcheck.proofs.Common.{weighed_through}
use Rattle.surf_certcheck.proofs.Framing.{cover_tells, signature_small}
use Rattle.surf_certcheck.proofs.cover.SummedTree.is_covered.Goals as goal

pub returns : goal.returns
returns c =
    let tree = c.args.self.now in
    let mesh = tree.mesh.now in
    let rows = tree.rows.now in
    let e = c.args.e in
    let set = number c.loop_words-words.result in
    record {
      covered = λ d cycles f.
          let weights = tree.frame.now.weights.items in
          let walk = walk_signature mesh d (loop_walk mesh (certified_tree mesh rows) e) in
          let small = signature_small mesh d (loop_walk mesh (certified_tree mesh rows) e) in
          let is : set ≡ f.to walk =
          c.loop_words-words.ensures.sum rows c.requires.ready.climbed c.requires.ready.summed d f.to f.taken in
          let fits : set < 2 ^ length weights =
          subst (λ n. set < 2 ^ n) (sym f.places) (subst (λ x. x < 2 ^ length d.left) (sym is) (f.within walk small)) in
          cover_tells mesh d cycles tree.frame.now.signs weights f
          (weighed_through mesh tree.lengths.now d rows e) set c.size_of-limit.result
          c.is_placed.result is small c.size_of-limit.ensures.size
          ((rw c.deref.ensures.value at c.is_placed.ensures.placed) fits);
    }
