use Rattle.surf_treecheck.proofs.Common.{◌≡◌, ◌∙◌, ℕ, ap, subst, between, faces_of, dual_tree, loop_size}
use Rattle.surf_certcheck.proofs.Common.{IsShort, IsLeastIn}
use Rattle.surf_certcheck.proofs.LeastIn.{least_is_first}
use Rattle.surf_certcheck.proofs.heavier.Judge.first_shorter.Goals as goal

pub returns : goal.returns
returns c =
    let judge = c.args.self.now in
    let mesh = judge.mesh.now in
    let lengths = judge.lengths.now in
    let cert = judge.cert.now in
    let l = c.args.l in
    let t = dual_tree mesh cert.dual in
    let o = c.least_between.result in
    let limit : c.size_of-limit.result ≡ loop_size mesh lengths cert.tree l =
    c.size_of-limit.ensures.size ∙ ap (λ rows. loop_size mesh lengths rows l) c.tree.ensures.tree in
    record {
      first = least_is_first mesh lengths cert l o
          (subst (λ n. IsLeastIn (IsShort mesh lengths cert.tree n) (between t (faces_of mesh l).0 (faces_of mesh l).1) o)
          limit
          (subst (λ (p : ℕ × ℕ). IsLeastIn (IsShort mesh lengths cert.tree c.size_of-limit.result) (between t p.0 p.1) o)
          c.faces_inside.ensures.faces c.least_between.ensures.least));
    }
