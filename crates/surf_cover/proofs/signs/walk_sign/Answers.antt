use Rattle.surf_cotree.proofs.Common.{suc, ◌≡◌, ◌+◌, ◌<◌, ◌∷◌, [], ℕ, List, length, get_or, drop, map, bit_xor, All, Contains, sym, ap, ◌∙◌, subst, arith, numbers, sum_of, edges, pair, pair_of, steps, edge_signature, walk_signature, edge_number, xor_zero_r, drop-cons, get_or_default, drop_all, split_with}
use Rattle.surf_cover.proofs.Signed.{sign_is, sign_small, steps_on, all_first, all_others}
use Rattle.surf_cover.proofs.signs.walk_sign.Goals as goal

pub edge_between-requires : goal.edge_between-requires
edge_between-requires c =
    let list = c.args.walk.now in
    let i = c.loop-i.i in
    let more : i + 1 < length list = omega arith in
    let near : c.index-walk-i.result ≡ get_or list i 0 =
    c.index-walk-i.is ∙ get_or_default list i c.index-walk-i.result 0 (omega (arith, more)) in
    let far : c.index-walk-i-in-loop-i.result ≡ get_or list (i + 1) 0 =
    c.index-walk-i-in-loop-i.is ∙ get_or_default list (i + 1) c.index-walk-i-in-loop-i.result 0 more in
    let P = λ (s : ℕ × ℕ). Contains (edges c.args.mesh.now) (pair_of s) in
    let here : Contains (edges c.args.mesh.now) (pair (get_or list i 0) (get_or list (i + 1) 0)) =
    all_first P (get_or list i 0, get_or list (i + 1) 0) (steps (drop (i + 1) list))
    (subst (λ (ss : List (ℕ × ℕ)). All (λ s. Contains (edges c.args.mesh.now) (pair_of s)) ss) (steps_on list i more) c.loop-i.invariant.along) in
    record { edge = rw (near, far) here }

pub sign_of-sum-requires-clause-small : goal.sign_of-sum-requires-clause-small
sign_of-sum-requires-clause-small c =
    let small = sign_small c.args.mesh.now c.args.cotree.now c.requires.signed c.requires.small c.edge_between.result c.edge_between.ensures.inside in
    omega (arith, small)

pub loop-i-preserved : goal.loop-i-preserved
loop-i-preserved c =
    let mesh = c.args.mesh.now in
    let list = c.args.walk.now in
    let i = c.loop-i.i in
    let more : i + 1 < length list = omega arith in
    let near : c.index-walk-i.result ≡ get_or list i 0 =
    c.index-walk-i.is ∙ get_or_default list i c.index-walk-i.result 0 (omega (arith, more)) in
    let far : c.index-walk-i-in-loop-i.result ≡ get_or list (i + 1) 0 =
    c.index-walk-i-in-loop-i.is ∙ get_or_default list (i + 1) c.index-walk-i-in-loop-i.result 0 more in
    let s : ℕ × ℕ = (get_or list i 0, get_or list (i + 1) 0) in
    let P = λ (s : ℕ × ℕ). Contains (edges mesh) (pair_of s) in
    record {
      along = all_others P (get_or list i 0, get_or list (i + 1) 0) (steps (drop (i + 1) list))
          (subst (λ (ss : List (ℕ × ℕ)). All (λ s. Contains (edges mesh) (pair_of s)) ss) (steps_on list i more) c.loop-i.invariant.along);
      sum = λ tree split.
          let d = split_with tree c.args.cotree.now in
          let f : ℕ × ℕ → ℕ = λ s. edge_signature mesh d (edge_number mesh s) in
          let rest = walk_signature mesh d (drop (i + 1) list) in
          let is : c.sign_of-sum.result ≡ edge_signature mesh d (edge_number mesh (get_or list i 0, get_or list (i + 1) 0)) =
          c.sign_of-sum.ensures.sign ∙ sign_is mesh c.args.cotree.now c.requires.signed tree split c.edge_between.result c.edge_between.ensures.inside
          ∙ ap (edge_signature mesh d) (c.edge_between.ensures.edge ∙ ap (λ u. edge_number mesh (u, c.index-walk-i-in-loop-i.result)) near
          ∙ ap (λ v. edge_number mesh (get_or list i 0, v)) far) in
          let whole : walk_signature mesh d (drop i list) ≡ bit_xor (edge_signature mesh d (edge_number mesh (get_or list i 0, get_or list (i + 1) 0))) rest =
          ap (λ (ss : List (ℕ × ℕ)). sum_of numbers (map (λ s. edge_signature mesh d (edge_number mesh s)) ss)) (steps_on list i more) in
          numbers.assoc c.loop-i.sum c.sign_of-sum.result rest
          ∙ ap (λ x. bit_xor c.loop-i.sum (bit_xor x rest)) is ∙ ap (bit_xor c.loop-i.sum) (sym whole)
          ∙ c.loop-i.invariant.sum tree split;
    }

pub returns : goal.returns
returns c =
    let list = c.args.walk.now in
    let i = c.loop-i.i in
    let mesh = c.args.mesh.now in
    let begins = c.requires.walk.begins in
    let last : i + 1 ≡ length list = omega arith in
    let one : drop i list ≡ get_or list i 0 ∷ [] =
    drop-cons list i 0 (omega (arith, last)) ∙ ap (λ (r : List ℕ). get_or list i 0 ∷ r) (drop_all (suc i) list (omega (arith, last))) in
    record {
      sum = λ tree split.
          sym (xor_zero_r c.loop-i.sum) ∙ ap (λ (l : List ℕ). bit_xor c.loop-i.sum (walk_signature mesh (split_with tree c.args.cotree.now) l)) (sym one)
          ∙ c.loop-i.invariant.sum tree split;
    }
