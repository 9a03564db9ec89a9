use Rattle.surf_surfaces.proofs.Common.{◌≡◌, ◌≢◌, ◌++◌, ◌∷◌, [], ℕ, List, map, reverse, sym, ap, ◌∙◌, arith, rules, ends, Link}
use Rattle.std.proofs.lemmas.List.{reverse-append, get_or_read}
use Rattle.surf_orientation.specs.Chains.{links_down}
use Rattle.surf_orientation.proofs.OneSidedLaws.{tree_chains_go_by_step}
use Rattle.surf_check.specs.Links.{link_of}
use Rattle.surf_check.specs.Oriented.{tree_in}
use Rattle.surf_check.proofs.orienting.descend.Goals as goal

pub loop-at-preserved : goal.loop-at-preserved
loop-at-preserved c =
    let mesh = c.args.mesh.now in
    let tree = c.args.tree.now in
    let t = tree_in tree in
    let f = c.loop-at.at in
    let ne : f ≢ 0 = c.loop-at-test.true in
    let in' = c.loop-at.invariant.face in
    let is = c.requires.tree in
    let parents = is.parents in
    let ups = is.ups in
    let q = c.number-at-in-loop-at.result in
    let read : c.index-parent.result.now ≡ t.parent f =
    get_or_read tree.parent.items f c.index-parent.result.now (omega (
      arith,
      in',
      parents,
    )) c.index-parent.ensures 0 in
    let q_is : q ≡ t.parent f = c.number-at-in-loop-at.ensures ∙ read in
    let up_is : c.index.result.now ≡ t.up f =
    get_or_read tree.up.items f c.index.result.now (omega (arith, in', ups)) c.index.ensures 0 in
    let made : ℕ → ℕ → Link = λ x y. record { face = x; ends = ends mesh y } in
    let link = made (t.parent f) (t.up f) in
    let r = c.link-step.result in
    let link_is : link_of r ≡ link = c.link-step.ensures ∙ ap (λ x. made x c.index.result.now) read
    ∙ ap (made (t.parent f)) up_is in
    let down : ℕ → List Link → List Link = λ x rest. links_down mesh t (t.rank x) x rest in
    let old = c.loop-at.chain.items in
    let rest = map link_of (reverse old) in
    let pushed : c.push.new.self.items ≡ old ++ r ∷ [] = search rules in
    let step = (tree_chains_go_by_step mesh t is.is_tree).down_step f rest in' ne in
    record {
      face = let p = is.is_tree.parent_in f in' ne in omega (arith, p, q_is);
      chain =
          ap (λ xs. down q (map link_of (reverse xs))) pushed
          ∙ ap (λ xs. down q (map link_of xs)) (reverse-append old (r ∷ []))
          ∙ ap (λ l. down q (l ∷ rest)) link_is
          ∙ ap (λ x. down x (link ∷ rest)) q_is ∙ sym step ∙ c.loop-at.invariant.chain;
    }
