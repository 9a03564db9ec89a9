use Rattle.surf_surfaces.proofs.Common.{◌≡◌, ◌≢◌, ◌++◌, ◌∷◌, [], ℕ, List, map, sym, ap, ◌∙◌, arith, rules, ends, Link}
use Rattle.std.proofs.lemmas.List.{map-append, append_assoc, get_or_read}
use Rattle.surf_orientation.specs.Chains.{links_up}
use Rattle.surf_orientation.proofs.OneSidedLaws.{tree_chains_go_by_step}
use Rattle.surf_check.specs.Links.{link_of}
use Rattle.surf_check.specs.Oriented.{tree_in}
use Rattle.surf_check.proofs.orienting.climb.Goals as goal

pub loop-at-preserved : goal.loop-at-preserved
loop-at-preserved c =
    let mesh = c.args.mesh.now in
    let tree = c.args.tree.now in
    let t = tree_in tree in
    let f = c.loop-at.at in
    let ne : f ≢ 0 = c.loop-at-test.true in
    let in' = c.loop-at.invariant.face in
    let is = c.requires.tree in
    let parents = is.parents in
    let ups = is.ups in
    let q = c.number-at-in-loop-at.result in
    let q_is : q ≡ t.parent f = c.number-at-in-loop-at.ensures
    ∙ get_or_read tree.parent.items f c.index-in-loop-at.result.now (omega (
      arith,
      in',
      parents,
    )) c.index-in-loop-at.ensures 0 in
    let up_is : c.index.result.now ≡ t.up f =
    get_or_read tree.up.items f c.index.result.now (omega (arith, in', ups)) c.index.ensures 0 in
    let made : ℕ → ℕ → Link = λ x y. record { face = x; ends = ends mesh y } in
    let link = made f (t.up f) in
    let r = c.link-step.result in
    let link_is : link_of r ≡ link = c.link-step.ensures ∙ ap (λ x. made x c.index.result.now) c.new.ensures
    ∙ ap (made f) up_is in
    let rest : ℕ → List Link = λ x. links_up mesh t (t.rank x) x in
    let old = c.loop-at.chain.items in
    let done = map link_of old in
    let pushed : c.push.new.self.items ≡ old ++ r ∷ [] = search rules in
    let step = (tree_chains_go_by_step mesh t is.is_tree).up_step f in' ne in
    record {
      face = let p = is.is_tree.parent_in f in' ne in omega (arith, p, q_is);
      chain =
          ap (λ xs. map link_of xs ++ rest q) pushed ∙ ap (λ xs. xs ++ rest q) (map-append link_of old (r ∷ []))
          ∙ ap (λ l. (done ++ l ∷ []) ++ rest q) link_is
          ∙ ap (λ x. (done ++ link ∷ []) ++ rest x) q_is ∙ append_assoc done (link ∷ []) (rest (t.parent f))
          ∙ ap (λ xs. done ++ xs) (sym step) ∙ c.loop-at.invariant.chain;
    }
