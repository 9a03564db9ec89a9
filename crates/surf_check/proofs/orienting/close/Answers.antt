use Rattle.surf_surfaces.proofs.Common.{◌≡◌, ◌++◌, ◌∷◌, [], ℕ, List, map, sym, ap, ◌∙◌, arith, rules, ends, faces_of, Link}
use Rattle.std.proofs.lemmas.List.{map-append, append_assoc}
use Rattle.surf_surfaces.proofs.meshes.SurfaceLaws.{two_faces_of}
use Rattle.surf_orientation.specs.Chains.{links_up, links_down}
use Rattle.surf_check.specs.Links.{link_of}
use Rattle.surf_check.specs.Oriented.{tree_in}
use Rattle.surf_check.proofs.Misfits.{down_then}
use Rattle.surf_check.proofs.orienting.close.Goals as goal

pub descend-requires-clause-to : goal.descend-requires-clause-to
descend-requires-clause-to c =
    let two = two_faces_of c.args.mesh.now c.law_of_surface.ensures.surface c.args.edge c.requires.edge in
    omega (arith, two.lesser_first, two.second_is_face, ap (λ (x : ℕ × ℕ). x.0) c.faces_of-first.ensures)

pub climb-requires-clause-from : goal.climb-requires-clause-from
climb-requires-clause-from c =
    let two = two_faces_of c.args.mesh.now c.law_of_surface.ensures.surface c.args.edge c.requires.edge in
    omega (arith, two.second_is_face, ap (λ (x : ℕ × ℕ). x.1) c.faces_of-first.ensures)

pub returns : goal.returns
returns c =
    let mesh = c.args.mesh.now in
    let t = tree_in c.args.tree.now in
    let e = c.args.edge in
    let a = c.faces_of-first.result.0 in
    let b = c.faces_of-first.result.1 in
    let at_a : a ≡ (faces_of mesh e).0 = ap (λ (x : ℕ × ℕ). x.0) c.faces_of-first.ensures in
    let at_b : b ≡ (faces_of mesh e).1 = ap (λ (x : ℕ × ℕ). x.1) c.faces_of-first.ensures in
    let link : Link = record { face = a; ends = ends mesh e } in
    let down = links_down mesh t (t.rank a) a [] in
    let up = links_up mesh t (t.rank b) b in
    let pushed : c.push.new.self.items ≡ c.in_ok-links.links.items ++ c.link.result ∷ [] = search rules in
    let mapped : map link_of c.push.new.self.items ≡ down ++ link ∷ [] =
    ap (map link_of) pushed ∙ map-append link_of c.in_ok-links.links.items (c.link.result ∷ [])
    ∙ ap (λ xs. xs ++ link_of c.link.result ∷ []) c.in_ok-links.ensures
    ∙ ap (λ l. down ++ l ∷ []) c.link.ensures in
    let there : map link_of c.climb.new.chain.items ≡ down ++ (link ∷ up) = c.in_ok-climb.ensures
    ∙ ap (λ xs. xs ++ up) mapped ∙ append_assoc down (link ∷ []) up in
    let chain : ℕ → ℕ → List Link =
    λ x y. links_down mesh t (t.rank x) x (record {
      face = x;
      ends =
          ends mesh e;
    } ∷ links_up mesh t (t.rank y) y) in
    c.from_links.ensures ∙ there ∙ sym (down_then mesh t (t.rank a) a (link ∷ up)) ∙ ap (λ x. chain x b) at_a
    ∙ ap (chain (faces_of mesh e).0) at_b
