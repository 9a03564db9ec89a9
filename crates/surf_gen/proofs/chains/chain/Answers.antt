use Rattle.surf_surfaces.proofs.Common.{◌≡◌, ℕ, suc, ◌+◌, ◌-◌, ◌*◌, ◌^◌, ◌<◌, ◌≤◌, List, [], ◌∷◌, ◌++◌, length, map, take, drop, slice_index, rules, ap, sym, refl, subst, ◌∙◌, arith, All, length-map-range_with_len, Mesh, take-append_seam}
use Rattle.surf_tori.specs.Chain.{joint, longer_chain, chain}
use Rattle.surf_tori.specs.Torus.{torus_faces}
use Rattle.surf_tori.specs.ConnectedSum.{sum_name}
use Rattle.surf_tori.proofs.PartLaws.{IsPart, next_numbers, part_none, part_more, part_done, part_sides, sizes_grow, chain_vertices}
use Rattle.surf_gen.proofs.ChainLaws.{four_rows, all_small, mesh_same}
use Rattle.surf_gen.proofs.chains.chain.Goals as goal

pub invariant_of-grid-clause-few : goal.invariant_of-grid-clause-few
invariant_of-grid-clause-few c =
    (all_small c.args.g c.args.a c.args.b 0 c.requires.tori c.requires.rows c.requires.columns (omega arith)
    c.requires.few_vertices c.requires.few_faces).cells

pub loop-torus-init : goal.loop-torus-init
loop-torus-init c =
    let a = c.args.a in
    let b = c.args.b in
    let started = c.start-soup.ensures in
    record {
      vertices =
          ap (λ (m : Mesh). m.vertices) started
          ∙ chain_vertices c.args.g a b c.requires.tori c.requires.rows c.requires.columns;
      part = subst (λ (xs : List (List ℕ)). IsPart 0 a b xs c.in_ok-numbers.numbers.items 0)
          (sym (ap (λ (m : Mesh). m.faces) started))
          (subst (λ (ns : List ℕ). IsPart 0 a b [] ns 0) (sym c.in_ok-numbers.ensures.numbers)
          (part_none a b c.requires.rows c.requires.columns));
      start = refl;
    }

pub push_but_joint-requires-clause-inside : goal.push_but_joint-requires-clause-inside
push_but_joint-requires-clause-inside c =
    let k = c.loop-torus._torus - 1 in
    let part = c.loop-torus.invariant.part in
    let below : k ≤ c.args.g - 1 = omega (arith, c.loop-torus-test.true) in
    let grows = (sizes_grow c.args.a c.args.b c.requires.rows c.requires.columns k (c.args.g - 1) below).0 in
    let all = c.loop-torus.invariant.vertices in
    subst (λ (xs : List ℕ). All (λ v. v < c.loop-torus.soup.vertices) xs) (sym c.deref.ensures.value)
    (λ i d h. let low = part.inside i d h in omega (arith, low, grows, all))

pub push_but_joint-requires-clause-few_sides : goal.push_but_joint-requires-clause-few_sides
push_but_joint-requires-clause-few_sides c =
    let k = c.loop-torus._torus - 1 in
    let small = all_small c.args.g c.args.a c.args.b k c.requires.tori c.requires.rows c.requires.columns
    (omega (arith, c.loop-torus-test.true)) c.requires.few_vertices c.requires.few_faces in
    let sides = part_sides c.args.a c.args.b c.requires.rows c.requires.columns c.loop-torus.invariant.part in
    let faces = small.faces in
    omega (arith, sides, faces)

pub renumber-requires-clause-few : goal.renumber-requires-clause-few
renumber-requires-clause-few c =
    let k = c.loop-torus._torus - 1 in
    let small = all_small c.args.g c.args.a c.args.b k c.requires.tori c.requires.rows c.requires.columns
    (omega (arith, c.loop-torus-test.true)) c.requires.few_vertices c.requires.few_faces in
    let size = ap length c.deref_mut.ensures.value ∙ c.loop-torus.invariant.part.long in
    let start = c.loop-torus.invariant.start in
    let cells = small.cells in
    let vertices = small.vertices in
    omega (arith, size, start, cells, vertices)

pub renumber-requires-clause-corners : goal.renumber-requires-clause-corners
renumber-requires-clause-corners c =
    let size = ap length c.deref_mut.ensures.value ∙ c.loop-torus.invariant.part.long in
    let rows = (four_rows c.args.a c.args.b c.requires.rows c.requires.columns).0 in
    omega (arith, size, rows, c.requires.columns)

pub overflow_add-start : goal.overflow_add-start
overflow_add-start c =
    let k = c.loop-torus._torus - 1 in
    let small = all_small c.args.g c.args.a c.args.b k c.requires.tori c.requires.rows c.requires.columns
    (omega (arith, c.loop-torus-test.true)) c.requires.few_vertices c.requires.few_faces in
    let start = c.loop-torus.invariant.start in
    let cells = small.cells in
    let vertices = small.vertices in
    let fits : c.loop-torus.start + (c.args.a * c.args.b - 3) < 2 ^ 32 = omega (arith, start, cells, vertices) in
    search (rules, fits)

pub loop-torus-preserved : goal.loop-torus-preserved
loop-torus-preserved c =
    let a = c.args.a in
    let b = c.args.b in
    let k : ℕ = c.loop-torus._torus - 1 in
    let after : 1 ≤ c.loop-torus._torus = c.loop-torus.auto._torus in
    let next : suc k ≡ c.loop-torus._torus + 1 - 1 = omega arith in
    let pushed = c.in_ok-push_but_joint.ensures.ok in
    let items : List ℕ = c.loop-torus.numbers.items in
    let start : ℕ = (longer_chain k a b).vertices in
    let all = torus_faces a b in
    let from : ℕ = c.loop-torus.from in
    let done : List ℕ → List (List ℕ) =
    λ ns. (c.loop-torus.soup.faces ++ map (map (slice_index ns)) (take (joint b - from) (drop from all)))
    ++ map (map (slice_index ns)) (take (2 * (a * b) - (joint b + 1)) (drop (joint b + 1) all)) in
    let renumbered : c.renumber.new.numbers ≡ next_numbers start (a * b) b items =
    c.renumber.ensures.numbers
    ∙ ap (λ (ns : List ℕ). next_numbers c.loop-torus.start (length ns) b ns) c.deref_mut.ensures.value
    ∙ ap (λ (s : ℕ). next_numbers s (length items) b items) c.loop-torus.invariant.start
    ∙ ap (λ (n : ℕ). next_numbers start n b items) c.loop-torus.invariant.part.long in
    let size : length c.renumber.new.numbers ≡ c.loop-torus.numbers.len =
    ap length c.renumber.ensures.numbers ∙ length-map-range_with_len (sum_name c.loop-torus.start
    (slice_index c.deref_mut.result.now (2 * b + 2) ∷ slice_index c.deref_mut.result.now (3 * b + 2)
    ∷ slice_index c.deref_mut.result.now (3 * b + 3) ∷ []) (0 ∷ b ∷ (b + 1) ∷ [])) 0 (length c.deref_mut.result.now)
    ∙ c.deref_mut.ensures.len in
    let rest : List ℕ = drop (length c.renumber.new.numbers) items in
    let whole : take c.loop-torus.numbers.len (c.renumber.new.numbers ++ rest) ≡ next_numbers start (a * b) b items =
    ap (λ (n : ℕ). take n (c.renumber.new.numbers ++ rest)) (sym size)
    ∙ take-append_seam c.renumber.new.numbers rest ∙ renumbered in
    let faces : c.push_but_joint.new.soup.faces ≡ done items =
    ap (λ (m : Mesh). m.faces) pushed ∙ ap done c.deref.ensures.value in
    record {
      vertices = ap (λ (m : Mesh). m.vertices) pushed ∙ c.loop-torus.invariant.vertices;
      part = subst (λ (n : ℕ). IsPart n a b c.push_but_joint.new.soup.faces
          (take c.loop-torus.numbers.len (c.renumber.new.numbers ++ rest)) 1) next
          (subst (λ (ns : List ℕ). IsPart (suc k) a b c.push_but_joint.new.soup.faces ns 1) (sym whole)
          (subst (λ (xs : List (List ℕ)). IsPart (suc k) a b xs (next_numbers start (a * b) b items) 1) (sym faces)
          (part_more a b c.requires.rows c.requires.columns c.loop-torus.invariant.part)));
      start =
          ap (λ (s : ℕ). s + (a * b - 3)) c.loop-torus.invariant.start
          ∙ ap (λ (n : ℕ). (longer_chain n a b).vertices) next;
    }

pub invariant_of-grid-2 : goal.invariant_of-grid-2
invariant_of-grid-2 c = record {
  tall = omega (arith, c.requires.rows);
  wide = omega (arith, c.requires.columns);
  few = (all_small c.args.g c.args.a c.args.b 0 c.requires.tori c.requires.rows c.requires.columns (omega arith)
      c.requires.few_vertices c.requires.few_faces).cells;
}

pub push_faces-requires-clause-few_sides : goal.push_faces-requires-clause-few_sides
push_faces-requires-clause-few_sides c =
    let k = c.loop-torus._torus - 1 in
    let end = c.loop-torus.auto._torus-end in
    let small = all_small c.args.g c.args.a c.args.b k c.requires.tori c.requires.rows c.requires.columns
    (omega (arith, end, c.requires.tori)) c.requires.few_vertices c.requires.few_faces in
    let sides = part_sides c.args.a c.args.b c.requires.rows c.requires.columns c.loop-torus.invariant.part in
    let faces = small.faces in
    omega (arith, sides, faces)

pub returns-clause-mesh : goal.returns-clause-mesh
returns-clause-mesh c =
    let a = c.args.a in
    let b = c.args.b in
    let k : ℕ = c.loop-torus._torus - 1 in
    let end = c.loop-torus.auto._torus-end in
    let last : k ≡ c.args.g - 1 = omega (arith, end, c.requires.tori, c.loop-torus-test.false) in
    let pushed = c.in_ok-push_faces.ensures.ok in
    let all = torus_faces a b in
    let from : ℕ = c.loop-torus.from in
    mesh_same c.push_faces.new.soup (chain c.args.g a b)
    (ap (λ (m : Mesh). m.vertices) pushed ∙ c.loop-torus.invariant.vertices)
    (ap (λ (m : Mesh). m.faces) pushed
    ∙ ap (λ (ns : List ℕ). c.loop-torus.soup.faces
    ++ map (map (slice_index ns)) (take (2 * (a * b) - from) (drop from all))) c.deref-2.ensures.value
    ∙ sym (part_done a b c.requires.rows c.requires.columns c.loop-torus.invariant.part)
    ∙ ap (λ (n : ℕ). (longer_chain n a b).faces) last)
