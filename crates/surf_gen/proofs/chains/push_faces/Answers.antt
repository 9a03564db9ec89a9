use Rattle.surf_surfaces.proofs.Common.{◌≡◌, ℕ, ◌*◌, ◌<◌, List, [], ◌∷◌, ◌++◌, length, get_or, map, slice_index, ap, sym, subst, ◌≤◌, ◌∙◌, arith, Mesh, face_at, side_count}
use Rattle.surf_tori.specs.Torus.{torus, torus_faces}
use Rattle.surf_tori.proofs.TorusLaws.{count}
use Rattle.surf_gen.proofs.ChainLaws.{torus_triangles, looked_up, faces_more, sides_more}
use Rattle.surf_gen.proofs.chains.push_faces.Goals as goal

pub loop-f-preserved : goal.loop-f-preserved
loop-f-preserved c =
    let a = c.args.grid.rows in
    let b = c.args.grid.columns in
    let f = c.loop-f.f in
    let numbers = c.args.numbers.now in
    let pushed = c.in_ok-push_face.ensures.ok in
    let is : c.face.result ≡ face_at (torus a b) f = c.face.ensures.corners in
    let in' : f < 2 * (a * b) = omega (arith, c.loop-f-test.true, c.requires.faces) in
    let all = count a b c.args.grid.tall c.args.grid.wide in
    let three : length c.face.result ≡ 3 =
    ap length is ∙ torus_triangles a b f c.args.grid.tall c.args.grid.wide in' in
    let size = c.requires.numbers in
    let u : ℕ = c.index-face-0.result in
    let v : ℕ = c.index-face-1.result in
    let w : ℕ = c.index-face-2.result in
    let x : ℕ = c.index-numbers-index.result in
    let y : ℕ = c.index-numbers-index-in-loop-f.result in
    let z : ℕ = c.index-numbers-index-in-loop-f-2.result in
    let below : (k d : ℕ) → k < 3 → get_or c.face.result k d < length numbers = λ k d k_in.
    let h = c.face.ensures.face.inside k d (omega (arith, three, k_in)) in omega (arith, size, h) in
    let corners : ◌≡◌ {A = List ℕ} (x ∷ y ∷ z ∷ []) (map (slice_index numbers) c.face.result) =
    looked_up numbers c.face.result u v w x y z three
    (subst (λ n. n < length numbers) (sym c.index-face-0.is) (below 0 u (omega arith)))
    (subst (λ n. n < length numbers) (sym c.index-face-1.is) (below 1 v (omega arith)))
    (subst (λ n. n < length numbers) (sym c.index-face-2.is) (below 2 w (omega arith)))
    c.index-face-0.is c.index-face-1.is c.index-face-2.is
    (c.index-numbers-index.is ∙ ap (λ n. get_or numbers n x) (c.index.ensures ∙ sym c.index-face-0.is))
    (c.index-numbers-index-in-loop-f.is ∙ ap (λ n. get_or numbers n y) (c.index-in-loop-f.ensures ∙ sym c.index-face-1.is))
    (c.index-numbers-index-in-loop-f-2.is ∙ ap (λ n. get_or numbers n z) (c.index-in-loop-f-2.ensures ∙ sym c.index-face-2.is)) in
    let after : c.args.from ≤ f = c.loop-f.auto.f in
    let sides = sides_more c.loop-f.soup.faces x y z in
    let before = c.loop-f.invariant.sides in
    record {
      vertices = ap (λ (m : Mesh). m.vertices) pushed ∙ c.loop-f.invariant.vertices;
      faces =
          ap (λ (m : Mesh). m.faces) pushed
          ∙ ap (λ (xs : List (List ℕ)). xs ++ (x ∷ y ∷ z ∷ []) ∷ []) c.loop-f.invariant.faces
          ∙ faces_more c.args.soup.now.faces (torus_faces a b) (map (slice_index numbers)) c.args.from f
          (x ∷ y ∷ z ∷ [])
          after (omega (arith, all, in')) (corners ∙ ap (map (slice_index numbers)) is);
      sides = ap side_count pushed ∙ omega (arith, sides, before, after);
    }
