-- Chains, torus by torus: the faces so far, and the numbers of the last torus's vertices.
use Rattle.surf_surfaces.proofs.Common.{◌≡◌, ◌≢◌, ℕ, suc, ◌+◌, ◌-◌, ◌*◌, ◌<◌, ◌≤◌, List, [], ◌∷◌, ◌++◌, length, get_or, map, take, drop, refl, sym, ap, ◌∙◌, arith, subst, All, AllPairs, AllByRecursion, range_with_len, sum_by, slice_index, recursion_from_All, All-from_get_or, length-range_with_len, get_or-range_with_len, length-map-range_with_len, get_or-map-range_with_len, mul-le, IsFace, after, face_count, face_at}
use Rattle.std.proofs.lemmas.List.{append_assoc, map-append, length-append, length-map, length-drop, get_or-drop, get_or-map, get_or-append-add, get_or_append_left, drop-drop}
use Rattle.surf_tori.specs.Torus.{torus, torus_faces}
use Rattle.surf_tori.specs.ConnectedSum.{without, sum_name}
use Rattle.surf_tori.specs.Chain.{joint, last_joint, longer_chain, chain}
use Rattle.surf_tori.proofs.EulerLaws.{three_each}
use Rattle.surf_tori.proofs.GridLaws.{place, low}
use Rattle.surf_tori.proofs.ListLaws.{without-behind, without-map, part_all, faces_alike, own_faces, range_inside, range_differs}
use Rattle.surf_tori.proofs.SumLaws.{sum_is_glued}
use Rattle.surf_tori.proofs.ChainLaws.{grid, torus_count, first_can_go, joint_in, long_chain, chains_have_counts}

-- What stands once all tori but the last are done: the faces so far, the numbers of the last torus's vertices, and the
-- first of its faces that is still to come.
pub record IsPart (k a b : ℕ) (done : List (List ℕ)) (numbers : List ℕ) (from : ℕ) : Type 0 where
  pub faces : (longer_chain k a b).faces ≡ done ++ map (map (slice_index numbers)) (drop from (torus_faces a b))
  pub few : from ≤ 1
  pub long : length numbers ≡ a * b
  pub inside : All (λ v. v < (longer_chain k a b).vertices) numbers
  pub differ : AllPairs (λ u v. u ≢ v) numbers

-- k + 1 chunks of n, less 3 from each but one, grow with k
chunks_grow : (k d n : ℕ) → 3 ≤ n → (k + 1) * n + 3 * d ≤ (k + d + 1) * n
chunks_grow k d n large =
    let more : d * 3 ≤ d * n = mul-le d 3 d n (omega arith) large in
    omega (arith, more)

-- the numbers of the next torus's vertices
abbrev pub next_numbers : ℕ → ℕ → ℕ → List ℕ → List ℕ
next_numbers start cells b numbers =
    map (sum_name start
    (slice_index numbers (2 * b + 2) ∷ slice_index numbers (3 * b + 2) ∷ slice_index numbers (3 * b + 3) ∷ [])
    (0 ∷ b ∷ (b + 1) ∷ [])) (range_with_len 0 cells)

three_same : (x y z p q r : ℕ) → x ≡ p → y ≡ q → z ≡ r → ◌≡◌ {A = List ℕ} (x ∷ y ∷ z ∷ []) (p ∷ q ∷ r ∷ [])
three_same x y z p q r a b c = cc

module _ (a b : ℕ) (wide : 4 ≤ a) (high : 4 ≤ b) where
  -- the two faces that are left out
  first_corners : face_at (torus a b) 0 ≡ 0 ∷ b ∷ (b + 1) ∷ []
  first_corners =
      let g = grid a b wide high in
      let zero_is : 0 ≡ low b 0 0 = omega arith in
      let row : after a 0 ≡ 1 = g.rows.step 0 (omega arith) ∙ omega arith in
      let column : after b 0 ≡ 1 = g.columns.step 0 (omega arith) ∙ omega arith in
      ap (face_at (torus a b)) zero_is ∙ g.first 0 0 (omega arith) (omega arith)
      ∙ three_same (place b 0 0) (place b (after a 0) 0) (place b (after a 0) (after b 0)) 0 b (b + 1) (omega arith)
      (ap (λ i. place b i 0) row ∙ omega arith)
      (ap (λ i. place b i (after b 0)) row ∙ ap (place b 1) column ∙ omega arith)

  joint_corners : face_at (torus a b) (joint b) ≡ (2 * b + 2) ∷ (3 * b + 2) ∷ (3 * b + 3) ∷ []
  joint_corners =
      let g = grid a b wide high in
      let row : after a 2 ≡ 3 = g.rows.step 2 (omega arith) ∙ omega arith in
      let column : after b 2 ≡ 3 = g.columns.step 2 (omega arith) ∙ omega arith in
      g.first 2 2 (omega arith) (omega arith)
      ∙ three_same (place b 2 2) (place b (after a 2) 2) (place b (after a 2) (after b 2)) (2 * b + 2) (3 * b + 2)
      (3 * b + 3) refl (ap (λ i. place b i 2) row) (ap (λ i. place b i (after b 2)) row ∙ ap (place b 3) column)

  face_in : (f : ℕ) → f < face_count (torus a b) → IsFace (a * b) (face_at (torus a b) f)
  face_in f in' = (long_chain a b wide high 0).can.coherent.is_mesh f [] in'

  -- all corners of a torus's faces are its vertices
  corners_in : (n : ℕ) → AllByRecursion (AllByRecursion (λ v. v < a * b)) (drop n (torus_faces a b))
  corners_in n =
      recursion_from_All (AllByRecursion (λ v. v < a * b)) (drop n (torus_faces a b)) (λ k d in'.
      let l = length-drop n (torus_faces a b) in
      let is : IsFace (a * b) (get_or (drop n (torus_faces a b)) k d) =
      subst (IsFace (a * b)) (sym (get_or-drop n (torus_faces a b) k d))
      ((long_chain a b wide high 0).can.coherent.is_mesh (n + k) d (omega (arith, l, in'))) in
      recursion_from_All (λ v. v < a * b) (get_or (drop n (torus_faces a b)) k d) is.inside)

  -- a longer chain has no fewer vertices or faces
  pub sizes_grow : (k m : ℕ) → k ≤ m → ((longer_chain k a b).vertices ≤ (longer_chain m a b).vertices)
      × (face_count (longer_chain k a b) ≤ face_count (longer_chain m a b))
  sizes_grow k m below =
      let few = long_chain a b wide high k in
      let many = long_chain a b wide high m in
      let cells : 16 ≤ a * b = mul-le 4 4 a b wide high in
      let e : k + (m - k) ≡ m = omega arith in
      let grows : (k + 1) * (a * b) + 3 * (m - k) ≤ (m + 1) * (a * b) =
      subst (λ n. (k + 1) * (a * b) + 3 * (m - k) ≤ (n + 1) * (a * b)) e
      (chunks_grow k (m - k) (a * b) (omega arith)) in
      let v = few.vertices in
      let w = many.vertices in
      let f = few.faces in
      let g = many.faces in
      (omega (arith, grows, v, w, below), omega (arith, grows, f, g, below))

  -- before the first torus
  pub part_none : IsPart 0 a b [] (range_with_len 0 (a * b)) 0
  part_none = record {
    faces = sym (faces_alike (a * b) (slice_index (range_with_len 0 (a * b))) (λ v. v)
        (λ v in'. get_or-range_with_len 0 (a * b) v 0 in' ∙ omega arith) (torus_faces a b) (corners_in 0)
        ∙ own_faces (torus_faces a b));
    few = omega arith;
    long = length-range_with_len 0 (a * b);
    inside = range_inside (a * b);
    differ = range_differs (a * b);
  }

  module _ {k : ℕ} {done : List (List ℕ)} {numbers : List ℕ} {from : ℕ} (part : IsPart k a b done numbers from) where
    abbrev named : ℕ → ℕ
    named = slice_index numbers

    abbrev left : List (List ℕ)
    left = drop from (torus_faces a b)

    -- the faces of the last torus
    part_count : face_count (longer_chain k a b) ≡ length done + (2 * (a * b) - from)
    part_count =
        let all = torus_count a b wide high in
        let l = length-drop from (torus_faces a b) in
        ap length part.faces ∙ length-append done (map (map named) left)
        ∙ ap (λ n. length done + n) (length-map left (map named) ∙ omega (arith, all, l))

    -- the joint is behind what is done
    joint_at : last_joint (longer_chain k a b) a b ≡ length done + (joint b - from)
    joint_at =
        let n = part_count in
        let j = joint_in a b wide high in
        let all = torus_count a b wide high in
        let few = part.few in
        omega (arith, n, j, all, few)

    joint_face : face_at (longer_chain k a b) (last_joint (longer_chain k a b) a b)
        ≡ named (2 * b + 2) ∷ named (3 * b + 2) ∷ named (3 * b + 3) ∷ []
    joint_face =
        let j = joint_in a b wide high in
        let all = torus_count a b wide high in
        let few = part.few in
        let l = length-drop from (torus_faces a b) in
        let at : from + (joint b - from) ≡ joint b = omega arith in
        ap (λ n. get_or (longer_chain k a b).faces n []) joint_at
        ∙ ap (λ (xs : List (List ℕ)). get_or xs (length done + (joint b - from)) []) part.faces
        ∙ get_or-append-add done (map (map named) left) (joint b - from) []
        ∙ get_or-map (map named) left (joint b - from) [] [] (omega (arith, l, j))
        ∙ ap (map named) (get_or-drop from (torus_faces a b) (joint b - from) []
        ∙ ap (λ n. get_or (torus_faces a b) n []) at ∙ joint_corners)

    -- the faces without the joint
    abbrev upto_joint : List (List ℕ)
    upto_joint = map (map named) (take (joint b - from) left)

    abbrev behind_joint : List (List ℕ)
    behind_joint = map (map named) (take (2 * (a * b) - (joint b + 1)) (drop (joint b + 1) (torus_faces a b)))

    without_joint : without (last_joint (longer_chain k a b) a b) (longer_chain k a b).faces
        ≡ (done ++ upto_joint) ++ behind_joint
    without_joint =
        let few = part.few in
        let all = torus_count a b wide high in
        let at : from + (joint b - from + 1) ≡ joint b + 1 = omega arith in
        ap (λ n. without n (longer_chain k a b).faces) joint_at
        ∙ ap (without (length done + (joint b - from))) part.faces
        ∙ without-behind done (map (map named) left) (joint b - from)
        ∙ ap (λ zs. done ++ zs) (without-map (map named) (joint b - from) left
        ∙ map-append (map named) (take (joint b - from) left) (drop (joint b - from + 1) left))
        ∙ sym (append_assoc done upto_joint (map (map named) (drop (joint b - from + 1) left)))
        ∙ ap (λ zs. (done ++ upto_joint) ++ map (map named) zs)
        (drop-drop (joint b - from + 1) from (torus_faces a b) ∙ ap (λ n. drop n (torus_faces a b)) at
        ∙ sym (part_all (torus_faces a b) (joint b + 1) (2 * (a * b)) (omega (arith, all))))

    -- once the next torus has its numbers
    pub part_more : IsPart (suc k) a b ((done ++ upto_joint) ++ behind_joint)
        (next_numbers (longer_chain k a b).vertices (a * b) b numbers) 1
    part_more =
        let mesh = longer_chain k a b in
        let f = last_joint mesh a b in
        let start = mesh.vertices in
        let out = named (2 * b + 2) ∷ named (3 * b + 2) ∷ named (3 * b + 3) ∷ [] in
        let name = sum_name start out (0 ∷ b ∷ (b + 1) ∷ []) in
        let old_name = sum_name start (face_at mesh f) (face_at (torus a b) 0) in
        let next = next_numbers start (a * b) b numbers in
        let long = long_chain a b wide high k in
        let torus_can = first_can_go a b wide high in
        let glued = sum_is_glued long.can.is_face torus_can.is_face joint_face first_corners long.can.coherent
        torus_can.coherent in
        let at : (v : ℕ) → v < a * b → slice_index next v ≡ name v =
        λ v in'. get_or-map-range_with_len name 0 (a * b) v v 0 in' (omega arith) in
        let size : length next ≡ a * b = length-map-range_with_len name 0 (a * b) in
        let any : (v d : ℕ) → v < a * b → get_or next v d ≡ name v =
        λ v d in'. get_or-map-range_with_len name 0 (a * b) v v d in' (omega arith) in
        record {
          faces =
              ap (λ zs. zs ++ map (map old_name) (without 0 (torus_faces a b))) without_joint
              ∙ ap (λ zs. ((done ++ upto_joint) ++ behind_joint) ++ zs)
              (ap (λ (rename : ℕ → ℕ). map (map rename) (drop 1 (torus_faces a b)))
              (ap (λ face. sum_name start face (face_at (torus a b) 0)) joint_face
              ∙ ap (sum_name start out) first_corners)
              ∙ sym (faces_alike (a * b) (slice_index next) name at (drop 1 (torus_faces a b)) (corners_in 1)));
          few = omega arith;
          long = size;
          inside = λ v d h.
              let in' : v < a * b = omega (arith, size, h) in rw (any v d in') (glued.named_in v in');
          differ = λ i j d lt h e.
              let in' : j < a * b = omega (arith, size, h) in
              let before : i < a * b = omega arith in
              let same : i ≡ j = glued.injective i j before in' (sym (any i d before) ∙ e ∙ any j d in') in
              omega arith;
        }

    -- once the last torus is done
    pub part_done : (longer_chain k a b).faces
        ≡ done ++ map (map named) (take (2 * (a * b) - from) (drop from (torus_faces a b)))
    part_done =
        let all = torus_count a b wide high in
        part.faces ∙ ap (λ zs. done ++ map (map named) zs)
        (sym (part_all (torus_faces a b) from (2 * (a * b)) (omega (arith, all))))

    -- what is done and what is still to come of the last torus
    pub part_sides : sum_by length done + 3 * (2 * (a * b) - from) ≡ 3 * face_count (longer_chain k a b)
    part_sides =
        let n = part_count in
        let triangles = (long_chain a b wide high k).triangles in
        let all : sum_by length done ≡ 3 * length done =
        three_each done (recursion_from_All (λ x. length x ≡ 3) done
        (All-from_get_or (λ x. length x ≡ 3) done [] (λ i in'.
        ap length (sym (ap (λ (xs : List (List ℕ)). get_or xs i []) part.faces
        ∙ get_or_append_left done (map (map named) left) [] i in')) ∙ triangles i (omega (arith, n, in'))))) in
        omega (arith, n, all)

-- how many vertices a chain has
pub chain_vertices : (g a b : ℕ) → 1 ≤ g → 4 ≤ a → 4 ≤ b → g * (a * b - 3) + 3 ≡ (chain g a b).vertices
chain_vertices g a b some x y =
    let cells : 16 ≤ a * b = mul-le 4 4 a b x y in
    let counts = (chains_have_counts g a b some x y).vertices in
    let is : a * b ≡ (a * b - 3) + 3 = omega arith in
    let spread : g * (a * b) ≡ g * (a * b - 3) + 3 * g = ap (λ n. g * n) is ∙ omega arith in
    omega (arith, counts, spread, some)
