-- What the trees of a desk have for each vertex and each face, as rows of a certificate.
use Rattle.surf_surfaces.proofs.Common.{◌≡◌, ℕ, ◌+◌, ◌<◌, ◌^◌, List, [], ◌∷◌, ◌++◌, length, map, None, refl, sym, ap, ◌∙◌, subst, arith, inl, inr, range_with_len, cases_eq, ne_eqb, eq-eqb, Mesh, edge_count, face_count, ends, IsSurface, ArePositive, map-range_with_len_more}
use Rattle.surf_surfaces.specs.Cotree.{left_edges}
use Rattle.surf_surfaces.proofs.walks.ShortestTreeLaws.{shortest_is_tree}
use Rattle.surf_validity.specs.Rows.{TreeRows, DualRows, LoopCert}
use Rattle.surf_validity.specs.Chosen.{parent_in, rows_for, dual_rows_of, chosen_cert}
use Rattle.surf_lengths.specs.Lengths.{AreLengths}
use Rattle.surf_records.proofs.ChosenFits.{AreNumbers}
use Rattle.surf_tree.specs.Tables.{TreeTables, parent_of, tree_of}
use Rattle.surf_tree.specs.Grown.{IsGrown as IsTreeGrown}
use Rattle.surf_cotree.specs.Tables.{cotree_of}
use Rattle.surf_loops.specs.Loops.{LoopTables, IsRooted, IsGreedy, trees_of}
use Rattle.surf_loops.proofs.Turned.{tree_marks}

-- one more value of a table
pub listed_more : {X : Type 0} (f : ℕ → X) (n : ℕ) (old new : List X) (x : X) → old ≡ map f (range_with_len 0 n) → new ≡ old ++ x ∷ [] → x ≡ f n →
    new ≡ map f (range_with_len 0 (n + 1))
listed_more f n old new x was is same =
    is ∙ ap (λ xs. xs ++ x ∷ []) was ∙ ap (λ y. map f (range_with_len 0 n) ++ y ∷ []) same ∙ sym (map-range_with_len_more f 0 n n (omega arith))

-- a grown tree spans the vertices, and each but the base has a parent
pub grown_rooted : (mesh : Mesh) (lengths : List ℕ) (base : ℕ) (t : TreeTables) → IsSurface mesh → ArePositive mesh lengths → IsTreeGrown mesh lengths base t → IsRooted mesh t
grown_rooted mesh lengths base t surface positive grown = record {
  made = grown.made;
  spans = shortest_is_tree mesh lengths base (tree_of t) surface positive grown.shortest;
  base_alone = subst (λ b. parent_of t b ≡ None) (sym grown.base_is) grown.base_alone;
  parents = λ v l ne. grown.parents v l (λ e. ne (e ∙ sym grown.base_is));
}

-- the parent of a vertex in the tables
pub parent_shown : (mesh : Mesh) (t : TreeTables) (v : ℕ) → IsRooted mesh t → v < mesh.vertices → parent_of t v ≡ parent_in (tree_of t) v
parent_shown mesh t v rooted l = elim (cases_eq v t.base) [
  | inl same ↦
      let here : parent_of t v ≡ None = ap (parent_of t) same ∙ rooted.base_alone in
      here ∙ sym (rw (eq-eqb v t.base same) refl)
  | inr ne ↦ rooted.parents v l ne ∙ sym (rw (ne_eqb v t.base ne) refl)
]

-- the certificate of the two trees, by its parts
pub cert_shown : (mesh : Mesh) (lengths : List ℕ) (base : ℕ) (t : LoopTables) (cert : LoopCert) (tree : TreeRows) (dual : DualRows) (left : List (ℕ × ℕ)) →
    IsSurface mesh → ArePositive mesh lengths → IsGreedy mesh lengths base t →
    cert ≡ record { tree = tree; dual = dual; left = left } → tree ≡ rows_for mesh (tree_of t.tree) → dual ≡ dual_rows_of mesh (cotree_of t.cotree) →
    left ≡ map (ends mesh) t.cotree.left → cert ≡ chosen_cert mesh (trees_of t)
cert_shown mesh lengths base t cert tree dual left surface positive g is rows faces pairs =
    let of : TreeRows → DualRows → List (ℕ × ℕ) → LoopCert = λ tree dual left. record { tree = tree; dual = dual; left = left } in
    let edges : t.cotree.left ≡ left_edges mesh (tree_of t.tree) (cotree_of t.cotree) =
    g.cotree.left (tree_of t.tree) (tree_marks mesh lengths base t.tree surface positive g.tree) in
    is ∙ ap (λ r. of r dual left) rows ∙ ap (λ d. of (rows_for mesh (tree_of t.tree)) d left) faces
    ∙ ap (of (rows_for mesh (tree_of t.tree)) (dual_rows_of mesh (cotree_of t.cotree))) (pairs ∙ ap (map (ends mesh)) edges)

-- the counts of a mesh and its lengths are numbers of 32 bits
pub numbers_fit : (mesh : Mesh) (lengths : List ℕ) → mesh.vertices < 2 ^ 32 → face_count mesh < 2 ^ 32 → length lengths < 2 ^ 32 →
    length lengths ≡ edge_count mesh → AreLengths lengths → AreNumbers mesh lengths
numbers_fit mesh lengths vertices faces few long are = record {
  vertices = omega (arith, vertices);
  faces = omega (arith, faces);
  edges = omega (arith, few, long);
  sizes = λ e l. (are e 0 (omega (arith, long, l))).fits;
}
