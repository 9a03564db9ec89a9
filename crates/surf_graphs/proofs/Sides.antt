-- Faces that are run round by their sides.
use Rattle.surf_z2.proofs.Common.{◌≡◌, ◌≢◌, ℕ, ◌<◌, Bool, false, ◌&&◌, eqb, sym, ◌∙◌, ap, ne_eqb, eq-eqb, inl, inr, cases_eq, xor, odd_below}
use Rattle.surf_graphs.specs.Graphs.{graph_touches, leaves, IsConnectedGraph}
use Rattle.surf_graphs.specs.Cells.{Cells, primal, dual}
use Rattle.surf_graphs.specs.Sides.{Sides, IsSides}
use Rattle.surf_z2.proofs.ParityLaws.{xor-same, odd_below-same, odd_below-at, odd_below-swap, odd_below-xor-and, odd_below-and-xor, xor_equal, equal_xor, and-xor_turned}
use Rattle.surf_graphs.proofs.Graphs.{leaves_joined}
use Rattle.surf_graphs.proofs.Trees.{one_of}

-- a sum in another order
pub odd_turned : (n : ℕ) (next before : ℕ → ℕ) (p : ℕ → Bool) → ((i : ℕ) → i < n → (next i < n) × (before i < n)) →
    ((i : ℕ) → i < n → (next (before i) ≡ i) × (before (next i) ≡ i)) →
    odd_below n (λ i. p (next i)) ≡ odd_below n p
odd_turned n next before p within back =
    odd_below-same n (λ i. p (next i)) (λ i. odd_below n (λ j. eqb (next i) j && p j))
    (λ i l. sym (odd_below-at n (next i) p (within i l).0))
    ∙ (odd_below-swap n n (λ i j. eqb (next i) j && p j)
    ∙ odd_below-same n (λ j. odd_below n (λ i. eqb (next i) j && p j)) p (λ j lj.
    odd_below-same n (λ i. eqb (next i) j && p j) (λ i. eqb (before j) i && p j)
    (λ i li. ap (λ x. x && p j) (turned i j li lj))
    ∙ odd_below-at n (before j) (λ i. p j) (within j lj).1))
  where
    turned : (i j : ℕ) → i < n → j < n → eqb (next i) j ≡ eqb (before j) i
    turned i j li lj = elim (cases_eq (next i) j) [
      | inl same ↦ rw (eq-eqb (next i) j same, eq-eqb (before j) i (ap before (sym same) ∙ (back i li).1))
      | inr ne ↦ rw (ne_eqb (next i) j ne, ne_eqb (before j) i (λ e. ne (ap next (sym e) ∙ (back j lj).0)))
    ]

-- a sum over the sides of an edge
two_of : (s : Cells) (h : Sides) → IsSides s h → (e : ℕ) → e < s.edges → (p : ℕ → Bool) →
    odd_below h.count (λ i. eqb (h.edge_of i) e && p i) ≡ xor (p (h.one e)) (p (h.two e))
two_of s h ok e l p =
    let two = ok.two_sides e l in
    let sides = ok.sides_of e l in
    odd_below-same h.count (λ i. eqb (h.edge_of i) e && p i) (λ i. xor (eqb (h.one e) i) (eqb (h.two e) i) && p i)
    (λ i li. ap (λ x. x && p i) (elim (cases_eq (h.edge_of i) e) [
      | inl same ↦ elim (cases_eq (h.one e) i) [
        | inl first ↦
            let other : h.two e ≢ i = λ second. two.2 (first ∙ sym second) in
            rw (eq-eqb (h.edge_of i) e same, eq-eqb (h.one e) i first, ne_eqb (h.two e) i other)
        | inr not_first ↦
            let second : i ≡ h.two (h.edge_of i) =
            ok.no_third i li (λ first. not_first (sym (first ∙ ap h.one same))) in
            rw (
              eq-eqb (h.edge_of i) e same,
              ne_eqb (h.one e) i not_first,
              eq-eqb (h.two e) i (sym (second ∙ ap h.two same)),
            )
      ]
      | inr ne ↦ rw (
        ne_eqb (h.edge_of i) e ne,
        ne_eqb (h.one e) i (λ first. ne (ap h.edge_of (sym first) ∙ sides.0)),
        ne_eqb (h.two e) i (λ second. ne (ap h.edge_of (sym second) ∙ sides.1)),
      )
    ]))
    ∙ (odd_below-xor-and h.count (λ i. eqb (h.one e) i) (λ i. eqb (h.two e) i) p
    ∙ rw (odd_below-at h.count (h.one e) p two.0, odd_below-at h.count (h.two e) p two.1))

-- each face has an even number of edges at each vertex
pub sides_even : (s : Cells) (h : Sides) → IsSides s h → (v f : ℕ) →
    odd_below s.edges (λ e. graph_touches (primal s) v e && graph_touches (dual s) f e) ≡ false
sides_even s h ok v f =
    let at_v : ℕ → Bool = λ i. eqb (h.face_of i) f && eqb (h.start i) v in
    odd_below-same s.edges (λ e. graph_touches (primal s) v e && graph_touches (dual s) f e)
    (λ e. odd_below h.count (λ i. eqb (h.edge_of i) e && (eqb (h.face_of i) f && graph_touches (primal s) v (h.edge_of i))))
    (λ e l.
    let faces = ok.faces_of e l in
    let sides = ok.sides_of e l in
    rw (
      two_of s h ok e l (λ i. eqb (h.face_of i) f && graph_touches (primal s) v (h.edge_of i)),
      sides.0,
      sides.1,
      faces.0,
      faces.1,
    )
    (and-xor_turned (graph_touches (primal s) v e) (eqb (h.face_of (h.one e)) f) (eqb (h.face_of (h.two e)) f)))
    ∙ (odd_below-swap s.edges h.count
    (λ e i. eqb (h.edge_of i) e && (eqb (h.face_of i) f && graph_touches (primal s) v (h.edge_of i)))
    ∙ (odd_below-same h.count
    (λ i. odd_below s.edges (λ e. eqb (h.edge_of i) e && (eqb (h.face_of i) f && graph_touches (primal s) v (h.edge_of i))))
    (λ i. eqb (h.face_of i) f && xor (eqb (h.start i) v) (eqb (h.start (h.next i)) v)) (λ i l.
    odd_below-at s.edges (h.edge_of i) (λ e. eqb (h.face_of i) f && graph_touches (primal s) v (h.edge_of i)) (ok.edge_in i l)
    ∙ ap (λ x. eqb (h.face_of i) f && x)
    (leaves_joined (primal s) (λ m. eqb m v) (h.start i) (h.start (h.next i)) (h.edge_of i) (ok.runs_edge i l)))
    ∙ (odd_below-and-xor h.count (λ i. eqb (h.face_of i) f) (λ i. eqb (h.start i) v) (λ i. eqb (h.start (h.next i)) v)
    ∙ (ap (xor (odd_below h.count at_v)) (
    odd_below-same h.count (λ i. eqb (h.face_of i) f && eqb (h.start (h.next i)) v) (λ i. at_v (h.next i))
    (λ i l. rw (ok.same_face i l))
    ∙ odd_turned h.count h.next h.before at_v ok.next_in ok.next_before)
    ∙ xor-same (odd_below h.count at_v)))))

-- a vertex set that no edge leaves is one for the start of each side of an edge
side_start : (s : Cells) (h : Sides) → IsSides s h → (set : ℕ → Bool) →
    ((e : ℕ) → e < s.edges → leaves (primal s) set e ≡ false) → (i : ℕ) → i < h.count →
    (set (h.start (h.next i)) ≡ set (h.start i)) × (set (s.tail (h.edge_of i)) ≡ set (h.start i))
side_start s h ok set stays i l =
    let e = h.edge_of i in
    let le : e < s.edges = ok.edge_in i l in
    let ends : set (h.start i) ≡ set (h.start (h.next i)) =
    xor_equal (set (h.start i)) (set (h.start (h.next i)))
    (sym (leaves_joined (primal s) set (h.start i) (h.start (h.next i)) e (ok.runs_edge i l)) ∙ stays e le) in (
      sym ends,
      elim (one_of (primal s) (h.start i) (h.start (h.next i)) e (ok.runs_edge i l)) [
        | inl p ↦ ap set p.0
        | inr p ↦ ap set p.0 ∙ sym ends
      ],
    )

-- where the faces are connected, so are the vertices
pub sides_connect : (s : Cells) (h : Sides) → IsSides s h → IsConnectedGraph (dual s) → IsConnectedGraph (primal s)
sides_connect s h ok faces set stays a b la lb =
    let p : ℕ → Bool = λ i. set (h.start i) in
    let round : (i : ℕ) → i < h.count → p i ≡ p (h.first (h.face_of i)) =
    ok.around p (λ i l. (side_start s h ok set stays i l).0) in
    let by_face : ℕ → Bool = λ f. p (h.first f) in
    let face_stays : (e : ℕ) → e < s.edges → leaves (dual s) by_face e ≡ false = λ e l.
    let two = ok.two_sides e l in
    let sides = ok.sides_of e l in
    let of = ok.faces_of e l in
    let at_one : set (s.tail (h.edge_of (h.one e))) ≡ p (h.one e) = (side_start s h ok set stays (h.one e) two.0).1 in
    let at_two : set (s.tail (h.edge_of (h.two e))) ≡ p (h.two e) = (side_start s h ok set stays (h.two e) two.1).1 in
    let same : p (h.one e) ≡ p (h.two e) = sym at_one ∙ (ap (λ x. set (s.tail x)) (sides.0 ∙ sym sides.1) ∙ at_two) in
    rw (of.0, of.1, ← round (h.one e) two.0, ← round (h.two e) two.1) (equal_xor (p (h.one e)) (p (h.two e)) same) in
    let (i, li, is_a) = ok.on_face a la in
    let (j, lj, is_b) = ok.on_face b lb in
    ap set (sym is_a) ∙ (round i li ∙
    (faces by_face face_stays (h.face_of i) (h.face_of j) (ok.face_in i li) (ok.face_in j lj) ∙
    (sym (round j lj) ∙ ap set is_b)))
