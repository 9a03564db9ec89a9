-- The tables by which the border is gone round.
use Rattle.surf_slit.proofs.Common.{◌≡◌, ℕ, ◌+◌, ◌<◌, inl, inr, sym, refl, subst, ap, ◌∙◌, Bool, true, false, List, [], ◌∷◌, ◌++◌, length, get_or, arith, true≢false, cases_eq, length_push, get_or_push, get_or_append_left, IsDisc, Mesh, IsMesh, after, face_at, IsEdgeOf, side_count, after-below, edge_one, placed}
use Rattle.surf_cutter.proofs.Common.{corners_of, HasCopy, AreBorderSides, IsLeastBorderSide, IsCutSide, AreCutSides}
use Rattle.surf_cutter.proofs.BorderSides.{corners_at_place, side_of_edge}

-- one more side is gone through, cut or not
pub cut_start : (mesh : Mesh) (cut : List Bool) → AreCutSides mesh cut 0 []
cut_start mesh cut = record {
  below = λ k h. absurd (omega arith);
  are_cut = λ k h. absurd (omega arith);
  all = λ s h. absurd (omega arith);
  rises = λ i k a h. absurd (omega arith);
}

pub cut_more : (mesh : Mesh) (cut : List Bool) (n e : ℕ) (list : List ℕ) → AreCutSides mesh cut n list →
    IsEdgeOf mesh n e → get_or cut e false ≡ true → AreCutSides mesh cut (n + 1) (list ++ n ∷ [])
cut_more mesh cut n e list are own is =
    let size = length_push list n in
    let last : get_or (list ++ n ∷ []) (length list) 0 ≡ n = get_or_push list n 0 (length list) refl in
    let early : (k : ℕ) → k < length list → get_or (list ++ n ∷ []) k 0 ≡ get_or list k 0 = λ k h.
    get_or_append_left list (n ∷ []) 0 k h in
    record {
      below = λ k h. elim (cases_eq k (length list)) [
        | inl q ↦ let z = ap (λ k. get_or (list ++ n ∷ []) k 0) q in omega arith
        | inr ne ↦ let lt : k < length list = omega arith in let z = early k lt in let b = are.below k lt in omega arith
      ];
      are_cut = λ k h. elim (cases_eq k (length list)) [
        | inl q ↦ subst (IsCutSide mesh cut) (sym (ap (λ k. get_or (list ++ n ∷ []) k 0) q ∙ last)) (e, own, is)
        | inr ne ↦ let lt : k < length list = omega arith in
            subst (IsCutSide mesh cut) (sym (early k lt)) (are.are_cut k lt)
      ];
      all = λ s h c. elim (cases_eq s n) [
        | inl q ↦ (length list, omega arith, last ∙ sym q)
        | inr ne ↦ let k = are.all s (omega arith) c in let lt = k.1 in (k.0, omega arith, early k.0 k.1 ∙ k.2)
      ];
      rises = λ i k a h. elim (cases_eq k (length list)) [
        | inl q ↦ let lt : i < length list = omega arith in let z = ap (λ k. get_or (list ++ n ∷ []) k 0) q in
            let x = early i lt in let b = are.below i lt in omega arith
        | inr ne ↦ let lt : k < length list = omega arith in let lt' : i < length list = omega arith in
            let x = early i lt' in let y = early k lt in let r = are.rises i k a lt in omega arith
      ];
    }

pub cut_none : (mesh : Mesh) (cut : List Bool) (n e : ℕ) (list : List ℕ) → AreCutSides mesh cut n list →
    IsEdgeOf mesh n e → get_or cut e false ≡ false → AreCutSides mesh cut (n + 1) list
cut_none mesh cut n e list are own free = record {
  below = λ k h. let b = are.below k h in omega arith;
  are_cut = are.are_cut;
  all = λ s h c. elim (cases_eq s n) [
    | inr ne ↦ are.all s (omega arith) c
    | inl q ↦
        let o = subst (λ s. IsEdgeOf mesh s c.0) q c.1 in
        let same : c.0 ≡ e = edge_one mesh c.0 e o.is_edge own.is_edge (o.its_ends ∙ sym own.its_ends) in
        absurd (true≢false (sym c.2 ∙ ap (λ e. get_or cut e false) same ∙ free))
  ];
  rises = are.rises;
}

-- the corners of a side are copies
pub corners_in : (mesh : Mesh) → IsMesh mesh → (s : ℕ) → s < side_count mesh → ((corners_of mesh s).0 < mesh.vertices)
    × ((corners_of mesh s).1 < mesh.vertices)
corners_in mesh is_mesh s lt =
    let p = placed mesh s lt in
    let f = p.0 in
    let k = p.1.0 in
    let is = p.1.1 in
    let face = is_mesh f [] is.is_face in
    let its = ap (corners_of mesh) is.number ∙ corners_at_place mesh f k is.is_face is.is_place in (
      subst (λ (q : ℕ × ℕ). q.0 < mesh.vertices) (sym its) (face.inside k 0 is.is_place),
      subst (λ (q : ℕ × ℕ). q.1 < mesh.vertices) (sym its) (face.inside (after (length (face_at mesh f)) k) 0
          (after-below (length (face_at mesh f)) k is.is_place)),
    )

pub copy_in : (mesh : Mesh) → IsMesh mesh → (s c : ℕ) → s < side_count mesh → HasCopy mesh s c → c < mesh.vertices
copy_in mesh is_mesh s c lt has =
    let b = corners_in mesh is_mesh s lt in
    elim has [ inl e ↦ let l = b.0 in omega arith | inr e ↦ let l = b.1 in omega arith ]

-- there is a border side, and the first listed is the least
pub border_some : (mesh : Mesh) (list : List ℕ) → IsDisc mesh → AreBorderSides mesh list → 0 < length list
border_some mesh list disc are =
    let e = disc.some_border in
    let s = side_of_edge mesh e.0 e.1 in
    let k = are.all s.0 s.1 in
    let lt = k.1 in
    omega arith

pub border_first : (mesh : Mesh) (list : List ℕ) → IsDisc mesh → AreBorderSides mesh list →
    IsLeastBorderSide mesh (get_or list 0 0)
border_first mesh list disc are = (
  are.border 0 (border_some mesh list disc are),
  λ s b.
      let k = are.all s b in
      elim (cases_eq k.0 0) [
        | inl z ↦ let e = ap (λ k. get_or list k 0) (sym z) ∙ k.2 in omega arith
        | inr ne ↦ let r = are.rises 0 k.0 (omega arith) k.1 in let e = k.2 in omega arith
      ],
)
