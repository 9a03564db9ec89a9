-- Of the evidence of closed walks one is chosen, and it is right.
use Rattle.surf_surfaces.proofs.Common.{◌≡◌, ℕ, List, sym, ap, ◌∙◌, arith, inl, inr, cases_eq, get_or-replicate, Chain, Split, IsSplit, signature_of, Mesh, edge_count, IsSurface, edge_length, ArePositive, cells_of, Trees, AreChosenAt, split_of, IsBoundary}
use Rattle.surf_surfaces.proofs.bases.ChoiceExists.{choice_exists}
use Rattle.surf_surfaces.proofs.classes.ClassLaws.{some_vertex}
use Rattle.surf_surfaces.proofs.bases.LoopsAtLaws.{split_is}
use Rattle.surf_classes.specs.Evidence.{joint_parity, is_listed, Evidence, null_faces, odd_pairs, IsChosenNull, IsChosenOdd, IsChosen, unit_lengths}
use Rattle.surf_classes.specs.EvidenceLaws.{ChosenEvidenceIsRight, ChosenEvidenceIsOne, ClassEvidenceIsRight, ClassEvidenceIsOne}
use Rattle.surf_classes.proofs.OneKind.{evidence_is_of_one_kind}
use Rattle.surf_classes.proofs.NullChoice.{null_choice_is_one}
use Rattle.surf_classes.proofs.OddChoice.{odd_choice_is_right, odd_choice_is_one, classes_are_decided}
use Rattle.surf_classes.proofs.AllTrees.{odd_choice_is_that_of_all_trees}

-- the two kinds exclude each other
apart : (mesh : Mesh) (d : Split) → IsSurface mesh → IsSplit (cells_of mesh) d → (chain : Chain) (faces : List ℕ)
    (pairs : List (ℕ × ℕ)) → IsChosenNull mesh chain faces → IsChosenOdd mesh d chain pairs → ⊥
apart mesh d surface split chain faces pairs null odd =
    evidence_is_of_one_kind mesh surface chain faces pairs null.evidence
    (odd_choice_is_right mesh d surface split chain pairs odd)

pub chosen_evidence_is_right : ChosenEvidenceIsRight
chosen_evidence_is_right mesh d surface split chain (null_faces faces) h = h.evidence
chosen_evidence_is_right mesh d surface split chain (odd_pairs pairs) h =
    odd_choice_is_right mesh d surface split chain pairs h

pub chosen_evidence_is_one : ChosenEvidenceIsOne
chosen_evidence_is_one mesh d surface split walk other closed =
    let chain = joint_parity mesh walk other in
    let decided = classes_are_decided mesh d surface split walk other closed in
    elim (cases_eq (signature_of (cells_of mesh) d chain) 0) [
      | inl zero ↦
          let (faces, chosen, one) = null_choice_is_one mesh surface chain (decided.1 zero) in
          (null_faces faces, chosen, λ others h. only_null faces chosen one others h)
      | inr some ↦
          let (pairs, chosen, one) =
          odd_choice_is_one mesh d surface split walk other closed (λ null. some (decided.0 null)) in (
            odd_pairs pairs,
            chosen,
            λ others h. only_odd pairs chosen one others h,
          )
    ]
  where
    only_null : (faces : List ℕ) → IsChosenNull mesh (joint_parity mesh walk other) faces →
        ((others : List ℕ) → IsChosenNull mesh (joint_parity mesh walk other) others → others ≡ faces) →
        (others : Evidence) → IsChosen mesh d (joint_parity mesh walk other) others → others ≡ null_faces faces
    only_null faces chosen one (null_faces others) h = ap null_faces (one others h)
    only_null faces chosen one (odd_pairs others) h =
        absurd (apart mesh d surface split (joint_parity mesh walk other) faces others chosen h)

    only_odd : (pairs : List (ℕ × ℕ)) → IsChosenOdd mesh d (joint_parity mesh walk other) pairs →
        ((others : List (ℕ × ℕ)) → IsChosenOdd mesh d (joint_parity mesh walk other) others → others ≡ pairs) →
        (others : Evidence) → IsChosen mesh d (joint_parity mesh walk other) others → others ≡ odd_pairs pairs
    only_odd pairs chosen one (null_faces others) h =
        absurd (apart mesh d surface split (joint_parity mesh walk other) others pairs h chosen)
    only_odd pairs chosen one (odd_pairs others) h = ap odd_pairs (one others h)

unit_positive : (mesh : Mesh) → ArePositive mesh (unit_lengths mesh)
unit_positive mesh e l =
    let is : edge_length (unit_lengths mesh) e ≡ 1 = get_or-replicate (edge_count mesh) e 1 0 l in
    omega arith

-- two choices, each over trees that are chosen at vertex 0 for length 1
same_choice : (mesh : Mesh) → IsSurface mesh → (chain : Chain) (a b : Trees) →
    AreChosenAt mesh (unit_lengths mesh) 0 a → AreChosenAt mesh (unit_lengths mesh) 0 b → (x y : Evidence) →
    IsChosen mesh (split_of mesh a.tree a.cotree) chain x → IsChosen mesh (split_of mesh b.tree b.cotree) chain y → x ≡ y
same_choice mesh surface chain a b ca cb (null_faces xs) (null_faces ys) hx hy =
    let (faces, chosen, one) = null_choice_is_one mesh surface chain (boundary_of hx) in
    ap null_faces (one xs hx ∙ sym (one ys hy))
  where
    boundary_of : IsChosenNull mesh chain xs → IsBoundary mesh chain
    boundary_of h = (is_listed xs, λ e l. sym (h.evidence.bounds e l))
same_choice mesh surface chain a b ca cb (null_faces xs) (odd_pairs ys) hx hy =
    absurd (apart mesh (split_of mesh b.tree b.cotree) surface
    (split_is mesh (unit_lengths mesh) 0 b surface (unit_positive mesh) cb) chain xs ys hx hy)
same_choice mesh surface chain a b ca cb (odd_pairs xs) (null_faces ys) hx hy =
    absurd (apart mesh (split_of mesh a.tree a.cotree) surface
    (split_is mesh (unit_lengths mesh) 0 a surface (unit_positive mesh) ca) chain ys xs hy hx)
same_choice mesh surface chain a b ca cb (odd_pairs xs) (odd_pairs ys) hx hy =
    ap odd_pairs (odd_choice_is_that_of_all_trees mesh (unit_lengths mesh) 0 a b surface (unit_positive mesh) ca cb chain
    xs ys hx hy)

pub class_evidence_is_right : ClassEvidenceIsRight
class_evidence_is_right mesh surface chain evidence h =
    chosen_evidence_is_right mesh (split_of mesh h.trees.tree h.trees.cotree) surface
    (split_is mesh (unit_lengths mesh) 0 h.trees surface (unit_positive mesh) h.are_chosen) chain evidence h.chosen

pub class_evidence_is_one : ClassEvidenceIsOne
class_evidence_is_one mesh surface walk other closed =
    let (all, are) = choice_exists mesh (unit_lengths mesh) surface (unit_positive mesh) in
    let trees = all 0 in
    let at = are 0 (some_vertex mesh surface) in
    let split = split_is mesh (unit_lengths mesh) 0 trees surface (unit_positive mesh) at in
    let (evidence, chosen, one) =
    chosen_evidence_is_one mesh (split_of mesh trees.tree trees.cotree) surface split walk other closed in (
      evidence,
      record { trees = trees; are_chosen = at; chosen = chosen },
      λ others h. same_choice mesh surface (joint_parity mesh walk other) h.trees trees h.are_chosen at others evidence
          h.chosen chosen,
    )
