-- Face lines, one after the other.
use Rattle.surf_surfaces.proofs.Common.{◌≡◌, ◌<◌, ◌≤◌, ◌+◌, ◌-◌, ℕ, suc, true, List, [], ◌∷◌, ◌++◌, length, Result, Ok, Err, refl, sym, ◌∙◌, ap, append_assoc, arith, sum_by, append-nil, sum_by_push}
use Rattle.surf_text.specs.Text.{TextLine}
use Rattle.surf_off.specs.declared.fault.OffFault.{OffFault}
use Rattle.surf_off.specs.declared.fault.OffFault.TheVariants.{Early}
use Rattle.surf_base.specs.Gives.{◌>>=◌}
use Rattle.surf_off.specs.Off.{Face, FaceLines, face_of, faces_at}

-- a face in front of those that are read behind it
abbrev pub with_face : Face → Result FaceLines OffFault → Result FaceLines OffFault
with_face face read = read >>= λ rest. Ok (record { faces = face.corners ∷ rest.faces; colours = face.colour ∷ rest.colours; lines = rest.lines })

-- the faces and colours that were read before, and those that are still read
abbrev pub with_faces : List (List ℕ) → List (List ℕ) → Result FaceLines OffFault → Result FaceLines OffFault
with_faces faces colours (Ok read) = Ok (record { faces = faces ++ read.faces; colours = colours ++ read.colours; lines = read.lines })
with_faces faces colours (Err e) = Err e

regroup : (faces colours : List (List ℕ)) (face : Face) (read : Result FaceLines OffFault) → with_faces faces colours (with_face face read) ≡ with_faces (faces ++ face.corners ∷ []) (colours ++ face.colour ∷ []) read
regroup faces colours face (Ok read) = rw (append_assoc faces (face.corners ∷ []) read.faces, append_assoc colours (face.colour ∷ []) read.colours) refl
regroup faces colours face (Err e) = refl

module _ (v f done : ℕ) (front colours : List (List ℕ)) (lines : List TextLine) (total : Result FaceLines OffFault) (so_far : with_faces front colours (faces_at true v (f - done) (sum_by length front) lines) ≡ total) where
  pub face_early : done < f → lines ≡ [] → total ≡ Err (Early (f - done))
  unfolding faces_at
  face_early lt none =
      let k : f - done ≡ suc (f - (done + 1)) = omega arith in
      let one : with_faces front colours (faces_at true v (f - done) (sum_by length front) lines) ≡ Err (Early (f - done)) = rw (k, none) refl in
      sym so_far ∙ one

  module _ (line : TextLine) (rest : List TextLine) (lt : done < f) (is : lines ≡ line ∷ rest) where
    pub face_more : (face : Face) → face_of true v (sum_by length front) line ≡ Ok face
        → with_faces (front ++ face.corners ∷ []) (colours ++ face.colour ∷ []) (faces_at true v (f - (done + 1)) (sum_by length (front ++ face.corners ∷ [])) rest) ≡ total
    unfolding faces_at
    face_more face good =
        let k : f - done ≡ suc (f - (done + 1)) = omega arith in
        let one : with_faces front colours (faces_at true v (f - done) (sum_by length front) lines) ≡ with_faces (front ++ face.corners ∷ []) (colours ++ face.colour ∷ []) (faces_at true v (f - (done + 1)) (sum_by length front + length face.corners) rest) =
        rw (k, is, good) (regroup front colours face (faces_at true v (f - (done + 1)) (sum_by length front + length face.corners) rest)) in
        ap (λ (sides : ℕ). with_faces (front ++ face.corners ∷ []) (colours ++ face.colour ∷ []) (faces_at true v (f - (done + 1)) sides rest)) (sum_by_push length front face.corners) ∙ sym one ∙ so_far

    pub face_bad : (e : OffFault) → face_of true v (sum_by length front) line ≡ Err e → total ≡ Err e
    unfolding faces_at
    face_bad e bad =
        let k : f - done ≡ suc (f - (done + 1)) = omega arith in
        let one : with_faces front colours (faces_at true v (f - done) (sum_by length front) lines) ≡ Err e = rw (k, is, bad) refl in
        sym so_far ∙ one

  pub faces_done : f ≤ done → total ≡ Ok (record { faces = front; colours = colours; lines = lines })
  unfolding faces_at
  faces_done le =
      let k : f - done ≡ 0 = omega arith in
      let one : with_faces front colours (faces_at true v (f - done) (sum_by length front) lines) ≡ Ok (record { faces = front; colours = colours; lines = lines }) = rw (k, append-nil front, append-nil colours) refl in
      sym so_far ∙ one
