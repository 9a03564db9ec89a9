-- What is sewn is a mesh, each of whose vertices has a copy.
use Rattle.surf_sew.proofs.Common.{◌≡◌, ◌<◌, ◌+◌, ℕ, zero, suc, Bool, true, false, not, List, [], ◌∷◌, length, get_or, Option, Some, None, Result, Ok, refl, sym, subst, arith, inl, inr, eq-eqb, eqb-true, ◌==◌, cases_Bool, cases_lt, All, Mesh, IsMesh, IsFace, range_with_len, copies_in, counted, copy_lines, origins_from, first_repeat, HaveCopies, different, gap_fault, line_fault, is_among, sewn_face, sewn_faces, sewn_mesh, sewn_of, unless}
use Rattle.surf_surfaces.proofs.Common.{AllByRecursion, All-from_recursion, recursion_from_All}
use Rattle.surf_surfaces.proofs.meshes.EdgeLaws.{list_any_from}
use Rattle.std.specs.List.{find}
use Rattle.std.specs.Option.{option_map, option_or}
use Rattle.surf_sew.specs.Sewing.{repeat_from}
use Rattle.surf_sew.specs.declared.fault.SewFault.{SewFault}
use Rattle.surf_sew.proofs.Gaps.{one_more}
use Rattle.surf_sew.proofs.Faults.{sewn_is_face}
use Rattle.surf_sew.specs.declared.fault.SewFault.TheVariants.{FaceRepeat, Gap}
use Rattle.surf_outcomes.proofs.Holding.{Holds, then_holds, anything, of_read, of_choice}
use Rattle.surf_outcomes.proofs.MeshTexts.{apart_pairs, none_repeats}

-- as many origins are read as there are copies
pub origins_counted : (text : List ℕ) (count : ℕ) (origins : List ℕ) → copies_in text count ≡ Ok origins →
    length origins ≡ count
origins_counted text count origins is =
    of_read (λ (xs : List ℕ). length xs ≡ count) (copies_in text count) origins is
    (then_holds (λ _. Unit {0}) (λ (xs : List ℕ). length xs ≡ count) (origins_from 0 (copy_lines text)) (counted count)
    (anything (origins_from 0 (copy_lines text)))
    (λ xs _. of_choice (λ (ys : List ℕ). length ys ≡ count) (length xs == count) _ _
    (λ same. eqb-true (length xs) count same) (λ _. tt)))

unless_holds : (P : Mesh → Type 0) (o : Option SewFault) (r : Result Mesh SewFault) → (o ≡ None → Holds P r) →
    Holds P (unless o r)
unless_holds P None r is = is refl
unless_holds P (Some fault) r is = tt

-- without a fault
pub record AreSewn (copies : Mesh) (origins : List ℕ) (mesh : Mesh) : Type 0 where
  pub no_gap : gap_fault origins ≡ None
  pub no_repeat : repeat_from 0 (sewn_faces origins copies.faces) ≡ None
  pub is : mesh ≡ sewn_mesh origins copies.faces

are_sewn : (lines : List (List ℕ)) (copies : Mesh) (origins : List ℕ) (mesh : Mesh) →
    sewn_of lines copies origins ≡ Ok mesh → AreSewn copies origins mesh
are_sewn lines copies origins mesh is =
    of_read (AreSewn copies origins) (sewn_of lines copies origins) mesh is
    (unless_holds (AreSewn copies origins) (gap_fault origins) _
    (λ gap. unless_holds (AreSewn copies origins) (line_fault lines origins) _
    (λ _. unless_holds (AreSewn copies origins) (repeat_from 0 (sewn_faces origins copies.faces)) _
    (λ repeat. record { no_gap = gap; no_repeat = repeat; is = refl }))))

-- ---- copies

one_place : (p : ℕ → Bool) (a n k : ℕ) → k < suc n → p a ≡ false → ((j : ℕ) → j < n → p (a + 1 + j) ≡ false) →
    p (a + k) ≡ false
one_place p a n zero l out rest = let same : a + 0 ≡ a = omega arith in rw same out
one_place p a n (suc k) l out rest =
    let same : a + suc k ≡ a + 1 + k = omega arith in
    rw same (rest k (omega (arith, l)))

find_none : (p : ℕ → Bool) (a n : ℕ) → find p (range_with_len a n) ≡ None → (k : ℕ) → k < n → p (a + k) ≡ false
find_none p a zero is k l = absurd (omega (arith, l))
find_none p a (suc n) is k l = elim (cases_Bool (p a)) [
  | inl on ↦ absurd (let bad : Some a ≡ None = rw on at is in cc)
  | inr out ↦ one_place p a n k l out (find_none p (a + 1) n (rw out at is))
]

nothing_found : (o : Option ℕ) → option_map Gap o ≡ None → o ≡ None
nothing_found None is = refl
nothing_found (Some v) is = absurd cc

not_out : (b : Bool) → not b ≡ false → b ≡ true
not_out true is = refl
not_out false is = absurd cc

have_copies : (origins : List ℕ) → gap_fault origins ≡ None → HaveCopies origins (different origins)
have_copies origins is v l =
    let found = find_none (λ k. not (is_among k origins)) 0 (different origins)
    (nothing_found (find (λ k. not (is_among k origins)) (range_with_len 0 (different origins))) is) v l in
    let same : 0 + v ≡ v = omega arith in
    not_out (is_among v origins) (rw same at found)

all_within : (origins : List ℕ) → HaveCopies origins (different origins) → All (λ v. v < different origins) origins
all_within origins have k d l =
    let v : ℕ = get_or origins k d in
    elim (cases_lt v (different origins)) [
      | inl less ↦ less
      | inr more ↦
          let bad = one_more origins (different origins) have v
          (list_any_from (λ o. o == v) origins d k l (eq-eqb v v refl)) more in
          absurd (omega (arith, bad))
    ]

-- ---- faces

none_again : (f : ℕ) (o : Option ℕ) (rest : Option SewFault) → option_or (option_map (FaceRepeat f) o) rest ≡ None →
    (o ≡ None) × (rest ≡ None)
none_again f None rest is = (refl, is)
none_again f (Some v) rest is = absurd cc

no_repeats : (f : ℕ) (faces : List (List ℕ)) → repeat_from f faces ≡ None →
    AllByRecursion (λ face. first_repeat [] face ≡ None) faces
unfolding repeat_from
no_repeats f [] is = tt
no_repeats f (face ∷ faces) is =
    let both = none_again f (first_repeat [] face) (repeat_from (f + 1) faces) is in
    (both.0, no_repeats (f + 1) faces both.1)

faces_are : (origins : List ℕ) (n : ℕ) → All (λ v. v < n) origins → (faces : List (List ℕ)) →
    AllByRecursion (IsFace (length origins)) faces →
    AllByRecursion (λ face. first_repeat [] face ≡ None) (sewn_faces origins faces) →
    AllByRecursion (IsFace n) (sewn_faces origins faces)
faces_are origins n within [] good new = tt
faces_are origins n within (face ∷ faces) good new = (
  sewn_is_face origins face n within good.0
      (apart_pairs (sewn_face origins face) (none_repeats [] (sewn_face origins face) new.0).1),
  faces_are origins n within faces good.1 new.1,
)

-- what is sewn of a mesh of copies
pub record IsSewnMesh (copies : Mesh) (origins : List ℕ) (mesh : Mesh) : Type 0 where
  pub have : HaveCopies origins mesh.vertices
  pub is_mesh : IsMesh mesh
  pub faces : mesh.faces ≡ sewn_faces origins copies.faces
  pub few : mesh.vertices ≡ different origins

pub sewn_is_mesh : (lines : List (List ℕ)) (copies : Mesh) (origins : List ℕ) (mesh : Mesh) → IsMesh copies →
    length origins ≡ copies.vertices → sewn_of lines copies origins ≡ Ok mesh → IsSewnMesh copies origins mesh
sewn_is_mesh lines copies origins mesh is_mesh count is =
    let sewn = are_sewn lines copies origins mesh is in
    let have = have_copies origins sewn.no_gap in
    let faces : IsMesh (sewn_mesh origins copies.faces) =
    All-from_recursion (IsFace (different origins)) (sewn_faces origins copies.faces)
    (faces_are origins (different origins) (all_within origins have) copies.faces
    (recursion_from_All (IsFace (length origins)) copies.faces (subst (λ n. All (IsFace n) copies.faces) (sym count) is_mesh))
    (no_repeats 0 (sewn_faces origins copies.faces) sewn.no_repeat)) in
    subst (IsSewnMesh copies origins) (sym sewn.is) (record { have = have; is_mesh = faces; faces = refl; few = refl })
