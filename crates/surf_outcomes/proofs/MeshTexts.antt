-- What is read as the text of a mesh is a mesh.
use Rattle.surf_surfaces.proofs.Common.{◌≡◌, ◌≢◌, ◌<◌, ◌≤◌, ◌+◌, ◌++◌, ◌∷◌, ◌&&◌, ◌||◌, ℕ, zero, suc, Bool, true, false, List, [], length, take, drop, Option, Some, None, Result, Ok, Err, refl, sym, ap, ◌∙◌, subst, arith, inl, inr, nat_lt, nat_le, cases_Bool, and_parts, leb-true, ltb-true, eqb-false, AllByRecursion, AllPairs, All-from_recursion, Mesh, IsMesh, IsFace, ◌==◌}
use Rattle.std.specs.List.{list_any}
use Rattle.std.specs.Prelude.{ok_or}
use Rattle.surf_surfaces.proofs.meshes.EdgeLaws.{list_any-append}
use Rattle.surf_text.specs.Text.{TextLine, tokens_of, lines_of, whole}
use Rattle.surf_off.specs.Off.{head_of, counts_of, vertices_at, size_of, few_sides, corner_read, corners_at, first_repeat, distinct, Face, face_of, FaceLines, faces_at, OffParts, ended, off_in, off_of, number_at}
use Rattle.surf_off.specs.declared.fault.OffFault.{OffFault}
use Rattle.surf_off.specs.declared.fault.OffFault.TheVariants.{FaceSize}
use Rattle.surf_outcomes.proofs.Holding.{Holds, then_holds, anything, of_read, of_choice}

-- ---- corners that differ

abbrev pub Apart : List ℕ → Type 0
Apart [] = Unit {0}
Apart (u ∷ us) = AllByRecursion (λ w. u ≢ w) us × Apart us

pub apart_pairs : (us : List ℕ) → Apart us → AllPairs (λ a b. a ≢ b) us
apart_pairs [] is i j d before within = absurd (omega (arith, within))
apart_pairs (u ∷ us) is i zero d before within = absurd (omega (arith, before))
apart_pairs (u ∷ us) is zero (suc j) d before within =
    All-from_recursion (λ w. u ≢ w) us is.0 j d (omega (arith, within))
apart_pairs (u ∷ us) is (suc i) (suc j) d before within =
    apart_pairs us is.1 i j d (omega (arith, before)) (omega (arith, within))

-- a number isn't in the list
abbrev IsNew : List ℕ → ℕ → Type 0
IsNew seen w = list_any (λ s. s == w) seen ≡ false

split_or : (a b : Bool) → (a || b) ≡ false → (a ≡ false) × (b ≡ false)
split_or true b is = absurd cc
split_or false b is = (refl, is)

each_new : (seen : List ℕ) (u : ℕ) (us : List ℕ) → AllByRecursion (IsNew (seen ++ u ∷ [])) us →
    AllByRecursion (IsNew seen) us × AllByRecursion (λ w. u ≢ w) us
each_new seen u [] all = (tt, tt)
each_new seen u (w ∷ us) all =
    let rest = each_new seen u us all.1 in
    let parts = split_or (list_any (λ s. s == w) seen) (list_any (λ s. s == w) (u ∷ []))
    (sym (list_any-append (λ s. s == w) seen (u ∷ [])) ∙ all.0) in
    let other : (u == w) ≡ false = (split_or (u == w) false parts.1).0 in
    ((parts.0, rest.0), (eqb-false u w other, rest.1))

pub none_repeats : (seen us : List ℕ) → first_repeat seen us ≡ None → AllByRecursion (IsNew seen) us × Apart us
unfolding first_repeat
none_repeats seen [] is = (tt, tt)
none_repeats seen (u ∷ us) is = elim (cases_Bool (list_any (λ s. s == u) seen)) [
  | inl again ↦ absurd (let bad : Some u ≡ None = rw again at is in cc)
  | inr new ↦
      let rest = none_repeats (seen ++ u ∷ []) us (rw new at is) in
      let parts = each_new seen u us rest.0 in
      ((new, parts.0), (parts.1, rest.1))
]

-- ---- faces

pub sized : (n : ℕ) (words : List (List ℕ)) →
    Holds (λ k. (3 ≤ k) × (k ≤ length (drop 1 words))) (size_of n words)
unfolding size_of
sized n words =
    let first : Result ℕ OffFault = ok_or (number_at words 0) (FaceSize n) in
    then_holds (λ k. Unit {0}) (λ k. (3 ≤ k) × (k ≤ length (drop 1 words))) first _ (anything first)
    (λ k _. of_choice (λ j. (3 ≤ j) × (j ≤ length (drop 1 words))) (nat_le 3 k && nat_le k (length (drop 1 words)))
    (Ok k) (Err (FaceSize n))
    (λ fits. let both = and_parts (nat_le 3 k) (nat_le k (length (drop 1 words))) fits in
    (leb-true 3 k both.0, leb-true k (length (drop 1 words)) both.1)) (λ _. tt))

pub same_size : (limited : Bool) (n sides k : ℕ) → Holds (λ x. x ≡ k) (few_sides limited n sides k)
same_size limited n sides k =
    of_choice (λ x. x ≡ k) (limited && nat_lt 6000000 (sides + k)) _ (Ok k) (λ _. tt) (λ _. refl)

corner_in : (n v place : ℕ) (o : Option ℕ) → Holds (λ u. u < v) (corner_read n v place o)
corner_in n v place None = tt
corner_in n v place (Some u) = of_choice (λ x. x < v) (nat_lt u v) (Ok u) _ (λ less. ltb-true u v less) (λ _. tt)

abbrev pub AreCorners : ℕ → List (List ℕ) → List ℕ → Type 0
AreCorners v words us = (length us ≡ length words) × AllByRecursion (λ u. u < v) us

pub corners_in : (n v place : ℕ) (words : List (List ℕ)) → Holds (AreCorners v words) (corners_at n v place words)
unfolding corners_at
corners_in n v place [] = (refl, tt)
corners_in n v place (word ∷ words) =
    then_holds (λ u. u < v) (AreCorners v (word ∷ words)) (corner_read n v place (whole word)) _
    (corner_in n v place (whole word))
    (λ u less. then_holds (AreCorners v words) (AreCorners v (word ∷ words)) (corners_at n v (place + 1) words) _
    (corners_in n v (place + 1) words) (λ us are. (ap suc are.0, (less, are.1))))

pub differing : (n : ℕ) (us : List ℕ) (o : Option ℕ) → first_repeat [] us ≡ o →
    Holds (λ xs. (xs ≡ us) × Apart us) (distinct n us o)
differing n us None is = (refl, (none_repeats [] us is).1)
differing n us (Some u) is = tt

pub taken : (k : ℕ) (words : List (List ℕ)) → k ≤ length words → length (take k words) ≡ k
taken zero words le = refl
taken (suc k) [] le = absurd (omega (arith, le))
taken (suc k) (w ∷ ws) le = ap suc (taken k ws (omega (arith, le)))

face_is : (limited : Bool) (v sides : ℕ) (line : TextLine) →
    Holds (λ (face : Face). IsFace v face.corners) (face_of limited v sides line)
unfolding face_of
face_is limited v sides line =
    let words : List (List ℕ) = tokens_of line.bytes in
    let Good : Face → Type 0 = λ face. IsFace v face.corners in
    then_holds (λ k. (3 ≤ k) × (k ≤ length (drop 1 words))) Good (size_of line.number words) _ (sized line.number words)
    (λ size fits. then_holds (λ x. x ≡ size) Good (few_sides limited line.number sides size) _
    (same_size limited line.number sides size)
    (λ k same. then_holds (AreCorners v (take k (drop 1 words))) Good
    (corners_at line.number v 0 (take k (drop 1 words))) _ (corners_in line.number v 0 (take k (drop 1 words)))
    (λ us are. then_holds (λ xs. (xs ≡ us) × Apart us) Good (distinct line.number us (first_repeat [] us)) _
    (differing line.number us (first_repeat [] us) refl)
    (λ xs apart.
    let many = taken k (drop 1 words) (let le = fits.1 in omega (arith, same, le)) in
    let count = are.0 in
    let three = fits.0 in
    let is : IsFace v us =
    record {
      large = omega (arith, many, count, same, three);
      distinct = apart_pairs us apart.1;
      inside = All-from_recursion (λ u. u < v) us are.1;
    } in
    subst (IsFace v) (sym apart.0) is))))

faces_are : (limited : Bool) (v f sides : ℕ) (lines : List TextLine) →
    Holds (λ (read : FaceLines). AllByRecursion (IsFace v) read.faces) (faces_at limited v f sides lines)
unfolding faces_at
faces_are limited v zero sides lines = tt
faces_are limited v (suc f) sides [] = tt
faces_are limited v (suc f) sides (line ∷ lines) =
    let Good : FaceLines → Type 0 = λ read. AllByRecursion (IsFace v) read.faces in
    then_holds (λ (face : Face). IsFace v face.corners) Good (face_of limited v sides line) _
    (face_is limited v sides line)
    (λ face is. then_holds Good Good (faces_at limited v f (sides + length face.corners) lines) _
    (faces_are limited v f (sides + length face.corners) lines) (λ rest all. (is, all)))

-- ---- the text

pub ends_so : (P : OffParts × Mesh → Type 0) (read : OffParts × Mesh) (lines : List TextLine) → P read →
    Holds P (ended read lines)
ends_so P read [] is = is
ends_so P read (line ∷ lines) is = tt

texts_hold : (limited : Bool) (lines : List TextLine) →
    Holds (λ (read : OffParts × Mesh). IsMesh read.1) (off_in limited lines)
unfolding off_in
texts_hold limited lines =
    let Good : OffParts × Mesh → Type 0 = λ read. IsMesh read.1 in
    then_holds (λ _. Unit {0}) Good (head_of lines) _ (anything (head_of lines))
    (λ head _. then_holds (λ _. Unit {0}) Good (counts_of limited head.number head.counts) _
    (anything (counts_of limited head.number head.counts))
    (λ counts _. then_holds (λ _. Unit {0}) Good (vertices_at counts.0 counts.1 head.lines) _
    (anything (vertices_at counts.0 counts.1 head.lines))
    (λ vertices _. then_holds (λ (read : FaceLines). AllByRecursion (IsFace counts.0) read.faces) Good
    (faces_at limited counts.0 counts.1 0 vertices.1) _ (faces_are limited counts.0 counts.1 0 vertices.1)
    (λ faces all. ends_so Good _ faces.lines (All-from_recursion (IsFace counts.0) faces.faces all)))))

pub texts_are_meshes : (text : List ℕ) (read : OffParts × Mesh) → off_of text ≡ Ok read → IsMesh read.1
texts_are_meshes text read is =
    of_read (λ (r : OffParts × Mesh). IsMesh r.1) (off_of text) read is (texts_hold true (lines_of text))
