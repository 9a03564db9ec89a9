-- The mesh of a text has at most a million vertices and two million faces.
use Rattle.surf_surfaces.proofs.Common.{◌≡◌, ◌≤◌, ℕ, zero, suc, ◌+◌, Bool, true, false, List, [], ◌∷◌, length, Result, Ok, Err, refl, sym, ap, subst, inl, inr, nat_lt, if◌then◌else◌, cases_lt, lt-ltb, le-ltb, Mesh, face_count}
use Rattle.std.specs.Prelude.{ok_or}
use Rattle.surf_base.specs.declared.limits.LimitKind.TheVariants.{Vertices, Faces}
use Rattle.surf_text.specs.Text.{TextLine, lines_of}
use Rattle.surf_base.specs.Gives.{◌>>=◌}
use Rattle.surf_off.specs.Off.{OffParts, FaceLines, Face, head_of, number_at, counts_of, vertices_at, face_of, faces_at, ended, off_in, off_of}
use Rattle.surf_off.specs.declared.fault.OffFault.{OffFault}
use Rattle.surf_off.specs.declared.fault.OffFault.TheVariants.{Counts, Limit}
use Rattle.surf_off.proofs.FaceLines.{with_face}

-- what is read, if anything is, is so
abbrev pub Holds : {A : Type 0} → (A → Type 0) → Result A OffFault → Type 0
Holds P (Ok x) = P x
Holds P (Err e) = Unit {0}

pub then_holds : {A B : Type 0} (P : A → Type 0) (Q : B → Type 0) (r : Result A OffFault) (f : A → Result B OffFault) → Holds P r →
    ((x : A) → P x → Holds Q (f x)) → Holds Q (r >>= f)
then_holds P Q (Ok x) f here next = next x here
then_holds P Q (Err e) f here next = tt

pub anything : {A : Type 0} (r : Result A OffFault) → Holds (λ x. Unit {0}) r
anything (Ok x) = tt
anything (Err e) = tt

abbrev pub AreFew : ℕ × ℕ → Type 0
AreFew counts = (counts.0 ≤ 1000000) × (counts.1 ≤ 2000000)

abbrev within_limits : ℕ → ℕ → ℕ → Result (ℕ × ℕ) OffFault
within_limits n v f =
    if nat_lt 1000000 v then Err (Limit n Vertices) else (if nat_lt 2000000 f then Err (Limit n Faces) else Ok (v, f))

limited_few : (n v f : ℕ) → Holds AreFew (within_limits n v f)
limited_few n v f = elim (cases_lt 1000000 v) [
  | inl many ↦ let t : nat_lt 1000000 v ≡ true = lt-ltb _ _ many in rw t tt
  | inr few ↦ let t : nat_lt 1000000 v ≡ false = le-ltb _ _ few in
      elim (cases_lt 2000000 f) [
        | inl more ↦ let u : nat_lt 2000000 f ≡ true = lt-ltb _ _ more in rw (t, u) tt
        | inr less ↦ let u : nat_lt 2000000 f ≡ false = le-ltb _ _ less in rw (t, u) (few, less)
      ]
]

counts_few : (n : ℕ) (words : List (List ℕ)) → Holds AreFew (counts_of true n words)
unfolding counts_of
counts_few n words =
    let first = ok_or (number_at words 0) (Counts n) in
    let second = ok_or (number_at words 1) (Counts n) in
    then_holds (λ v. Unit {0}) AreFew first _ (anything first)
    (λ v _. then_holds (λ f. Unit {0}) AreFew second _ (anything second) (λ f _. limited_few n v f))

-- so many faces as were asked for
one_more : (f : ℕ) (face : Face) (r : Result FaceLines OffFault) → Holds (λ x. length x.faces ≡ f) r → Holds (λ x. length x.faces ≡ suc f) (with_face face r)
one_more f face (Ok rest) is = ap suc is
one_more f face (Err e) is = tt

as_many_faces : (limited : Bool) (v f sides : ℕ) (lines : List TextLine) → Holds (λ x. length x.faces ≡ f) (faces_at limited v f sides lines)
unfolding faces_at
as_many_faces limited v zero sides lines = refl
as_many_faces limited v (suc f) sides [] = tt
as_many_faces limited v (suc f) sides (line ∷ lines) =
    then_holds (λ x. Unit {0}) (λ x. length x.faces ≡ suc f) (face_of limited v sides line) (λ face. with_face face (faces_at limited v f (sides + length face.corners) lines))
    (anything (face_of limited v sides line))
    (λ face _. one_more f face (faces_at limited v f (sides + length face.corners) lines) (as_many_faces limited v f (sides + length face.corners) lines))

abbrev pub HasFew : OffParts × Mesh → Type 0
HasFew read = (read.1.vertices ≤ 1000000) × (face_count read.1 ≤ 2000000)

ends_few : (read : OffParts × Mesh) (lines : List TextLine) → HasFew read → Holds HasFew (ended read lines)
ends_few read [] few = few
ends_few read (line ∷ lines) few = tt

texts_few : (text : List ℕ) → Holds HasFew (off_of text)
unfolding off_in
texts_few text =
    then_holds (λ x. Unit {0}) HasFew (head_of (lines_of text)) _ (anything (head_of (lines_of text)))
    (λ head _. then_holds AreFew HasFew (counts_of true head.number head.counts) _ (counts_few head.number head.counts)
    (λ counts few. then_holds (λ x. Unit {0}) HasFew (vertices_at counts.0 counts.1 head.lines) _ (anything (vertices_at counts.0 counts.1 head.lines))
    (λ vertices _. then_holds (λ x. length x.faces ≡ counts.1) HasFew (faces_at true counts.0 counts.1 0 vertices.1) _ (as_many_faces true counts.0 counts.1 0 vertices.1)
    (λ faces many. ends_few _ faces.lines (few.0, subst (λ n. n ≤ 2000000) (sym many) few.1)))))

pub mesh_texts_are_few : (text : List ℕ) (read : OffParts × Mesh) → off_of text ≡ Ok read → HasFew read
mesh_texts_are_few text read is = subst (λ r. Holds HasFew r) is (texts_few text)
