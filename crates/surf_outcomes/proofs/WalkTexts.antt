-- What is read as a walk is closed, what is read as vertices are vertices, and what is read as evidence rises.
use Rattle.surf_cert.proofs.Common.{◌≡◌, ℕ, ◌<◌, ◌*◌, ◌&&◌, Bool, true, false, not, nat_le, nat_lt, ◌==◌, List, [], ◌∷◌, length, Option, Some, None, Result, Ok, Err, refl, sym, subst, All, IfSome, position, Mesh, pair_of, pair_lt, among, steps, edges, first, last, IsClosed, TextLine, tokens_of, lines_of}
use Rattle.std.specs.Prelude.{codes, if◌then◌else◌}
use Rattle.std.specs.Str.{bytes_eq}
use Rattle.surf_base.specs.Gives.{◌>>=◌}
use Rattle.surf_classes.specs.Evidence.{Evidence, null_faces, odd_pairs, IsRising}
use Rattle.surf_class.specs.Numbers.{numbers_from}
use Rattle.surf_class.specs.Walks.{form_fault, as_numbers, unless_at, if_vertices, if_joined, if_closed, if_alone, walk_of, walk_in}
use Rattle.surf_class.specs.Points.{form_fault as point_fault, as_numbers as point_numbers, unless_at as unless_point, if_vertices as if_points, if_alone as if_points_alone, points_of, points_in}
use Rattle.surf_class.specs.Evidences.{is_rising, is_ordered, two_by_two, face_numbers, pair_list, pair_numbers, counted, if_formed, evidence_of, if_alone as if_evidence_alone, evidence_on, evidence_in}
use Rattle.surf_class.specs.declared.fault.EvidenceFault.{EvidenceFault}
use Rattle.surf_class.specs.declared.fault.WalkFault.{WalkFault}
use Rattle.surf_class.specs.declared.fault.WalkFault.TheVariants.{NotVertex, NotEdge, Unclosed}
use Rattle.surf_class.specs.declared.fault.EvidenceFault.TheVariants.{Header}
use Rattle.surf_class.specs.declared.points.PointFault.{PointFault}
use Rattle.surf_class.proofs.WalkLines.{closed}
use Rattle.surf_class.proofs.PointLines.{inside}
use Rattle.surf_class.proofs.Increasing.{numbers_increase, pairs_increase}
use Rattle.surf_class.proofs.Lists.{and_second}
use Rattle.surf_outcomes.proofs.Holding.{Holds, then_holds, of_read, of_choice}

-- ---- walks

-- numbers that are read go on, with other faults
gone_on : {F G : Type 0} (f : Result (List ℕ) F → Result (List ℕ) G) → ((ns : List ℕ) → f (Ok ns) ≡ Ok ns) →
    ((fault : F) → (g : G) × (f (Err fault) ≡ Err g)) → (r : Result (List ℕ) F) → Holds (λ ns. r ≡ Ok ns) (f r)
gone_on f ok bad (Ok ns) = subst (Holds (λ ms. Ok ns ≡ Ok ms)) (sym (ok ns)) refl
gone_on f ok bad (Err fault) = subst (Holds (λ ms. Err fault ≡ Ok ms)) (sym (bad fault).1) tt

unless_holds : (P : List ℕ → Type 0) (fault : ℕ → WalkFault) (xs : List ℕ) (o : Option ℕ) → (o ≡ None → P xs) →
    Holds P (unless_at fault xs o)
unless_holds P fault xs None is = is refl
unless_holds P fault xs (Some place) is = tt

alone_holds : (P : List ℕ → Type 0) (lines : List TextLine) (xs : List ℕ) → P xs → Holds P (if_alone lines xs)
alone_holds P [] xs is = is
alone_holds P (line ∷ lines) xs is = tt

module _ (mesh : Mesh) (text : List ℕ) where
  abbrev AreRead : TextLine → List ℕ → Type 0
  AreRead line xs = numbers_from 0 (tokens_of line.bytes) ≡ Ok xs

  abbrev AreVertices : TextLine → List ℕ → Type 0
  AreVertices line xs = AreRead line xs × (position (λ v. nat_le mesh.vertices v) xs ≡ None)

  abbrev AreJoined : TextLine → List ℕ → Type 0
  AreJoined line xs =
      AreVertices line xs × (position (λ s. not (among (pair_of s) (edges mesh))) (steps xs) ≡ None)

  walk_holds : (lines : List TextLine) → lines_of text ≡ lines → Holds (IsClosed mesh) (walk_of mesh lines)
  walk_holds [] is = tt
  walk_holds (line ∷ lines) is =
      let read : Result (List ℕ) WalkFault = as_numbers (numbers_from 0 (tokens_of line.bytes)) in
      let inside : Result (List ℕ) WalkFault = read >>= if_vertices mesh in
      let joined : Result (List ℕ) WalkFault = inside >>= if_joined mesh in
      let round : Result (List ℕ) WalkFault = joined >>= if_closed in
      then_holds (IsClosed mesh) (IsClosed mesh) round (if_alone lines)
      (then_holds (AreJoined line) (IsClosed mesh) joined if_closed
      (then_holds (AreVertices line) (AreJoined line) inside (if_joined mesh)
      (then_holds (AreRead line) (AreVertices line) read (if_vertices mesh)
      (gone_on as_numbers (λ ns. refl) (λ fault. (form_fault fault, refl)) (numbers_from 0 (tokens_of line.bytes)))
      (λ xs is_read. unless_holds (AreVertices line) NotVertex xs (position (λ v. nat_le mesh.vertices v) xs)
      (λ none. (is_read, none))))
      (λ xs so. unless_holds (AreJoined line) NotEdge xs
      (position (λ s. not (among (pair_of s) (edges mesh))) (steps xs)) (λ none. (so, none))))
      (λ xs so. of_choice (IsClosed mesh) (first xs == last xs) (Ok xs) (Err Unclosed)
      (λ back. closed mesh text line lines is xs so.0.0 so.0.1 so.1 back) (λ _. tt)))
      (λ xs back. alone_holds (IsClosed mesh) lines xs back)

pub texts_are_closed : (mesh : Mesh) (text walk : List ℕ) → walk_in mesh text ≡ Ok walk → IsClosed mesh walk
texts_are_closed mesh text walk is =
    of_read (IsClosed mesh) (walk_in mesh text) walk is (walk_holds mesh text (lines_of text) refl)

-- ---- vertices

unless_point_holds : (P : List ℕ → Type 0) (xs : List ℕ) (o : Option ℕ) → (o ≡ None → P xs) → Holds P (unless_point xs o)
unless_point_holds P xs None is = is refl
unless_point_holds P xs (Some place) is = tt

points_alone_hold : (P : List ℕ → Type 0) (lines : List TextLine) (xs : List ℕ) → P xs → Holds P (if_points_alone lines xs)
points_alone_hold P [] xs is = is
points_alone_hold P (line ∷ lines) xs is = tt

abbrev AreInside : Mesh → List ℕ → Type 0
AreInside mesh xs = All (λ v. v < mesh.vertices) xs

points_hold : (mesh : Mesh) (text : List ℕ) (lines : List TextLine) → lines_of text ≡ lines →
    Holds (AreInside mesh) (points_of mesh lines)
points_hold mesh text [] is = tt
points_hold mesh text (line ∷ lines) is =
    let read : Result (List ℕ) PointFault = point_numbers (numbers_from 0 (tokens_of line.bytes)) in
    let within : Result (List ℕ) PointFault = read >>= if_points mesh in
    then_holds (AreInside mesh) (AreInside mesh) within (if_points_alone lines)
    (then_holds (AreRead mesh text line) (AreInside mesh) read (if_points mesh)
    (gone_on point_numbers (λ ns. refl) (λ fault. (point_fault fault, refl)) (numbers_from 0 (tokens_of line.bytes)))
    (λ xs is_read. unless_point_holds (AreInside mesh) xs (position (λ v. nat_le mesh.vertices v) xs)
    (λ none. inside mesh text line lines is xs is_read none)))
    (λ xs all. points_alone_hold (AreInside mesh) lines xs all)

pub texts_are_vertices : (mesh : Mesh) (text points : List ℕ) → points_in mesh text ≡ Ok points →
    All (λ v. v < mesh.vertices) points
texts_are_vertices mesh text points is =
    of_read (AreInside mesh) (points_in mesh text) points is (points_hold mesh text (lines_of text) refl)

-- ---- evidence

if_some : {A : Type 0} (P : A → Type 0) (b : Bool) (o : Option A) → (b ≡ true → IfSome o P) →
    IfSome (if b then o else None) P
if_some P true o is = is refl
if_some P false o is = tt

faces_rise : (n : ℕ) (faces : List ℕ) → IfSome (face_numbers n faces) IsRising
faces_rise n faces =
    if_some IsRising ((length faces == n) && is_rising nat_lt faces) (Some (null_faces faces))
    (λ is. numbers_increase faces (and_second (length faces == n) (is_rising nat_lt faces) is))

pairs_rise : (n : ℕ) (numbers : List ℕ) → IfSome (pair_numbers n numbers) IsRising
pairs_rise n numbers =
    if_some IsRising (length numbers == 2 * n) (pair_list (two_by_two numbers))
    (λ _. if_some IsRising (is_ordered (two_by_two numbers) && is_rising pair_lt (two_by_two numbers))
    (Some (odd_pairs (two_by_two numbers)))
    (λ is. pairs_increase (two_by_two numbers)
    (and_second (is_ordered (two_by_two numbers)) (is_rising pair_lt (two_by_two numbers)) is)))

-- what is so of all that may be read is so of what is read
of_either : {F : Type 0} (f : Result (List ℕ) F → Option Evidence) → ((ns : List ℕ) → IfSome (f (Ok ns)) IsRising) →
    ((fault : F) → IfSome (f (Err fault)) IsRising) → (r : Result (List ℕ) F) → IfSome (f r) IsRising
of_either f ok bad (Ok ns) = ok ns
of_either f ok bad (Err fault) = bad fault

counted_rise : (listed : ℕ → List ℕ → Option Evidence) (tokens : List (List ℕ)) →
    ((n : ℕ) (numbers : List ℕ) → IfSome (listed n numbers) IsRising) →
    IfSome (counted listed (numbers_from 0 tokens)) IsRising
counted_rise listed tokens all = of_either (counted listed) some (λ fault. tt) (numbers_from 0 tokens)
  where
    some : (ns : List ℕ) → IfSome (counted listed (Ok ns)) IsRising
    some [] = tt
    some (n ∷ numbers) = all n numbers

formed_holds : (line : ℕ) (o : Option Evidence) → IfSome o IsRising → Holds IsRising (if_formed line o)
formed_holds line None is = tt
formed_holds line (Some evidence) is = is

line_rises : (line : ℕ) (tokens : List (List ℕ)) → Holds IsRising (evidence_of line tokens)
line_rises line [] = tt
line_rises line (word ∷ tokens) =
    let faces : Result Evidence EvidenceFault = if_formed line (counted face_numbers (numbers_from 0 tokens)) in
    let pairs : Result Evidence EvidenceFault = if_formed line (counted pair_numbers (numbers_from 0 tokens)) in
    let none : Result Evidence EvidenceFault = Err (Header line) in
    of_choice IsRising (bytes_eq word (codes "null")) faces (if bytes_eq word (codes "odd") then pairs else none)
    (λ _. formed_holds line (counted face_numbers (numbers_from 0 tokens))
    (counted_rise face_numbers tokens faces_rise))
    (λ _. of_choice IsRising (bytes_eq word (codes "odd")) pairs none
    (λ _. formed_holds line (counted pair_numbers (numbers_from 0 tokens))
    (counted_rise pair_numbers tokens pairs_rise)) (λ _. tt))

evidence_alone_holds : (lines : List TextLine) (r : Result Evidence EvidenceFault) → Holds IsRising r →
    Holds IsRising (if_evidence_alone lines r)
evidence_alone_holds lines (Err fault) is = tt
evidence_alone_holds [] (Ok evidence) is = is
evidence_alone_holds (line ∷ lines) (Ok evidence) is = tt

evidence_holds : (lines : List TextLine) → Holds IsRising (evidence_on lines)
evidence_holds [] = tt
evidence_holds (line ∷ lines) = evidence_alone_holds lines (evidence_of line.number (tokens_of line.bytes)) (line_rises line.number (tokens_of line.bytes))

pub texts_rise : (text : List ℕ) (evidence : Evidence) → evidence_in text ≡ Ok evidence → IsRising evidence
texts_rise text evidence is = of_read IsRising (evidence_in text) evidence is (evidence_holds (lines_of text))
