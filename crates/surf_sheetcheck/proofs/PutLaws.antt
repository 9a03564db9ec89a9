-- Tables that are put back, vertex by vertex.
use Rattle.surf_surfaces.proofs.Common.{◌≡◌, ◌≢◌, ℕ, ◌<◌, ◌≤◌, ◌+◌, List, [], length, get_or, set, replicate, Option, None, refl, sym, ap, ◌∙◌, arith, inl, inr, cases_eq, cases_lt, get_or-set_same, get_or-set_other, get_or-replicate, get_or_past, length-set, length-replicate, Mesh}
use Rattle.surf_base.specs.Tables.{at}
use Rattle.surf_sheetcheck.specs.Searches.{far}
use Rattle.surf_sheetcheck.specs.Tables.{IsFresh, IsSearched}
use Rattle.surf_sheetcheck.specs.Used.{IsStillUsed}
use Rattle.surf_sheetcheck.specs.declared.cases.SheetCase.{SheetCase}
use Rattle.surf_sheetcheck.specs.declared.cases.Task.{Task}
use Rattle.surf_sheetcheck.proofs.LabelLaws.{none_or_some}

pub still_more : (mesh : Mesh) (dist : List ℕ) (labels : List (Option ℕ)) (order : List ℕ) (n : ℕ) → at order n < mesh.vertices →
    IsStillUsed mesh dist labels order n →
    IsStillUsed mesh (set dist (at order n) far) (set labels (at order n) None) order (n + 1)
still_more mesh dist labels order n inside was = record {
  distances = length-set dist (at order n) far ∙ was.distances;
  room = length-set labels (at order n) None ∙ was.room;
  listed = λ v l some. elim (cases_eq v (at order n)) [
    | inl same ↦ absurd (some (ap (at (set dist (at order n) far)) same ∙ get_or-set_same dist (at order n) far 0 (omega (arith, inside, was.distances))))
    | inr ne ↦
        let (k, from, lk, is) = was.listed v l (λ none. some (get_or-set_other dist (at order n) v far 0 ne ∙ none)) in
        let other : k ≢ n = λ same. ne (sym is ∙ ap (at order) same) in
        (k, omega (arith, from, other), lk, is)
  ];
  only = λ v l some. elim (cases_eq v (at order n)) [
    | inl same ↦ absurd (some (ap (λ x. get_or (set labels (at order n) None) x None) same
        ∙ get_or-set_same labels (at order n) None None (omega (arith, inside, was.room))))
    | inr ne ↦ λ none. was.only v l (λ gone. some (get_or-set_other labels (at order n) v None None ne ∙ gone))
        (sym (get_or-set_other dist (at order n) v far 0 ne) ∙ none)
  ];
}

module _ (mesh : Mesh) (dist : List ℕ) (labels : List (Option ℕ)) (order : List ℕ) (n : ℕ) (all : length order ≤ n)
    (still : IsStillUsed mesh dist labels order n) where
  pub still_far : (v : ℕ) → v < mesh.vertices → at dist v ≡ far
  still_far v l = elim (cases_eq (at dist v) far) [
    | inl is ↦ is
    | inr some ↦ let (k, from, lk, is) = still.listed v l some in absurd (omega (arith, from, lk, all))
  ]

  pub still_none : (v : ℕ) → v < mesh.vertices → get_or labels v None ≡ None
  still_none v l = elim (none_or_some (get_or labels v None)) [
    | inl none ↦ none
    | inr some ↦ absurd (still.only v l some (still_far v l))
  ]

-- what a search leaves is used
pub searched_used : (c : SheetCase) (t : Task) (dist : List ℕ) (labels : List (Option ℕ)) (order : List ℕ) →
    IsSearched c t dist labels order → IsStillUsed c.mesh.now dist labels order 0
searched_used c t dist labels order searched = record {
  distances = searched.room;
  room = searched.labelled.room;
  listed = λ v l some. let (k, lk, is) = searched.settled.listed v l some in (k, omega arith, lk, is);
  only = searched.labelled.only;
}

-- new tables are fresh
pub fresh_tables : (mesh : Mesh) → IsFresh mesh (replicate mesh.vertices far) (replicate mesh.vertices None) (replicate mesh.vertices None) []
fresh_tables mesh = record {
  distances = length-replicate mesh.vertices far;
  free = λ v l. get_or-replicate mesh.vertices v far 0 l;
  room = length-replicate {A = Option ℕ} mesh.vertices None;
  none = λ v l. get_or-replicate mesh.vertices v None None l;
  places = length-replicate {A = Option (ℕ × ℕ)} mesh.vertices None;
  empty = λ v. elim (cases_lt v mesh.vertices) [
    | inl l ↦ get_or-replicate mesh.vertices v None None l
    | inr past ↦ get_or_past (replicate {A = Option (ℕ × ℕ)} mesh.vertices None) v None (let e = length-replicate {A = Option (ℕ × ℕ)} mesh.vertices None in omega (arith, e, past))
  ];
  unlisted = refl;
}
