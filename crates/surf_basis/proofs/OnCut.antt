-- Vertices that are marked on the ways up a tree, and the list of them.
use Rattle.surf_basis.proofs.Common.{TreeTables, tree_of, parent_of, LoopTables, IsRooted, IsGreedy, IsClosedUpward, HasVertex, HasEnds, IsPartOf, IsLeastSet, AreCutVertices, IsDividedBy, ◌≡◌, ◌≢◌, ℕ, ◌<◌, ◌≤◌, ◌+◌, ◌⊎◌, not, Bool, true, false, List, length, get_or, set, slice_index, Contains, refl, sym, ap, ◌∙◌, subst, arith, inl, inr, Option, Some, None, IsTrue, Tree, Mesh, edge_count, ends, cases_lt, cases_eq, and_parts, and_from, not-true, not_from_false, false≢true, get_or_default, get_or_past, get_or-set_other, tree_edges, cotree_edges, is_left, left_edges, cotree_of, is_among, is_marked, set_stays, set_there, among_marked, among_contained}
use Rattle.surf_opening.specs.OffTheCut.{HasMarkedEnds}
use Rattle.surf_cotree.specs.Grown.{IsMarked}

-- ---- one way

-- a way is marked up to a vertex from which it goes on, if that isn't marked
pub record IsClimbing (count : ℕ) (tree : Tree) (from at : ℕ) (old new : ℕ → Bool) : Type 0 where
  pub at_in : at < count
  pub begun : IsTrue (new from) ⊎ (at ≡ from)
  pub stay : IsPartOf old new
  pub parents : (v : ℕ) → v < count → v ≢ tree.root → IsTrue (new v) →
      IsTrue (new (tree.parent v)) ⊎ (tree.parent v ≡ at)
  pub least : (other : ℕ → Bool) → HasVertex from other → IsPartOf old other → IsClosedUpward count tree other →
      HasVertex at other × IsPartOf new other

-- where a way goes on from a vertex: at its parent, and at the root it stays
abbrev pub GoesOn : ℕ → Tree → ℕ → ℕ → Type 0
GoesOn count tree at next = ((at ≢ tree.root) × (next ≡ tree.parent at) × (next < count)) ⊎ ((at ≡ tree.root) × (next ≡ at))

pub climb_begun : (count : ℕ) (tree : Tree) (from : ℕ) (old : ℕ → Bool) → from < count → IsClosedUpward count tree old →
    IsClimbing count tree from from old old
climb_begun count tree from old from_in up = record {
  at_in = from_in;
  begun = inr refl;
  stay = λ v on. on;
  parents = λ v v_in ne on. inl (up v v_in ne on);
  least = λ other asked part closed. (asked, part);
}

-- what is marked when one more is
pub set_only : (marked : List Bool) (u v : ℕ) → IsTrue (is_marked (set marked u true) v) →
    IsTrue (is_marked marked v) ⊎ (v ≡ u)
set_only marked u v on = elim (cases_eq v u) [
  | inl same ↦ inr same
  | inr ne ↦ inl (sym (get_or-set_other marked u v true false ne) ∙ on)
]

pub climb_more : (count : ℕ) (tree : Tree) (from at next : ℕ) (old : ℕ → Bool) (marked : List Bool) → length marked ≡ count →
    IsClimbing count tree from at old (is_marked marked) → GoesOn count tree at next →
    IsClimbing count tree from next old (is_marked (set marked at true))
climb_more count tree from at next old marked size h on = record {
  at_in = elim on [
    | inl up ↦ up.2
    | inr root ↦ subst (λ n. n < count) (sym root.1) h.at_in
  ];
  begun = elim h.begun [
    | inl is ↦ inl (stays from is)
    | inr is ↦ inl (subst (λ v. IsTrue (is_marked (set marked at true) v)) is there)
  ];
  stay = λ v is. stays v (h.stay v is);
  parents = λ v v_in ne is. elim (set_only marked at v is) [
    | inl was ↦ elim (h.parents v v_in ne was) [
      | inl also ↦ inl (stays (tree.parent v) also)
      | inr here ↦ inl (subst (λ w. IsTrue (is_marked (set marked at true) w)) (sym here) there)
    ]
    | inr here ↦ elim on [
      | inl up ↦ inr (ap tree.parent here ∙ sym up.1)
      | inr root ↦ absurd (ne (here ∙ root.0))
    ]
  ];
  least = λ other asked part closed.
      (let both = h.least other asked part closed in (
        goes other closed both.0,
        λ v is. elim (set_only marked at v is) [
          | inl was ↦ both.1 v was
          | inr here ↦ subst (λ w. IsTrue (other w)) (sym here) both.0
        ],
      ));
}
  where
    at_in : at < length marked
    at_in = let inside = h.at_in in omega (arith, inside, size)

    there : IsTrue (is_marked (set marked at true) at)
    there = set_there marked at at_in

    stays : (v : ℕ) → IsTrue (is_marked marked v) → IsTrue (is_marked (set marked at true) v)
    stays v is = set_stays marked at v is at_in

    goes : (other : ℕ → Bool) → IsClosedUpward count tree other → IsTrue (other at) → IsTrue (other next)
    goes other closed is = elim on [
      | inl up ↦ subst (λ w. IsTrue (other w)) (sym up.1) (closed at h.at_in up.0 is)
      | inr root ↦ subst (λ w. IsTrue (other w)) (sym root.1) is
    ]

pub climb_done : (count : ℕ) (tree : Tree) (from at : ℕ) (old new : ℕ → Bool) → IsClimbing count tree from at old new →
    IsTrue (new at) → IsLeastSet count tree (HasVertex from) old new
climb_done count tree from at old new h on = record {
  asked = elim h.begun [
    | inl is ↦ is
    | inr is ↦ subst (λ v. IsTrue (new v)) is on
  ];
  stay = h.stay;
  parents = λ v v_in ne is. elim (h.parents v v_in ne is) [
    | inl also ↦ also
    | inr here ↦ subst (λ w. IsTrue (new w)) (sym here) on
  ];
  least = λ other asked part closed. (h.least other asked part closed).1;
}

one_unless : Bool → ℕ
one_unless true = 0
one_unless false = 1

at_most_one : (b : Bool) → one_unless b ≤ 1
unfolding one_unless
at_most_one true = omega arith
at_most_one false = omega arith

-- twice the rank of the vertex from which a way goes on, and one more where that isn't marked
pub steps_left : Tree → List Bool → ℕ → ℕ
steps_left tree marked at = tree.rank at + tree.rank at + one_unless (is_marked marked at)

pub climb_falls : (count : ℕ) (tree : Tree) (at next : ℕ) (marked : List Bool) → at < length marked →
    is_marked marked at ≡ false → (at ≢ tree.root → tree.rank (tree.parent at) < tree.rank at) → GoesOn count tree at next →
    steps_left tree (set marked at true) next < steps_left tree marked at
unfolding steps_left one_unless
climb_falls count tree at next marked at_in off falls on = elim on [
  | inl up ↦
      let below : tree.rank (tree.parent at) < tree.rank at = falls up.0 in
      let same : tree.rank next ≡ tree.rank (tree.parent at) = ap tree.rank up.1 in
      let old : one_unless (is_marked marked at) ≡ 1 = rw off refl in
      let new : one_unless (is_marked (set marked at true) next) ≤ 1 = at_most_one (is_marked (set marked at true) next) in
      omega (arith, below, same, old, new)
  | inr root ↦
      let same : tree.rank next ≡ tree.rank at = ap tree.rank root.1 in
      let old : one_unless (is_marked marked at) ≡ 1 = rw off refl in
      let there : is_marked (set marked at true) next ≡ true =
      ap (λ n. is_marked (set marked at true) n) root.1 ∙ set_there marked at at_in in
      let new : one_unless (is_marked (set marked at true) next) ≡ 0 = rw there refl in
      omega (arith, same, old, new)
]

-- where a way goes on, as the tables say
some_of : Option ℕ → ℕ
some_of None = 0
some_of (Some x) = x

pub goes_up : (mesh : Mesh) (t : TreeTables) (at parent : ℕ) → IsRooted mesh t → at < mesh.vertices → parent_of t at ≡ Some parent →
    GoesOn mesh.vertices (tree_of t) at parent
unfolding some_of
goes_up mesh t at parent rooted l is =
    let ne : at ≢ t.base = λ e. (let none = sym rooted.base_alone ∙ ap (parent_of t) (sym e) ∙ is in cc) in
    let same : slice_index t.parents at ≡ parent = ap some_of (sym (rooted.parents at l ne) ∙ is) in
    inl (ne, sym same, subst (λ n. n < mesh.vertices) same (rooted.spans.parent_in at l ne))

pub goes_no_more : (mesh : Mesh) (t : TreeTables) (at : ℕ) → IsRooted mesh t → at < mesh.vertices → parent_of t at ≡ None →
    GoesOn mesh.vertices (tree_of t) at at
goes_no_more mesh t at rooted l is = elim (cases_eq at t.base) [
  | inl same ↦ inr (same, refl)
  | inr ne ↦ let some = sym is ∙ rooted.parents at l ne in cc
]

-- ---- the ways from the ends of edges

-- the ways from the ends of the first edges are marked
pub record AreMarkedSoFar (mesh : Mesh) (tree : Tree) (edges : List ℕ) (done : ℕ) (old new : ℕ → Bool) : Type 0 where
  pub asked : (i : ℕ) → i < done → HasMarkedEnds mesh new (slice_index edges i)
  pub stay : IsPartOf old new
  pub parents : IsClosedUpward mesh.vertices tree new
  pub least : (other : ℕ → Bool) → HasEnds mesh edges other → IsPartOf old other →
      IsClosedUpward mesh.vertices tree other → IsPartOf new other

pub ways_begun : (mesh : Mesh) (tree : Tree) (edges : List ℕ) (old : ℕ → Bool) → IsClosedUpward mesh.vertices tree old →
    AreMarkedSoFar mesh tree edges 0 old old
ways_begun mesh tree edges old up = record {
  asked = λ i l. absurd (omega arith);
  stay = λ v on. on;
  parents = up;
  least = λ other asked part closed. part;
}

pub ways_more : (mesh : Mesh) (tree : Tree) (edges : List ℕ) (done : ℕ) (old a b c : ℕ → Bool) (p : ℕ × ℕ) → done < length edges →
    p ≡ ends mesh (slice_index edges done) → AreMarkedSoFar mesh tree edges done old a →
    IsLeastSet mesh.vertices tree (HasVertex p.0) a b → IsLeastSet mesh.vertices tree (HasVertex p.1) b c →
    AreMarkedSoFar mesh tree edges (done + 1) old c
ways_more mesh tree edges done old a b c p l is h first second = record {
  asked = λ i below. elim (cases_lt i done) [
    | inl less ↦
        let both = h.asked i less in
        (second.stay _ (first.stay _ both.0), second.stay _ (first.stay _ both.1))
    | inr more ↦
        let same : done ≡ i = omega arith in
        subst (λ k. HasMarkedEnds mesh c (slice_index edges k)) same
        (subst (λ (q : ℕ × ℕ). IsTrue (c q.0) × IsTrue (c q.1)) is (second.stay p.0 first.asked, second.asked))
  ];
  stay = λ v on. second.stay v (first.stay v (h.stay v on));
  parents = second.parents;
  least = λ other asked part closed.
      (let here = subst (λ (q : ℕ × ℕ). IsTrue (other q.0) × IsTrue (other q.1)) (sym is) (asked done 0 l) in
      second.least other here.1 (first.least other here.0 (h.least other asked part closed) closed) closed);
}

pub ways_done : (mesh : Mesh) (tree : Tree) (edges : List ℕ) (done : ℕ) (old new : ℕ → Bool) →
    AreMarkedSoFar mesh tree edges done old new → length edges ≤ done →
    IsLeastSet mesh.vertices tree (HasEnds mesh edges) old new
ways_done mesh tree edges done old new h all = record {
  asked = λ i d l. subst (HasMarkedEnds mesh new) (get_or_default edges i 0 d l) (h.asked i (omega (arith, l, all)));
  stay = h.stay;
  parents = h.parents;
  least = h.least;
}

-- ---- the list

-- what is marked is in the table
pub marked_inside : (marked : List Bool) (v : ℕ) → IsTrue (is_marked marked v) → v < length marked
marked_inside marked v on = elim (cases_lt v (length marked)) [
  | inl less ↦ less
  | inr past ↦ absurd (false≢true (sym (get_or_past marked v false past) ∙ on))
]

module _ (mesh : Mesh) (t : LoopTables) (divided : IsDividedBy mesh t) where
  abbrev tree : Tree
  tree = tree_of t.tree

  abbrev cotree : Tree
  cotree = cotree_of t.cotree

  -- each edge in neither tree is listed, and each listed one is in neither
  left_listed : (e : ℕ) → e < edge_count mesh → is_left mesh tree cotree e ≡ true →
      (k : ℕ) × (k < length t.cotree.left) × (slice_index t.cotree.left k ≡ e)
  left_listed e e_in left =
      let parts = and_parts (not (tree_edges mesh tree e)) (not (cotree_edges mesh cotree e)) left in
      subst (λ (xs : List ℕ). (k : ℕ) × (k < length xs) × (slice_index xs k ≡ e)) (sym divided.left)
      (divided.divided.left_whole e e_in (not-true (tree_edges mesh tree e) parts.0) (not-true (cotree_edges mesh cotree e) parts.1))

  pub left_inside : (k d : ℕ) → k < length t.cotree.left → get_or t.cotree.left k d < edge_count mesh
  left_inside k d l =
      let here : k < length (left_edges mesh tree cotree) = subst (λ (xs : List ℕ). k < length xs) divided.left l in
      subst (λ n. n < edge_count mesh) (ap (λ (xs : List ℕ). slice_index xs k) (sym divided.left) ∙ get_or_default t.cotree.left k 0 d l)
      (divided.divided.left_in k here)

  listed_left : (k d : ℕ) → k < length t.cotree.left → is_left mesh tree cotree (get_or t.cotree.left k d) ≡ true
  listed_left k d l =
      let here : k < length (left_edges mesh tree cotree) = subst (λ (xs : List ℕ). k < length xs) divided.left l in
      subst (λ e. is_left mesh tree cotree e ≡ true)
      (ap (λ (xs : List ℕ). slice_index xs k) (sym divided.left) ∙ get_or_default t.cotree.left k 0 d l)
      (and_from (not (tree_edges mesh tree (slice_index (left_edges mesh tree cotree) k)))
      (not (cotree_edges mesh cotree (slice_index (left_edges mesh tree cotree) k)))
      (not_from_false (tree_edges mesh tree (slice_index (left_edges mesh tree cotree) k)) (divided.divided.left_outside k here))
      (not_from_false (cotree_edges mesh cotree (slice_index (left_edges mesh tree cotree) k))
      (divided.divided.left_outside_dual k here)))

  -- a list of what is marked has the vertices of the cut
  pub cut_listed : (old : ℕ → Bool) (marked : List Bool) (items : List ℕ) → ((v : ℕ) → IsTrue (old v) → ⊥) →
      IsLeastSet mesh.vertices tree (HasEnds mesh t.cotree.left) old (is_marked marked) →
      ((i d : ℕ) → i < length items → IsTrue (is_marked marked (get_or items i d))) →
      ((u : ℕ) → u < length marked → IsTrue (is_marked marked u) → Contains items u) → AreCutVertices mesh t items
  cut_listed old marked items none ways each all = record {
    marked = record {
      left_ends = λ e e_in left.
          (let (k, k_in, is) = left_listed e e_in left in
          let both = subst (HasMarkedEnds mesh (is_marked marked)) is (ways.asked k 0 k_in) in
          (among (ends mesh e).0 both.0, among (ends mesh e).1 both.1));
      parents = λ v v_in ne on. among (tree.parent v)
          (ways.parents v v_in ne (among_marked marked items (λ i l. each i 0 l) v on));
    };
    least = λ other are. λ i d l.
        ways.least other (λ k d' k_in. are.left_ends (get_or t.cotree.left k d') (left_inside k d' k_in) (listed_left k d' k_in))
        (λ v on. absurd (none v on)) are.parents (get_or items i d) (each i d l);
  }
    where
      among : (v : ℕ) → IsTrue (is_marked marked v) → IsTrue (is_among items v)
      among v on = among_contained items v (all v (marked_inside marked v on) on)

-- ---- the desk

-- its two trees and its left edges divide the edges, also when it has signed them
pub desk_divided : (mesh : Mesh) (lengths : List ℕ) (base : ℕ) (t new : LoopTables) → IsGreedy mesh lengths base t →
    new ≡ record t { cotree = record t.cotree { signatures = new.cotree.signatures } } → IsDividedBy mesh new
desk_divided mesh lengths base t new g rest =
    let marks : IsMarked mesh (tree_of t.tree) t.tree.flags = record { spans = g.rooted.spans; marks_are = g.tree.flags } in
    subst (IsDividedBy mesh) (sym rest) (record {
      rooted = g.rooted;
      divided = g.cotree.split (tree_of t.tree) marks;
      left = g.cotree.left (tree_of t.tree) marks;
    })
