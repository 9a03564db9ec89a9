-- The place of the first candidate.
use Rattle.surf_basis.proofs.Common.{first_of, IsFirstPlace, ◌≡◌, ℕ, ◌<◌, ◌^◌, List, [], ◌∷◌, length, All, Option, Some, None, refl, sym, ap, ◌∙◌, subst, arith, Mesh, edge_count, IsSurface, ArePositive, IsNull, cells_of, class_of, loop_walk, loops_at, basis_is_one, choice_exists, least_base_on_way, few_bases_suffice, shortest_trees, first_is_at_least_base, SignTables, Candidate, place_of, AreSigned, is_among, IsFirstOf, IsFirstAmong, class_small, depends_null, zero_null}
use Rattle.surf_surfaces.proofs.Common.{left_edges}
use Rattle.surf_search.proofs.Common.{Trees, AreChosen, Loop, candidates}
use Rattle.surf_surfaces.specs.FewBases.{Place, place_at, AreEnough, HasFound, IsFirstFound, MeetsAll}
use Rattle.surf_basis.proofs.First.{no_first}
use Rattle.surf_basis.proofs.Leading.{first_kept}

module _ (mesh : Mesh) (lengths : List ℕ) (surface : IsSurface mesh) (positive : ArePositive mesh lengths)
    (s : SignTables) (width : ℕ) (signed : AreSigned mesh s width) (vs : List ℕ) (meets : MeetsAll mesh (is_among vs)) where
  none_enough : (trees : ℕ → Trees) → IsFirstOf mesh lengths (λ x. (trees x).tree) (is_among vs) None →
      AreEnough mesh lengths (λ x. (trees x).tree) (is_among vs) []
  none_enough trees null = record {
    loops = λ k c l. absurd (omega arith);
    depend = λ z e z_in in_set e_in. depends_null mesh _ (loop_walk mesh (trees z).tree e) (null z e z_in in_set e_in);
  }

  no_basis : (basis : List Loop) → All (HasFound []) basis → first_of basis ≡ None
  no_basis [] h = refl
  no_basis (b ∷ bs) h = let (k, has, size, base) = h 0 b (omega arith) in absurd (omega (arith, has.1))

  no_candidates : (loops : List Loop) → first_of loops ≡ None → loops ≡ []
  no_candidates [] e = refl
  no_candidates (c ∷ cs) e = cc

  -- where there is no candidate all loops are null
  all_null : (trees : ℕ → Trees) (chosen : AreChosen mesh lengths trees) → candidates mesh lengths trees ≡ [] → (z e : ℕ) →
      z < mesh.vertices → e < edge_count mesh → IsNull mesh (loop_walk mesh (trees z).tree e)
  all_null trees chosen none z e z_in e_in =
      let full = no_first mesh lengths trees surface positive chosen (sym (ap first_of none)) in
      let left = left_edges (cells_of mesh) signed.split signed.is_split in
      let count : length signed.split.left ≡ 0 = omega (arith, left, full) in
      let small : class_of mesh signed.split (loop_walk mesh (trees z).tree e) < 2 ^ 0 =
      class_small mesh signed.split (loop_walk mesh (trees z).tree e) 0 count in
      zero_null mesh lengths (λ x. (trees x).tree) surface positive (shortest_trees mesh lengths surface positive trees chosen)
      signed.split signed.is_split z e z_in e_in (omega arith)

  place_none : (trees : ℕ → Trees) → AreChosen mesh lengths trees →
      IsFirstOf mesh lengths (λ x. (trees x).tree) (is_among vs) None → candidates mesh lengths trees ≡ []
  place_none trees chosen null =
      let (basis, is, one) = basis_is_one mesh lengths trees surface positive chosen in
      let each = few_bases_suffice mesh lengths trees (λ x. (trees x).tree) (is_among vs) [] basis surface positive chosen
      (shortest_trees mesh lengths surface positive trees chosen) meets (none_enough trees null) is in
      no_candidates (candidates mesh lengths trees)
      (sym (first_kept mesh lengths surface positive trees chosen basis (candidates mesh lengths trees) refl is) ∙ no_basis basis each)

  place_some : (trees : ℕ → Trees) → AreChosen mesh lengths trees → (c : Candidate) (z e : ℕ) →
      IsFirstFound mesh lengths (λ x. (trees x).tree) (is_among vs) z e →
      place_at mesh lengths (λ x. (trees x).tree) z e ≡ place_of c → (c.base < mesh.vertices)
      × (first_of (loops_at mesh lengths c.base (trees c.base)) ≡ first_of (candidates mesh lengths trees))
  place_some trees chosen c z e first place =
      let short = shortest_trees mesh lengths surface positive trees chosen in
      let base_in = (least_base_on_way mesh lengths (λ x. (trees x).tree) surface positive short z e first.from_in first.edge_in).0 in
      let inside : c.base < mesh.vertices = subst (λ (p : Place). p.1 < mesh.vertices) place base_in in
      (inside, of (candidates mesh lengths trees) refl)
    where
      of : (loops : List Loop) → candidates mesh lengths trees ≡ loops →
          first_of (loops_at mesh lengths c.base (trees c.base)) ≡ first_of (candidates mesh lengths trees)
      of [] none = absurd (first.nonnull (all_null trees chosen none z e first.from_in first.edge_in))
      of (k ∷ rest) is =
          let at = first_is_at_least_base mesh lengths trees (λ x. (trees x).tree) (is_among vs) z e k rest surface positive chosen
          (shortest_trees mesh lengths surface positive trees chosen) meets first is in
          let (others, heads) = at.heads in
          ap (λ (p : Place). first_of (loops_at mesh lengths p.1 (trees p.1))) (sym place) ∙ ap first_of heads ∙ sym (ap first_of is)

  pub first_placed : (first : Option Candidate) → IsFirstAmong mesh lengths s vs first → IsFirstPlace mesh lengths first
  first_placed None h = λ trees chosen. place_none trees chosen (h trees chosen signed.split signed.is_split signed.signatures)
  first_placed (Some c) h = λ trees chosen.
      (let (z, e, first, place) = h trees chosen signed.split signed.is_split signed.signatures in
      place_some trees chosen c z e first place)

-- its base is a vertex
pub place_inside : (mesh : Mesh) (lengths : List ℕ) → IsSurface mesh → ArePositive mesh lengths → (c : Candidate) →
    IsFirstPlace mesh lengths (Some c) → c.base < mesh.vertices
place_inside mesh lengths surface positive c h =
    let (trees, chosen) = choice_exists mesh lengths surface positive in (h trees chosen).0
