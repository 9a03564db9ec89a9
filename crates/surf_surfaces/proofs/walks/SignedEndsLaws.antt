-- The ends of edges whose signatures aren't empty meet each closed walk that isn't null.
use Rattle.std.proofs.Common.{◌≡◌, ℕ, ◌<◌, Bool, true, false, ◌&&◌, not, eqb, [], ◌∷◌, length, refl, sym, ◌∙◌, arith, ne_eqb, inl, inr}
use Rattle.surf_surfaces.proofs.Common.{cases_eq, cases_Bool, and_parts, and_from, false≢true, not-true, not_from_false, eqb-false, odd_below-none, any_below-found, any_below-none, any_below, primal, Split, signature, chain_signature, walk_chain, signature_of, signature_of-same, Mesh, edge_count, ends, parity, cells_of, edge_signature}
use Rattle.surf_z2.proofs.Below.{same_from, same_below, number_of-none}
use Rattle.surf_graphs.proofs.Walks.{walk_has_ends}
use Rattle.surf_surfaces.specs.FewBases.{SignedEndsMeetAll}
use Rattle.surf_surfaces.proofs.classes.ClassLaws.{null_by_class}
use Rattle.surf_surfaces.proofs.walks.GraphWalkLaws.{graph_walk}

module _ (mesh : Mesh) (d : Split) where
  -- an edge whose signature is empty has no left edge in it
  no_bit : (e k : ℕ) → k < length d.left → edge_signature mesh d e ≡ 0 → signature (cells_of mesh) d e k ≡ false
  no_bit e k l h = same_below (length d.left) (signature (cells_of mesh) d e) (λ j. false)
      (h ∙ sym (number_of-none (length d.left))) k l

  -- a chain of such edges has class zero
  zero_class : (chain : ℕ → Bool) →
      ((e : ℕ) → e < edge_count mesh → chain e ≡ true → edge_signature mesh d e ≡ 0) →
      signature_of (cells_of mesh) d chain ≡ 0
  zero_class chain none =
      same_from (length d.left) (chain_signature (cells_of mesh) d chain) (λ k. false) (λ k l.
      odd_below-none (edge_count mesh) (λ e. chain e && signature (cells_of mesh) d e k) (λ e e_in.
      elim (cases_Bool (chain e)) [
        | inl on ↦ rw (on, no_bit e k l (none e e_in on)) refl
        | inr off ↦ rw off refl
      ])) ∙ number_of-none (length d.left)

pub signed_ends_meet_all : SignedEndsMeetAll
signed_ends_meet_all mesh d set surface split has [] closed some = absurd (omega (arith, closed.is_walk.begins))
signed_ends_meet_all mesh d set surface split has (u ∷ rest) closed some =
    let g = primal (cells_of mesh) in
    let w = graph_walk mesh surface [] (u ∷ rest) closed in
    let chain = walk_chain g u rest in
    elim (cases_Bool (any_below (edge_count mesh) (λ e. chain e && not (eqb (edge_signature mesh d e) 0)))) [
      | inl there ↦
          let (e, e_in, both) =
          any_below-found (edge_count mesh) (λ e. chain e && not (eqb (edge_signature mesh d e) 0)) there in
          let parts = and_parts (chain e) (not (eqb (edge_signature mesh d e) 0)) both in
          let over = walk_has_ends g u rest u e w.closed parts.0 in
          elim (has e e_in (eqb-false (edge_signature mesh d e) 0 (not-true (eqb (edge_signature mesh d e) 0) parts.1))) [
            | inl in_set ↦ ((ends mesh e).0, over.0, in_set)
            | inr in_set ↦ ((ends mesh e).1, over.1, in_set)
          ]
      | inr none ↦ absurd (some ((null_by_class mesh d surface split (u ∷ rest) closed).1
          (signature_of-same (cells_of mesh) d (parity mesh (u ∷ rest)) chain w.chain
          ∙ zero_class mesh d chain (λ e e_in on. elim (cases_eq (edge_signature mesh d e) 0) [
            | inl zero_is ↦ zero_is
            | inr ne ↦ absurd (false≢true
                (sym (any_below-none (edge_count mesh) (λ e. chain e && not (eqb (edge_signature mesh d e) 0)) none e e_in)
                ∙ and_from (chain e) (not (eqb (edge_signature mesh d e) 0)) on
                (not_from_false (eqb (edge_signature mesh d e) 0) (ne_eqb (edge_signature mesh d e) 0 ne))))
          ]))))
    ]
