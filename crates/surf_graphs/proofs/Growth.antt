-- Trees that grow by an edge to a new node.
use Rattle.std.proofs.Common.{◌≡◌, ◌≢◌, ℕ, suc, ◌<◌, ◌≤◌, Bool, true, false, not, ◌&&◌, ◌||◌, eqb, refl, sym, ◌∙◌, ap, ne_eqb, eq-eqb, inl, inr, subst, not-suc-le-zero}
use Rattle.surf_z2.proofs.Common.{cases_eq, false≢true, true_from_ne_false, count_below}
use Rattle.surf_graphs.specs.Graphs.{Graph, joins}
use Rattle.surf_graphs.specs.Trees.{Tree, IsTree}
use Rattle.surf_graphs.specs.Growth.{Grown, with_node, with_edge}
use Rattle.surf_z2.proofs.ParityLaws.{eqb_comm}
use Rattle.surf_z2.proofs.Sums.{count_below-same, count_below-without}

pub old_node : (reached : ℕ → Bool) (b n : ℕ) → n ≢ b → with_node reached b n ≡ true → reached n ≡ true
old_node reached b n ne h = rw (ne_eqb n b ne) at h

pub grow_one : (g : Graph) (allowed reached : ℕ → Bool) (t : Tree) → Grown g allowed reached t → (a b e rank : ℕ) →
    t.rank a < rank → a < g.nodes → b < g.nodes → e < g.edges → allowed e ≡ true → reached a ≡ true →
    reached b ≡ false → joins g b a e ≡ true →
    Grown g allowed (with_node reached b) (with_edge t a b e rank)
grow_one g allowed reached t ok a b e rank more la lb le ae ra rb join =
    let apart : (n : ℕ) → reached n ≡ true → n ≢ b = λ n rn same. false≢true (sym rb ∙ (ap reached (sym same) ∙ rn)) in
    let root_b : t.root ≢ b = apart t.root ok.root_reached in
    record {
      root_in = ok.root_in;
      root_reached = rw (ne_eqb t.root b root_b) ok.root_reached;
      inside = λ n l rn ne. elim (cases_eq n b) [
        | inl same ↦ rw (eq-eqb n b same, ne_eqb a b (apart a ra)) (la, ra)
        | inr nb ↦
            let old = ok.inside n l (old_node reached b n nb rn) ne in
            rw (ne_eqb n b nb, ne_eqb (t.parent n) b (apart (t.parent n) old.1)) old
      ];
      edge = λ n l rn ne. elim (cases_eq n b) [
        | inl same ↦ rw (eq-eqb n b same) (le, ae)
        | inr nb ↦ rw (ne_eqb n b nb) (ok.edge n l (old_node reached b n nb rn) ne)
      ];
      joined = λ n l rn ne. elim (cases_eq n b) [
        | inl same ↦ rw (eq-eqb n b same) (rw same join)
        | inr nb ↦ rw (ne_eqb n b nb) (ok.joined n l (old_node reached b n nb rn) ne)
      ];
      falls = λ n l rn ne. elim (cases_eq n b) [
        | inl same ↦ rw (eq-eqb n b same, ne_eqb a b (apart a ra)) more
        | inr nb ↦
            let old = ok.inside n l (old_node reached b n nb rn) ne in
            rw (ne_eqb n b nb, ne_eqb (t.parent n) b (apart (t.parent n) old.1))
            (ok.falls n l (old_node reached b n nb rn) ne)
      ];
    }

-- tables that say the same serve as well
pub grown_same : (g : Graph) (allowed reached other : ℕ → Bool) (t u : Tree) → Grown g allowed reached t →
    u.root ≡ t.root → ((n : ℕ) → n < g.nodes → other n ≡ reached n) →
    ((n : ℕ) → n < g.nodes → (u.parent n ≡ t.parent n) × (u.up n ≡ t.up n) × (u.rank n ≡ t.rank n)) →
    Grown g allowed other u
grown_same g allowed reached other t u ok root seen same =
    let old : (n : ℕ) → n < g.nodes → other n ≡ true → reached n ≡ true = λ n l h. sym (seen n l) ∙ h in
    let not_root : (n : ℕ) → n ≢ u.root → n ≢ t.root = λ n ne e. ne (e ∙ sym root) in
    let root_in : u.root < g.nodes = rw root ok.root_in in
    record {
      root_in = root_in;
      root_reached = seen u.root root_in ∙ (ap reached root ∙ ok.root_reached);
      inside = λ n l h ne.
          let was = ok.inside n l (old n l h) (not_root n ne) in
          rw ((same n l).0) (was.0, seen (t.parent n) was.0 ∙ was.1);
      edge = λ n l h ne. rw ((same n l).1) (ok.edge n l (old n l h) (not_root n ne));
      joined = λ n l h ne. rw ((same n l).0, (same n l).1) (ok.joined n l (old n l h) (not_root n ne));
      falls = λ n l h ne.
          let was = ok.inside n l (old n l h) (not_root n ne) in
          rw ((same n l).0, (same n l).2, (same (t.parent n) was.0).2) (ok.falls n l (old n l h) (not_root n ne));
    }

pub grown_tree : (g : Graph) (allowed reached : ℕ → Bool) (t : Tree) → Grown g allowed reached t →
    ((n : ℕ) → n < g.nodes → reached n ≡ true) → IsTree g t
grown_tree g allowed reached t ok all = record {
  root_in = ok.root_in;
  parent_in = λ n l ne. (ok.inside n l (all n l) ne).0;
  up_in = λ n l ne. (ok.edge n l (all n l) ne).0;
  up_joins = λ n l ne. ok.joined n l (all n l) ne;
  rank_falls = λ n l ne. ok.falls n l (all n l) ne;
}

not_reached : (reached : ℕ → Bool) (b k : ℕ) → not (with_node reached b k) ≡ (not (reached k) && not (eqb b k))
not_reached reached b k = rw (eqb_comm k b) (both (eqb b k) (reached k))
  where
    both : (x y : Bool) → not (x || y) ≡ (not y && not x)
    both true true = refl
    both true false = refl
    both false true = refl
    both false false = refl

pub fewer_left : (n : ℕ) (reached : ℕ → Bool) (b : ℕ) → b < n → reached b ≡ false → count_below n (λ k. not (reached k))
    ≡ suc (count_below n (λ k. not (with_node reached b k)))
fewer_left n reached b l out =
    count_below-without n b (λ k. not (reached k)) l (rw out)
    ∙ ap suc (sym (count_below-same n (λ k. not (with_node reached b k)) (λ k. not (reached k) && not (eqb b k))
    (λ k lk. not_reached reached b k)))

pub none_left : (n : ℕ) (reached : ℕ → Bool) → count_below n (λ k. not (reached k)) ≤ 0 → (k : ℕ) → k < n →
    reached k ≡ true
none_left n reached h k l =
    true_from_ne_false (reached k) (λ out. let more = fewer_left n reached k l out in
    not-suc-le-zero (subst (λ x. x ≤ 0) more h))
