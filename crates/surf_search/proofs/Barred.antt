-- Lengths that differ from others at edges with a marked end alone, while more vertices are marked.
use Rattle.surf_search.proofs.Common.{◌≡◌, ℕ, ◌<◌, ◌≤◌, Bool, false, List, length, refl, ap, arith, edge_length, edge_count, sym, ◌∙◌, subst, inl, inr, IsTrue, cases_Bool, false≢true, Mesh, ends, AgreeOff, SurfaceTables, is_marked, AreNoShorter, IsAhead, IsBarring}

-- what isn't in a set isn't in a lesser one
off_less : (s t : ℕ → Bool) → ((v : ℕ) → IsTrue (s v) → IsTrue (t v)) → (v : ℕ) → t v ≡ false → s v ≡ false
off_less s t more v off = elim (cases_Bool (s v)) [
  | inl on ↦ absurd (false≢true (sym off ∙ more v on))
  | inr out ↦ out
]

pub agree_same : (mesh : Mesh) (lengths : List ℕ) (s : ℕ → Bool) → AgreeOff mesh lengths lengths s
agree_same mesh lengths s e e_in low high = refl

pub agree_less : (mesh : Mesh) (a b : List ℕ) (s t : ℕ → Bool) → ((v : ℕ) → IsTrue (s v) → IsTrue (t v)) →
    AgreeOff mesh a b s → AgreeOff mesh a b t
agree_less mesh a b s t more h e e_in low high =
    h e e_in (off_less s t more (ends mesh e).0 low) (off_less s t more (ends mesh e).1 high)

pub agree_on : (mesh : Mesh) (a b c : List ℕ) (s t : ℕ → Bool) → ((v : ℕ) → IsTrue (s v) → IsTrue (t v)) →
    AgreeOff mesh a b s → AgreeOff mesh b c t → AgreeOff mesh a c t
agree_on mesh a b c s t more h k e e_in low high = k e e_in low high ∙ agree_less mesh a b s t more h e e_in low high

-- a finder is ahead of one that is the same
pub ahead_first : (f scout : SurfaceTables) (marks : List Bool) → scout ≡ f → IsAhead f scout marks
ahead_first f scout marks same = subst (λ (s : SurfaceTables). IsAhead f s marks) (sym same)
    (record { mesh = refl; signs = refl; given = refl; off = agree_same f.mesh f.lengths (is_marked marks) })

-- and stays ahead while more vertices are marked
pub ahead_on : (f old new : SurfaceTables) (before after : List Bool) → IsAhead f old before → new.mesh ≡ old.mesh →
    new.signs ≡ old.signs → new.given ≡ old.given → ((v : ℕ) → IsTrue (is_marked before v) → IsTrue (is_marked after v)) →
    AgreeOff old.mesh old.lengths new.lengths (is_marked after) → IsAhead f new after
ahead_on f old new before after h mesh signs given stay off = record {
  mesh = mesh ∙ h.mesh;
  signs = signs ∙ h.signs;
  given = given ∙ h.given;
  off = agree_on f.mesh f.lengths old.lengths new.lengths (is_marked before) (is_marked after) stay h.off
      (subst (λ m. AgreeOff m old.lengths new.lengths (is_marked after)) h.mesh off);
}

-- a finder that bars more vertices
pub barring_on : (f scout old new : SurfaceTables) (before after : List Bool) → IsBarring f scout before → old ≡ scout →
    new.mesh ≡ old.mesh → new.signs ≡ old.signs → new.given ≡ old.given → length after ≡ length before →
    ((v : ℕ) → IsTrue (is_marked before v) → IsTrue (is_marked after v)) →
    AgreeOff old.mesh old.lengths new.lengths (is_marked after) → AreNoShorter old.mesh old.lengths new.lengths →
    IsBarring f new after
barring_on f scout old new before after h same mesh signs given count stay off longer = record {
  positive = h.positive;
  count = count ∙ h.count;
  ahead = ahead_on f old new before after (subst (λ (s : SurfaceTables). IsAhead f s before) (sym same) h.ahead) mesh signs given stay off;
  no_shorter = λ e e_in.
      (let a = h.no_shorter e e_in in
      let b : edge_length scout.lengths e ≤ edge_length new.lengths e =
      subst (λ (s : SurfaceTables). edge_length s.lengths e ≤ edge_length new.lengths e) same
      (longer e (subst (λ (m : Mesh). e < edge_count m) (sym (ap (λ (s : SurfaceTables). s.mesh) same ∙ h.ahead.mesh)) e_in)) in
      omega (arith, a, b));
}
