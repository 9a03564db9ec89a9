-- The edges of ways up a tree of faces, turned one after the other.
use Rattle.surf_surfaces.proofs.Common.{◌≡◌, ◌≢◌, ℕ, ◌<◌, Bool, eqb, ap, sym, ◌∙◌, eqb_comm, Graph, Tree, IsTree, on_path, path_step}
use Rattle.surf_z2.specs.Parity.{xor, xor_assoc}

-- one step up: the edge of a face is turned
pub turned_up : (g : Graph) (t : Tree) → IsTree g t → (n parent edge place e : ℕ) (old new : Bool) → n < g.nodes →
    n ≢ t.root → parent ≡ t.parent n → edge ≡ t.up n → place ≡ edge → new ≡ xor old (eqb e place) →
    xor new (on_path t parent e) ≡ xor old (on_path t n e)
turned_up g t tree n parent edge place e old new l ne above is at turned =
    ap (λ b. xor b (on_path t parent e)) turned
    ∙ ap (λ u. xor (xor old (eqb e u)) (on_path t parent e)) (at ∙ is)
    ∙ ap (λ b. xor (xor old b) (on_path t parent e)) (eqb_comm e (t.up n))
    ∙ ap (λ p. xor (xor old (eqb (t.up n) e)) (on_path t p e)) above
    ∙ xor_assoc old (eqb (t.up n) e) (on_path t (t.parent n) e)
    ∙ ap (xor old) (sym (path_step g t tree n e l ne))
