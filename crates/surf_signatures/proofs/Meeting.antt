-- Ways through a tree, climbed from both ends.
use Rattle.surf_surfaces.proofs.Common.{ℕ, ◌<◌, ◌≡◌, ◌≢◌, ◌⊎◌, inl, inr, false, eqb, ap, sym, ◌∙◌, Graph, between, Tree, IsTree, on_path, path_step}
use Rattle.surf_z2.specs.Parity.{xor, xor_assoc, xor_comm, xor-same}

-- one step up from one of two nodes
pub climbed : (g : Graph) (t : Tree) → IsTree g t → (n m e : ℕ) → n < g.nodes → n ≢ t.root →
    xor (eqb (t.up n) e) (between t (t.parent n) m e) ≡ between t n m e
climbed g t tree n m e l ne =
    sym (xor_assoc (eqb (t.up n) e) (on_path t (t.parent n) e) (on_path t m e))
    ∙ ap (λ b. xor b (on_path t m e)) (sym (path_step g t tree n e l ne))

-- it is no matter which of the two comes first
pub either_first : (t : Tree) (a b n m e : ℕ) → ((n ≡ a) × (m ≡ b)) ⊎ ((n ≡ b) × (m ≡ a)) →
    between t n m e ≡ between t a b e
either_first t a b n m e (inl (one, two)) = rw (one, two)
either_first t a b n m e (inr (one, two)) = rw (one, two) (xor_comm (on_path t b e) (on_path t a e))

-- where the ways meet nothing is between
pub none_between : (t : Tree) (n m e : ℕ) → n ≡ m → between t n m e ≡ false
none_between t n m e same = rw same (xor-same (on_path t m e))
