-- Words on rims: cut sides in pairs, how one is reached from another, and what changes where an edge is glued.
use Rattle.std.specs.Prelude.{◌≡◌, ◌≢◌, ℕ, ◌⊎◌}
use Rattle.surf_opening.specs.Rim.{Among}

-- an equivalence of faces at each vertex: they hold one copy of it
pub record IsCopying (Same : ℕ → ℕ → ℕ → Type 0) : Type 0 where
  pub own : {v f : ℕ} → Same v f f
  pub turned : {v f g : ℕ} → Same v f g → Same v g f
  pub onward : {v f g h : ℕ} → Same v f g → Same v g h → Same v f h

-- Rim f v w: face f has the side v w, and the side is cut, seen from v. At each copy with a cut side
-- there are two.
pub record IsPaired (Rim Same : ℕ → ℕ → ℕ → Type 0) : Type 0 where
  pub turned : {f v w : ℕ} → Rim f v w → Rim f w v
  pub apart : {f v w : ℕ} → Rim f v w → v ≢ w
  pub two_faces : {f g h v w : ℕ} → Rim f v w → Rim g v w → Rim h v w → (f ≡ g) ⊎ ((f ≡ h) ⊎ (g ≡ h))
  pub another : {f v w : ℕ} → Rim f v w → (g : ℕ) × (y : ℕ) × Rim g v y × Same v f g × (f ≡ g → w ≡ y → ⊥)
  pub no_third : {f g h v w y z : ℕ} → Rim f v w → Rim g v y → Rim h v z → Same v f g → Same v f h →
      ((f ≡ g) × (w ≡ y)) ⊎ (((f ≡ h) × (w ≡ z)) ⊎ ((g ≡ h) × (y ≡ z)))

-- and no two sides join the same two copies
pub record IsRim (Rim Same : ℕ → ℕ → ℕ → Type 0) : Type 0 where
  pub paired : IsPaired Rim Same
  pub open paired use *
  pub proper : {f g v w : ℕ} → Rim f v w → Rim g v w → Same v f g → Same w f g → f ≡ g

-- the cut side g x y, seen from x, is reached along the rim: by turning to a side's other end, and by
-- passing to the other cut side at a copy
pub data Reaches (Rim Same : ℕ → ℕ → ℕ → Type 0) (g x y : ℕ) : ℕ → ℕ → ℕ → Type 0 where
  here : Reaches Rim Same g x y g x y
  turn : {f v w : ℕ} → Rim f w v → Reaches Rim Same g x y f w v → Reaches Rim Same g x y f v w
  pass : {f v w h z : ℕ} → Same v f h → Rim h v z → Reaches Rim Same g x y h v z →
      Reaches Rim Same g x y f v w

-- f and g come together at v, an end of p q, as a and b do
pub record Crosses (Same : ℕ → ℕ → ℕ → Type 0) (a b p q v f g : ℕ) : Type 0 where
  pub at : (v ≡ p) ⊎ (v ≡ q)
  pub sides : (Same v a f × Same v b g) ⊎ (Same v b f × Same v a g)

-- the side p q of a and that of b are glued, and nothing else changes
pub record Glues (Rim Rim' Same Same' : ℕ → ℕ → ℕ → Type 0) (a b p q : ℕ) : Type 0 where
  pub differ : a ≢ b
  pub left : Rim a p q
  pub right : Rim b p q
  pub kept : {f v w : ℕ} → Rim' f v w → Rim f v w
  pub off : {f v w : ℕ} → Rim' f v w → Among p q v w → ⊥
  pub rest : {f v w : ℕ} → Rim f v w → (Among p q v w → ⊥) → Rim' f v w
  pub same : {v f g : ℕ} → Same v f g → Same' v f g
  pub at_first : Same' p a b
  pub at_second : Same' q a b
  pub split : {v f g : ℕ} → Same' v f g → Same v f g ⊎ Crosses Same a b p q v f g

-- every cut side is reached from every other
abbrev pub IsOneRim : (ℕ → ℕ → ℕ → Type 0) → (ℕ → ℕ → ℕ → Type 0) → Type 0
IsOneRim Rim Same = (f v w g x y : ℕ) → Rim f v w → Rim g x y → Reaches Rim Same g x y f v w

-- E, with the classes of a and b made one
abbrev pub Merged : {X : Type 0} → (X → X → Type 0) → X → X → X → X → Type 0
Merged E a b x y = E x y ⊎ ((E a x × E b y) ⊎ (E b x × E a y))
