-- Faults that name the first condition that fails, each with its least witness, are one.
use Rattle.surf_treecheck.proofs.Common.{◌≡◌, ◌≢◌, ℕ, zero, suc, ◌<◌, inl, inr, refl, sym, subst, arith, cases_lt, cases_eq, FailsFirst, FirstPart, CertPart, Vertices, Faces, Loops, Base, CertFault, Shape, Parent, Distance, Slack, Dual, Heavier, NotClosed, Dependent, Uncovered, Memory}
use Rattle.surf_treecheck.specs.declared.fault.CertFault.TheVariants.{Split}

-- ---- witnesses

-- the first number at which a condition fails is one
pub first_same : (n : ℕ) (P : ℕ → Type 0) (j k : ℕ) → FailsFirst n P j → FailsFirst n P k → j ≡ k
first_same n P j k a b = elim (cases_eq j k) [
  | inl same ↦ same
  | inr ne ↦ elim (cases_lt j k) [
    | inl less ↦ absurd (a.fails (b.before j less))
    | inr more ↦ absurd (b.fails (a.before k (omega (arith, ne, more))))
  ]
]

-- ---- parts

pub first_part_same : (A B C D : Type 0) (p q : CertPart) → FirstPart A B C D p → FirstPart A B C D q → p ≡ q
first_part_same A B C D Vertices Vertices a b = refl
first_part_same A B C D Vertices Faces a b = absurd (a b.0)
first_part_same A B C D Vertices Loops a b = absurd (a b.0)
first_part_same A B C D Vertices Base a b = absurd (a b.0)
first_part_same A B C D Faces Vertices a b = absurd (b a.0)
first_part_same A B C D Faces Faces a b = refl
first_part_same A B C D Faces Loops a b = absurd (a.1 b.1)
first_part_same A B C D Faces Base a b = absurd (a.1 b.1)
first_part_same A B C D Loops Vertices a b = absurd (b a.0)
first_part_same A B C D Loops Faces a b = absurd (b.1 a.1)
first_part_same A B C D Loops Loops a b = refl
first_part_same A B C D Loops Base a b = absurd (a.2 b.2)
first_part_same A B C D Base Vertices a b = absurd (b a.0)
first_part_same A B C D Base Faces a b = absurd (b.1 a.1)
first_part_same A B C D Base Loops a b = absurd (b.2 a.2)
first_part_same A B C D Base Base a b = refl

-- ---- kinds

-- the place of a fault's kind in the order in which they are tested
abbrev pub kind : CertFault → ℕ
kind (Shape part) = 0
kind (Parent base v) = 1
kind (Distance base v) = 2
kind (Slack base u v) = 3
kind (Dual face) = 4
kind (Split u v) = 5
kind (Heavier left cotree) = 6
kind (NotClosed place) = 7
kind (Dependent place) = 8
kind (Uncovered base u v) = 9
kind Memory = 10

-- the conditions of the first kinds hold
abbrev pub Passed : (ℕ → Type 0) → ℕ → Type 0
Passed Holds zero = Unit {0}
Passed Holds (suc k) = Passed Holds k × Holds k

passed_holds : (Holds : ℕ → Type 0) (n k : ℕ) → k < n → Passed Holds n → Holds k
passed_holds Holds zero k l all = absurd (omega arith)
passed_holds Holds (suc n) k l all = elim (cases_eq k n) [
  | inl last ↦ subst Holds (sym last) all.1
  | inr other ↦ passed_holds Holds n k (omega (arith, l, other)) all.0
]

-- a fault names a condition that fails, and those of the kinds before it hold
pub record AreFirst (Holds : ℕ → Type 0) (IsFault : CertFault → Type 0) : Type 0 where
  pub passed : (fault : CertFault) → fault ≢ Memory → IsFault fault → Passed Holds (kind fault)
  pub fails : (fault : CertFault) → fault ≢ Memory → IsFault fault → Holds (kind fault) → ⊥

-- of each kind there is one fault
pub record AreSingle (IsFault : CertFault → Type 0) : Type 0 where
  pub shapes : (p q : CertPart) → IsFault (Shape p) → IsFault (Shape q) → Shape p ≡ Shape q
  pub parents : (x v y w : ℕ) → IsFault (Parent x v) → IsFault (Parent y w) → Parent x v ≡ Parent y w
  pub distances : (x v y w : ℕ) → IsFault (Distance x v) → IsFault (Distance y w) → Distance x v ≡ Distance y w
  pub slacks : (x u v y w z : ℕ) → IsFault (Slack x u v) → IsFault (Slack y w z) → Slack x u v ≡ Slack y w z
  pub duals : (f g : ℕ) → IsFault (Dual f) → IsFault (Dual g) → Dual f ≡ Dual g
  pub splits : (u v w z : ℕ) → IsFault (Split u v) → IsFault (Split w z) → Split u v ≡ Split w z
  pub heavier : (l c m d : ℕ × ℕ) → IsFault (Heavier l c) → IsFault (Heavier m d) → Heavier l c ≡ Heavier m d
  pub not_closed : (j k : ℕ) → IsFault (NotClosed j) → IsFault (NotClosed k) → NotClosed j ≡ NotClosed k
  pub dependent : (j k : ℕ) → IsFault (Dependent j) → IsFault (Dependent k) → Dependent j ≡ Dependent k
  pub uncovered : (x u v y w z : ℕ) → IsFault (Uncovered x u v) → IsFault (Uncovered y w z) →
      Uncovered x u v ≡ Uncovered y w z

of_one_kind : (IsFault : CertFault → Type 0) → AreSingle IsFault → (a b : CertFault) → kind a ≡ kind b → IsFault a →
    IsFault b → a ≡ b
of_one_kind IsFault single (Shape p) (Shape q) k a b = single.shapes p q a b
of_one_kind IsFault single (Parent x v) (Parent y w) k a b = single.parents x v y w a b
of_one_kind IsFault single (Distance x v) (Distance y w) k a b = single.distances x v y w a b
of_one_kind IsFault single (Slack x u v) (Slack y w z) k a b = single.slacks x u v y w z a b
of_one_kind IsFault single (Dual f) (Dual g) k a b = single.duals f g a b
of_one_kind IsFault single (Split u v) (Split w z) k a b = single.splits u v w z a b
of_one_kind IsFault single (Heavier l c) (Heavier m d) k a b = single.heavier l c m d a b
of_one_kind IsFault single (NotClosed i) (NotClosed j) k a b = single.not_closed i j a b
of_one_kind IsFault single (Dependent i) (Dependent j) k a b = single.dependent i j a b
of_one_kind IsFault single (Uncovered x u v) (Uncovered y w z) k a b = single.uncovered x u v y w z a b
of_one_kind IsFault single Memory Memory k a b = refl
of_one_kind IsFault single other another k a b = absurd (omega (arith, k))

pub one_fault : (Holds : ℕ → Type 0) (IsFault : CertFault → Type 0) → AreFirst Holds IsFault → AreSingle IsFault →
    (a b : CertFault) → IsFault a → IsFault b → a ≢ Memory → b ≢ Memory → a ≡ b
one_fault Holds IsFault first single a b is_a is_b some_a some_b = elim (cases_eq (kind a) (kind b)) [
  | inl same ↦ of_one_kind IsFault single a b same is_a is_b
  | inr ne ↦ elim (cases_lt (kind a) (kind b)) [
    | inl less ↦ absurd (first.fails a some_a is_a
        (passed_holds Holds (kind b) (kind a) less (first.passed b some_b is_b)))
    | inr more ↦ absurd (first.fails b some_b is_b
        (passed_holds Holds (kind a) (kind b) (omega (arith, ne, more)) (first.passed a some_a is_a)))
  ]
]
