-- Where the edges with each lesser end start.
use Rattle.surf_finder.proofs.Common.{◌≡◌, ℕ, ◌<◌, ◌≤◌, ◌+◌, ◌-◌, ◌++◌, true, false, List, [], length, slice_index, replicate, refl, sym, ap, ◌∙◌, arith, inl, inr, ltb, ltb-true, cases_lt, cases_eq, nat_tests, Mesh, edge_count, ends}
use Rattle.surf_surfaces.specs.Mesh.{edges}
use Rattle.surf_surfaces.proofs.meshes.EdgeLaws.{edges-rise, rising_at}
use Rattle.surf_surfaces.proofs.meshes.PairLaws.{pair_lt-cases}
use Rattle.std.proofs.lemmas.Bool.{lt-ltb, le-ltb}
use Rattle.std.proofs.lemmas.List.{get_or_append_left, get_or-append_right, get_or-replicate, length-append, length-replicate}
use Rattle.surf_finder.specs.Rises.{AreStarts, IsRise}
use Rattle.surf_finder.specs.declared.rises.Rise.{Rise}

-- the lesser ends don't fall from edge to edge
pub low_rises : (mesh : Mesh) (e f : ℕ) → e ≤ f → f < edge_count mesh → (ends mesh e).0 ≤ (ends mesh f).0
low_rises mesh e f le l = elim (cases_eq e f) [
  | inl same ↦ let is : (ends mesh e).0 ≡ (ends mesh f).0 = ap (λ n. (ends mesh n).0) same in omega (arith, is)
  | inr ne ↦
      let less : e < f = omega arith in
      elim (pair_lt-cases (ends mesh e) (ends mesh f) (rising_at (edges mesh) (edges-rise mesh) e f (0, 0) less l)) [
        | inl below ↦ omega (arith, below)
        | inr level ↦ let is = level.0 in omega (arith, is)
      ]
]

-- the starts that are listed once so many edges were seen
pub record AreStartsTo (mesh : Mesh) (e : ℕ) (starts : List ℕ) : Type 0 where
  pub few : length starts ≤ mesh.vertices + 1
  pub inside : (v : ℕ) → v < length starts → slice_index starts v ≤ edge_count mesh
  pub before : (v f : ℕ) → v < length starts → f < edge_count mesh → ltb f (slice_index starts v) ≡ ltb (ends mesh f).0 v
  pub seen : (f : ℕ) → f < e → (ends mesh f).0 < length starts

pub no_starts : (mesh : Mesh) → AreStartsTo mesh 0 []
no_starts mesh = record {
  few = omega arith;
  inside = λ v l. absurd (omega arith);
  before = λ v f l. absurd (omega arith);
  seen = λ f l. absurd (omega arith);
}

module _ (mesh : Mesh) (e many : ℕ) (old new : List ℕ) (are : AreStartsTo mesh e old) (e_in : e ≤ edge_count mesh)
    (many_in : many ≤ mesh.vertices + 1) (rest : (f : ℕ) → e ≤ f → f < edge_count mesh → many ≤ (ends mesh f).0 + 1)
    (is : new ≡ old ++ replicate (many - length old) e) where
  long : length new ≡ length old + (many - length old)
  long = ap (λ (xs : List ℕ). length xs) is ∙ length-append old (replicate (many - length old) e)
      ∙ ap (λ n. length old + n) (length-replicate (many - length old) e)

  old_at : (v : ℕ) → v < length old → slice_index new v ≡ slice_index old v
  old_at v l = ap (λ (xs : List ℕ). slice_index xs v) is ∙ get_or_append_left old (replicate (many - length old) e) 0 v l

  new_at : (v : ℕ) → length old ≤ v → v < length new → slice_index new v ≡ e
  new_at v le l =
      let n = long in
      ap (λ (xs : List ℕ). slice_index xs v) is ∙ get_or-append_right old (replicate (many - length old) e) (length old) v 0 refl le
      ∙ get_or-replicate (many - length old) (v - length old) e 0 (omega (arith, n, le, l))

  -- the next edge starts those that weren't listed, up to its lesser end
  pub starts_filled : AreStartsTo mesh e new × (many ≤ length new)
  starts_filled = let n = long in (
    record {
      few = let few = are.few in omega (arith, n, few, many_in);
      inside = λ v l. elim (cases_lt v (length old)) [
        | inl less ↦ let at = old_at v less in let le = are.inside v less in omega (arith, at, le)
        | inr more ↦ let at = new_at v more l in omega (arith, at, e_in)
      ];
      before = λ v f l f_in. elim (cases_lt v (length old)) [
        | inl less ↦ ap (ltb f) (old_at v less) ∙ are.before v f less f_in
        | inr more ↦ ap (ltb f) (new_at v more l) ∙ elim (cases_lt f e) [
          | inl sooner ↦
              let low = are.seen f sooner in
              lt-ltb f e sooner ∙ sym (lt-ltb (ends mesh f).0 v (omega (arith, low, more)))
          | inr later ↦
              let low = rest f later f_in in
              le-ltb f e later ∙ sym (le-ltb (ends mesh f).0 v (omega (arith, n, l, more, low)))
        ]
      ];
      seen = λ f l. let low = are.seen f l in omega (arith, n, low);
    },
    omega (arith, n),
  )

-- an edge whose lesser end has its start was seen
pub starts_next : (mesh : Mesh) (e : ℕ) (starts : List ℕ) → AreStartsTo mesh e starts → (ends mesh e).0 < length starts →
    AreStartsTo mesh (e + 1) starts
starts_next mesh e starts are low = record {
  few = are.few;
  inside = are.inside;
  before = are.before;
  seen = λ f l. elim (cases_eq f e) [
    | inl same ↦ let is : (ends mesh f).0 ≡ (ends mesh e).0 = ap (λ n. (ends mesh n).0) same in omega (arith, is, low)
    | inr ne ↦ are.seen f (omega arith)
  ];
}

-- all edges were seen
pub starts_last : (mesh : Mesh) (e : ℕ) (starts : List ℕ) → AreStartsTo mesh e starts → edge_count mesh ≤ e →
    AreStartsTo mesh (edge_count mesh) starts
starts_last mesh e starts are all =
    record { few = are.few; inside = are.inside; before = are.before; seen = λ f l. are.seen f (omega (arith, l, all)) }

pub starts_done : (mesh : Mesh) (e : ℕ) (starts : List ℕ) → AreStartsTo mesh e starts → mesh.vertices + 1 ≤ length starts →
    AreStarts mesh starts
starts_done mesh e starts are long = record {
  count = let few = are.few in omega (arith, few, long);
  inside = λ v l. are.inside v (omega (arith, l, long));
  before = λ v f l. are.before v f (omega (arith, l, long));
}

-- the edges between two starts are those of the vertex
pub starts_of : (mesh : Mesh) (starts : List ℕ) (v e : ℕ) → AreStarts mesh starts → v < mesh.vertices → slice_index starts v ≤ e →
    e < slice_index starts (v + 1) → (e < edge_count mesh) × ((ends mesh e).0 ≡ v)
starts_of mesh starts v e are v_in from below =
    let last = are.inside (v + 1) (omega (arith, v_in)) in
    let e_in : e < edge_count mesh = omega (arith, last, below) in
    let off : ltb (ends mesh e).0 v ≡ false = sym (are.before v e (omega (arith, v_in)) e_in) ∙ le-ltb e (slice_index starts v) from in
    let on : ltb (ends mesh e).0 (v + 1) ≡ true = sym (are.before (v + 1) e (omega (arith, v_in)) e_in) ∙ lt-ltb e (slice_index starts (v + 1)) below in
    let low : (ends mesh e).0 < v + 1 = ltb-true (ends mesh e).0 (v + 1) on in
    (e_in, level (ends mesh e).0 v off low)
  where
    level : (a b : ℕ) → ltb a b ≡ false → a < b + 1 → a ≡ b
    level a b off low = grind (arith, nat_tests)

pub starts_all : (mesh : Mesh) (starts : List ℕ) (v e : ℕ) → AreStarts mesh starts → v < mesh.vertices → e < edge_count mesh →
    (ends mesh e).0 ≡ v → (slice_index starts v ≤ e) × (e < slice_index starts (v + 1))
starts_all mesh starts v e are v_in e_in low =
    let off : ltb e (slice_index starts v) ≡ false = are.before v e (omega (arith, v_in)) e_in ∙ le-ltb (ends mesh e).0 v (omega (arith, low)) in
    let on : ltb e (slice_index starts (v + 1)) ≡ true = are.before (v + 1) e (omega (arith, v_in)) e_in ∙ lt-ltb (ends mesh e).0 (v + 1) (omega (arith, low)) in
    (no_less e (slice_index starts v) off, ltb-true e (slice_index starts (v + 1)) on)
  where
    no_less : (a b : ℕ) → ltb a b ≡ false → b ≤ a
    no_less a b off = grind (arith, nat_tests)

-- so it is with a rise
pub low_is : (mesh : Mesh) (starts : List ℕ) (v e past : ℕ) (rise : Rise) → AreStarts mesh starts → v < mesh.vertices →
    slice_index starts v ≤ e → e < past → past ≡ slice_index starts (v + 1) → IsRise mesh rise → rise.edge ≡ e → rise.low ≡ v
low_is mesh starts v e past rise are v_in from below past_is is at =
    ap (λ (p : ℕ × ℕ). p.0) (sym is.ends_are) ∙ ap (λ n. (ends mesh n).0) at
    ∙ (starts_of mesh starts v e are v_in from (omega (arith, below, past_is))).1
