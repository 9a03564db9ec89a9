-- How the checker comes from one condition to the next.
use Rattle.surf_surfaces.proofs.Common.{◌≡◌, ℕ, ◌<◌, ◌≤◌, ◌-◌, List, [], length, map, sum, sym, ap, ◌∙◌, subst, arith, ext_get_or, get_or-map, length-map, Option, Some, None, Mesh, edge_count, walk_length, IsLoopCount}
use Rattle.surf_surfaces.specs.Surface.{loop_count}
use Rattle.surf_treecheck.specs.First.{HoldsBelow, FindsFirst}
use Rattle.surf_base.specs.Tables.{at}
use Rattle.surf_sheets.specs.Rows.{SheetCert}
use Rattle.surf_sheetcheck.specs.Parts.{size_at}
use Rattle.surf_sheetcheck.specs.Valid.{IsNoShorter, Holds, IsEdgeServed, IsValidSheets, sheets_total}
use Rattle.surf_sheetcheck.specs.Faults.{AreRowsRight}
use Rattle.surf_sheetcheck.specs.Tables.{AreSizes}

-- a condition that is the same below a bound
pub finds_as : (n : ℕ) (P Q : ℕ → Type 0) → ((k : ℕ) → k < n → P k → Q k) → ((k : ℕ) → k < n → Q k → P k) → (o : Option ℕ) →
    FindsFirst n P o → FindsFirst n Q o
finds_as n P Q to from None holds = λ k l. to k l (holds k l)
finds_as n P Q to from (Some k) first = record {
  below = first.below;
  fails = λ q. first.fails (from k first.below q);
  before = λ j l. to j (omega (arith, l, first.below)) (first.before j l);
}

module _ (mesh : Mesh) (lengths : List ℕ) (cert : SheetCert) (sizes : List ℕ) (are : AreSizes mesh lengths cert sizes) where
  -- lengths that don't fall are those of cycles that are no shorter
  pub falling_as : (o : Option ℕ) → FindsFirst (length sizes) (λ k. at sizes (k - 1) ≤ at sizes k) o →
      FindsFirst (length cert.cycles) (IsNoShorter mesh lengths cert) o
  falling_as o found =
      subst (λ n. FindsFirst n (IsNoShorter mesh lengths cert) o) are.count
      (finds_as (length sizes) (λ k. at sizes (k - 1) ≤ at sizes k) (IsNoShorter mesh lengths cert)
      (λ k l holds. let a = each k l in let b = each (k - 1) (omega (arith, l)) in omega (arith, a, b, holds))
      (λ k l holds. let a = each k l in let b = each (k - 1) (omega (arith, l)) in let h : size_at mesh lengths cert (k - 1) ≤ size_at mesh lengths cert k = holds in omega (arith, a, b, h)) o found)
    where
      each : (k : ℕ) → k < length sizes → at sizes k ≡ size_at mesh lengths cert k
      each k l = are.each k (omega (arith, l, are.count))

  -- their sum is the total
  pub sizes_total : sum sizes ≡ sheets_total mesh lengths cert
  sizes_total =
      let long = length-map cert.cycles (walk_length mesh lengths) in
      ap sum (ext_get_or 0 sizes (map (walk_length mesh lengths) cert.cycles) (omega (arith, long, are.count)) (λ k l.
      let lk : k < length cert.cycles = omega (arith, l, are.count) in
      are.each k lk ∙ sym (get_or-map (walk_length mesh lengths) cert.cycles k [] 0 lk)))

-- as many cycles as loops are few
pub few_cycles : (mesh : Mesh) (n most : ℕ) → IsLoopCount mesh n → loop_count mesh ≤ most → n ≤ most
few_cycles mesh n most count few = omega (arith, count, few)

-- all conditions together
pub all_valid : (mesh : Mesh) (lengths : List ℕ) (cert : SheetCert) → AreRowsRight mesh lengths cert →
    HoldsBelow (length cert.sheets) (Holds mesh lengths cert) → HoldsBelow (edge_count mesh) (IsEdgeServed mesh lengths cert) →
    IsValidSheets mesh lengths cert
all_valid mesh lengths cert rows sheets served = record {
  shape = rows.walks.shape;
  closed = rows.walks.closed;
  by_length = rows.walks.by_length;
  pairs = rows.pairs;
  cocycles = rows.cocycles;
  paired = rows.paired;
  forms = rows.forms;
  sheets = sheets;
  served = served;
}
