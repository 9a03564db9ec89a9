-- Bars make no edge shorter.
use Rattle.surf_finder.proofs.Common.{◌≡◌, ℕ, ◌<◌, List, arith, touches, edge_count, sym, subst, inl, inr, cases_Bool, Mesh, ends, Link, AreLinks, IsShutAt, KeepsOff, AreNoShorter}

-- barring a vertex makes no edge shorter
pub bar_no_shorter : (base mesh barred : Mesh) (given old new : List ℕ) (rows : List (List Link)) (v : ℕ) → mesh ≡ base →
    barred ≡ mesh → AreNoShorter base given old → AreLinks mesh old rows → KeepsOff barred v old new → IsShutAt barred v new →
    AreNoShorter base given new
bar_no_shorter base mesh barred given old new rows v is same so_far links off shut e e_in =
    let in_mesh : e < edge_count mesh = subst (λ (m : Mesh). e < edge_count m) (sym is) e_in in
    let in_barred : e < edge_count barred = subst (λ (m : Mesh). e < edge_count m) (sym same) in_mesh in
    let before = so_far e e_in in
    elim (cases_Bool (touches v (ends barred e))) [
      | inl on ↦
          let at = shut e in_barred on in
          let fits = (links.are_lengths e 0 (let n = links.as_many in omega (arith, n, in_mesh))).fits in
          omega (arith, before, at, fits)
      | inr out ↦ let at = off.same e in_barred out in omega (arith, before, at)
    ]
