use Rattle.surf_search.proofs.Common.{◌≡◌, ℕ, List, replicate, sym, ap, ◌∙◌, subst, arith, Chosen, AreKeptUpTo, StaysEnough, cap_at, in_caps, SurfaceTables, surface_of}
use Rattle.surf_search.proofs.Capping.{zero_caps}
use Rattle.surf_finder.proofs.Marked.{written_back}
use Rattle.surf_search.proofs.Rounded.{begun_none}
use Rattle.surf_search.proofs.rounds.sufficient_loops.Goals as goal

pub begin-requires-clause-kept : goal.begin-requires-clause-kept
begin-requires-clause-kept c =
    let f = c.args.finder.now in
    let n = c.vertices.result in
    let fresh : c.deref_mut.result.now ≡ replicate n 0 =
    c.deref_mut.ensures.value ∙ c.in_ok-reached.ensures.items_if_clones_equal (λ y same. same) in
    begun_none f c.deref_mut.result.now c.in_ok-choice.choice (ap (λ (k : Chosen). k.kept) c.in_ok-choice.ensures)
    (λ v. ap (λ (xs : List ℕ). cap_at xs v) fresh ∙ zero_caps n v) c.law_of_finder.ensures.surface c.law_of_finder.ensures.positive

pub run_rounds-requires-clause-kept : goal.run_rounds-requires-clause-kept
run_rounds-requires-clause-kept c =
    let f = surface_of c.args.surface.now in
    let new = c.begin.new.reached in
    let begun = c.begin.new.choice in
    let choice = c.probe_all.new.choice in
    let is : c.deref_mut-2.result.now ≡ new =
    c.deref_mut-2.ensures.value ∙ written_back new _ _ (omega (arith, c.begin.ensures.count, c.deref_mut.ensures.len)) in
    let stays : StaysEnough f begun choice =
    subst (λ (g : SurfaceTables). StaysEnough g begun choice) (c.begin.ensures.same ∙ c.requires.finder) c.in_ok-probe_all.ensures.kept in
    subst (λ (xs : List ℕ). AreKeptUpTo f (in_caps xs) choice) (sym is)
    (stays new (subst (λ (g : SurfaceTables). AreKeptUpTo g (in_caps new) begun) c.requires.finder c.in_ok-begin.ensures.kept))
