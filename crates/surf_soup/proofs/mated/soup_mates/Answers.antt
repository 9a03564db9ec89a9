use Rattle.surf_surfaces.proofs.Common.{◌≡◌, ◌∙◌, ℕ, List, Bool, Option, None, replicate, false, sym, ap, subst, arith, Mesh, edges}
use Rattle.surf_soup.specs.Half.{AreAllMates}
use Rattle.surf_soup.specs.Pairs.{HasTwoFaces}
use Rattle.surf_soup.specs.Pairing.{AreMated, AreMatedUpto, AreGreaterEnds}
use Rattle.surf_soup.proofs.MatedSteps.{mated_none}
use Rattle.surf_soup.proofs.PairSteps.{paired_all}
use Rattle.surf_soup.proofs.mated.soup_mates.Goals as goal

pub mate_rows-requires : goal.mate_rows-requires
mate_rows-requires c =
    let mesh = c.args.soup.now in
    let none = c.in_ok-mates.ensures in
    let mates = c.in_ok-mates.mates in
    let unmarked : mates.greater.items ≡ replicate mesh.vertices false =
    none.unmarked ∙ ap (λ n. replicate n false) c.vertices.ensures.count in
    let P : Option (ℕ × ℕ) → Type 0 = λ last. AreMatedUpto mesh 0 mates.mate.items last mates.greater.items in
    let Q : List Bool → Type 0 = AreMatedUpto mesh 0 mates.mate.items None in
    subst (λ (m : Mesh). AreMated m 0 mates) (sym c.in_ok-entries.ensures)
    (subst P (sym none.none)
    (subst Q (sym unmarked) (mated_none mesh mates.mate.items (omega (arith, none.size, c.side_count.ensures.count)))))

pub returns-then-mate_rows : goal.returns-then-mate_rows
returns-then-mate_rows c =
    let mesh = c.in_ok-entries.entries.mesh in
    let mates = c.mate_rows.new.mates in
    let own = c.law_of_entries.ensures in
    let all = c.if-mate_rows.ensures in
    let pairs = paired_all mesh own.mesh c.in_ok-entries.entries.rows own.entries
    all.edge_list all.first mates.mate.items all.edge_of all.paired in
    let P : List (ℕ × ℕ) → Type 0 = λ es. AreGreaterEnds mesh.vertices es mates.greater.items in
    subst (λ (m : Mesh). HasTwoFaces m × AreAllMates m mates.mate.items
    × AreGreaterEnds m.vertices (edges m) mates.greater.items) c.in_ok-entries.ensures
    (pairs.two, pairs.mates, subst P pairs.edges_are all.greater)

pub returns : goal.returns
returns c = subst (λ (m : Mesh). HasTwoFaces m → ⊥) c.in_ok-entries.ensures c.if-mate_rows.ensures
