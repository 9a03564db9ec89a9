use Rattle.std.proofs.Common.{ℕ, List, Bool, sym, subst}
use Rattle.surf_soup.specs.Apart.{IsLeastApart}
use Rattle.surf_soup.specs.Reach.{IsReach}
use Rattle.surf_disc.proofs.ApartLaws.{over_inside, none_apart, least_apart}
use Rattle.surf_disc.proofs.apart.refuse_apart.Goals as goal

pub reach-requires-clause-inside : goal.reach-requires-clause-inside
reach-requires-clause-inside c = over_inside c.args.corners.now.soup.now c.args.corners.now.across.now c.args.corners.now.tables.acrosses c.in_ok-rows.rows
    c.in_ok-rows.ensures.rows

pub returns-in-None-clause-ok : goal.returns-in-None-clause-ok
returns-in-None-clause-ok c =
    let links = c.in_ok-rows.rows in
    let R : List Bool → Type 0 = IsReach links 0 in
    let r = subst R (sym c.deref.ensures.value) c.in_ok-seen.ensures in
    none_apart c.args.corners.now.soup.now c.args.corners.now.across.now c.args.corners.now.tables.acrosses c.in_ok-rows.rows c.in_ok-rows.ensures.rows
    c.deref.result.now r c.in-None.ensures

pub returns-clause-fault : goal.returns-clause-fault
returns-clause-fault c =
    let links = c.in_ok-rows.rows in
    let R : List Bool → Type 0 = IsReach links 0 in
    let r = subst R (sym c.deref.ensures.value) c.in_ok-seen.ensures in
    let found = c.in-Some.ensures in
    let least = least_apart c.args.corners.now.soup.now c.args.corners.now.across.now c.args.corners.now.tables.acrosses c.in_ok-rows.rows
    c.in_ok-rows.ensures.rows c.deref.result.now r c.in-Some.f found.0 found.1 found.2 in
    let F : ℕ → Type 0 = λ f. IsLeastApart c.args.corners.now.soup.now f in
    (c.requires.none_crowded, c.requires.met, c.requires.fans, subst F (sym c.new.ensures) least)
