use Rattle.std.proofs.Common.{ℕ, List, length, sym, ap, subst, arith}
use Rattle.surf_soup.specs.Reach.{IsReach}
use Rattle.surf_soup.proofs.VertexLaws.{at_len}
use Rattle.surf_disc.specs.Links.{AreFirsts}
use Rattle.surf_disc.proofs.LinkLaws.{some_rows, vertices_few, links_inside, fans_marked}
use Rattle.surf_disc.proofs.fans.mark_fans.Goals as goal

pub first_corners-requires : goal.first_corners-requires
first_corners-requires c = record
    { some = some_rows c.args.corners.now.soup.now c.args.corners.now.at_vertex.now c.args.corners.now.rows c.requires.met }

pub push-requires : goal.push-requires
push-requires c =
    let mesh = c.args.corners.now.soup.now in
    let linked = c.in_ok-rows.ensures.rows in
    let firsts = c.in_ok-firsts.ensures.firsts in
    let few = vertices_few mesh c.args.corners.now.at_vertex.now c.args.corners.now.rows c.requires.met in
    omega (
      arith,
      linked.total,
      firsts.size,
      at_len mesh c.args.corners.now.at_vertex.now c.args.corners.now.rows,
      few,
      ap length c.deref.ensures.value,
      c.side_count-start.ensures.count,
      c.side_count-start.ensures.few,
    )

pub reach-requires-clause-inside : goal.reach-requires-clause-inside
reach-requires-clause-inside c =
    let F : List ℕ → Type 0 = λ xs. AreFirsts c.args.corners.now.at_vertex.now (length c.args.corners.now.at_vertex.now) xs in
    links_inside c.args.corners.now.soup.now c.law_of_soup.ensures.mesh c.args.corners.now.next.now c.args.corners.now.prev.now c.args.corners.now.across.now
    c.args.corners.now.tables c.in_ok-rows.rows c.push.new.self c.in_ok-rows.ensures.rows
    c.args.corners.now.at_vertex.now c.deref.result.now c.args.corners.now.rows
    (subst F (sym c.deref.ensures.value) c.in_ok-firsts.ensures.firsts) c.requires.met c.in_ok-push.ensures.ok

pub returns : goal.returns
returns c =
    let F : List ℕ → Type 0 = λ xs. AreFirsts c.args.corners.now.at_vertex.now (length c.args.corners.now.at_vertex.now) xs in
    let R : ℕ → Type 0 = λ n. IsReach c.push.new.self n c.in_ok-seen.seen.items in
    record {
      fans =
          fans_marked c.args.corners.now.soup.now c.law_of_soup.ensures.mesh c.args.corners.now.next.now c.args.corners.now.prev.now c.args.corners.now.across.now
          c.args.corners.now.tables c.in_ok-rows.rows c.push.new.self c.in_ok-rows.ensures.rows
          c.args.corners.now.at_vertex.now c.deref.result.now c.args.corners.now.rows
          (subst F (sym c.deref.ensures.value) c.in_ok-firsts.ensures.firsts) c.requires.met c.in_ok-push.ensures.ok
          c.in_ok-seen.seen.items (subst R c.side_count-start.ensures.count c.in_ok-seen.ensures);
    }
