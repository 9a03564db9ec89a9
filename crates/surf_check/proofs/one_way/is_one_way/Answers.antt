use Rattle.surf_surfaces.proofs.Common.{List, ℕ, sym, subst, IsSurface}
use Rattle.surf_soup.specs.Half.{AreAllMates}
use Rattle.surf_check.proofs.OneWayLaws.{one_way, not_one_way}
use Rattle.surf_check.proofs.one_way.is_one_way.Goals as goal

pub returns-then-not-begin_apart-clause-one_way : goal.returns-then-not-begin_apart-clause-one_way
returns-then-not-begin_apart-clause-one_way c = λ surface runs.
    let mesh = c.args.soup.now in
    let P : List ℕ → Type 0 = AreAllMates mesh in
    let mates = subst P (sym c.deref.ensures.value) c.in_ok-mated.ensures.mates in
    let found = c.if-not-begin_apart.ensures in
    not_one_way mesh surface c.deref.result.now mates found.0 found.1 found.2 runs

pub invariant_of-tables : goal.invariant_of-tables
invariant_of-tables c =
    let known = c.in_ok-mated.ensures in
    record {
      some = known.some;
      two = known.two;
      met = known.met;
      mates = known.mates;
      faces = c.in_ok-face_of.ensures;
      firsts = known.first;
      ends = known.greater;
    }

pub returns-clause-one_way : goal.returns-clause-one_way
returns-clause-one_way c =
    let mesh = c.args.soup.now in
    let known = c.in_ok-mated.ensures in
    let P : List ℕ → Type 0 = AreAllMates mesh in
    let mates = subst P (sym c.deref.ensures.value) known.mates in
    let surface : IsSurface mesh = record {
      is_mesh = c.law_of_soup.ensures.mesh;
      some_face = known.some;
      two_faces = known.two;
      no_isolated = known.met;
      one_fan = c.in_ok-test_fans.ensures.fans;
      connected = c.in_ok-test_faces_joined.ensures.joined;
    } in
    (surface, one_way mesh surface c.deref.result.now mates c.if-not-begin_apart.ensures)
