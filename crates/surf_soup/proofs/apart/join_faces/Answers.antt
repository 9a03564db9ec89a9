use Rattle.surf_surfaces.proofs.Common.{◌≡◌, ◌<◌, ℕ, List, get_or, length, subst, ap, ◌∙◌, arith, get_or_read, Mesh, face_count, side_count, owners}
use Rattle.surf_soup.specs.Forest.{HasRoots, merged}
use Rattle.surf_soup.specs.Half.{AreAllMates}
use Rattle.surf_soup.proofs.Owners.{length-owners}
use Rattle.surf_soup.proofs.HalfLaws.{face_of_side}
use Rattle.surf_soup.proofs.ApartLaws.{joins_none, joins_past, joins_next, joins_all}
use Rattle.surf_soup.proofs.apart.join_faces.Goals as goal
use Rattle.surf_soup.proofs.apart.join_faces.Goals.{then-other-side, else-other-side}

-- the face of a side is one of the joined numbers
below : (mesh : Mesh) (face_of : List ℕ) (s f n : ℕ) → face_of ≡ owners 0 mesh.faces → s < side_count mesh →
    n ≡ face_count mesh → f ≡ get_or face_of s 0 → f < n
below mesh face_of s f n faces in' size is = let own = face_of_side mesh face_of s 0 faces in' in
    omega (arith, own.is_face)

pub loop-side-init : goal.loop-side-init
loop-side-init c = (λ f. f, joins_none c.args.soup.now c.args.mate.now c.args.parents.now c.requires.lone)

-- a mate as it is read
mate_read : (mesh : Mesh) (mate : List ℕ) (k x : ℕ) → AreAllMates mesh mate → k < side_count mesh →
    x ≡ get_or mate k x → x ≡ get_or mate k 0
mate_read mesh mate k x mates lt is = let size = mates.size in get_or_read mate k x (omega arith) is 0

pub at-requires : goal.at-requires
at-requires c =
    omega (
      arith,
      ap length c.requires.faces,
      length-owners 0 c.args.soup.now.faces,
      c.requires.mates.size,
      c.loop-side-test.true,
      c.new.ensures,
    )

pub at-requires-then-other-side : goal.at-requires-then-other-side
at-requires-then-other-side c =
    let mesh = c.args.soup.now in
    let mate = c.args.mate.now in
    let k = c.loop-side.side in
    let lt : k < side_count mesh = omega (arith, c.requires.mates.size, c.loop-side-test.true) in
    let read = mate_read mesh mate k c.index-mate-side-then-other-side.result c.requires.mates lt
    c.index-mate-side-then-other-side.is in
    omega (
      arith,
      ap length c.requires.faces,
      length-owners 0 mesh.faces,
      (c.requires.mates.mates k lt).is_side,
      read,
    )

pub join-requires-clause-first : goal.join-requires-clause-first
join-requires-clause-first c =
    let mesh = c.args.soup.now in
    let side = c.loop-side.side in
    let own = c.args.face_of.now in
    let lt : side < side_count mesh = omega (arith, c.requires.mates.size, c.loop-side-test.true) in
    below mesh own side c.number-own.result (length c.loop-side.parents) c.requires.faces lt
    c.loop-side.invariant.1.size (c.number-own.ensures ∙ c.at.ensures ∙ ap (λ s. get_or own s 0) c.new.ensures)

pub join-requires-clause-second : goal.join-requires-clause-second
join-requires-clause-second c =
    let mesh = c.args.soup.now in
    let mate = c.args.mate.now in
    let k = c.loop-side.side in
    let own = c.args.face_of.now in
    let lt : k < side_count mesh = omega (arith, c.requires.mates.size, c.loop-side-test.true) in
    let read = mate_read mesh mate k c.index-mate-side-then-other-side.result c.requires.mates lt
    c.index-mate-side-then-other-side.is in
    below mesh own (get_or mate k 0) c.number-across.result (length c.loop-side.parents) c.requires.faces
    (c.requires.mates.mates k lt).is_side c.loop-side.invariant.1.size
    (c.number-across.ensures ∙ c.at-then-other-side.ensures ∙ ap (λ s. get_or own s 0) read)

pub loop-side-preserved : goal.loop-side-preserved
loop-side-preserved c =
    let mesh = c.args.soup.now in
    let mate = c.args.mate.now in
    let k = c.loop-side.side in
    let own = c.args.face_of.now in
    let lt : k < side_count mesh = omega (arith, c.requires.mates.size, c.loop-side-test.true) in
    let other : c.index-other.result ≡ get_or mate k 0 = c.index-other.ensures
    ∙ mate_read mesh mate k c.index-mate-side.result c.requires.mates lt c.index-mate-side.is in
    let so_far = c.loop-side.invariant in
    let root = so_far.0 in
    elim c.if-other-side.branch [
      | then-other-side w ↦
          let f : w.number-own.result ≡ get_or (owners 0 mesh.faces) k 0 =
          w.number-own.ensures ∙ w.at.ensures ∙ ap (λ s. get_or own s 0) w.new.ensures
          ∙ ap (λ (xs : List ℕ). get_or xs k 0) c.requires.faces in
          let read = mate_read mesh mate k w.index-mate-side-then-other-side.result c.requires.mates lt
          w.index-mate-side-then-other-side.is in
          let g : w.number-across.result ≡ get_or (owners 0 mesh.faces) (get_or mate k 0) 0 =
          w.number-across.ensures ∙ w.at-then-other-side.ensures ∙ ap (λ s. get_or own s 0) read
          ∙ ap (λ (xs : List ℕ). get_or xs (get_or mate k 0) 0) c.requires.faces in
          let roots = w.join.ensures.joined root so_far.1.roots in
          let F : ℕ → Type 0 = λ x. HasRoots w.join.new.parents (merged root x w.number-across.result) in
          let G : ℕ → Type 0 = λ y. HasRoots w.join.new.parents (merged root (get_or (owners 0 mesh.faces) k 0) y) in
          rw w.parents-is (
            merged root (get_or (owners 0 mesh.faces) k 0)
                (get_or (owners 0 mesh.faces) (get_or mate k 0) 0),
            joins_next mesh mate c.requires.mates k lt c.loop-side.parents root so_far.1 w.join.new.parents
                (omega arith) (subst G g (subst F f roots)),
          )
      | else-other-side w ↦ rw w.parents-is (
        root,
        joins_past mesh mate c.requires.mates k lt c.loop-side.parents root so_far.1
            (λ before. omega (arith, w.if-other-side.false, other)),
      )
    ]

pub returns : goal.returns
returns c =
    let so_far = c.loop-side.invariant in (
      so_far.0,
      joins_all c.args.soup.now c.law_of_soup.ensures.mesh c.requires.two c.args.mate.now c.requires.mates
          c.loop-side.side c.loop-side.parents so_far.0 so_far.1
          (omega (arith, c.requires.mates.size, c.loop-side-test.false)),
    )
