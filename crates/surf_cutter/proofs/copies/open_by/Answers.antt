use Rattle.surf_slit.proofs.Common.{◌≡◌, ◌≤◌, ◌++◌, [], ℕ, List, length, take, drop, ap, sym, ◌∙◌, subst, arith, Mesh, face_count, side_count, append-nil, drop_all, take_all}
use Rattle.surf_cutter.proofs.Common.{all_corners, AreCounted, AreRowsOf, AreRenumberedTo}
use Rattle.surf_cutter.proofs.FaceTables.{AreCopied, rows_copied}
use Rattle.surf_cutter.proofs.OpenedBy.{opened_by, in_order}
use Rattle.surf_cutter.proofs.Sorted.{sorted_all, sorted_few}
use Rattle.surf_cutter.proofs.copies.open_by.Goals as goal

-- what a table is whose slice was changed in whole
written : (n : ℕ) (xs ys : List ℕ) → length xs ≡ length ys → length ys ≡ n → take n (xs ++ drop (length xs) ys) ≡ xs
written n xs ys same len =
    let none : drop (length xs) ys ≡ [] = drop_all (length xs) ys (omega arith) in
    let le : length xs ≤ n = omega arith in
    ap (λ (zs : List ℕ). take n (xs ++ zs)) none ∙ ap (take n) (append-nil xs) ∙ take_all n xs le

-- the faces have the numbers of the labels for corners
copied : (mesh : Mesh) (labels given after numbers : List ℕ) (faces : List (List ℕ)) → length labels ≡ side_count mesh → given ≡ labels →
    AreRenumberedTo given numbers (length given) after → AreRowsOf mesh after faces → AreCopied mesh labels numbers (face_count mesh) faces
copied mesh labels given after numbers faces all given_is renumbered rows =
    let is : AreRenumberedTo labels numbers (length labels) after = subst (λ (xs : List ℕ). AreRenumberedTo xs numbers (length xs) after) given_is renumbered in
    rows_copied mesh labels numbers after faces (λ s lt. is.done s (omega arith)) rows

pub returns-clause-opened : goal.returns-clause-opened
returns-clause-opened c cut count are =
    let mesh = c.args.mesh.now in
    let labels = c.args.labels.items in
    let numbers = c.number_copies.new.numbers in
    let numbered = c.in_ok-origins.ensures.numbered in
    let corners = c.renumber.new.labels in
    let table = written c.args.labels.len corners labels (c.renumber.auto.labels ∙ ap length c.deref_mut.ensures.value) (sym c.args.labels.ok.0) in
    let rows : AreRowsOf mesh corners c.in_ok-faces.faces = subst (λ (xs : List ℕ). AreRowsOf mesh xs c.in_ok-faces.faces) table c.in_ok-faces.ensures.rows in
    let is = copied mesh labels c.deref_mut.result.now corners numbers c.in_ok-faces.faces c.requires.labels.all c.deref_mut.ensures.value c.renumber.ensures rows in
    let counted : AreCounted numbered.0 labels (all_corners mesh) (length numbered.0) numbers c.in_ok-origins.origins.items =
    subst (λ (xs : List ℕ). AreCounted numbered.0 xs (all_corners mesh) (length numbered.0) numbers c.in_ok-origins.origins.items) c.deref.ensures.value numbered.2 in
    opened_by c.law_of_surface.ensures.surface are (sorted_all c.law_of_surface.ensures.surface numbered.0 numbered.1) counted is

pub returns-clause-order : goal.returns-clause-order
returns-clause-order c cut count are =
    let mesh = c.args.mesh.now in
    let labels = c.args.labels.items in
    let numbers = c.number_copies.new.numbers in
    let numbered = c.in_ok-origins.ensures.numbered in
    let corners = c.renumber.new.labels in
    let table = written c.args.labels.len corners labels (c.renumber.auto.labels ∙ ap length c.deref_mut.ensures.value) (sym c.args.labels.ok.0) in
    let rows : AreRowsOf mesh corners c.in_ok-faces.faces = subst (λ (xs : List ℕ). AreRowsOf mesh xs c.in_ok-faces.faces) table c.in_ok-faces.ensures.rows in
    let is = copied mesh labels c.deref_mut.result.now corners numbers c.in_ok-faces.faces c.requires.labels.all c.deref_mut.ensures.value c.renumber.ensures rows in
    let counted : AreCounted numbered.0 labels (all_corners mesh) (length numbered.0) numbers c.in_ok-origins.origins.items =
    subst (λ (xs : List ℕ). AreCounted numbered.0 xs (all_corners mesh) (length numbered.0) numbers c.in_ok-origins.origins.items) c.deref.ensures.value numbered.2 in
    in_order c.law_of_surface.ensures.surface are (sorted_all c.law_of_surface.ensures.surface numbered.0 numbered.1) counted is

pub returns-clause-few : goal.returns-clause-few
returns-clause-few c =
    let mesh = c.args.mesh.now in
    let numbered = c.in_ok-origins.ensures.numbered in
    let all = sorted_few mesh mesh.vertices numbered.0 numbered.1 in
    let few = numbered.2.few in
    omega (arith, c.law_of_surface.ensures.few)
