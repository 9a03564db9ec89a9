use Rattle.surf_surfaces.proofs.Common.{◌≡◌, ◌<◌, ℕ, List, [], ◌∷◌, get_or, length, refl, sym, ap, subst, ◌∙◌, arith, get_or_read, Mesh, IsMesh, ends}
use Rattle.surf_soup.specs.EdgeTable.{IsEdgeTable}
use Rattle.surf_soup.specs.Pairs.{IsFirstWithin}
use Rattle.surf_soup.proofs.Owners.{length-owners}
use Rattle.surf_soup.proofs.Paired.{row_side}
use Rattle.surf_disc.specs.Fault.{IsLeastCrowded}
use Rattle.surf_disc.proofs.TableLaws.{table_len, first_crowded}
use Rattle.surf_disc.proofs.check.crowd_at.Goals as goal

-- a side that is read from a row is in the table of faces
inside : (mesh : Mesh) → IsMesh mesh →
    (es : List (ℕ × ℕ)) (rows : List (List ℕ)) (edge_of face_of numbers : List ℕ) →
    IsEdgeTable mesh es rows edge_of face_of numbers → (most e k : ℕ) → IsFirstWithin 3 most rows e → k < 3 →
    (row table : List ℕ) → row ≡ get_or rows e [] → table ≡ face_of → get_or row k 0 < length table
inside mesh is_mesh es rows edge_of face_of numbers t most e k first few row table a b =
    let n = table_len mesh is_mesh es rows edge_of face_of numbers t in
    let lt = row_side mesh is_mesh rows face_of t.sides_are t.face_of_is e k (omega (arith, first.is_row))
    (omega (arith, first.at_least)) in
    omega (arith, lt, ap (λ (r : List ℕ). get_or r k 0) a, ap length (b ∙ t.face_of_is), length-owners 0 mesh.faces)

-- a face that is read
read : (rows : List (List ℕ)) (face_of row table : List ℕ) (e k face : ℕ) → face ≡ get_or table (get_or row k 0) 0 →
    table ≡ face_of → row ≡ get_or rows e [] → face ≡ get_or face_of (get_or (get_or rows e []) k 0) 0
read rows face_of row table e k face h a b = h ∙ ap (λ (xs : List ℕ). get_or xs (get_or row k 0) 0) a
    ∙ ap (λ (r : List ℕ). get_or face_of (get_or r k 0) 0) b

pub face_in-first-requires-clause-side : goal.face_in-first-requires-clause-side
face_in-first-requires-clause-side c = inside c.args.tabled.now.soup.now c.law_of_soup.ensures.mesh _ _ _ _ _ c.args.tabled.now.is_table
    _ c.args.e 0 c.requires.first (omega arith) c.row-row.result.now c.deref.result.now c.row-row.ensures
    c.deref.ensures.value

pub face_in-second-requires-clause-side : goal.face_in-second-requires-clause-side
face_in-second-requires-clause-side c = inside c.args.tabled.now.soup.now c.law_of_soup.ensures.mesh _ _ _ _ _ c.args.tabled.now.is_table
    _ c.args.e 1 c.requires.first (omega arith) c.row-row.result.now c.deref-2.result.now c.row-row.ensures
    c.deref-2.ensures.value

pub face_in-third-requires-clause-side : goal.face_in-third-requires-clause-side
face_in-third-requires-clause-side c = inside c.args.tabled.now.soup.now c.law_of_soup.ensures.mesh _ _ _ _ _ c.args.tabled.now.is_table
    _ c.args.e 2 c.requires.first (omega arith) c.row-row.result.now c.deref-3.result.now c.row-row.ensures
    c.deref-3.ensures.value

pub returns-clause-fault : goal.returns-clause-fault
returns-clause-fault c =
    let mesh = c.args.tabled.now.soup.now in
    let rows = c.args.tabled.now.table.now.sides in
    let face_of = c.args.tabled.now.table.now.face_of.items in
    let t = c.args.tabled.now.is_table in
    let e = c.args.e in
    let first = c.requires.first in
    let n = table_len mesh c.law_of_soup.ensures.mesh _ _ _ _ _ t in
    let crowd = first_crowded mesh c.law_of_soup.ensures.mesh _ _ _ _ _ t _ e
    (omega (arith, c.law_of_soup.ensures.few)) first in
    let pair : c.index.result.now ≡ ends mesh e = get_or_read c.args.tabled.now.table.now.edges.items e c.index.result.now
    (omega (arith, first.is_row, ap length t.edge_list_is)) c.index.ensures (0, 0)
    ∙ ap (λ (xs : List (ℕ × ℕ)). get_or xs e (0, 0)) t.edge_list_is in
    let a = read rows face_of c.row-row.result.now c.deref.result.now e 0 c.face_in-first.result
    c.face_in-first.ensures c.deref.ensures.value c.row-row.ensures in
    let b = read rows face_of c.row-row.result.now c.deref-2.result.now e 1 c.face_in-second.result
    c.face_in-second.ensures c.deref-2.ensures.value c.row-row.ensures in
    let d = read rows face_of c.row-row.result.now c.deref-3.result.now e 2 c.face_in-third.result
    c.face_in-third.ensures c.deref-3.ensures.value c.row-row.ensures in
    let faces : c.face_in-first.result ∷ c.face_in-second.result ∷ c.face_in-third.result ∷ [] ≡ get_or face_of
    (get_or (get_or rows e []) 0 0) 0 ∷ get_or face_of (get_or (get_or rows e []) 1 0) 0 ∷ get_or face_of
    (get_or (get_or rows e []) 2 0) 0 ∷ [] = rw (a, b, d) refl in
    let P : ℕ × ℕ → Type 0 = λ p. IsLeastCrowded mesh p
    (get_or face_of (get_or (get_or rows e []) 0 0) 0 ∷ get_or face_of
    (get_or (get_or rows e []) 1 0) 0 ∷ get_or face_of (get_or (get_or rows e []) 2 0) 0 ∷ []) e in
    let F : List ℕ → Type 0 = λ fs. IsLeastCrowded mesh c.index.result.now fs e in
    (e, subst F (sym faces) (subst P (sym pair) crowd))
