-- Surfaces that are cut open, sewn, made or measured are written so that they read back.
use Rattle.surf_surfaces.proofs.Common.{◌≡◌, ◌<◌, ◌≤◌, ◌^◌, ℕ, Bool, true, false, List, length, length-map, Result, Ok, Err, refl, sym, ap, ◌∙◌, subst, arith, inl, inr, IsTrue, All, All-contains, Contains, Mesh, IsMesh, IsSurface, ArePositive, face_count, edge_count, edges, side_count, sum_by, ◌==◌, eq-eqb}
use Rattle.surf_surfaces.proofs.meshes.CountLaws.{sizes_twice}
use Rattle.surf_surfaces.proofs.meshes.EdgeLaws.{list_any_from}
use Rattle.surf_surfaces.specs.Disc.{IsOpening}
use Rattle.surf_disc.proofs.TableLaws.{edges_within}
use Rattle.surf_opening.specs.ChosenCut.{full_cut}
use Rattle.surf_opening.specs.Laws.{cut_count}
use Rattle.surf_opening.proofs.cuts.ChosenTrees.{chosen_trees_divide}
use Rattle.surf_opening.proofs.openings.ChosenOpenings.{chosen_are_openings, chosen_exist}
use Rattle.surf_seams.proofs.Openings.{openings_through_exist, openings_through_are_openings, points_are_on_border}
use Rattle.surf_seams.proofs.Taking.{cuts_through_exist}
use Rattle.surf_cutter.specs.Kinds.{Kind, full, trimmed, through, is_point}
use Rattle.surf_cutter.specs.Opened.{OpenMesh}
use Rattle.surf_geom.specs.Measures.{measures_in, measure_of, fitting, length_of, unit_square}
use Rattle.surf_geom.specs.Points.{point_at, square_distance, points_in as points_on}
use Rattle.surf_geom.specs.Lists.{each}
use Rattle.surf_geom.specs.declared.fault.GeomFault.{GeomFault}
use Rattle.surf_geom.specs.declared.fault.GeomFault.TheVariants.{Zero, Great}
use Rattle.surf_geom.proofs.EachLaws.{each_all}
use Rattle.surf_geom.proofs.Reread.{reread}
use Rattle.surf_lengths.specs.Lengths.{IsLength, AreLengths, longest}
use Rattle.surf_off.specs.Off.{OffParts}
use Rattle.surf_off.proofs.RereadMesh.{soup_again, short_faces}
use Rattle.surf_sew.specs.Laws.{WasCut}
use Rattle.surf_sew.proofs.CutLaws.{opened_are_reread, copies_are_reread}
use Rattle.surf_sew.proofs.Faults.{sewn_sides}
use Rattle.surf_sew.proofs.Gaps.{different_few}
use Rattle.surf_sew.proofs.Rereads.{sewn_again}
use Rattle.surf_answers.specs.Cuts.{CutsAt, IsCutAt, IsNearAt, GivesOpened}
use Rattle.surf_answers.specs.Lengths.{GivesLengths}
use Rattle.surf_answers.specs.Making.{GivesMesh}
use Rattle.surf_answers.specs.Sewing.{GivesSewn}
use Rattle.surf_answers.specs.SewingSteps.{OnSewnMesh}
use Rattle.surf_words.specs.Shapes.{Shape, IsShape, mesh_of}
use Rattle.surf_decided.proofs.Deciding.{when_less}
use Rattle.surf_decided.proofs.Discs.{disc_or_fault}
use Rattle.surf_outcomes.proofs.Ends.{HasOutcome, HasResult, then_ends}
use Rattle.surf_outcomes.proofs.Found.{chosen_at}
use Rattle.surf_outcomes.proofs.Judged.{no_disc, surface_decided}
use Rattle.surf_outcomes.proofs.MeshCounts.{IsCounted}
use Rattle.surf_outcomes.proofs.SewTexts.{IsSewnMesh}
use Rattle.surf_outcomes.proofs.Shapes.{shapes_are_counted}
use Rattle.surf_outcomes.proofs.Holding.{Holds, then_holds, anything, of_read, of_choice}
use Rattle.std.specs.Prelude.{nat_lt}
use Rattle.std.proofs.lemmas.Bool.{eqb-false, ltb-false}

-- ---- cuts

-- the vertices that a kind of cut goes through are vertices
abbrev pub HasVertices : Mesh → Kind → Type 0
HasVertices mesh full = Unit {0}
HasVertices mesh trimmed = Unit {0}
HasVertices mesh (through points) = All (λ v. v < mesh.vertices) points

module _ (mesh : Mesh) (lengths : List ℕ) (surface : IsSurface mesh) (positive : ArePositive mesh lengths) (base : ℕ)
    (based : base < mesh.vertices) where
  pub cuts_at : (kind : Kind) → HasVertices mesh kind → HasResult (CutsAt kind mesh lengths base)
  cuts_at full inside =
      let at = chosen_at mesh lengths surface positive base based in
      let divide = chosen_trees_divide mesh lengths base at.0 surface positive at.1 in
      let opened = chosen_exist mesh at.0.tree at.0.cotree false surface divide in
      let is : IsCutAt mesh lengths base full opened.0 opened.1 =
      record {
        trees = at.0;
        chosen = at.1;
        opened = opened.2;
        opening = chosen_are_openings mesh at.0.tree at.0.cotree false opened.0 opened.1 surface divide opened.2;
        border = λ v has. let l = has.1 in absurd (omega (arith, l));
      } in
      (Ok (record { origins = opened.0; faces = opened.1 }), is)
  cuts_at trimmed inside =
      let at = chosen_at mesh lengths surface positive base based in
      let divide = chosen_trees_divide mesh lengths base at.0 surface positive at.1 in
      let opened = chosen_exist mesh at.0.tree at.0.cotree true surface divide in
      let is : IsCutAt mesh lengths base trimmed opened.0 opened.1 =
      record {
        trees = at.0;
        chosen = at.1;
        opened = opened.2;
        opening = chosen_are_openings mesh at.0.tree at.0.cotree true opened.0 opened.1 surface divide opened.2;
        border = λ v has. let l = has.1 in absurd (omega (arith, l));
      } in
      (Ok (record { origins = opened.0; faces = opened.1 }), is)
  cuts_at (through points) inside =
      let at = chosen_at mesh lengths surface positive base based in
      let divide = chosen_trees_divide mesh lengths base at.0 surface positive at.1 in
      let marks : ℕ → Bool = is_point points in
      let cut = cuts_through_exist mesh (full_cut mesh at.0.tree at.0.cotree) marks in
      elim (when_less (cut_count mesh cut.0) 2) [
        | inl few ↦
            let is : IsNearAt mesh lengths base (through points) _ =
            record { trees = at.0; chosen = at.1; near = (cut.0, cut.1, few); is = refl } in
            (Err _, is)
        | inr many ↦
            let opened = openings_through_exist mesh at.0.tree at.0.cotree marks cut.0 surface divide cut.1
            (omega (arith, many)) in
            let is : IsCutAt mesh lengths base (through points) opened.0 opened.1 =
            record {
              trees = at.0;
              chosen = at.1;
              opened = opened.2;
              opening = openings_through_are_openings mesh at.0.tree at.0.cotree marks opened.0 opened.1 surface divide
                  opened.2;
              border = λ v has. points_are_on_border mesh at.0.tree at.0.cotree marks opened.0 opened.1 v surface divide
                  opened.2 (All-contains (λ u. u < mesh.vertices) points v inside has) (listed v has);
            } in
            (Ok (record { origins = opened.0; faces = opened.1 }), is)
      ]
    where
      listed : (v : ℕ) → Contains points v → IsTrue (is_point points v)
      listed v has = list_any_from (λ p. p == v) points v has.0 has.1 (eq-eqb _ v has.2)

pub gives_opened : (read : OffParts × Mesh) (opened : OpenMesh) → IsCounted read → IsMesh read.1 →
    IsOpening read.1 opened.origins opened.faces → HasOutcome (GivesOpened read.0 opened)
gives_opened read opened counted is_mesh opening =
    let few = counted.few_sides in
    let cut : WasCut read.0 read.1 opened.origins opened.faces =
    record {
      clean = counted.clean;
      lines = counted.lines;
      colours = counted.colours;
      is_mesh = is_mesh;
      few_sides = omega (arith, few);
      opening = opening;
    } in (
      _,
      record {
        says = refl;
        rereads = opened_are_reread read.0 read.1 opened.origins opened.faces cut;
        copies = copies_are_reread read.0 read.1 opened.origins opened.faces cut;
      },
    )

-- ---- sewing

pub on_sewn : (read : OffParts × Mesh) (origins : List ℕ) (mesh : Mesh) → IsCounted read → IsMesh read.1 →
    length origins ≡ read.1.vertices → IsSewnMesh read.1 origins mesh → HasOutcome (OnSewnMesh read origins mesh)
on_sewn read origins mesh counted is_mesh count sewn = elim (disc_or_fault read.1 is_mesh) [
  | inr fault ↦ let none = no_disc read.1 fault in (none.0, inl none.1)
  | inl disc ↦
      let ends = then_ends (surface_decided mesh sewn.is_mesh) (λ surface is. gives surface is.0) in
      (ends.0, inr (disc, ends.1))
]
  where
    written : HasOutcome (GivesSewn read.0 origins mesh)
    written =
        let lines = counted.lines in
        let colours = counted.colours in
        let few_sides = counted.few_sides in
        let few_faces = counted.few_faces in
        let few_vertices = counted.few_vertices in
        let sides : side_count mesh ≡ side_count read.1 = ap (sum_by length) sewn.faces ∙ sewn_sides origins read.1.faces in
        let faces : length mesh.faces ≡ face_count read.1 =
        ap length sewn.faces ∙ length-map read.1.faces _ in
        let vertices = sewn.few in
        let few = different_few origins in
        let edges = edges_within mesh in
        let short = short_faces mesh.faces (2 ^ 64) (omega (arith, sides, few_sides)) in (
          _,
          record {
            says = refl;
            rereads = sewn_again read.0 origins mesh counted.clean (count ∙ sym lines) sewn.have sewn.is_mesh short
                (faces ∙ sym colours) (omega (arith, vertices, few, count, few_vertices))
                (omega (arith, faces, few_faces)) (omega (arith, edges, sides, few_sides));
          },
        )

    gives : (other : Mesh) → other ≡ mesh → HasOutcome (GivesSewn read.0 origins other)
    gives other same = subst (λ m. HasOutcome (GivesSewn read.0 origins m)) (sym same) written

-- ---- meshes that are made

pub gives_mesh : (shape : Shape) → IsShape shape → IsSurface (mesh_of shape) →
    (mesh_of shape).vertices ≤ 1000000 → face_count (mesh_of shape) ≤ 2000000 → HasOutcome (GivesMesh (mesh_of shape))
gives_mesh shape is surface few_vertices few_faces =
    let mesh : Mesh = mesh_of shape in
    let counted = shapes_are_counted shape is in
    let edges = counted.edges in
    let sizes = sizes_twice (mesh_of shape) surface in
    let short = short_faces (mesh_of shape).faces (2 ^ 64) (omega (arith, sizes, edges, few_faces)) in (
      _,
      record {
        says = refl;
        rereads = soup_again (mesh_of shape) (edge_count (mesh_of shape)) surface.is_mesh short
            (omega (arith, few_vertices)) (omega (arith, few_faces)) (omega (arith, edges, few_faces));
      },
    )

-- ---- lengths

fitting_long : (edge : ℕ × ℕ) (n : ℕ) → Holds IsLength (fitting edge n)
fitting_long edge n =
    of_choice IsLength (n == 0) (Err (Zero edge.0 edge.1)) _ (λ _. tt)
    (λ some. of_choice IsLength (nat_lt longest n) (Err (Great edge.0 edge.1)) (Ok n) (λ _. tt)
    (λ small. let differs = eqb-false n 0 some in
    record { positive = omega (arith, differs); fits = ltb-false longest n small }))

-- what holds of what each gives holds of all
each_holds : {A B : Type 0} (P : B → Type 0) (f : A → Result B GeomFault) (xs : List A) → ((x : A) → Holds P (f x)) →
    Holds (λ ys. All P ys × (length ys ≡ length xs)) (each f xs)
each_holds {A} {B} P f xs law = at (each f xs) refl
  where
    at : (r : Result (List B) GeomFault) → each f xs ≡ r → Holds (λ ys. All P ys × (length ys ≡ length xs)) r
    at (Ok ys) read = each_all f P (λ x y here. of_read P (f x) y here (law x)) xs ys read
    at (Err fault) read = tt

abbrev AreLong : Mesh → List ℕ → Type 0
AreLong mesh lengths = AreLengths lengths × (length lengths ≡ edge_count mesh)

measures_long : (mesh : Mesh) (lines : List (List ℕ)) (decimals : ℕ) (lengths : List ℕ) →
    measures_in mesh lines decimals ≡ Ok lengths → AreLong mesh lengths
measures_long mesh lines decimals lengths is =
    of_read (AreLong mesh) (measures_in mesh lines decimals) lengths is
    (then_holds (λ _. Unit {0}) (AreLong mesh) (points_on lines) _ (anything (points_on lines))
    (λ points _. each_holds IsLength (length_of points (unit_square decimals)) (edges mesh)
    (λ edge. fitting_long edge (measure_of (unit_square decimals)
    (square_distance (point_at points edge.0) (point_at points edge.1))))))

pub gives_lengths : (mesh : Mesh) (lines : List (List ℕ)) (decimals : ℕ) (lengths : List ℕ) → IsMesh mesh →
    mesh.vertices ≤ 1000000 → measures_in mesh lines decimals ≡ Ok lengths → HasOutcome (GivesLengths mesh lengths)
gives_lengths mesh lines decimals lengths is_mesh few is =
    let long = measures_long mesh lines decimals lengths is in
    (_, record { says = refl; reads_back = reread mesh lengths is_mesh (omega (arith, few)) long.0 long.1 })
