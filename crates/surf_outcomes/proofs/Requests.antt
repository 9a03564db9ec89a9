-- An outcome comes of each row of the command table.
use Rattle.surf_surfaces.proofs.Common.{◌≡◌, ◌<◌, ◌^◌, ◌*◌, ℕ, List, Option, Some, None, Ok, refl, sym, subst, Mesh, IsSurface, ArePositive}
use Rattle.surf_surfaces.proofs.classes.ClassLaws.{some_vertex}
use Rattle.surf_surfaces.specs.Surface.{face_count, loop_count}
use Rattle.surf_base.specs.Outside.{Files, bytes_of}
use Rattle.surf_base.specs.declared.limits.LimitKind.{LimitKind}
use Rattle.surf_base.specs.declared.limits.LimitKind.TheVariants as limits
use Rattle.surf_lengths.proofs.Positive.{lengths_positive}
use Rattle.surf_off.specs.Off.{OffParts, off_of}
use Rattle.surf_texts.specs.Cause.{refused_by}
use Rattle.surf_texts.specs.MeshLines.{off_cause}
use Rattle.surf_texts.specs.Outcome.{Outcome}
use Rattle.surf_texts.specs.declared.walks.WalkFile.TheVariants.{First, Second}
use Rattle.surf_words.specs.Shapes.{mesh_of}
use Rattle.surf_words.specs.Words.{Request, help, version, info, dist, loops, basis, cycle, cut, sew, disc, class, same}
use Rattle.surf_words.specs.Words.{large_basis, large_cycle, large_shortest}
use Rattle.surf_words.specs.Words.{confirm, shortest, certify_loops, certify_basis, check, lengths, gen_shape, try_shape, Extent}
use Rattle.surf_gen.specs.Made.{made_values}
use Rattle.surf_answers.specs.Commands.{OnRequest}
use Rattle.surf_answers.specs.Fronts.{OnText, OnSurface, OnFewLoops, OnMeasured, OnBased, OnSmall, OnCovered}
use Rattle.surf_answers.specs.Reading.{Reads, IsMeshText, within_text, kind_named, tree_count}
use Rattle.surf_answers.specs.ShortestWalk.{GivesShortestWalk}
use Rattle.surf_outcomes.proofs.Ends.{HasOutcome, HasResult, then_ends, stated, within}
use Rattle.surf_outcomes.proofs.Found.{informs, gives_distances, gives_loops, gives_loop_cert, gives_basis, gives_basis_cert, gives_cycle, gives_shortest, gives_summary, gives_class}
use Rattle.surf_outcomes.proofs.Judged.{judges_disc, judges_cert, judges_evidence}
use Rattle.surf_outcomes.proofs.Shapes.{IsShaped, shapes_are_counted, shape_is_surface, made_are_positive}
use Rattle.surf_outcomes.proofs.Steps.{mesh_read, mesh_counted, surface_text, lengths_given, base_given, walk_given, kind_inside, evidence_rises, origins_read, sewn_read, measures_read}
use Rattle.surf_outcomes.proofs.Written.{cuts_at, gives_opened, on_sewn, gives_mesh, gives_lengths}

-- ---- fronts

module _ (files : Files) where
  read_file : (name : List ℕ) → HasResult (Reads name files)
  read_file name = stated (within_text (bytes_of files name))

  -- a mesh that is read, with how much is read
  on_text : {rest : List ℕ → OffParts × Mesh → Outcome → Type 0} (mesh : List ℕ) →
      ((bytes : List ℕ) (read : OffParts × Mesh) → IsMeshText bytes (Ok read) → HasOutcome (rest bytes read)) →
      HasOutcome (OnText mesh files rest)
  on_text mesh rest =
      then_ends (read_file mesh) (λ bytes _.
      then_ends (stated (refused_by off_cause (off_of bytes))) (λ read is. rest bytes read is))

  -- a surface that is read
  on_surface : {rest : OffParts × Mesh → Outcome → Type 0} (mesh : List ℕ) →
      ((bytes : List ℕ) (read : OffParts × Mesh) → IsMeshText bytes (Ok read) → IsSurface read.1 →
      HasOutcome (rest read)) →
      HasOutcome (OnSurface mesh files rest)
  on_surface mesh rest =
      then_ends (read_file mesh) (λ bytes _.
      then_ends (surface_text bytes) (λ read is. rest bytes read is.0 is.1))

  on_few : {rest : OffParts × Mesh → Outcome → Type 0} (mesh : List ℕ) →
      ((bytes : List ℕ) (read : OffParts × Mesh) → IsMeshText bytes (Ok read) → IsSurface read.1 →
      HasOutcome (rest read)) →
      HasOutcome (OnFewLoops mesh files rest)
  on_few mesh rest =
      on_surface mesh (λ bytes read is surface.
      within limits.Loops 1024 (loop_count read.1) (λ _. rest bytes read is surface))

  -- .. with lengths
  on_measured : {rest : OffParts × Mesh → List ℕ → Outcome → Type 0} (mesh word : List ℕ) →
      ((bytes : List ℕ) (read : OffParts × Mesh) → IsMeshText bytes (Ok read) → IsSurface read.1 →
      (values : List ℕ) → ArePositive read.1 values → HasOutcome (rest read values)) →
      HasOutcome (OnMeasured mesh word files rest)
  on_measured mesh word rest =
      on_few mesh (λ bytes read is surface.
      then_ends (lengths_given word read.1 files) (λ values long.
      rest bytes read is surface values (lengths_positive read.1 values long.1 long.2)))

  -- .. and with a base
  on_based : {rest : OffParts × Mesh → List ℕ → ℕ → Outcome → Type 0} (mesh word : List ℕ) (base : ℕ) →
      ((bytes : List ℕ) (read : OffParts × Mesh) → IsMeshText bytes (Ok read) → IsSurface read.1 →
      (values : List ℕ) → ArePositive read.1 values → (vertex : ℕ) → vertex < read.1.vertices →
      HasOutcome (rest read values vertex)) →
      HasOutcome (OnBased mesh word base files rest)
  on_based mesh word base rest =
      on_measured mesh word (λ bytes read is surface values positive.
      then_ends (base_given base read.1) (λ vertex has.
      rest bytes read is surface values positive vertex (below has.0 has.1)))
    where
      below : {vertex count : ℕ} → vertex ≡ base → base < count → vertex < count
      below {vertex} {count} is_base less = subst (λ n. n < count) (sym is_base) less

  -- few vertices, with lengths
  on_small : {rest : OffParts × Mesh → List ℕ → Outcome → Type 0} (kind : LimitKind) (most : ℕ) (mesh word : List ℕ) →
      ((read : OffParts × Mesh) → IsSurface read.1 → (values : List ℕ) → ArePositive read.1 values →
      HasOutcome (rest read values)) →
      HasOutcome (OnSmall kind most mesh word files rest)
  on_small kind most mesh word rest =
      on_few mesh (λ bytes read is surface.
      within kind most read.1.vertices (λ _.
      then_ends (lengths_given word read.1 files) (λ values long.
      rest read surface values (lengths_positive read.1 values long.1 long.2))))

  -- a walk that is sought within limits on the cover
  on_covered : (most_loops most_nodes : ℕ) (mesh word walk : List ℕ) →
      HasOutcome (OnCovered most_loops most_nodes mesh word walk files (λ read. GivesShortestWalk read.1))
  on_covered most_loops most_nodes mesh word walk =
      on_few mesh (λ bytes read is surface.
      within limits.CoverLoops most_loops (loop_count read.1) (λ _.
      within limits.CoverNodes most_nodes (read.1.vertices * 2 ^ loop_count read.1) (λ _.
      then_ends (lengths_given word read.1 files) (λ values long.
      then_ends (walk_given First walk read.1 files) (λ closed has.
      gives_shortest read.1 values surface (lengths_positive read.1 values long.1 long.2) closed has.1)))))

  -- ---- rows

  cut_outcome : (extent : Extent) (mesh word : List ℕ) (base : ℕ) →
      HasOutcome (OnRequest (Some (cut extent mesh word base)) files)
  cut_outcome extent mesh word base =
      on_based mesh word base (λ bytes read is surface values positive vertex based.
      then_ends (stated (kind_named extent read.1 files)) (λ kind has.
      then_ends (cuts_at read.1 values surface positive vertex based kind (kind_inside extent read.1 files kind has))
      (λ opened cuts. gives_opened read opened (mesh_counted bytes read is) surface.is_mesh cuts.opening)))

  sew_outcome : (mesh : List ℕ) → HasOutcome (OnRequest (Some (sew mesh)) files)
  sew_outcome mesh =
      on_text mesh (λ bytes read is.
      then_ends (stated _) (λ origins has.
      then_ends (stated _) (λ sewn made.
      let count = origins_read bytes read.1.vertices origins has in
      let is_mesh = mesh_read bytes read is in
      on_sewn read origins sewn (mesh_counted bytes read is) is_mesh count
      (sewn_read read origins sewn is_mesh count made))))

  confirm_outcome : (mesh walk cert : List ℕ) → HasOutcome (OnRequest (Some (confirm mesh walk cert)) files)
  confirm_outcome mesh walk cert =
      on_surface mesh (λ bytes read is surface.
      then_ends (walk_given First walk read.1 files) (λ closed has.
      then_ends (read_file cert) (λ text _.
      then_ends (stated _) (λ evidence given.
      judges_evidence read.1 closed evidence (evidence_rises text evidence given)))))

  check_outcome : (mesh word cert : List ℕ) → HasOutcome (OnRequest (Some (check mesh word cert)) files)
  check_outcome mesh word cert =
      on_measured mesh word (λ bytes read is surface values positive.
      then_ends (read_file cert) (λ text _.
      then_ends (stated _) (λ certificate _.
      within limits.CertificateVertices 1000 (tree_count read.1 certificate) (λ _.
      judges_cert read.1 values surface positive certificate))))

  lengths_outcome : (mesh : List ℕ) (decimals : ℕ) → HasOutcome (OnRequest (Some (lengths mesh decimals)) files)
  lengths_outcome mesh decimals =
      on_surface mesh (λ bytes read is surface.
      then_ends (stated _) (λ values measures.
      gives_lengths read.1 read.0.vertex_lines decimals values surface.is_mesh
      (mesh_counted bytes read is).few_vertices (measures_read decimals read values measures)))

  pub requests_have_outcomes : (request : Option Request) → IsShaped request → HasOutcome (OnRequest request files)
  requests_have_outcomes None shaped = (_, refl)
  requests_have_outcomes (Some help) shaped = (_, refl)
  requests_have_outcomes (Some version) shaped = (_, refl)
  requests_have_outcomes (Some (info mesh)) shaped =
      on_surface mesh (λ bytes read is surface. informs read.1 surface)
  requests_have_outcomes (Some (dist mesh word base)) shaped =
      on_surface mesh (λ bytes read is surface.
      then_ends (lengths_given word read.1 files) (λ values long.
      then_ends (base_given base read.1) (λ vertex has.
      gives_distances read.1 values surface (lengths_positive read.1 values long.1 long.2) vertex
      (subst (λ n. n < read.1.vertices) (sym has.0) has.1))))
  requests_have_outcomes (Some (loops mesh word base)) shaped =
      on_based mesh word base (λ bytes read is surface values positive vertex based.
      gives_loops read.1 values surface positive vertex based)
  requests_have_outcomes (Some (basis mesh word)) shaped =
      on_small limits.BasisVertices 20000 mesh word (λ read surface values positive.
      gives_basis read.1 values surface positive)
  requests_have_outcomes (Some (cycle mesh word)) shaped =
      on_small limits.BasisVertices 20000 mesh word (λ read surface values positive.
      gives_cycle read.1 values surface positive)
  requests_have_outcomes (Some (large_basis mesh word)) shaped =
      on_measured mesh word (λ bytes read is surface values positive. gives_basis read.1 values surface positive)
  requests_have_outcomes (Some (large_cycle mesh word)) shaped =
      on_measured mesh word (λ bytes read is surface values positive. gives_cycle read.1 values surface positive)
  requests_have_outcomes (Some (cut extent mesh word base)) shaped = cut_outcome extent mesh word base
  requests_have_outcomes (Some (sew mesh)) shaped = sew_outcome mesh
  requests_have_outcomes (Some (disc mesh)) shaped =
      on_text mesh (λ bytes read is. judges_disc read.1 (mesh_read bytes read is))
  requests_have_outcomes (Some (class mesh walk)) shaped =
      on_few mesh (λ bytes read is surface.
      then_ends (walk_given First walk read.1 files) (λ closed has. gives_class read.1 closed None surface has.1))
  requests_have_outcomes (Some (same mesh first second)) shaped =
      on_few mesh (λ bytes read is surface.
      then_ends (walk_given First first read.1 files) (λ closed has.
      then_ends (walk_given Second second read.1 files) (λ others too.
      gives_class read.1 closed (Some others) surface (has.1, too.1))))
  requests_have_outcomes (Some (confirm mesh walk cert)) shaped = confirm_outcome mesh walk cert
  requests_have_outcomes (Some (shortest mesh word walk)) shaped = on_covered 8 65536 mesh word walk
  requests_have_outcomes (Some (large_shortest mesh word walk)) shaped = on_covered 16 16777216 mesh word walk
  requests_have_outcomes (Some (certify_loops mesh word base)) shaped =
      on_based mesh word base (λ bytes read is surface values positive vertex based.
      gives_loop_cert read.1 values surface positive vertex based)
  requests_have_outcomes (Some (certify_basis mesh word)) shaped =
      on_small limits.CertificateVertices 1000 mesh word (λ read surface values positive.
      gives_basis_cert read.1 values surface positive)
  requests_have_outcomes (Some (check mesh word cert)) shaped = check_outcome mesh word cert
  requests_have_outcomes (Some (lengths mesh decimals)) shaped = lengths_outcome mesh decimals
  requests_have_outcomes (Some (gen_shape shape)) shaped =
      within limits.Vertices 1000000 (mesh_of shape).vertices (λ few.
      within limits.Faces 2000000 (face_count (mesh_of shape)) (λ less.
      gives_mesh shape shaped (shape_is_surface shape shaped) few less))
  requests_have_outcomes (Some (try_shape shape scatter)) shaped =
      within limits.Vertices 1000000 (mesh_of shape).vertices (λ _.
      within limits.Faces 2000000 (face_count (mesh_of shape)) (λ _.
      within limits.Loops 1024 (loop_count (mesh_of shape)) (λ _.
      within limits.BasisVertices 20000 (mesh_of shape).vertices (λ _.
      let surface = shape_is_surface shape shaped in
      gives_summary (mesh_of shape) (made_values (mesh_of shape) scatter) surface
      (made_are_positive (mesh_of shape) scatter) (some_vertex (mesh_of shape) surface)
      (shapes_are_counted shape shaped).few))))
