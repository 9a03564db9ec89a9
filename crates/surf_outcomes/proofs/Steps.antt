-- Each step that commands share has a result, with what the next steps rest on.
use Rattle.surf_surfaces.proofs.Common.{◌≡◌, ℕ, List, length, Result, Ok, Err, refl, sym, ap, subst, arith, inl, inr, cases_Bool, cases_lt, replicate, get_or-replicate, length-replicate, Mesh, IsMesh, edge_count}
use Rattle.std.specs.Prelude.{codes}
use Rattle.std.specs.Str.{bytes_eq}
use Rattle.surf_base.specs.Outside.{Files, bytes_of}
use Rattle.surf_classes.specs.Evidence.{Evidence, IsRising}
use Rattle.surf_class.specs.Evidences.{evidence_in}
use Rattle.surf_class.specs.Points.{points_in}
use Rattle.surf_class.specs.Walks.{walk_in}
use Rattle.surf_cutter.specs.Kinds.{Kind, full, trimmed, through}
use Rattle.surf_geom.specs.Measures.{measures_in}
use Rattle.surf_lengths.specs.Files.{lengths_in}
use Rattle.surf_lengths.specs.Lengths.{AreLengths}
use Rattle.surf_off.specs.Off.{OffParts, off_of}
use Rattle.surf_sew.specs.Copies.{copies_in}
use Rattle.surf_sew.specs.Sewing.{sewn_of}
use Rattle.surf_texts.specs.Cause.{Cause, refused_by}
use Rattle.surf_texts.specs.EvidenceLines.{evidence_cause}
use Rattle.surf_texts.specs.LengthLines.{length_cause}
use Rattle.surf_texts.specs.MeshLines.{off_cause}
use Rattle.surf_texts.specs.Outcome.{Outcome}
use Rattle.surf_texts.specs.PointLines.{point_cause}
use Rattle.surf_texts.specs.Refusals.{geom_cause}
use Rattle.surf_texts.specs.SewingLines.{copy_cause, sew_cause}
use Rattle.surf_texts.specs.WalkLines.{walk_cause}
use Rattle.surf_texts.specs.declared.walks.WalkFile.{WalkFile}
use Rattle.surf_words.specs.Words.{Extent, fully}
use Rattle.surf_words.specs.Words.{trimmed as trimmed_words, through as through_words}
use Rattle.surf_answers.specs.Lengths.{Measures}
use Rattle.surf_answers.specs.Reading.{IsMeshText, IsSurfaceText, HasLengths, lengths_for, HasBase, HasWalk, walk_named, HasKind, IsEvidenceText, within_text}
use Rattle.surf_answers.specs.SewingSteps.{HasOrigins, IsSewn}
use Rattle.surf_answers.specs.Steps.{and_then}
use Rattle.surf_decided.proofs.Surfaces.{surface_or_fault}
use Rattle.surf_outcomes.proofs.Ends.{HasResult}
use Rattle.surf_outcomes.proofs.Judged.{told}
use Rattle.surf_outcomes.proofs.LengthTexts.{texts_are_long}
use Rattle.surf_outcomes.proofs.MeshCounts.{IsCounted, texts_are_counted}
use Rattle.surf_outcomes.proofs.MeshTexts.{texts_are_meshes}
use Rattle.surf_outcomes.proofs.SewTexts.{IsSewnMesh, origins_counted, sewn_is_mesh}
use Rattle.surf_outcomes.proofs.WalkTexts.{texts_are_closed, texts_are_vertices, texts_rise}
use Rattle.surf_outcomes.proofs.Written.{HasVertices}

-- what was read of a value, where a refusal may stand in its place
pub read_so : {A E : Type 0} (cause : E → Cause) (r : Result A E) (x : A) → Ok x ≡ refused_by cause r → r ≡ Ok x
read_so cause (Ok y) x is = ap (λ z. Ok z) (same is)
  where
    same : {B F : Type 0} {a b : B} → ◌≡◌ {A = Result B F} (Ok a) (Ok b) → b ≡ a
    same is = cc
read_so cause (Err fault) x is = absurd cc

-- ---- meshes

module _ (bytes : List ℕ) (read : OffParts × Mesh) (is : IsMeshText bytes (Ok read)) where
  pub mesh_read : IsMesh read.1
  mesh_read = texts_are_meshes bytes read (read_so off_cause (off_of bytes) read is)

  pub mesh_counted : IsCounted read
  mesh_counted = texts_are_counted bytes read (read_so off_cause (off_of bytes) read is)

pub surface_text : (bytes : List ℕ) → HasResult (IsSurfaceText bytes)
surface_text bytes = at (refused_by off_cause (off_of bytes)) refl
  where
    at : (r : Result (OffParts × Mesh) Outcome) → r ≡ refused_by off_cause (off_of bytes) → HasResult (IsSurfaceText bytes)
    at (Err outcome) is = (Err outcome, inl is)
    at (Ok read) is = elim (surface_or_fault read.1 (mesh_read bytes read is)) [
      | inl surface ↦ (Ok read, (is, surface))
      | inr fault ↦ (Err _, inr (read, is, told fault.0 fault.1 fault.2))
    ]

-- ---- lengths and a base

unit_long : (mesh : Mesh) → AreLengths (replicate (edge_count mesh) 1)
unit_long mesh k d l =
    let size = length-replicate {A = ℕ} (edge_count mesh) 1 in
    let one = get_or-replicate {A = ℕ} (edge_count mesh) k 1 d (omega (arith, size, l)) in
    record { positive = omega (arith, one); fits = omega (arith, one) }

pub lengths_given : (word : List ℕ) (mesh : Mesh) (files : Files) → HasResult (HasLengths word mesh files)
lengths_given word mesh files = elim (cases_Bool (bytes_eq word (codes "unit"))) [
  | inl unit ↦ (
    Ok (replicate (edge_count mesh) 1),
    (rw unit refl, unit_long mesh, length-replicate {A = ℕ} (edge_count mesh) 1),
  )
  | inr file ↦ at (within_text (bytes_of files word)) (rw file refl)
]
  where
    of_text : (bytes : List ℕ) (r : Result (List ℕ) Outcome) → r ≡ refused_by length_cause (lengths_in mesh bytes) →
        r ≡ lengths_for word mesh files → HasResult (HasLengths word mesh files)
    of_text bytes (Err outcome) read is = (Err outcome, is)
    of_text bytes (Ok lengths) read is =
        let long = texts_are_long mesh bytes lengths (read_so length_cause (lengths_in mesh bytes) lengths read) in
        (Ok lengths, (is, long.0, long.1))

    at : (text : Result (List ℕ) Outcome) →
        and_then (λ bytes. refused_by length_cause (lengths_in mesh bytes)) text ≡ lengths_for word mesh files →
        HasResult (HasLengths word mesh files)
    at (Err outcome) is = (Err outcome, is)
    at (Ok bytes) is = of_text bytes (refused_by length_cause (lengths_in mesh bytes)) refl is

pub base_given : (base : ℕ) (mesh : Mesh) → HasResult (HasBase base mesh)
base_given base mesh = elim (cases_lt base mesh.vertices) [
  | inl less ↦ (Ok base, (refl, less))
  | inr more ↦ (Err _, (more, refl))
]

-- ---- walks, vertices and evidence

pub walk_given : (file : WalkFile) (name : List ℕ) (mesh : Mesh) (files : Files) → HasResult (HasWalk file name mesh files)
walk_given file name mesh files = at (within_text (bytes_of files name)) refl
  where
    of_text : (bytes : List ℕ) (r : Result (List ℕ) Outcome) → r ≡ refused_by (walk_cause file) (walk_in mesh bytes) →
        r ≡ walk_named file name mesh files → HasResult (HasWalk file name mesh files)
    of_text bytes (Err outcome) read is = (Err outcome, is)
    of_text bytes (Ok walk) read is =
        (Ok walk, (is, texts_are_closed mesh bytes walk (read_so (walk_cause file) (walk_in mesh bytes) walk read)))

    at : (text : Result (List ℕ) Outcome) → text ≡ within_text (bytes_of files name) →
        HasResult (HasWalk file name mesh files)
    at (Err outcome) is = (
      Err outcome,
      ap (and_then (λ bytes. refused_by (walk_cause file) (walk_in mesh bytes))) is,
    )
    at (Ok bytes) is =
        of_text bytes (refused_by (walk_cause file) (walk_in mesh bytes)) refl
        (ap (and_then (λ text. refused_by (walk_cause file) (walk_in mesh text))) is)

-- how far a surface is cut, through vertices of it
pub kind_inside : (extent : Extent) (mesh : Mesh) (files : Files) (kind : Kind) → HasKind extent mesh files (Ok kind) →
    HasVertices mesh kind
kind_inside fully mesh files full is = tt
kind_inside fully mesh files trimmed is = tt
kind_inside fully mesh files (through points) is = absurd cc
kind_inside trimmed_words mesh files full is = tt
kind_inside trimmed_words mesh files trimmed is = tt
kind_inside trimmed_words mesh files (through points) is = absurd cc
kind_inside (through_words name) mesh files kind is = at (within_text (bytes_of files name)) is
  where
    named : (points : List ℕ) → (bytes : List ℕ) → Ok points ≡ refused_by point_cause (points_in mesh bytes) →
        HasVertices mesh (through points)
    named points bytes read =
        texts_are_vertices mesh bytes points (read_so point_cause (points_in mesh bytes) points read)

    of_text : (bytes : List ℕ) (r : Result (List ℕ) Outcome) → r ≡ refused_by point_cause (points_in mesh bytes) →
        Ok kind ≡ and_then (λ points. Ok (through points)) r → HasVertices mesh kind
    of_text bytes (Err outcome) read is = absurd cc
    of_text bytes (Ok points) read is =
        let same : kind ≡ through points = cc in
        subst (HasVertices mesh) (sym same) (named points bytes read)

    at : (text : Result (List ℕ) Outcome) →
        Ok kind ≡ and_then (λ bytes. and_then (λ points. Ok (through points)) (refused_by point_cause (points_in mesh bytes))) text →
        HasVertices mesh kind
    at (Err outcome) is = absurd cc
    at (Ok bytes) is = of_text bytes (refused_by point_cause (points_in mesh bytes)) refl is

pub evidence_rises : (bytes : List ℕ) (evidence : Evidence) → IsEvidenceText bytes (Ok evidence) → IsRising evidence
evidence_rises bytes evidence is = texts_rise bytes evidence (read_so evidence_cause (evidence_in bytes) evidence is)

-- ---- sewing and measures

pub origins_read : (bytes : List ℕ) (vertices : ℕ) (origins : List ℕ) → HasOrigins bytes vertices (Ok origins) →
    length origins ≡ vertices
origins_read bytes vertices origins is =
    origins_counted bytes vertices origins (read_so (copy_cause vertices) (copies_in bytes vertices) origins is)

pub sewn_read : (read : OffParts × Mesh) (origins : List ℕ) (mesh : Mesh) → IsMesh read.1 →
    length origins ≡ read.1.vertices → IsSewn read origins (Ok mesh) → IsSewnMesh read.1 origins mesh
sewn_read read origins mesh is_mesh count is =
    sewn_is_mesh read.0.vertex_lines read.1 origins mesh is_mesh count
    (read_so sew_cause (sewn_of read.0.vertex_lines read.1 origins) mesh is)

pub measures_read : (decimals : ℕ) (read : OffParts × Mesh) (values : List ℕ) → Measures decimals read (Ok values) →
    measures_in read.1 read.0.vertex_lines decimals ≡ Ok values
measures_read decimals read values is =
    read_so geom_cause (measures_in read.1 read.0.vertex_lines decimals) values is
