-- Each refusal: its status is from 2 to 8 or from 12 on, and it has one line.
use Rattle.surf_answers.proofs.Common.{◌≡◌, ℕ, true, false, List, [], ◌∷◌, refl, arith, nat_lt, ◌&&◌, ◌||◌, codes, slice_index, list_any, Cause, told, near_cause, point_cause, cause_of, geom_cause, Refused}
use Rattle.surf_answers.proofs.Commands.{SurfaceFault, LengthFault, is_line_end, cert_cause, evidence_cause}
use Rattle.surf_answers.proofs.Commands.{off_cause, copy_cause, sew_cause, surface_cause, walk_cause, walk_told}
use Rattle.surf_answers.proofs.Commands.{length_cause, MeshText, Surface, Lengths, Base, Certificate, Coordinates}
use Rattle.surf_answers.proofs.Commands.{Copies, Sewing, Walk, Points, Near, Limit, Read, WalkFile}
use Rattle.surf_run.proofs.Common.{IsDecided}
use Prim.Native.String.{String as Literal}
use Rattle.surf_cert.specs.declared.fault.CertText.{CertText}
use Rattle.surf_cert.specs.declared.fault.CertText.TheVariants as certs
use Rattle.surf_check.specs.declared.checking.SurfaceFault.TheVariants as check
use Rattle.surf_class.specs.declared.fault.EvidenceFault.{EvidenceFault}
use Rattle.surf_class.specs.declared.fault.EvidenceFault.TheVariants as evidence
use Rattle.surf_class.specs.declared.points.PointFault.{PointFault}
use Rattle.surf_class.specs.declared.points.PointFault.TheVariants as points
use Rattle.surf_class.specs.declared.fault.WalkFault.{WalkFault}
use Rattle.surf_class.specs.declared.fault.WalkFault.TheVariants as walking
use Rattle.surf_geom.specs.declared.fault.GeomFault.{GeomFault}
use Rattle.surf_geom.specs.declared.fault.GeomFault.TheVariants as geom
use Rattle.surf_lengths.specs.declared.fault.LengthFault.TheVariants as lengths
use Rattle.surf_off.specs.declared.fault.OffFault.{OffFault}
use Rattle.surf_off.specs.declared.fault.OffFault.TheVariants as off
use Rattle.surf_sew.specs.declared.copies.CopyFault.{CopyFault}
use Rattle.surf_sew.specs.declared.copies.CopyFault.TheVariants as copies
use Rattle.surf_sew.specs.declared.fault.SewFault.{SewFault}
use Rattle.surf_sew.specs.declared.fault.SewFault.TheVariants as sewing
use Rattle.surf_texts.specs.declared.refusal.Refused.TheVariants.{Evidence, Memory}
use Rattle.surf_run.proofs.OneLine.{IsSaid, numbered_is_one, counted_is_one, limit_is_one, walk_is_one}
use Rattle.surf_run.proofs.Running.{IsDue}

-- what is due has a decided status and one line
abbrev pub IsProper : Cause → Type 0
IsProper cause = IsDue cause × IsSaid cause

-- ---- statuses, and words with numbers

decided : (status : ℕ) → (nat_lt 1 status && (nat_lt status 9 || nat_lt 11 status)) ≡ true → IsDecided status
decided status is = grind (arith, is)

told_proper : (status : ℕ) (words : Literal) (numbers : List ℕ) →
    (nat_lt 1 status && (nat_lt status 9 || nat_lt 11 status)) ≡ true →
    list_any is_line_end (codes words) ≡ false →
    IsProper (told status words numbers)
told_proper status words numbers is none = (decided status is, numbered_is_one (codes words) numbers none)

walk_told_proper : (file : WalkFile) (words : Literal) (numbers : List ℕ) → list_any is_line_end (codes words) ≡ false →
    IsProper (walk_told file words numbers)
walk_told_proper file words numbers none = (decided 13 refl, walk_is_one file (codes words) numbers none)

-- ---- the refusals

pub off_proper : (fault : OffFault) → IsProper (off_cause fault)
off_proper (off.Header line) = told_proper 3 "mesh text: header" (line ∷ []) refl refl
off_proper (off.Counts line) = told_proper 3 "mesh text: counts" (line ∷ []) refl refl
off_proper (off.VertexLine line) = told_proper 3 "mesh text: vertex-line" (line ∷ []) refl refl
off_proper (off.FaceSize line) = told_proper 3 "mesh text: face-size" (line ∷ []) refl refl
off_proper (off.FaceIndex line place) = told_proper 3 "mesh text: face-index" (line ∷ place ∷ []) refl refl
off_proper (off.FaceRepeat line vertex) = told_proper 3 "mesh text: face-repeat" (line ∷ vertex ∷ []) refl refl
off_proper (off.Early missing) = told_proper 3 "mesh text: early" (missing ∷ []) refl refl
off_proper (off.Trailing line) = told_proper 3 "mesh text: trailing" (line ∷ []) refl refl
off_proper (off.Limit line kind) = (decided 6 refl, limit_is_one kind)
off_proper off.Memory = (tt, tt)

pub surface_proper : (fault : SurfaceFault) → IsProper (surface_cause fault)
surface_proper check.Empty = told_proper 4 "surface: empty" [] refl refl
surface_proper (check.Border u v face) = told_proper 4 "surface: border" (u ∷ v ∷ face ∷ []) refl refl
surface_proper (check.Crowded u v faces) = told_proper 4 "surface: crowded" (u ∷ v ∷ slice_index faces 0 ∷ slice_index faces 1 ∷ slice_index faces 2 ∷ []) refl refl
surface_proper (check.Isolated v) = told_proper 4 "surface: isolated" (v ∷ []) refl refl
surface_proper (check.Pinched v first second) = told_proper 4 "surface: pinched" (v ∷ first ∷ second ∷ []) refl refl
surface_proper (check.Apart face) = told_proper 4 "surface: apart" (face ∷ []) refl refl
surface_proper check.Memory = (tt, tt)

pub length_proper : (fault : LengthFault) → IsProper (length_cause fault)
length_proper (lengths.Form line) = told_proper 5 "lengths: form" (line ∷ []) refl refl
length_proper (lengths.Range line) = told_proper 5 "lengths: range" (line ∷ []) refl refl
length_proper (lengths.NotEdge line) = told_proper 5 "lengths: not-edge" (line ∷ []) refl refl
length_proper (lengths.Twice line earlier) = told_proper 5 "lengths: twice" (line ∷ earlier ∷ []) refl refl
length_proper (lengths.Missing u v) = told_proper 5 "lengths: missing" (u ∷ v ∷ []) refl refl
length_proper lengths.Memory = (tt, tt)

cert_proper : (fault : CertText) → IsProper (cert_cause fault)
cert_proper (certs.Header line) = told_proper 8 "certificate text: header" (line ∷ []) refl refl
cert_proper (certs.Form line) = told_proper 8 "certificate text: form" (line ∷ []) refl refl
cert_proper certs.Early = told_proper 8 "certificate text: early" [] refl refl
cert_proper (certs.Trailing line) = told_proper 8 "certificate text: trailing" (line ∷ []) refl refl
cert_proper certs.Memory = (tt, tt)

geom_proper : (fault : GeomFault) → IsProper (geom_cause fault)
geom_proper (geom.Form vertex place) = told_proper 12 "coordinates: form" (vertex ∷ place ∷ []) refl refl
geom_proper (geom.Range vertex place) = told_proper 12 "coordinates: range" (vertex ∷ place ∷ []) refl refl
geom_proper (geom.Zero u v) = told_proper 12 "coordinates: zero" (u ∷ v ∷ []) refl refl
geom_proper (geom.Great u v) = told_proper 12 "coordinates: great" (u ∷ v ∷ []) refl refl
geom_proper geom.Memory = (tt, tt)

copies_proper : (vertices : ℕ) (fault : CopyFault) → IsProper (copy_cause vertices fault)
copies_proper vertices (copies.CopyForm line) = told_proper 14 "sew: copy-form" (line ∷ []) refl refl
copies_proper vertices (copies.CopyCount have) = (decided 14 refl, counted_is_one (codes "sew: copy-count ") (codes " of ") have vertices refl refl)
copies_proper vertices copies.Memory = (tt, tt)

sew_proper : (fault : SewFault) → IsProper (sew_cause fault)
sew_proper (sewing.Gap v) = told_proper 14 "sew: gap" (v ∷ []) refl refl
sew_proper (sewing.Line copy earlier) = told_proper 14 "sew: line" (copy ∷ earlier ∷ []) refl refl
sew_proper (sewing.FaceRepeat face v) = told_proper 14 "sew: face-repeat" (face ∷ v ∷ []) refl refl
sew_proper sewing.Memory = (tt, tt)

pub walk_proper : (file : WalkFile) (fault : WalkFault) → IsProper (walk_cause file fault)
walk_proper file walking.Empty = walk_told_proper file "empty" [] refl
walk_proper file (walking.Form place) = walk_told_proper file "form" (place ∷ []) refl
walk_proper file (walking.NotVertex place) = walk_told_proper file "not-vertex" (place ∷ []) refl
walk_proper file (walking.NotEdge place) = walk_told_proper file "not-edge" (place ∷ []) refl
walk_proper file walking.Unclosed = walk_told_proper file "open" [] refl
walk_proper file (walking.Trailing line) = walk_told_proper file "trailing" (line ∷ []) refl
walk_proper file walking.Memory = (tt, tt)

evidence_proper : (fault : EvidenceFault) → IsProper (evidence_cause fault)
evidence_proper (evidence.Header line) = told_proper 8 "certificate text: header" (line ∷ []) refl refl
evidence_proper (evidence.Form line) = told_proper 8 "certificate text: form" (line ∷ []) refl refl
evidence_proper (evidence.Trailing line) = told_proper 8 "certificate text: trailing" (line ∷ []) refl refl
evidence_proper evidence.Memory = (tt, tt)

pub point_proper : (fault : PointFault) → IsProper (point_cause fault)
point_proper points.Empty = told_proper 15 "vertices: empty" [] refl refl
point_proper (points.Form place) = told_proper 15 "vertices: form" (place ∷ []) refl refl
point_proper (points.NotVertex place) = told_proper 15 "vertices: not-vertex" (place ∷ []) refl refl
point_proper (points.Trailing line) = told_proper 15 "vertices: trailing" (line ∷ []) refl refl
point_proper points.Memory = (tt, tt)

pub near_proper : IsProper near_cause
near_proper = told_proper 15 "vertices: near" [] refl refl

pub refusals_are_proper : (e : Refused) → IsProper (cause_of e)
refusals_are_proper (MeshText fault) = off_proper fault
refusals_are_proper (Surface fault) = surface_proper fault
refusals_are_proper (Lengths fault) = length_proper fault
refusals_are_proper (Base base vertices) = (decided 7 refl, counted_is_one (codes "base: ") (codes " of ") base vertices refl refl)
refusals_are_proper (Certificate fault) = cert_proper fault
refusals_are_proper (Coordinates fault) = geom_proper fault
refusals_are_proper (Copies fault vertices) = copies_proper vertices fault
refusals_are_proper (Sewing fault) = sew_proper fault
refusals_are_proper (Walk file fault) = walk_proper file fault
refusals_are_proper (Evidence fault) = evidence_proper fault
refusals_are_proper (Points fault) = point_proper fault
refusals_are_proper Near = near_proper
refusals_are_proper (Limit kind) = (decided 6 refl, limit_is_one kind)
refusals_are_proper Read = (tt, tt)
refusals_are_proper Memory = (tt, tt)
