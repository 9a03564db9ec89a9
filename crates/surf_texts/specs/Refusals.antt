-- The cause of each refusal.
use Rattle.surf_base.specs.declared.limits.LimitKind.TheVariants.{Answer}
use Rattle.surf_text.specs.declared.page.PageFault.{PageFault}
use Rattle.surf_text.specs.declared.page.PageFault.TheVariants.{Full}
use Rattle.surf_text.specs.declared.page.PageFault.TheVariants as page
use Rattle.surf_geom.specs.declared.fault.GeomFault.{GeomFault}
use Rattle.surf_geom.specs.Lines.{fault_line}
use Rattle.surf_texts.specs.Cause.{Cause, due, unread, starved, told_with}
use Rattle.surf_texts.specs.CertLines.{cert_cause}
use Rattle.surf_texts.specs.CountLines.{of_line}
use Rattle.surf_texts.specs.SewingLines.{copy_cause, sew_cause}
use Rattle.surf_texts.specs.EvidenceLines.{evidence_cause}
use Rattle.surf_texts.specs.WalkLines.{walk_cause}
use Rattle.surf_texts.specs.Limits.{beyond}
use Rattle.surf_texts.specs.MeshLines.{off_cause}
use Rattle.surf_texts.specs.Outcome.{refuses}
use Rattle.surf_texts.specs.PointLines.{near_cause, point_cause}
use Rattle.surf_texts.specs.SurfaceLines.{surface_cause}
use Rattle.surf_texts.specs.LengthLines.{length_cause}
use Rattle.surf_texts.specs.declared.refusal.Refused.{Refused}
use Rattle.surf_texts.specs.declared.refusal.Refused.TheVariants.{MeshText, Surface, Lengths, Base, Certificate}
use Rattle.surf_texts.specs.declared.refusal.Refused.TheVariants.{Coordinates, Copies, Sewing, Walk, Evidence, Limit}
use Rattle.surf_texts.specs.declared.refusal.Refused.TheVariants.{Points, Near, Read, Memory}

-- the cause that a fault of coordinates is
abbrev pub geom_cause : GeomFault → Cause
geom_cause fault = told_with 12 (fault_line fault)

abbrev pub cause_of : Refused → Cause
cause_of (MeshText fault) = off_cause fault
cause_of (Surface fault) = surface_cause fault
cause_of (Lengths fault) = length_cause fault
cause_of (Base base vertices) = due (refuses 7 (of_line "base: " base vertices))
cause_of (Certificate fault) = cert_cause fault
cause_of (Coordinates fault) = geom_cause fault
cause_of (Copies fault vertices) = copy_cause vertices fault
cause_of (Sewing fault) = sew_cause fault
cause_of (Walk file fault) = walk_cause file fault
cause_of (Evidence fault) = evidence_cause fault
cause_of (Points fault) = point_cause fault
cause_of Near = near_cause
cause_of (Limit kind) = due (beyond kind)
cause_of Read = unread
cause_of Memory = starved

-- a page that is full is an answer that is too long
abbrev pub of_page : PageFault → Refused
of_page Full = Limit Answer
of_page page.Memory = Memory
