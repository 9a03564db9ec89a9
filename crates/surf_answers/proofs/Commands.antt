-- What the proofs of commands and of runs cite most besides the prelude of answers, by one import: words of what is
-- read and of steps, and how steps follow each other.
pub use Rattle.surf_answers.proofs.Composing.{SoFar, alone, at_once, begun, concludes_so, ended, ends_over_any}
pub use Rattle.surf_answers.proofs.Composing.{follows_so, last_stopped, over, past, past_alone, reads_nothing}
pub use Rattle.surf_answers.proofs.Composing.{refused, resumed, some_so, stopped, stopped_alone, stopped_over}
pub use Rattle.surf_answers.proofs.Fronts.{measured_front, measured_so, small_front, small_so}
pub use Rattle.surf_answers.proofs.TextsAt.{mesh_held, mesh_taken, text_stopped}
pub use Rattle.surf_answers.specs.Commands.{OnRequest, length_file, named, point_file}
pub use Rattle.surf_answers.specs.Fronts.{MeasuresSmall, MeasuresSurface}
pub use Rattle.surf_answers.specs.Reading.{EndsInFault, HasBase, HasKind, HasLengths, HasWalk, IsCertText}
pub use Rattle.surf_answers.specs.Reading.{IsEvidenceText, IsMeshText, IsSurfaceOf, IsSurfaceText, Reads, kind_named}
pub use Rattle.surf_answers.specs.Reading.{lengths_for, tree_count, walk_named, within_text}
pub use Rattle.surf_answers.specs.SewingSteps.{HasOrigins, IsSewn, OnSewnMesh}
pub use Rattle.surf_answers.specs.Steps.{AtMost, Ends, and_then, goes, stops}
pub use Rattle.surf_answers.specs.Verdicts.{JudgesCert}
pub use Rattle.surf_base.specs.Outside.{Files, GrowsBy, HasRisen, bytes_of}
pub use Rattle.surf_base.specs.Transfer.{GrowsByShorter}
pub use Rattle.surf_base.specs.declared.limits.LimitKind.{LimitKind}
pub use Rattle.surf_check.specs.declared.checking.SurfaceFault.{SurfaceFault}
pub use Rattle.surf_class.specs.Evidences.{evidence_in}
pub use Rattle.surf_class.specs.Points.{points_in}
pub use Rattle.surf_class.specs.Walks.{walk_in}
pub use Rattle.surf_gen.specs.Made.{made_length, made_values}
pub use Rattle.surf_lengths.specs.Files.{lengths_in}
pub use Rattle.surf_lengths.specs.declared.fault.LengthFault.{LengthFault}
pub use Rattle.surf_off.specs.Off.{OffParts, off_of}
pub use Rattle.surf_off.specs.Places.{parts_at}
pub use Rattle.surf_text.specs.Numbers.{numbered, numbers_text}
pub use Rattle.surf_text.specs.Text.{is_line_end, words_of}
pub use Rattle.surf_texts.specs.CertLines.{cert_cause}
pub use Rattle.surf_texts.specs.EvidenceLines.{evidence_cause, right_line}
pub use Rattle.surf_texts.specs.LengthLines.{length_cause}
pub use Rattle.surf_texts.specs.MeshLines.{off_cause}
pub use Rattle.surf_texts.specs.SewingLines.{copy_cause, sew_cause}
pub use Rattle.surf_texts.specs.SurfaceLines.{surface_cause}
pub use Rattle.surf_texts.specs.WalkLines.{file_words, walk_cause, walk_told}
pub use Rattle.surf_texts.specs.declared.refusal.Refused.TheVariants.{Base, Certificate, Coordinates, Copies, Lengths}
pub use Rattle.surf_texts.specs.declared.refusal.Refused.TheVariants.{Limit, MeshText, Near, Points, Read, Sewing}
pub use Rattle.surf_texts.specs.declared.refusal.Refused.TheVariants.{Surface, Walk}
pub use Rattle.surf_texts.specs.declared.walks.WalkFile.{WalkFile}
pub use Rattle.surf_texts.specs.declared.walks.WalkFile.TheVariants.{First, Second}
pub use Rattle.surf_words.specs.Shapes.{IsShape, Shape, mesh_of, shape_from, shape_named}
pub use Rattle.surf_words.specs.Words.{Extent, Request, Row, basis, certify_basis, certify_loops, chain_of, check}
pub use Rattle.surf_words.specs.Words.{class, command_table, confirm, cut, cycle, disc, dist, extent_of, fits, fully}
pub use Rattle.surf_words.specs.Words.{gen_shape, given_for, help, info, lengths, loops, request, request_in}
pub use Rattle.surf_words.specs.Words.{request_of, row, same, sew, shortest, texts, torus_of, tried, try_shape}
pub use Rattle.surf_words.specs.Words.{version, word_number}
