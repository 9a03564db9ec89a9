-- What the proofs of sewing cite most, by one import: words of texts, of copies and of openings, and their lemmas.
pub use Rattle.std.proofs.lemmas.Bool.{and_cases, and_left, not_from_true}
pub use Rattle.std.proofs.lemmas.List.Elements.{All-map}
pub use Rattle.std.proofs.lemmas.List.Folds.{list_any_none}
pub use Rattle.std.proofs.lemmas.List.Sums.{count_by_more_yes, fails_before_first, passes_at_first}
pub use Rattle.std.proofs.lemmas.List.Sums.{prefix_len-le-length, sum_by_more_le}
pub use Rattle.std.specs.Prelude.{IfNone, ok_or}
pub use Rattle.surf_base.specs.Gives.{◌>>=◌}
pub use Rattle.surf_off.proofs.CleanLines.{none_head, none_tail}
pub use Rattle.surf_off.proofs.Decimals.{whole_decimal, word_decimal}
pub use Rattle.surf_off.proofs.FaceRows.{get_or-zip, other_default}
pub use Rattle.surf_off.proofs.Marks.{Marked, marked_more, not_before, written_back}
pub use Rattle.surf_off.proofs.NumberLines.{clean_numbers, none_append, number_line, words_word}
pub use Rattle.surf_off.proofs.Reread.{AllFaces}
pub use Rattle.surf_off.proofs.RereadMesh.{all_faces, mesh_again, opened_again, short_faces}
pub use Rattle.surf_off.specs.Clean.{IsOffParts, IsVertexLine}
pub use Rattle.surf_off.specs.Off.{Face, FaceLines, Head, OffParts, corner_read, distinct, ended, few_sides}
pub use Rattle.surf_off.specs.Off.{first_repeat, head_of, number_at, off_without_limits, vertices_at}
pub use Rattle.surf_off.specs.Written.{copies_text, copy_text, face_text, faces_text, head_text, lines_at, lines_text}
pub use Rattle.surf_off.specs.Written.{mesh_text}
pub use Rattle.surf_sew.specs.Copies.{WordLine, copies_among, copies_in, copy_lines, counted, is_copy, origin_at}
pub use Rattle.surf_sew.specs.Copies.{origin_of, origins_from, word_lines_from}
pub use Rattle.surf_sew.specs.Laws.{CopiesAreReread, LimitsAreKept, LinesAreSewn, OpenedAreReread, OpenedAreSewn}
pub use Rattle.surf_sew.specs.Laws.{SewnAreReread, WasCut, opened, opened_parts, text_cut}
pub use Rattle.surf_sew.specs.Sewing.{HaveCopies, different, first_copies, first_copy, first_like, gap_fault, is_among}
pub use Rattle.surf_sew.specs.Sewing.{line_fault, repeat_from, same_line, sewn_face, sewn_faces, sewn_mesh, sewn_of}
pub use Rattle.surf_sew.specs.Sewing.{unless}
pub use Rattle.surf_sew.specs.Texts.{RereadsSewn, sewn_lines, sewn_text}
pub use Rattle.surf_sew.specs.declared.copies.CopyFault.TheVariants.{CopyCount, CopyForm}
pub use Rattle.surf_sew.specs.declared.fault.SewFault.{SewFault}
pub use Rattle.surf_sew.specs.declared.fault.SewFault.TheVariants.{FaceRepeat, Gap, Line}
pub use Rattle.surf_surfaces.proofs.Common.{All, All-head, All-tail, AllPairs, Bool, Err, IfSome, IsFace, IsMesh, List}
pub use Rattle.surf_surfaces.proofs.Common.{Mesh, None, Ok, Option, Result, Some, [], and_parts, ap, append-nil}
pub use Rattle.surf_surfaces.proofs.Common.{append_assoc, arith, at_drop_all, at_drop_more, both_ways, bytes_eq}
pub use Rattle.surf_surfaces.proofs.Common.{bytes_eq-Decides, cases_Bool, cases_eq, cases_lt, codes, cond, count_below}
pub use Rattle.surf_surfaces.proofs.Common.{count_below-all, count_below-none, count_below-same, count_below-without}
pub use Rattle.surf_surfaces.proofs.Common.{count_by, count_by-le-length, decimal, drop, drop_more, edge_count, eq-eqb}
pub use Rattle.surf_surfaces.proofs.Common.{eqb, eqb-false, eqb-true, err_from_is_err_and, ext_get_or, false, filter}
pub use Rattle.surf_surfaces.proofs.Common.{get_or, get_or-map, get_or-map-range_with_len, get_or_append_left}
pub use Rattle.surf_surfaces.proofs.Common.{get_or_past, if◌then◌else◌, inl, inr, is_ascii_digit, le-ltb, leb-true}
pub use Rattle.surf_surfaces.proofs.Common.{length, length-append, length-map, length-map-range_with_len}
pub use Rattle.surf_surfaces.proofs.Common.{length-range_with_len, length-slice_split, length-take-le, length-zip}
pub use Rattle.surf_surfaces.proofs.Common.{length_push, list_all, list_any, list_any_at, lt-ltb, ltb-false, ltb-true}
pub use Rattle.surf_surfaces.proofs.Common.{map, map-append, nat_le, nat_lt, ne_eqb, not, not_from_false, onto_first}
pub use Rattle.surf_surfaces.proofs.Common.{option_map, or_from, or_left, or_parts, or_right, position_or_len}
pub use Rattle.surf_surfaces.proofs.Common.{position_or_len_is, range_with_len, refl, set, side_count, slice_index}
pub use Rattle.surf_surfaces.proofs.Common.{slice_index_or, slice_split, subst, suc, sum_by, sum_by-cons, sym, take}
pub use Rattle.surf_surfaces.proofs.Common.{take-append-drop, take_all, take_at, take_more, take_rest, true, zero, zip}
pub use Rattle.surf_surfaces.proofs.Common.{ℕ, ◌&&◌, ◌++◌, ◌+◌, ◌-◌, ◌<◌, ◌==◌, ◌^◌, ◌∙◌, ◌∷◌, ◌≡◌, ◌≢◌, ◌≤◌}
pub use Rattle.surf_text.proofs.Cuts.{cut_at, cut_none, found_is, none_is, not_found}
pub use Rattle.surf_text.proofs.Writing.{loop_done, loop_more, loop_stop, puts_more, puts_stop, text_append}
pub use Rattle.surf_text.specs.Pages.{Puts}
pub use Rattle.surf_text.specs.Text.{TextLine, is_blank, is_comment_sign, is_line_end, is_nonempty, lines_of}
pub use Rattle.surf_text.specs.Text.{rest_after, tokens_of, value_of, whole, words_of}
pub use Rattle.surf_text.specs.Walks.{TokenWalk, has_some, parts_of}
