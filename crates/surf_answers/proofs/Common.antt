-- What the proofs of answers and of runs cite most, by one import: words of std, of surfaces, of texts and of answers,
-- and their lemmas.
pub use Rattle.surf_answers.proofs.Saying.{ends_as, page_answered, page_stopped}
pub use Rattle.surf_answers.specs.Certificates.{GivesBasisCert, GivesLoopCert, IsTheLoopCert}
pub use Rattle.surf_answers.specs.Classes.{GivesClass, evidence_words}
pub use Rattle.surf_answers.specs.Cuts.{CutsAt, GivesOpened, IsCutAt, IsNearAt, cut_text}
pub use Rattle.surf_answers.specs.Distances.{GivesDistances}
pub use Rattle.surf_answers.specs.Info.{HasGenus, Informs}
pub use Rattle.surf_answers.specs.LeastBasis.{GivesBasis}
pub use Rattle.surf_answers.specs.LeastLoops.{GivesLoops}
pub use Rattle.surf_answers.specs.Making.{GivesMesh}
pub use Rattle.surf_answers.specs.Says.{Says}
pub use Rattle.surf_answers.specs.ShortestCycle.{GivesCycle}
pub use Rattle.surf_answers.specs.Summaries.{BasisTotals, CycleMeasures, GivesSummary, total_size}
pub use Rattle.surf_answers.specs.Tells.{Concludes, ConcludesOver, IsTold, Takes, TakesOver, Why, WhyOver}
pub use Rattle.surf_answers.specs.Tells.{verdict_status}
pub use Rattle.surf_base.specs.declared.limits.LimitKind.TheVariants.{BasisVertices, CertificateVertices, Loops}
pub use Rattle.surf_cert.specs.Written.{basis_text, loop_text}
pub use Rattle.surf_class.specs.Seen.{seen}
pub use Rattle.surf_class.specs.Texts.{EvidenceFits, both_ends, evidence_head_text, evidence_text}
pub use Rattle.surf_classes.specs.Evidence.{AreClosed, Evidence, IsChosen, IsClassEvidence, IsEvidence, has_odd_sides}
pub use Rattle.surf_classes.specs.Evidence.{is_listed, joint_parity, null_faces, odd_pairs}
pub use Rattle.surf_cutter.specs.Kinds.{IsOpeningOf, Kind, full, is_point, points_of, through, trimmed}
pub use Rattle.surf_lengths.proofs.Positive.{lengths_positive}
pub use Rattle.surf_lengths.specs.Lengths.{AreLengths}
pub use Rattle.surf_off.proofs.FaceRows.{other_default, short_rows}
pub use Rattle.surf_off.specs.Written.{AreStarts, RereadsOpened, RereadsSoup, opened_text, rows_at, soup_text}
pub use Rattle.surf_opening.specs.ChosenCut.{AreDivided, full_cut}
pub use Rattle.surf_orientation.proofs.GenusLaws.{counts_are_at_most_two_more, genus_is_loop_count}
pub use Rattle.surf_surfaces.proofs.Common.{All, All-from_get_or, All-from_recursion, All-get_or, AllByRecursion}
pub use Rattle.surf_surfaces.proofs.Common.{AllPairs, AreChosen, AreChosenAt, ArePositive, Bool, Chain, Contains, Err}
pub use Rattle.surf_surfaces.proofs.Common.{HasCorner, HasOneFan, IfOk, IfSome, IsBorderEdge, IsChosenBasis, IsClosed}
pub use Rattle.surf_surfaces.proofs.Common.{IsConnected, IsErrAnd, IsFace, IsLoopCount, IsMesh, IsSplit, IsSurface}
pub use Rattle.surf_surfaces.proofs.Common.{Joined, LeastSimpleBasis, List, Loop, Mesh, None, Ok, Option, Result}
pub use Rattle.surf_surfaces.proofs.Common.{Share, ShareAt, ShareOnBorder, Some, Split, Tree, Trees, [], among}
pub use Rattle.surf_surfaces.proofs.Common.{and_parts, ap, append_assoc, arith, boundary, bytes_eq, candidates}
pub use Rattle.surf_surfaces.proofs.Common.{cases_Bool, cases_eq, cases_lt, cases_order, cells_of, characteristic}
pub use Rattle.surf_surfaces.proofs.Common.{codes, common_steps, count_below-same, decimal, edge_count, edge_number}
pub use Rattle.surf_surfaces.proofs.Common.{edges, ends, eqb-true, err_from_is_err_and, face_at, face_count}
pub use Rattle.surf_surfaces.proofs.Common.{faces_with, false, flat_map, get_or, get_or-map}
pub use Rattle.surf_surfaces.proofs.Common.{get_or-map-range_with_len, get_or_default, if◌then◌else◌, inl, inr}
pub use Rattle.surf_surfaces.proofs.Common.{leb-true, length, length-map, list_any, loop_count, loops_at, map, nat_le}
pub use Rattle.surf_surfaces.proofs.Common.{nat_lt, ne_eqb, option_copied, option_map, pair_eq, pair_lt, parity}
pub use Rattle.surf_surfaces.proofs.Common.{recursion_from_All, refl, replicate, rules, slice_index, split_of, subst}
pub use Rattle.surf_surfaces.proofs.Common.{suc, sum, sym, take, true, true≢false, walk_length, zero, ℕ, ◌%◌, ◌&&◌}
pub use Rattle.surf_surfaces.proofs.Common.{◌*◌, ◌++◌, ◌+◌, ◌/◌, ◌<◌, ◌==◌, ◌^◌, ◌||◌, ◌↔◌, ◌∙◌, ◌∷◌, ◌≡◌, ◌≢◌, ◌≤◌}
pub use Rattle.surf_surfaces.proofs.Common.{◌⊎◌}
pub use Rattle.surf_surfaces.proofs.bases.ChoiceExists.{choice_exists}
pub use Rattle.surf_surfaces.proofs.classes.ClassLaws.{some_vertex}
pub use Rattle.surf_surfaces.proofs.meshes.EdgeLaws.{among-contains, edges-rise, list_any_at, rising_at}
pub use Rattle.surf_surfaces.proofs.meshes.PairLaws.{pair_eq-true, pair_lt-irreflexive, pair_lt-total, pair_lt-trans}
pub use Rattle.surf_text.specs.Pages.{PageState, Puts, Stops, grown}
pub use Rattle.surf_text.specs.declared.page.PageFault.TheVariants.{Memory}
pub use Rattle.surf_texts.proofs.Filling.{fills_both, none_put, stopped_first}
pub use Rattle.surf_texts.proofs.TreeTextLaws.{tables_are_texts, texts_same}
pub use Rattle.surf_texts.specs.Cause.{Cause, due, line_of, misused, outcome_of, refused_by, starved, told, unread}
pub use Rattle.surf_texts.specs.Fills.{Fills}
pub use Rattle.surf_texts.specs.Limits.{beyond, limit_name}
pub use Rattle.surf_texts.specs.MeasuredTexts.{measured_line, measured_text, total_lines}
pub use Rattle.surf_texts.specs.Outcome.{Outcome, Shows, answers, misses, refuses, status_of}
pub use Rattle.surf_texts.specs.PointLines.{near_cause, point_cause}
pub use Rattle.surf_texts.specs.Refusals.{cause_of, geom_cause}
pub use Rattle.surf_texts.specs.declared.refusal.Refused.{Refused}
pub use Rattle.surf_tree.specs.Tables.{TreeTables, tree_of}
pub use Rattle.surf_validity.specs.Chosen.{basis_cert_of, chosen_cert}
