-- What the proofs of texts of certificates and of classes cite most, by one import: words of texts and lines, and their
-- lemmas.
pub use Rattle.std.proofs.Math.Nat.{div-le_self, min-eq_left, min-eq_right}
pub use Rattle.std.proofs.lemmas.List.{drop-drop, take-append-le}
pub use Rattle.std.proofs.lemmas.List.Quantifiers.{position-Some}
pub use Rattle.std.proofs.lemmas.Slice.Zip.{firsts-zip, get_or-zip, seconds-zip}
pub use Rattle.std.specs.List.{copy_within}
pub use Rattle.std.specs.Option.{option_eq, option_map_or, option_zip}
pub use Rattle.std.specs.Prelude.{ok_or, ⊤}
pub use Rattle.surf_base.specs.Gives.{Gives, ◌>>=◌}
pub use Rattle.surf_cert.specs.Fronts.{Front, begins_loops, behind_front, front_faces, front_in, more_faces}
pub use Rattle.surf_cert.specs.Grammar.{LineForm, Read, based_tree, ended, left_of, loops_in, next_of, onto_rows}
pub use Rattle.surf_cert.specs.Grammar.{pairs_of, parsed_cert, rows_of, tree_of, trees_of}
pub use Rattle.surf_cert.specs.Lines.{base_at, base_of, cert_number, counts_of, cycle_of, dual_row, is_header, is_next}
pub use Rattle.surf_cert.specs.Lines.{numbers_of, option_filter, pair_behind, parent_of, the_word, three_counts}
pub use Rattle.surf_cert.specs.Lines.{tree_row}
pub use Rattle.surf_cert.specs.Written.{RereadsBasis, RereadsLoops, base_line, basis_text, cert_head_text, cycle_line}
pub use Rattle.surf_cert.specs.Written.{cycles_text, dual_text, face_line, left_text, pair_line, tree_text, vertex_line}
pub use Rattle.surf_cert.specs.declared.fault.CertText.{CertText}
pub use Rattle.surf_cert.specs.declared.fault.CertText.TheVariants.{Form, Memory, Trailing}
pub use Rattle.surf_cert.specs.declared.line.Counts.{Counts}
pub use Rattle.surf_off.proofs.CleanLines.{AllClean, clean_lines}
pub use Rattle.surf_off.proofs.Decimals.{IsWord, whole_decimal, word_decimal}
pub use Rattle.surf_off.proofs.NumberLines.{none_append, opens, uncommented_is, words_word}
pub use Rattle.surf_off.proofs.Reread.{first_line, lines_from}
pub use Rattle.surf_records.specs.Fits.{BasisFits, CertFits, CycleFits, DualFits, IsFaceRow, IsNumber, IsPair, IsParent}
pub use Rattle.surf_records.specs.Fits.{LeftFits, LoopFits, TreeFits, greatest}
pub use Rattle.surf_records.specs.declared.cert.Cert.TheVariants.{Basis, Loops}
pub use Rattle.surf_surfaces.proofs.Common.{All, All-cons, All-from_get_or, All-from_recursion, All-nil, AllByRecursion}
pub use Rattle.surf_surfaces.proofs.Common.{AllPairs, AreChosen, AreChosenAt, ArePositive, Bool, Chain, Contains, Err}
pub use Rattle.surf_surfaces.proofs.Common.{IfErr, IfOk, IfSome, IsBoundary, IsChosenBasis, IsClosed, IsSome, IsSplit}
pub use Rattle.surf_surfaces.proofs.Common.{IsSurface, List, Loop, MatchOption, Mesh, None, Ok, Option, Result, Some}
pub use Rattle.surf_surfaces.proofs.Common.{Tree, Trees, [], among, and_comm, ap, append-nil, append_assoc, arith}
pub use Rattle.surf_surfaces.proofs.Common.{before_first, below_law, borders, boundary, bytes_eq, bytes_eq-Decides}
pub use Rattle.surf_surfaces.proofs.Common.{cases_Bool, cases_eq, cases_lt, cases_order, cells_of, chain_signature}
pub use Rattle.surf_surfaces.proofs.Common.{codes, common_steps, cond, count_by-le-length, decimal, drop, drop_all}
pub use Rattle.surf_surfaces.proofs.Common.{dual, edge_count, edge_number, edge_signature, edges, ends, eq-eqb, eqb}
pub use Rattle.surf_surfaces.proofs.Common.{eqb-true, err_from_is_err_and, face_count, faces_of, false, filter, first}
pub use Rattle.surf_surfaces.proofs.Common.{flat_map, fold, get_or, get_or-set_other, get_or-set_same, get_or_default}
pub use Rattle.surf_surfaces.proofs.Common.{has, inl, inr, is_ascii_digit, is_some, last, le-leb, le-ltb, leaves_joined}
pub use Rattle.surf_surfaces.proofs.Common.{leb-false, leb-true, length, length-append, length-drop, length-filter}
pub use Rattle.surf_surfaces.proofs.Common.{length-map, length-replicate, length-set, length-slice_split, length-take}
pub use Rattle.surf_surfaces.proofs.Common.{length-zip, list_all, list_any, lt-ltb, ltb, ltb-true, map, map-append, min}
pub use Rattle.surf_surfaces.proofs.Common.{nat_le, nat_lt, nat_tests, ne_eqb, not, odd, odd_below-same, onto_first}
pub use Rattle.surf_surfaces.proofs.Common.{option_copied, option_map, pair, pair_eq, pair_lt, pair_of, parity}
pub use Rattle.surf_surfaces.proofs.Common.{place_of, position, position_or_len, position_or_len_is, range_with_len}
pub use Rattle.surf_surfaces.proofs.Common.{refl, replicate, rules, set, signature, signature_of, slice_split, steps}
pub use Rattle.surf_surfaces.proofs.Common.{subst, suc, sym, take, take-suc, take_all, take_rest, true, true≢false}
pub use Rattle.surf_surfaces.proofs.Common.{unwrap_or, xor, zero, zip, ℕ, ◌&&◌, ◌*◌, ◌++◌, ◌+◌, ◌-◌, ◌<◌, ◌==◌, ◌^◌}
pub use Rattle.surf_surfaces.proofs.Common.{◌∙◌, ◌∷◌, ◌≡◌, ◌≢◌, ◌≤◌}
pub use Rattle.surf_surfaces.proofs.LawProofs.{edges_are_numbered, edges_are_ordered}
pub use Rattle.surf_surfaces.proofs.meshes.CellLaws.{surfaces_are_cells}
pub use Rattle.surf_surfaces.proofs.meshes.EdgeLaws.{among-contains, contains_from_among, ends-eq, list_any_at}
pub use Rattle.surf_surfaces.proofs.meshes.EdgeLaws.{list_any_from, place_of-ends, rising_at}
pub use Rattle.surf_surfaces.proofs.meshes.PairLaws.{pair_eq-same, pair_eq-true, pair_lt-irreflexive, pair_lt-trans}
pub use Rattle.surf_text.proofs.Words.{line_empty, line_there, words_trimmed}
pub use Rattle.surf_text.proofs.Writing.{loop_done, loop_more, loop_stop, puts_more, puts_stop}
pub use Rattle.surf_text.specs.Numbers.{numbers_text}
pub use Rattle.surf_text.specs.Pages.{PageState, Puts}
pub use Rattle.surf_text.specs.Text.{TextLine, before_some, is_blank, is_comment_sign, is_line_end, is_nonempty}
pub use Rattle.surf_text.specs.Text.{lines_of, numbered_from, onto_lines, tokens_of, trimmed, trimmed_back}
pub use Rattle.surf_text.specs.Text.{trimmed_front, uncommented, value_of, whole, words_of}
pub use Rattle.surf_text.specs.Walks.{TokenWalk, text_line}
pub use Rattle.surf_validity.specs.Rows.{BasisCert, DualRows, LoopCert, TreeRows}
