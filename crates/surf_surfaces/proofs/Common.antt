-- What proofs about surfaces cite most, by one import: words and lemmas of lists and numbers, sums modulo two,
-- graphs, and the words of surfaces.
pub use Rattle.std.proofs.Common.{All, AllPairs, Bool, Contains, Decides, Err, IfErr, IfOk, IfSome, IsErrAnd}
pub use Rattle.std.proofs.Common.{IsPermutation, IsSome, IsTrue, List, MatchOption, None, Ok, Option, Result, Some}
pub use Rattle.std.proofs.Common.{[], add-zero, ap, append_assoc, arith, bit_xor, codes, cond, decimal, drop, eqb}
pub use Rattle.std.proofs.Common.{false, filter, get_or, get_or-set_other, get_or-set_same, if◌then◌else◌, inl, inr}
pub use Rattle.std.proofs.Common.{leb, length, lit<, ltb, map, max, min, nat_le, nat_lt, not, pos, refl, replicate}
pub use Rattle.std.proofs.Common.{reverse, rules, set, slice_index, slice_index_or, slice_set, subst, suc, sum, sym}
pub use Rattle.std.proofs.Common.{take, true, unwrap_or, vec_capacity, w64, zero, ℕ, ◌%◌, ◌&&◌, ◌*◌, ◌++◌, ◌+◌}
pub use Rattle.std.proofs.Common.{◌-ℤ◌, ◌-◌, ◌/◌, ◌<◌, ◌==◌, ◌^◌, ◌||◌, ◌↔◌, ◌∙◌, ◌∷◌, ◌≡◌, ◌≢◌, ◌≤◌, ◌⊎◌}
pub use Rattle.std.proofs.Math.IntN.{+ℤ-neg_ℤ_cancel, +ℤ_comm}
pub use Rattle.std.proofs.Math.Nat.{one-le-pow, pow-le-pow_right}
pub use Rattle.std.proofs.Math.Pow.{pow-add}
pub use Rattle.std.proofs.Math.Seq.{drop-cons, take-append_seam, take-length, take-suc}
pub use Rattle.std.proofs.lemmas.Bool.{and_from, and_parts, both_ways, cases_Bool, cases_eq, cases_lt, cases_order}
pub use Rattle.std.proofs.lemmas.Bool.{cond-false, cond-true, eq-eqb, eqb-false, eqb-true, false_from_ne_true}
pub use Rattle.std.proofs.lemmas.Bool.{false≢true, le-leb, le-ltb, leb-false, leb-true, lt-leb, lt-ltb, ltb-false}
pub use Rattle.std.proofs.lemmas.Bool.{ltb-true, ne_eqb, not-true, not_from_false, or_cases, or_from, or_left}
pub use Rattle.std.proofs.lemmas.Bool.{or_parts, or_right, true≢false}
pub use Rattle.std.proofs.lemmas.Bool.Decides.{nat_tests}
pub use Rattle.std.proofs.lemmas.Fmt.{length-decimal-le}
pub use Rattle.std.proofs.lemmas.Grind.{common_steps, flat_map-append, same_number_lists}
pub use Rattle.std.proofs.lemmas.List.{append-nil, at_drop_all, at_drop_more, drop_all, drop_more, ext_get_or}
pub use Rattle.std.proofs.lemmas.List.{get_or-append-add, get_or-append_right, get_or-drop, get_or-map}
pub use Rattle.std.proofs.lemmas.List.{get_or-replicate, get_or-take, get_or_append_left, get_or_default}
pub use Rattle.std.proofs.lemmas.List.{get_or_past, get_or_push, get_or_read, length-append, length-drop}
pub use Rattle.std.proofs.lemmas.List.{length-map, length-replicate, length-set, length-take, length-take-le}
pub use Rattle.std.proofs.lemmas.List.{length_push, map-append, map-id, nil_from_length, same_lists}
pub use Rattle.std.proofs.lemmas.List.{take-append-drop, take-map, take_all, take_at, take_more, take_rest}
pub use Rattle.std.proofs.lemmas.List.{with_items_is}
pub use Rattle.std.proofs.lemmas.List.Concat.{flat_map-cons, get_or-flat_map, length-flat_map}
pub use Rattle.std.proofs.lemmas.List.Elements.{All-append, All-cons, All-contains, All-from_get_or}
pub use Rattle.std.proofs.lemmas.List.Elements.{All-from_recursion, All-get_or, All-head, All-nil, All-push}
pub use Rattle.std.proofs.lemmas.List.Elements.{All-tail, All-take, Contains-append_left, Contains-append_right}
pub use Rattle.std.proofs.lemmas.List.Elements.{Contains-get_or, recursion_from_All}
pub use Rattle.std.proofs.lemmas.List.Folds.{list_any_at}
pub use Rattle.std.proofs.lemmas.List.FromFn.{get_or-map-range_with_len, get_or-range_with_len}
pub use Rattle.std.proofs.lemmas.List.FromFn.{length-map-range_with_len, length-range_with_len}
pub use Rattle.std.proofs.lemmas.List.FromFn.{map-range_with_len_more}
pub use Rattle.std.proofs.lemmas.List.Sorted.{All-permutation, Contains-permutation}
pub use Rattle.std.proofs.lemmas.List.Sorted.{IsNonDecreasingBy-from_sort_by_key, IsPermutation-map}
pub use Rattle.std.proofs.lemmas.List.Sorted.{IsPermutation-sym, IsPermutation-trans, length_permutation}
pub use Rattle.std.proofs.lemmas.List.Splits.{length-slice_split}
pub use Rattle.std.proofs.lemmas.List.Sums.{count_by-le-length, fold-append, length-filter, position_or_len_is}
pub use Rattle.std.proofs.lemmas.List.Sums.{sum_by-append, sum_by-cons, sum_by-set, sum_by-take-le, sum_by_more}
pub use Rattle.std.proofs.lemmas.List.Sums.{sum_by_push}
pub use Rattle.std.proofs.lemmas.Map.Steps.{length-le_from_distinct_below}
pub use Rattle.std.proofs.lemmas.Nat.{div-add-mod', div-mul-add, div_below, mod-mul-add, mod_below, mul-le}
pub use Rattle.std.proofs.lemmas.Nat.{pow_below, pow_pos, row_fits, same_from_place, xor_lt}
pub use Rattle.std.proofs.lemmas.Nat.Bits.{bit_at-zero, bit_at_above}
pub use Rattle.std.proofs.lemmas.Result.{IfOk-weaker, err_from_is_err_and, on_ok_weaker}
pub use Rattle.std.proofs.lemmas.Simd.{map-map}
pub use Rattle.std.proofs.lemmas.Slice.Eq.{bytes_eq-Decides}
pub use Rattle.std.proofs.lemmas.Slice.Zip.{length-zip}
pub use Rattle.std.specs.Bool.{MatchBool}
pub use Rattle.std.specs.Char.{is_ascii_digit}
pub use Rattle.std.specs.Int.{bit_at, leading_zeros}
pub use Rattle.std.specs.Int.Bits.{xor_self, xor_zero_l, xor_zero_r}
pub use Rattle.std.specs.List.{AllByRecursion, IsDistinct, before_first, count_by, flat_map, fold, list_all}
pub use Rattle.std.specs.List.{list_any, onto_first, position, position_or_len, range_with_len, slice_split, sum_by}
pub use Rattle.std.specs.List.{zip}
pub use Rattle.std.specs.List.Sorted.{IsNonDecreasing, IsNonDecreasingBy}
pub use Rattle.std.specs.Option.{is_some, option_copied, option_map}
pub use Rattle.std.specs.Ordering.{nat_cmp}
pub use Rattle.std.specs.Str.{bytes_eq}
pub use Rattle.std.specs.Vec.{vec_len, with_items}
pub use Rattle.surf_z2.proofs.Basics.{in_left, in_right, independence_law}
pub use Rattle.surf_z2.proofs.Below.{below_law, number_of-none, same_from, same_from_has, small}
pub use Rattle.surf_z2.proofs.Counting.{count_few, count_found, count_mono}
pub use Rattle.surf_z2.proofs.Counts.{below}
pub use Rattle.surf_z2.proofs.Greedy.{all_kept, greedy_law, not_spans, two_step_law}
pub use Rattle.surf_z2.proofs.Least.{up_to_weighed}
pub use Rattle.surf_z2.proofs.Linear.{over_in}
pub use Rattle.surf_z2.proofs.Merge.{Comparable, Sorted, order_from_sorted, same_members, sorted-in_order}
pub use Rattle.surf_z2.proofs.Merge.{sorted-permutes, sorted_from_order}
pub use Rattle.surf_z2.proofs.Numbers.{Decides-is_nothing, has-xor}
pub use Rattle.surf_z2.proofs.ParityLaws.{and-false, and-true, and_comm, any_below-found, any_below-from}
pub use Rattle.surf_z2.proofs.ParityLaws.{any_below-none, any_below-same, eqb_comm, least_below-found}
pub use Rattle.surf_z2.proofs.ParityLaws.{odd_below-none, odd_below-one, odd_below-same, odd_below-xor, or-xor}
pub use Rattle.surf_z2.proofs.ParityLaws.{xor-and, xor-false, xor-same, xor_assoc, xor_comm, xor_equal, xor_meet}
pub use Rattle.surf_z2.proofs.ParityLaws.{xor_pairs, xors}
pub use Rattle.surf_z2.proofs.Passing.{ArePassingFirst, all_filtered, all_greedy, all_passing, filter_none}
pub use Rattle.surf_z2.proofs.Passing.{filter_of_greedy, member_in, passing_before, some_or_none, sorted_filtered}
pub use Rattle.surf_z2.proofs.Passing.{sorted_greedy}
pub use Rattle.surf_z2.proofs.Ranks.{free_filter, in_wider}
pub use Rattle.surf_z2.proofs.Sought.{least_such}
pub use Rattle.surf_z2.proofs.Span.{AllInSpan, Free, InSpan, add_in, add_zero, cancel, count, free_from_independent}
pub use Rattle.surf_z2.proofs.Span.{head_in, in_from_spanned, independent_from_free, rest_in, spanned_from_in}
pub use Rattle.surf_z2.proofs.Span.{trans_in, zero_in}
pub use Rattle.surf_z2.proofs.Sums.{count_below-all, count_below-none, count_below-same, count_below-without}
pub use Rattle.surf_z2.proofs.Words.{number_zero}
pub use Rattle.surf_z2.specs.Below.{number_of}
pub use Rattle.surf_z2.specs.Greedy.{greedy, greedy_after, spans}
pub use Rattle.surf_z2.specs.Least.{weighed}
pub use Rattle.surf_z2.specs.Order.{IsInOrder, merge, sorted}
pub use Rattle.surf_z2.specs.Parity.{any_below, count_below, least_below, odd, odd_below, sum_below, xor}
pub use Rattle.surf_z2.specs.Sieve.{has}
pub use Rattle.surf_z2.specs.Space.{Chain, Independent, IsLinear, Space, Spanned, SpannedUpToWeight, Weighed}
pub use Rattle.surf_z2.specs.Space.{chains, chosen, difference, is_nothing, no_member, numbers, sum_of, vectors}
pub use Rattle.surf_z2.specs.Space.{weights}
pub use Rattle.surf_z2.specs.Words.{number}
pub use Rattle.surf_graphs.proofs.CellLaws.{signature_null}
pub use Rattle.surf_graphs.proofs.Counting.{left_edges}
pub use Rattle.surf_graphs.proofs.Graphs.{edge_between_is, even-xor, even_same, leaves_joined, walk-append}
pub use Rattle.surf_graphs.proofs.HeaviestTrees.{heaviest_tree}
pub use Rattle.surf_graphs.proofs.Independence.{null_zero, signature_of-linear, signature_of-same, walk_spanned}
pub use Rattle.surf_graphs.proofs.Independence.{zero_null}
pub use Rattle.surf_graphs.proofs.Lengths.{step_short}
pub use Rattle.surf_graphs.proofs.Loops.{joins_ends, joins_turned}
pub use Rattle.surf_graphs.proofs.Through.{over_spanned, walk_parts}
pub use Rattle.surf_graphs.proofs.Trees.{down_tree, joined_below, joined_in, one_of, path_inside, path_root}
pub use Rattle.surf_graphs.proofs.Trees.{path_step, tree_edge, up_in_tree}
pub use Rattle.surf_graphs.specs.Cells.{IsHeaviest, IsNullChain, IsSplit, Split, chain_signature, dual, primal}
pub use Rattle.surf_graphs.specs.Cells.{signature}
pub use Rattle.surf_graphs.specs.Graphs.{Graph, IsConnectedGraph, IsEven, IsGraph, IsGraphWalk, IsJoined}
pub use Rattle.surf_graphs.specs.Graphs.{edge_between, graph_touches, graph_walk_length, joins, leaves, walk_chain}
pub use Rattle.surf_graphs.specs.Growth.{between}
pub use Rattle.surf_graphs.specs.Independence.{loop_chain, signature_of, signed}
pub use Rattle.surf_graphs.specs.Loops.{IsSimple, way_down, way_up}
pub use Rattle.surf_graphs.specs.Rounds.{IsTurn}
pub use Rattle.surf_graphs.specs.Trees.{IsShortest, IsTree, Tree, in_tree, loop, on_path, on_way}
pub use Rattle.surf_surfaces.specs.Cells.{cells_of}
pub use Rattle.surf_surfaces.specs.Choice.{AreChosen, AreChosenAt, DependsOn, IsChosenBasis, IsGreedyChoice, Loop}
pub use Rattle.surf_surfaces.specs.Choice.{Trees, candidates, comes_before, loop_at, loops_at, loops_below, walks}
pub use Rattle.surf_surfaces.specs.ChoiceLaws.{LeastSimpleBasis}
pub use Rattle.surf_surfaces.specs.Class.{AreShortestTrees, class_of, weighed_walk}
pub use Rattle.surf_surfaces.specs.Cotree.{cotree_edges, is_left, split_of, tree_edges}
pub use Rattle.surf_surfaces.specs.Cycle.{IsSimpleCycle, tail}
pub use Rattle.surf_surfaces.specs.Degrees.{AreDegreesTo, degree_in}
pub use Rattle.surf_surfaces.specs.Disc.{IsBorderEdge, IsDisc, IsOpening, ShareOnBorder}
pub use Rattle.surf_surfaces.specs.Distance.{IsDistance, LeadsFrom}
pub use Rattle.surf_surfaces.specs.FewBases.{AreBases, AreEnough, AreEnoughOf, AreFoundAt, DependsAtPlace, Found}
pub use Rattle.surf_surfaces.specs.FewBases.{HasFound, IsFoundAt, IsFoundChoice, IsFoundLoop, IsWithin, MeetsAll}
pub use Rattle.surf_surfaces.specs.FewBases.{Place, comes_no_later, comes_sooner, every_place, is_no_later}
pub use Rattle.surf_surfaces.specs.FewBases.{is_within, least_base, least_on_way, place_at, place_of_found}
pub use Rattle.surf_surfaces.specs.FewBases.{place_of_loop, walks_found, walks_within, with_vertex}
pub use Rattle.surf_surfaces.specs.Homology.{IsBoundary, IsIndependent, IsLeastLoopSystem, IsLoopCount, IsNull}
pub use Rattle.surf_surfaces.specs.Homology.{boundary, total, total_parity}
pub use Rattle.surf_surfaces.specs.Joined.{Joined, here, over}
pub use Rattle.surf_surfaces.specs.Loop.{loop_length, loop_walk}
pub use Rattle.surf_surfaces.specs.Mesh.{IsFace, IsMesh, Mesh, among, characteristic, edges, insert_pair, pair}
pub use Rattle.surf_surfaces.specs.Mesh.{pair_eq, pair_lt, pair_of, sides, sorted_pairs, steps, steps_from}
pub use Rattle.surf_surfaces.specs.Places.{AreNoLonger}
pub use Rattle.surf_surfaces.specs.ShortestTree.{IsShortestTree, IsTight}
pub use Rattle.surf_surfaces.specs.Side.{after, before, corner, side_pair}
pub use Rattle.surf_surfaces.specs.SideNumber.{IsEdgeOf, IsFaceOf, IsMate, first_side, owners, pair_at, side_count}
pub use Rattle.surf_surfaces.specs.SideNumber.{side_pairs, sides_with}
pub use Rattle.surf_surfaces.specs.Signature.{edge_signature, walk_signature}
pub use Rattle.surf_surfaces.specs.Surface.{HasCorner, HasEdge, HasOneFan, IsConnected, IsOrientable, IsOrientation}
pub use Rattle.surf_surfaces.specs.Surface.{IsSurface, Share, ShareAt, borders, edge_count, ends, face_at}
pub use Rattle.surf_surfaces.specs.Surface.{face_count, faces_of, faces_with, has_side, loop_count, places_from}
pub use Rattle.surf_surfaces.specs.Surface.{runs, runs_turned, touches}
pub use Rattle.surf_surfaces.specs.Turning.{IsOneSided, Link}
pub use Rattle.surf_surfaces.specs.Walk.{ArePositive, IsClosed, IsClosedAt, edge_length, edge_number, first, last}
pub use Rattle.surf_surfaces.specs.Walk.{last_from, parity, place_of, walk_length}
