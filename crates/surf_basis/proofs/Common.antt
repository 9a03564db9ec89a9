-- What the proofs of bases and of shortest cycles cite most besides, by one import.
pub use Rattle.surf_basis.specs.Based.{AreOffered, IsOffered, based_at}
pub use Rattle.surf_basis.specs.Candidates.{AreCyclesOf, ArePutIn, HaveWalks, IsCycleOf, IsFirstPlace, IsInside, IsSigned, candidate_of, cycle_with, cycles_with, first_head, loop_in, loops_in}
pub use Rattle.surf_basis.specs.Certs.{AreTreeRows, AreTreeRowsBelow, IsTheCert}
pub use Rattle.surf_basis.specs.Cut.{AreCutVertices, AreToSearch, HasEnds, HasVertex, IsClosedUpward, IsDividedBy, IsLeastSet, IsPartOf}
pub use Rattle.surf_basis.specs.Cycles.{AllSeparate, IsFirstCandidate, IsShortestCycle, IsTheBasis, as_loop, as_loops, first_of}
pub use Rattle.surf_basis.specs.Ends.{AreSignedEnds, HasMarkedEnd, HasSignedEnds, IsBusierEnd}
pub use Rattle.surf_basis.specs.Kept.{AreKept, AreKeptOver, HasBases, placed_below}
pub use Rattle.surf_basis.specs.declared.cycle.Cycle.{Cycle}
pub use Rattle.surf_loops.proofs.Rows.{cert_shown, grown_rooted, listed_more, numbers_fit}
pub use Rattle.surf_loops.specs.Loops.{IsGreedy, IsRooted, LoopTables, loop_of, trees_of}
pub use Rattle.surf_loops.specs.declared.head.LoopHead.{LoopHead}
pub use Rattle.surf_search.proofs.Common.{All, All-contains, All-from_recursion, All-permutation, AllByRecursion, AreBases, AreChosenAt, AreDegreesTo, AreFirstFound, AreFoundBy, AreMarkedIn, ArePositive, AreShortestTrees, AreSigned, AreWalksOf, Bool, Candidate, Chosen, Contains, Contains-get_or, Contains-permutation, CotreeTables, Decides-is_nothing, HasNoLater, HavePlacesOfBasis, IfOk-weaker, IfSome, IsBoundary, IsChosenBasis, IsFirstAmong, IsFirstOf, IsLoopAt, IsLoopBelow, IsLoopCount, IsMeasured, IsNext, IsNonDecreasingBy, IsNull, IsPermutation, IsPermutation-sym, IsShort, IsShortestTree, IsSplit, IsSurface, IsTrue, LeastSimpleBasis, List, MatchBool, Mesh, None, Option, Signed, Some, Split, SignTables, SurfaceTables, Tree, YieldsList-from_map, YieldsList-from_slice, YieldsList-from_vec, YieldsList-from_zip, [], all_each, all_kept, all_mapped, all_merged, and_from, and_parts, ap, append-nil, arith, basis_is_least, basis_is_one, below-sorted, below_closed, below_each, below_more, by_degree, candidates_below_two, cases_eq, cases_lt, cells_of, choice_exists, chosen, class_of, comes_before, comes_before-trans, comes_sooner, cond, contains-map, cotree_edges, cotree_of, degree_in, edge_count, edge_signature, ends, ends_in, eqb, eqb-true, face_count, false, false_from_ne_true, false≢true, few_bases_suffice, filter, filter_more, first_is_at_least_base, first_is_shortest, get_or, get_or-map, get_or-replicate, get_or-set_other, get_or_default, get_or_past, get_or_read, greedy, greedy_after, greedy_is_choice, has_length, heaviest_exists, independent_of, inl, inr, is_among, is_left, is_marked, is_nothing, is_placed, is_signed, is_some, is_sought, items_from_collect, le-leb, least_base, least_base_on_way, left_edges, length, length-map, length-set, lengths_at, lengths_positive, loop_at, loop_length, loop_walk, loops-sorted, loops_are_least, loops_at, loops_below, loops_each, map, map-append, map-map, nat_tests, not, not-true, not_from_false, numbers, on_ok_weaker, option_map, or_cases, order_from_sorted, order_of, parity, place_of, place_of_loop, precedes, range_with_len, recursion_from_All, refl, replicate, rules, set, shortest_is_tree, shortest_trees, shortest_trees_are_one, signed_earlier, signs_of, simple_cycles_separate, slice_index, slice_index_or, slice_set, some_vertex, sorted-permutes, spans, split_with, subst, suc, sym, take, take_more, total_parity, tree_edges, true, two_step_law, walks, xor-false, zero, ℕ, ◌++◌, ◌+◌, ◌-◌, ◌<◌, ◌==◌, ◌^◌, ◌↔◌, ◌∙◌, ◌∷◌, ◌≡◌, ◌≢◌, ◌≤◌, ◌⊎◌}
pub use Rattle.surf_finder.proofs.Marked.{either_below, ends_inside, set_stays, set_there, written_back}
pub use Rattle.surf_finder.proofs.PassedOver.{among_marked, none_marked}
pub use Rattle.surf_finder.proofs.Searched.{among_contained, depends_null, zero_null}
pub use Rattle.surf_finder.proofs.Signed.{class_small, signs_long}
pub use Rattle.surf_surfaces.proofs.Common.{all_filtered, cases_Bool}
pub use Rattle.surf_tree.specs.Tables.{AreTreeTables, TreeTables, parent_of, tree_of}
pub use Rattle.surf_validity.specs.Chosen.{basis_cert_of, chosen_cert, dual_rows_of, rows_for}
pub use Rattle.surf_z2.proofs.Passing.{filter_merge_out, filter_none, greedy_filtered, sorted_filtered}
