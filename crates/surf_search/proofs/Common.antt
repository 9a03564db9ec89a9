-- What the proofs of searches and of bases cite most, by one import: words of what is kept of the loops that are found,
-- of rounds and caps, and their lemmas.
pub use Rattle.std.proofs.lemmas.Iterator.{YieldsList-from_map, YieldsList-from_slice, YieldsList-from_zip}
pub use Rattle.std.proofs.lemmas.Iterator.{items_from_collect}
pub use Rattle.std.proofs.lemmas.Iterator.Adapters.{YieldsList-from_vec}
pub use Rattle.std.proofs.lemmas.List.{map-set}
pub use Rattle.std.proofs.lemmas.List.Elements.{Contains-append_cases, filter_more}
pub use Rattle.surf_caps.proofs.Grow.{caps_grow_enough}
pub use Rattle.surf_caps.proofs.Starts.{both_start, either_start, found_are_walks, limited_start, on_set_start}
pub use Rattle.surf_caps.specs.Barred.{DependOnShorterOr, with_near_places}
pub use Rattle.surf_caps.specs.Caps.{AreEnoughFor, AreSized, AreSoughtFromStart, CapsGrow, ChoiceKeeps, HaveAskedEnds}
pub use Rattle.surf_caps.specs.Caps.{IsFoundBy, MeetsUpTo, Sought, asks, both, either, everywhere, limited}
pub use Rattle.surf_caps.specs.Caps.{up_to_length, with_places}
pub use Rattle.surf_choice.proofs.Limits.{before_last, limit_falls, limit_last, limit_none, merged_sorted}
pub use Rattle.surf_choice.proofs.Limits.{sorted_by_number}
pub use Rattle.surf_choice.proofs.Longer.{shorter_first}
pub use Rattle.surf_choice.proofs.Sifted.{all_merged}
pub use Rattle.surf_choice.specs.Candidates.{Chosen, IsSumOfLength, earlier, signed_earlier}
pub use Rattle.surf_choice.specs.Places.{last_of, limit_of, order_of}
pub use Rattle.surf_cotree.specs.Tables.{cotree_of, split_with}
pub use Rattle.surf_finder.proofs.Common.{AgreeOff, All, All-append, All-contains, All-from_recursion}
pub use Rattle.surf_finder.proofs.Common.{All-permutation, All-push, AllByRecursion, AreChosen, AreFirstFound}
pub use Rattle.surf_finder.proofs.Common.{AreFound, AreFoundBy, AreMarkedIn, AreMarkedNear, AreNoShorter, ArePositive}
pub use Rattle.surf_finder.proofs.Common.{AreShortestTrees, AreSignatures, AreSigned, AreWalksOf, Bool, Candidate}
pub use Rattle.surf_finder.proofs.Common.{Contains, Contains-append_left, Contains-append_right, Contains-get_or}
pub use Rattle.surf_finder.proofs.Common.{Contains-permutation, CotreeTables, Decides-is_nothing, DependsOn, Found}
pub use Rattle.surf_finder.proofs.Common.{HasNoLater, IfOk, IfOk-weaker, InSpan, Independent, IsFirstAt, IsFound}
pub use Rattle.surf_finder.proofs.Common.{IsFoundAt, IsMeasured, IsNonDecreasingBy-from_sort_by_key, IsNull}
pub use Rattle.surf_finder.proofs.Common.{IsPermutation, IsShort, IsShortestTree, IsSplit, IsSurface, IsTrue, List}
pub use Rattle.surf_finder.proofs.Common.{Mesh, None, Option, Place, SignTables, Signed, Some, Sorted, Split}
pub use Rattle.surf_finder.proofs.Common.{SurfaceTables, Tree, Trees, [], all_each, all_kept, all_mapped, and_from}
pub use Rattle.surf_finder.proofs.Common.{and_parts, ap, append-nil, arith, cases_Bool, cases_eq, cases_lt, cells_of}
pub use Rattle.surf_finder.proofs.Common.{choice_exists, chosen, class_of, comes_no_later, comes_sooner, cond}
pub use Rattle.surf_finder.proofs.Common.{contains-map, earlier_of, edge_count, edge_length, edge_signature, ends}
pub use Rattle.surf_finder.proofs.Common.{ends_in, eq-eqb, eqb, eqb-true, false, false≢true, first_from, found_of}
pub use Rattle.surf_finder.proofs.Common.{get_or, get_or-map, get_or-replicate, get_or-set_other, get_or-set_same}
pub use Rattle.surf_finder.proofs.Common.{get_or_default, get_or_past, get_or_read, greedy, greedy_is_found_choice}
pub use Rattle.surf_finder.proofs.Common.{greedy_mapped, independent_of, inl, inr, is_among, is_marked, is_no_later}
pub use Rattle.surf_finder.proofs.Common.{is_nothing, is_signed, is_sought, le-leb, least_base, least_base_on_way}
pub use Rattle.surf_finder.proofs.Common.{leb, leb-true, length, length-append, length-map, length-replicate}
pub use Rattle.surf_finder.proofs.Common.{length-set, lengths_positive, loop_closed, loop_length, loop_walk, map, min}
pub use Rattle.surf_finder.proofs.Common.{nat_tests, not, null_by_class, numbers, on_ok_weaker, or_cases, or_left}
pub use Rattle.surf_finder.proofs.Common.{or_right, parity, place_at, place_of, precedes, recursion_from_All, refl}
pub use Rattle.surf_finder.proofs.Common.{replicate, rules, set, shortest_is_tree, shortest_trees, signatures}
pub use Rattle.surf_finder.proofs.Common.{signs_of, slice_index, slice_index_or, small, stands_before, subst, suc}
pub use Rattle.surf_finder.proofs.Common.{sym, take, take_more, true, with_vertex, xor-false, zero, ℕ, ◌&&◌, ◌*◌}
pub use Rattle.surf_finder.proofs.Common.{◌++◌, ◌+◌, ◌-◌, ◌/◌, ◌<◌, ◌==◌, ◌^◌, ◌||◌, ◌∙◌, ◌∷◌, ◌≡◌, ◌≢◌, ◌≤◌, ◌⊎◌}
pub use Rattle.surf_finder.specs.Found.{surface_of}
pub use Rattle.surf_firsts.proofs.NearVertices.{near_vertices_need_no_more}
pub use Rattle.surf_firsts.specs.Near.{IsSoughtFromStart, is_shorter_by, with_near}
pub use Rattle.surf_search.specs.Ahead.{IsAhead, spare_of}
pub use Rattle.surf_search.specs.Degrees.{by_degree}
pub use Rattle.surf_search.specs.Firsts.{IsFirstAmong, IsFirstIn, IsFirstOf, StaysFirst}
pub use Rattle.surf_search.specs.Kept.{IsNext}
pub use Rattle.surf_search.specs.Places.{HavePlacesOfBasis, has_length, is_placed, lengths_at}
pub use Rattle.surf_search.specs.Rounds.{AreAsks, AreCapped, AreDone, AreFalling, AreKeptTo, AreKeptUpTo, AreLongerOr}
pub use Rattle.surf_search.specs.Rounds.{AreNoLess, AreRaisedTo, AreRising, HasCappedEnd, IsAsked, IsBarring}
pub use Rattle.surf_search.specs.Rounds.{IsCapped, IsKeptAt, IsWider, KeepsInRound, StaysEnough, cap_at, fall_order}
pub use Rattle.surf_search.specs.Rounds.{in_caps, in_round, is_within_cap, told_by, told_of}
pub use Rattle.surf_search.specs.declared.caps.Ask.{Ask}
pub use Rattle.surf_surfaces.proofs.Common.{All-take, AreBases, AreChosenAt, AreDegreesTo, AreEnoughOf}
pub use Rattle.surf_surfaces.proofs.Common.{DependsAtPlace, HasFound, IfSome, IsBoundary, IsChosenBasis, IsClosed}
pub use Rattle.surf_surfaces.proofs.Common.{IsGreedyChoice, IsInOrder, IsIndependent, IsLoopCount, IsNonDecreasingBy}
pub use Rattle.surf_surfaces.proofs.Common.{IsPermutation-sym, IsWithin, LeastSimpleBasis, Loop, MatchBool, MeetsAll}
pub use Rattle.surf_surfaces.proofs.Common.{Spanned, all_filtered, candidates, comes_before, degree_in, drop}
pub use Rattle.surf_surfaces.proofs.Common.{face_count, false_from_ne_true, filter, fold, get_or-take, greedy_after}
pub use Rattle.surf_surfaces.proofs.Common.{greedy_law, in_from_spanned, is_some, is_within, length-take-le, loop_at}
pub use Rattle.surf_surfaces.proofs.Common.{loops_at, loops_below, map-append, map-map, max, member_in, merge, nat_le}
pub use Rattle.surf_surfaces.proofs.Common.{nat_lt, ne_eqb, no_member, not-true, not_from_false, option_map}
pub use Rattle.surf_surfaces.proofs.Common.{order_from_sorted, place_of_found, place_of_loop, range_with_len}
pub use Rattle.surf_surfaces.proofs.Common.{same_members, signature, slice_set, sorted-permutes, sorted_from_order}
pub use Rattle.surf_surfaces.proofs.Common.{sorted_greedy, spanned_from_in, spans, take-map, take_all, total_parity}
pub use Rattle.surf_surfaces.proofs.Common.{trans_in, two_step_law, w64, walks, walks_found, zero_in, ◌↔◌}
pub use Rattle.surf_surfaces.proofs.bases.BasisLaws.{basis_is_least, basis_is_one}
pub use Rattle.surf_surfaces.proofs.bases.CandidateLaws.{IsLoopBelow, below-sorted, below_each, below_more}
pub use Rattle.surf_surfaces.proofs.bases.ChoiceExists.{heaviest_exists}
pub use Rattle.surf_surfaces.proofs.bases.CoveredLaws.{below_closed}
pub use Rattle.surf_surfaces.proofs.bases.FewBasesLaws.{few_bases_suffice, no_later-same, no_later-trans}
pub use Rattle.surf_surfaces.proofs.bases.FirstCycleLaws.{candidates_below_two, first_is_shortest}
pub use Rattle.surf_surfaces.proofs.bases.FirstCycleLaws.{simple_cycles_separate}
pub use Rattle.surf_surfaces.proofs.bases.FirstFoundLaws.{first_is_at_least_base}
pub use Rattle.surf_surfaces.proofs.bases.GreedyChoiceLaws.{depends_from_spanned, greedy_is_choice}
pub use Rattle.surf_surfaces.proofs.bases.LoopsAtLaws.{IsLoopAt, comes_before-trans, loops-sorted, loops_are_least}
pub use Rattle.surf_surfaces.proofs.bases.LoopsAtLaws.{loops_each}
pub use Rattle.surf_surfaces.proofs.classes.ClassLaws.{independent_by_classes, some_vertex}
pub use Rattle.surf_surfaces.proofs.meshes.CellLaws.{ends_below}
pub use Rattle.surf_surfaces.proofs.meshes.DegreeLaws.{degree_few, degrees_more, degrees_none}
pub use Rattle.surf_surfaces.proofs.walks.ShortestTreeLaws.{shortest_trees_are_one}
pub use Rattle.surf_surfaces.specs.Cotree.{cotree_edges, is_left, left_edges, tree_edges}
pub use Rattle.surf_z2.specs.Order.{merge_from}
