-- What the proofs of a finder cite most, by one import: words of loops and of what is found, and their lemmas.
pub use Rattle.std.proofs.lemmas.List.{replicate_more}
pub use Rattle.surf_choice.proofs.Limits.{IsShort}
pub use Rattle.surf_choice.proofs.Sifted.{all_kept, greedy_mapped}
pub use Rattle.surf_choice.specs.Candidates.{independent_of, signatures}
pub use Rattle.surf_choice.specs.Places.{is_sought, place_of, stands_before}
pub use Rattle.surf_choice.specs.declared.candidate.Candidate.{Candidate}
pub use Rattle.surf_choice.specs.declared.candidate.Signed.{Signed}
pub use Rattle.surf_cotree.specs.Tables.{CotreeTables}
pub use Rattle.surf_finder.proofs.FoundLoops.{found_of}
pub use Rattle.surf_finder.specs.Found.{AreFirstFound, AreFirstTold, AreFound, AreFoundBy, CoversAt, HasNoLater}
pub use Rattle.surf_finder.specs.Found.{IsFirstAt, IsFirstTold, IsFound, IsReady, IsTold, ListsAt, Search}
pub use Rattle.surf_finder.specs.Found.{SurfaceTables, earlier_of, first_from, first_with, is_among, is_between}
pub use Rattle.surf_finder.specs.Found.{is_earlier, is_wanted, precedes, reached_at, search_of, told_loop}
pub use Rattle.surf_finder.specs.Marks.{AreMarkedIn, bits_backwards, is_signed}
pub use Rattle.surf_finder.specs.Passing.{AreMarkedNear, AreNoShorter, AreShut, is_marked}
pub use Rattle.surf_finder.specs.Places.{AreDistances, radius_of}
pub use Rattle.surf_finder.specs.Signing.{AreSignatures, AreSigned, SignTables, signs_of}
pub use Rattle.surf_finder.specs.Walks.{AddsWay, AreWalksOf, AreWritten, AreWrittenTo, HasReachedEnds, IsLoopWalk}
pub use Rattle.surf_finder.specs.Walks.{IsMeasured, IsReachedTo, IsWalkOf}
pub use Rattle.surf_finder.specs.Ways.{AreWays, HasNone, HasParent, IsNumbered, IsWayAt, WayTables, class_at}
pub use Rattle.surf_firsts.specs.Near.{AgreeOff}
pub use Rattle.surf_graphs.proofs.Turned.{way_goes_on, way_reversed}
pub use Rattle.surf_lengths.proofs.Positive.{lengths_positive}
pub use Rattle.surf_near.specs.Links.{AreLinks, IsShutAt, KeepsOff}
pub use Rattle.surf_near.specs.Near.{IsNear, IsNearTo, NearTables, is_near}
pub use Rattle.surf_near.specs.declared.links.Link.{Link}
pub use Rattle.surf_signatures.proofs.WayLaws.{loop_class, way_more, way_none}
pub use Rattle.surf_signatures.specs.Ways.{way_class}
pub use Rattle.surf_surfaces.proofs.Common.{All, All-append, All-contains, All-from_recursion, All-permutation}
pub use Rattle.surf_surfaces.proofs.Common.{All-push, AllByRecursion, AllInSpan, AreChosen, AreFoundAt, ArePositive}
pub use Rattle.surf_surfaces.proofs.Common.{AreShortestTrees, Bool, Contains, Contains-append_left}
pub use Rattle.surf_surfaces.proofs.Common.{Contains-append_right, Contains-get_or, Contains-permutation}
pub use Rattle.surf_surfaces.proofs.Common.{Decides-is_nothing, DependsOn, Found, IfOk, IfOk-weaker, InSpan}
pub use Rattle.surf_surfaces.proofs.Common.{Independent, IsFoundAt, IsFoundChoice, IsFoundLoop}
pub use Rattle.surf_surfaces.proofs.Common.{IsNonDecreasingBy-from_sort_by_key, IsNull, IsPermutation, IsShortestTree}
pub use Rattle.surf_surfaces.proofs.Common.{IsSplit, IsSurface, IsTree, IsTrue, List, Mesh, None, Option, Place, Some}
pub use Rattle.surf_surfaces.proofs.Common.{Sorted, Split, Tree, Trees, [], and_from, and_parts, ap, append-nil}
pub use Rattle.surf_surfaces.proofs.Common.{arith, bit_xor, both_ways, cases_Bool, cases_eq, cases_lt, cells_of}
pub use Rattle.surf_surfaces.proofs.Common.{chain_signature, chosen, class_of, comes_no_later, comes_sooner, cond}
pub use Rattle.surf_surfaces.proofs.Common.{count, edge_count, edge_length, edge_number, edge_signature, ends, eq-eqb}
pub use Rattle.surf_surfaces.proofs.Common.{eqb, eqb-false, eqb-true, false, false≢true, fold-append}
pub use Rattle.surf_surfaces.proofs.Common.{free_from_independent, get_or, get_or-map, get_or-map-range_with_len}
pub use Rattle.surf_surfaces.proofs.Common.{get_or-replicate, get_or-set_other, get_or-set_same, get_or_default}
pub use Rattle.surf_surfaces.proofs.Common.{get_or_past, get_or_read, greedy, inl, inr, is_no_later, is_nothing}
pub use Rattle.surf_surfaces.proofs.Common.{le-leb, least_base, least_on_way, leb, leb-true, length, length-append}
pub use Rattle.surf_surfaces.proofs.Common.{length-map, length-map-range_with_len, length-replicate, length-set}
pub use Rattle.surf_surfaces.proofs.Common.{loop_length, loop_walk, ltb, ltb-true, map, min, nat_tests, not, numbers}
pub use Rattle.surf_surfaces.proofs.Common.{on_ok_weaker, or_cases, or_left, or_right, parity, place_at, primal}
pub use Rattle.surf_surfaces.proofs.Common.{recursion_from_All, refl, replicate, reverse, rules, set, slice_index}
pub use Rattle.surf_surfaces.proofs.Common.{slice_index_or, small, subst, suc, sym, take, take-append_seam, take_more}
pub use Rattle.surf_surfaces.proofs.Common.{touches, true, way_down, way_up, with_vertex, xor-false, xor_self}
pub use Rattle.surf_surfaces.proofs.Common.{xor_zero_r, zero, ℕ, ◌&&◌, ◌*◌, ◌++◌, ◌+◌, ◌-◌, ◌/◌, ◌<◌, ◌==◌, ◌^◌, ◌||◌}
pub use Rattle.surf_surfaces.proofs.Common.{◌∙◌, ◌∷◌, ◌≡◌, ◌≢◌, ◌≤◌, ◌⊎◌}
pub use Rattle.surf_surfaces.proofs.bases.ChoiceExists.{choice_exists}
pub use Rattle.surf_surfaces.proofs.bases.CoveredLaws.{contains-map}
pub use Rattle.surf_surfaces.proofs.bases.FewBasesLaws.{least_base_on_way}
pub use Rattle.surf_surfaces.proofs.bases.FirstCycleLaws.{shortest_trees}
pub use Rattle.surf_surfaces.proofs.bases.FirstFoundLaws.{ends_are_near, loop_closed}
pub use Rattle.surf_surfaces.proofs.bases.FoundLaws.{found_closed, greedy_is_found_choice}
pub use Rattle.surf_surfaces.proofs.classes.ClassLaws.{null_by_class}
pub use Rattle.surf_surfaces.proofs.classes.LeastLaws.{all_each, all_mapped}
pub use Rattle.surf_surfaces.proofs.meshes.CellLaws.{ends_in}
pub use Rattle.surf_surfaces.proofs.walks.OnTheWayLaws.{least_tables_are_least, zero_distance}
pub use Rattle.surf_surfaces.proofs.walks.ShortestTreeLaws.{shortest_is_shortest, shortest_is_tree}
