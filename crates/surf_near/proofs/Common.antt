-- What the proofs of this crate cite most, by one import.
pub use Rattle.std.proofs.Common.{Bool, Contains, List, None, Option, [], cond, eq-eqb, eqb, false, get_or, if◌then◌else◌, inl, inr, length-append, ltb, map, ne_eqb, refl, replicate, sym, take, true, zero, ◌&&◌, ◌*◌, ◌++◌, ◌-◌, ◌^◌, ◌||◌, ◌∷◌, ◌≡◌, ◌≤◌}
pub use Rattle.std.proofs.Math.ListN.{length-set}
pub use Rattle.surf_base.specs.Tables.{at, nobody}
pub use Rattle.surf_buckets.specs.Buckets.{IsNearestEntry}
pub use Rattle.surf_heap.specs.Entries.{Entries, IsEmpty, IsLeastEntry, entry_of, lesser}
pub use Rattle.surf_lengths.specs.Lengths.{AreLengths, IsLength, longest}
pub use Rattle.surf_mesh.proofs.LinkLaws.{cells_few, edge_row}
pub use Rattle.surf_mesh.specs.Links.{IsRow, edge_link, link_at, other_of}
pub use Rattle.surf_near.specs.Links.{AreEvenOrPast, AreGiven, AreGivenAt, AreGreatFrom, AreLinks, AreLinksAt, AreSizes, AreSmallUpTo, AreUpToOrPast, IsShutAt, KeepsOff, LinkTables, barred_lengths, degree, ends_of, graph_of, is_barred, length_past, link_in, weight_of}
pub use Rattle.surf_near.specs.Near.{IsNear, IsNearTo, NearTables, never}
pub use Rattle.surf_near.specs.Searching.{HasRoom, IsBlank, IsChoice, IsChosenAt, IsFound, IsListed, IsLooked, IsQueue, IsReachedNear, IsTrimmed, OffersNear}
pub use Rattle.surf_near.specs.declared.links.Link.{Link}
pub use Rattle.surf_near.specs.declared.tables.Tables.{Tables}
pub use Rattle.surf_surfaces.proofs.Common.{All-from_get_or, ArePositive, Contains-get_or, Graph, IsMesh, IsShortest, IsShortestTree, IsSurface, IsTree, Mesh, Some, Tree, and_from, and_parts, ap, arith, cases_Bool, cases_eq, cases_lt, cells_of, count_below, edge_count, edge_length, edge_number, edges, ends, eqb-true, ext_get_or, false≢true, get_or-map, get_or-map-range_with_len, get_or-replicate, get_or-set_other, get_or-set_same, get_or-take, get_or_append_left, get_or_default, get_or_past, get_or_push, joined_below, joins, joins_turned, le-leb, le-ltb, length, length-map, length-map-range_with_len, length-replicate, length-take-le, lt-leb, lt-ltb, map-map, min, or_cases, or_from, or_left, or_parts, or_right, pair, place_of, primal, range_with_len, set, slice_index_or, step_short, subst, suc, sum_below, sum_by, sum_by_push, take_all, touches, ℕ, ◌+◌, ◌<◌, ◌∙◌, ◌≢◌, ◌⊎◌}
pub use Rattle.surf_tree.proofs.LengthLaws.{short_lengths}
pub use Rattle.surf_tree.proofs.Offering.{IsTurn, all_free, first_offer, least_turn, link_more, link_skip, offered_all, offered_none, one_less}
pub use Rattle.surf_tree.proofs.SearchWords.{IsOfferedSome, IsSearch}
pub use Rattle.surf_tree.specs.Searches.{HasKey, IsOffered, IsReached, IsTight}
