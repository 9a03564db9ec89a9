-- What the proofs of shortest walks of a class cite most besides, by one import.
pub use Rattle.surf_classes.proofs.Covers.{is_cover, searches_certify}
pub use Rattle.surf_classes.proofs.Reached.{between_one, signed_distances_exist, way_to}
pub use Rattle.surf_classes.proofs.ReadBack.{read_back_is_chosen, tables_read_on, walk_set}
pub use Rattle.surf_classes.proofs.Rounds.{Signed, turn}
pub use Rattle.surf_classes.proofs.SignedSteps.{Nearest, edge_set, nearest_from, nearest_to, none_set, step_back}
pub use Rattle.surf_classes.proofs.SignedSteps.{sum_set, tight_from, tight_to, xor_set}
pub use Rattle.surf_classes.proofs.SignedWalks.{after, goes-append, goes_over, turned, xor_off, xor_on}
pub use Rattle.surf_classes.proofs.Tables.{certified_tables_are_distances, xor_back}
pub use Rattle.surf_classes.specs.Cover.{AreSignedDistances, IsCertified, IsLeastBase, IsLeastTight, IsReadBack}
pub use Rattle.surf_classes.specs.Cover.{IsReadTo, IsSet, IsSignedDistance, IsTightFor, step_signature}
pub use Rattle.surf_classes.specs.CoverGraph.{cover, cover_edge, cover_length, cover_node, set_count}
pub use Rattle.surf_cover.specs.Grown.{IsSigned}
pub use Rattle.surf_cover.specs.Networks.{IsCertifiedBy, IsCoverable, IsSignedBy, cover_by, length_by, link_by, node_of}
pub use Rattle.surf_cover.specs.Networks.{table_of}
pub use Rattle.surf_cover.specs.Starts.{AreClosedSets, IsBetter, IsDivided, IsLeastStart, IsLesserEnd, IsOnRound}
pub use Rattle.surf_cover.specs.Starts.{IsStartBy}
pub use Rattle.surf_cover.specs.Tables.{AreCoverTables, CoverTables, distance_at, sets_of}
pub use Rattle.surf_cover.specs.Within.{AreListed, ArePast, IsReachedWithin}
pub use Rattle.surf_cover.specs.declared.rounds.Start.{Start}
pub use Rattle.surf_lengths.specs.Lengths.{AreLengths, longest}
pub use Rattle.surf_tree.proofs.Offering.{all_free, first_offer, item_in, least_turn, link_more, link_of, link_skip}
pub use Rattle.surf_tree.proofs.Offering.{one_less}
pub use Rattle.surf_tree.proofs.SearchWords.{IsOfferedSome, IsSearch}
pub use Rattle.surf_tree.proofs.Settling.{all_or_none, search_begins}
pub use Rattle.surf_tree.specs.Searches.{IsSearchable, IsSettled, IsTight, far}
