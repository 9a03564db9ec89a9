use Rattle.surf_part_cases.proofs.buckets.a_place_that_was_taken_keeps_its_key.Goals as goal

pub take_least-requires-2 : goal.take_least-requires-2
take_least-requires-2 g c =
    record { filing = (c.offer-3.new.keys, c.take_least.ensures.filing c.offer-3.new.keys c.offer-3.ensures.filing) }

pub take_least-requires-3 : goal.take_least-requires-3
take_least-requires-3 g c =
    record { filing = (c.offer-3.new.keys, c.take_least-2.ensures.filing c.offer-3.new.keys (c.take_least.ensures.filing c.offer-3.new.keys c.offer-3.ensures.filing)) }
