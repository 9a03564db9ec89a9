use Rattle.surf_finder.proofs.Common.{inl, inr, ◌∙◌, reached_at}
use Rattle.surf_finder.proofs.Keyed.{key_tells}
use Rattle.surf_finder.proofs.Told.{rise_ends}
use Rattle.surf_finder.proofs.reached.key_of.Goals as goal

pub number-low-requires : goal.number-low-requires
number-low-requires c = record {
  vertex = (rise_ends (reached_at c.args.reached.now) c.args.rise.now c.requires.searched.ready c.requires.rise c.requires.between).0.numbers;
}

pub number-high-requires : goal.number-high-requires
number-high-requires c = record {
  vertex = (rise_ends (reached_at c.args.reached.now) c.args.rise.now c.requires.searched.ready c.requires.rise c.requires.between).1.numbers;
}

pub returns : goal.returns
returns c =
    let low = c.number-low.ensures.number in
    let high = c.number-high.ensures.number in
    record {
      key = key_tells c.args.reached.now c.args.rise.now c.new.result c.requires.searched c.requires.rise c.requires.between
          (c.new.ensures.kind ∙ c.kind.ensures.kind)
          (elim c.new.ensures.ways [
            | inl p ↦ inl (p.0 ∙ low, p.1 ∙ high)
            | inr p ↦ inr (p.0 ∙ high, p.1 ∙ low)
          ]);
    }
