use Rattle.surf_surfaces.proofs.Common.{◌<◌, ◌^◌, All-permutation}
use Rattle.surf_search.proofs.kept_loops.keep_loops.Goals as goal

pub keep-requires : goal.keep-requires
keep-requires c = record {
  small = All-permutation (λ s. s.signature < 2 ^ c.args.choice.now.width) c.args.found.now c.sort_loops.new.found c.sort_loops.ensures.same c.requires.small;
}
