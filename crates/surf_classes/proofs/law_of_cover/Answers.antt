use Rattle.surf_classes.proofs.Covers.{covers_are_graphs, searches_certify}
use Rattle.surf_classes.proofs.law_of_cover.Goals as goal

pub returns : goal.returns
returns c = record {
  graphs = covers_are_graphs;
  searches = searches_certify;
}
