use Rattle.surf_sew.proofs.CutLaws.{opened_are_reread, copies_are_reread, opened_are_sewn, lines_are_sewn, sewn_are_reread}
use Rattle.surf_sew.proofs.Limits.{limits_are_kept}
use Rattle.surf_sew.proofs.laws.law_of_sewing.Goals as goal

pub returns : goal.returns
returns c = record {
  reread = opened_are_reread;
  limits = limits_are_kept;
  copies = copies_are_reread;
  mesh = opened_are_sewn;
  lines = lines_are_sewn;
  written = sewn_are_reread;
}
