use Rattle.surf_cert.proofs.Common.{flat_map, codes, puts_more, pair_line}
use Rattle.surf_cert.proofs.write.write_left.Goals as goal

pub returns : goal.returns
returns c =
    let r = c.write_pairs.result in
    record {
      puts = puts_more c.args.page.now c.push_bytes.new.self c.write_pairs.new.page (codes "left\n") (flat_map pair_line c.args.left.now) c.push_bytes.result c.in_ok-push_bytes.field-0 r c.in_ok-push_bytes.was c.push_bytes.ensures.puts
          c.write_pairs.ensures.puts;
    }
