use Rattle.surf_cert.proofs.Common.{flat_map, codes, puts_more, cycle_line}
use Rattle.surf_cert.proofs.write.write_cycles.Goals as goal

pub returns : goal.returns
returns c =
    let r = c.write_walks.result in
    record {
      puts = puts_more c.args.page.now c.push_bytes.new.self c.write_walks.new.page (codes "cycles\n") (flat_map cycle_line c.args.cycles.now) c.push_bytes.result c.in_ok-push_bytes.field-0 r c.in_ok-push_bytes.was c.push_bytes.ensures.puts
          c.write_walks.ensures.puts;
    }
