use Rattle.surf_cert.proofs.Common.{flat_map, codes, zip, puts_more, face_line}
use Rattle.surf_cert.proofs.write.write_dual.Goals as goal

pub returns : goal.returns
returns c =
    let r = c.write_faces.result in
    record {
      puts = puts_more c.args.page.now c.push_bytes.new.self c.write_faces.new.page (codes "dual\n") (flat_map face_line (zip c.args.dual.now.depth c.args.dual.now.side)) c.push_bytes.result c.in_ok-push_bytes.field-0 r c.in_ok-push_bytes.was c.push_bytes.ensures.puts
          c.write_faces.ensures.puts;
    }
