use Rattle.surf_surfaces.proofs.Common.{List, ℕ, ◌++◌, length, map, refl, codes, decimal, length-map, err_from_is_err_and}
use Rattle.surf_text.specs.Pages.{Puts}
use Rattle.surf_text.proofs.Writing.{puts_more, puts_stop}
use Rattle.surf_text.specs.Numbers.{numbers_text}
use Rattle.surf_off.specs.Written.{colour_text}
use Rattle.surf_off.proofs.face.write_long.Goals as goal

pub returns-in_err-push_whole : goal.returns-in_err-push_whole
returns-in_err-push_whole g c =
    let p = err_from_is_err_and c.from_residual.result c.from_residual.ensures.1 in
    let numbers : List ℕ = map g.N.Numbered.number c.args.corners.now in
    let rest = numbers_text numbers ++ (colour_text c.args.colour.now ++ codes "\n") in
    let size : Puts c.args.page.now c.push_whole.new.self (decimal (length numbers)) c.push_whole.result = rw (length-map c.args.corners.now g.N.Numbered.number) c.push_whole.ensures.puts in
    record { puts = puts_stop c.args.page.now c.push_whole.new.self (decimal (length numbers)) rest c.push_whole.result c.in_err-push_whole.field-0.0 c.from_residual.result c.in_err-push_whole.was (rw (p.1, p.2) refl) size }

pub returns-in_err-write_corners : goal.returns-in_err-write_corners
returns-in_err-write_corners g c =
    let r = c.from_residual-in_err-write_corners.result in
    let p = err_from_is_err_and r c.from_residual-in_err-write_corners.ensures.1 in
    let last = colour_text c.args.colour.now ++ codes "\n" in
    let numbers : List ℕ = map g.N.Numbered.number c.args.corners.now in
    let size : Puts c.args.page.now c.push_whole.new.self (decimal (length numbers)) c.push_whole.result = rw (length-map c.args.corners.now g.N.Numbered.number) c.push_whole.ensures.puts in
    record {
      puts = puts_more c.args.page.now c.push_whole.new.self c.write_corners.new.page (decimal (length numbers)) (numbers_text numbers ++ last) c.push_whole.result c.in_ok-push_whole.field-0 r c.in_ok-push_whole.was size
          (puts_stop c.push_whole.new.self c.write_corners.new.page (numbers_text numbers) last c.write_corners.result c.in_err-write_corners.field-0.0 r c.in_err-write_corners.was (rw (p.1, p.2) refl) c.write_corners.ensures.puts);
    }

pub returns-in_err-write_colour : goal.returns-in_err-write_colour
returns-in_err-write_colour g c =
    let r = c.from_residual-in_err-write_colour.result in
    let p = err_from_is_err_and r c.from_residual-in_err-write_colour.ensures.1 in
    let colour = colour_text c.args.colour.now in
    let numbers : List ℕ = map g.N.Numbered.number c.args.corners.now in
    let size : Puts c.args.page.now c.push_whole.new.self (decimal (length numbers)) c.push_whole.result = rw (length-map c.args.corners.now g.N.Numbered.number) c.push_whole.ensures.puts in
    record {
      puts = puts_more c.args.page.now c.push_whole.new.self c.write_colour.new.page (decimal (length numbers)) (numbers_text numbers ++ (colour ++ codes "\n")) c.push_whole.result c.in_ok-push_whole.field-0 r c.in_ok-push_whole.was size
          (puts_more c.push_whole.new.self c.write_corners.new.page c.write_colour.new.page (numbers_text numbers) (colour ++ codes "\n") c.write_corners.result c.in_ok-write_corners.field-0 r c.in_ok-write_corners.was c.write_corners.ensures.puts
          (puts_stop c.write_corners.new.page c.write_colour.new.page colour (codes "\n") c.write_colour.result c.in_err-write_colour.field-0.0 r c.in_err-write_colour.was (rw (p.1, p.2) refl) c.write_colour.ensures.puts));
    }

pub returns : goal.returns
returns g c =
    let r = c.push_bytes.result in
    let colour = colour_text c.args.colour.now in
    let numbers : List ℕ = map g.N.Numbered.number c.args.corners.now in
    let size : Puts c.args.page.now c.push_whole.new.self (decimal (length numbers)) c.push_whole.result = rw (length-map c.args.corners.now g.N.Numbered.number) c.push_whole.ensures.puts in
    record {
      puts = puts_more c.args.page.now c.push_whole.new.self c.push_bytes.new.self (decimal (length numbers)) (numbers_text numbers ++ (colour ++ codes "\n")) c.push_whole.result c.in_ok-push_whole.field-0 r c.in_ok-push_whole.was size
          (puts_more c.push_whole.new.self c.write_corners.new.page c.push_bytes.new.self (numbers_text numbers) (colour ++ codes "\n") c.write_corners.result c.in_ok-write_corners.field-0 r c.in_ok-write_corners.was c.write_corners.ensures.puts
          (puts_more c.write_corners.new.page c.write_colour.new.page c.push_bytes.new.self colour (codes "\n") c.write_colour.result c.in_ok-write_colour.field-0 r c.in_ok-write_colour.was c.write_colour.ensures.puts c.push_bytes.ensures.puts));
    }
