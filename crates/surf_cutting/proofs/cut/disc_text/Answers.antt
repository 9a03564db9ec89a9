use Rattle.surf_answers.proofs.Common.{GivesOpened, cut_text, page_stopped}
use Rattle.surf_cutting.proofs.cut.disc_text.Goals as goal

pub returns-in_err-put_opened : goal.returns-in_err-put_opened
returns-in_err-put_opened c =
    let opened = c.args.opened.now in
    page_stopped (GivesOpened c.args.text.now opened) (cut_text c.args.text.now opened.origins opened.faces) c.make-page.result c.make-page.ensures.empty
    (λ o says. record { says = says; rereads = c.put_opened.ensures.reread; copies = c.put_opened.ensures.copies })
    c.in_err-put_opened.field-0.0 c.in_err-put_opened.ensures.puts.1 c.from_residual.result c.from_residual.ensures.1
