use Rattle.surf_answers.proofs.Common.{subst, edge_count, Stops, soup_text, RereadsSoup, GivesMesh, page_stopped}
use Rattle.surf_looking.proofs.meshes.made_of.Goals as goal

pub returns-in_err-write_soup : goal.returns-in_err-write_soup
returns-in_err-write_soup c =
    let mesh = c.args.soup.now in
    let fault = c.in_err-write_soup.field-0.0 in
    page_stopped (GivesMesh mesh) (soup_text mesh (edge_count mesh)) c.make-page.result c.make-page.ensures.empty
    (λ o says. record { says = says; rereads = subst (λ e. RereadsSoup mesh e) c.edges_of.ensures.edges c.write_soup.ensures.reread }) fault
    (subst (λ e. Stops c.make-page.result (soup_text mesh e) fault) c.edges_of.ensures.edges c.in_err-write_soup.ensures.puts.1)
    c.from_residual.result c.from_residual.ensures.1
