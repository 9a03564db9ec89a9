use Rattle.surf_surfaces.proofs.Common.{◌≡◌, subst, arith, List, Bool, with_items, with_items_is}
use Rattle.surf_cutter.specs.Opened.{AreTurnedOver}
use Rattle.surf_cutter.proofs.cutting.turned_over.Goals as goal

pub returns : goal.returns
returns c =
    let cut = c.turn_over.new.flags in
    let items : (with_items c.args.flags cut).items ≡ cut = with_items_is c.args.flags cut (omega (arith, c.turn_over.auto.flags, c.deref_mut.ensures.len)) in
    rw items (subst (λ (held : List Bool). AreTurnedOver held cut) c.deref_mut.ensures.value c.turn_over.ensures)
