use Rattle.surf_basis.proofs.Common.{AreSignedEnds, ◌≡◌, ℕ, List, Option, Some, None, length, true, inr, ap, ◌∙◌, subst, false≢true, is_some, SignTables, not, signs_long}
use Rattle.surf_tree.specs.Queues.{AreEven, IsEvenness}
use Rattle.surf_basis.proofs.Meeting.{ends_meet, cut_meets}
use Rattle.surf_basis.proofs.cut.searched_vertices.Goals as goal

-- where there is one length, it is that of all edges
one_length : (lengths : List ℕ) (even : Option ℕ) → is_some even ≡ true → IsEvenness lengths even →
    (size : ℕ) × AreEven lengths size
one_length lengths None some h = absurd (false≢true some)
one_length lengths (Some size) some h = (size, h)

pub signed_ends-requires : goal.signed_ends-requires
signed_ends-requires c =
    let (count, signed) = c.requires.signed in
    record {
      table = signs_long c.args.mesh.now c.args.signs.now count signed;
    }

pub returns-then-is_none-clause-met : goal.returns-then-is_none-clause-met
returns-then-is_none-clause-met c =
    cut_meets c.args.mesh.now c.law_of_surface.ensures.surface c.args.desk.now c.requires.divided c.in_ok-cut.cut.items c.in_ok-cut.ensures.cut

pub returns-then-len-clause-which : goal.returns-then-len-clause-which
returns-then-len-clause-which c =
    let list = c.in_ok-ends.ends.items in
    let (size, even) = one_length c.args.lengths.now c.even_length.result (c.is_none.ensures ∙ ap not c.if-is_none.false) c.even_length.ensures.even in
    inr (size, even, subst (λ (t : SignTables). AreSignedEnds c.args.mesh.now t list) c.requires.signs c.in_ok-ends.ensures.ends)

pub returns-then-len-clause-met : goal.returns-then-len-clause-met
returns-then-len-clause-met c =
    let mesh = c.args.mesh.now in
    let list = c.in_ok-ends.ends.items in
    let (count, signed) = c.requires.signed in
    ends_meet mesh c.law_of_surface.ensures.surface c.args.signs.now count signed list c.in_ok-ends.ensures.ends.each

pub returns-clause-met : goal.returns-clause-met
returns-clause-met c =
    cut_meets c.args.mesh.now c.law_of_surface.ensures.surface c.args.desk.now c.requires.divided c.in_ok-cut.cut.items c.in_ok-cut.ensures.cut
