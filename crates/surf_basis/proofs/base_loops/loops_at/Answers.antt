use Rattle.surf_basis.proofs.Common.{based_at, ◌≡◌, ◌<◌, ◌^◌, List, map, All, Some, sym, ap, ◌∙◌, subst, on_ok_weaker, Candidate, Signed, Chosen, IsNext, AreSigned}
use Rattle.surf_basis.proofs.Based.{based_small, offered_at}
use Rattle.surf_finder.specs.declared.told_loops.Ties.TheVariants.{LesserEdge}
use Rattle.surf_search.proofs.LeftOut.{first_small}
use Rattle.surf_basis.proofs.base_loops.loops_at.Goals as goal

pub keep_loops-requires : goal.keep_loops-requires
keep_loops-requires c =
    let f = c.args.finder.now in
    let z = c.args.base in
    let found = c.find.new.found.items in
    let width = c.clear.new.self.width in
    let last : Candidate = record { length = c.greatest_of.result; base = c.new.result; edge = c.new-2.result } in
    let wide : width ≡ c.args.least.now.width = ap (λ (k : Chosen). k.width) c.clear.ensures.none in
    let small = first_small LesserEdge f.mesh f.lengths c.requires.positive.0 c.requires.positive.1 f.signs width
    (subst (AreSigned f.mesh f.signs) (sym wide) c.requires.signed) (Some last) z found c.in_ok-find.ensures.found in
    let based = c.in_ok-list_based.ensures.based ∙ ap (λ (ks : List Signed). map (based_at z) ks) c.deref.ensures.value in
    record {
      small = subst (λ (xs : List Signed). All (λ s. s.signature < 2 ^ width) xs) (sym c.deref_mut.ensures.value)
          (based_small z width found c.list_based.new.based.items small based);
    }

pub returns-clause-loops : goal.returns-clause-loops
returns-clause-loops c =
    let f = c.args.finder.now in
    let z = c.args.base in
    let found = c.find.new.found.items in
    let last : Candidate = record { length = c.greatest_of.result; base = c.new.result; edge = c.new-2.result } in
    let based = c.in_ok-list_based.ensures.based ∙ ap (λ (ks : List Signed). map (based_at z) ks) c.deref.ensures.value in
    let next : IsNext c.clear.new.self c.list_based.new.based.items c.keep_loops.new.choice =
    subst (λ (xs : List Signed). IsNext c.clear.new.self xs c.keep_loops.new.choice) c.deref_mut.ensures.value c.in_ok-keep_loops.ensures.next in
    on_ok_weaker c.list_with.result
    (λ is. offered_at f.mesh f.lengths c.requires.positive.0 c.requires.positive.1 c.requires.few.1 c.requires.few.0 f.signs c.args.lengths.now z
    c.requires.base last c.new.ensures found c.list_based.new.based.items c.kept.result.now c.list_with.new.loops.items c.clear.new.self c.keep_loops.new.choice
    c.greatest_of.ensures.greatest c.in_ok-find.ensures.found based (ap (λ (k : Chosen). k.kept) c.clear.ensures.none) next c.kept.ensures.kept is)
    c.list_with.ensures.loops
