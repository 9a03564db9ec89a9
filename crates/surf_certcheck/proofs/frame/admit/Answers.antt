use Rattle.surf_treecheck.proofs.Common.{◌≡◌, ◌<◌, ◌^◌, ◌∙◌, bit_xor, refl, ap, sym, subst, arith, walk_length, xor_lt, pow_below, split_in}
use Rattle.surf_certcheck.proofs.Independence.{set_is, set_small, none_free, one_free}
use Rattle.surf_certcheck.proofs.frame.admit.Goals as goal

pub add_where-requires-clause-fits : goal.add_where-requires-clause-fits
add_where-requires-clause-fits c =
    let mesh = c.args.case.now.mesh.now in
    let cert = c.args.case.now.cert.now in
    let f = c.requires.frame in
    let sum = c.cycle_set-rest.result in
    let n = c.args.frame.now.signs.width in
    let is = set_is mesh c.args.case.now.lengths.now cert c.args.place c.requires.place c.args.frame.now.signs c.args.frame.now.weights.items f
    c.cycle_from-list.result.now sum c.cycle_from-list.ensures.cycle
    (c.cycle_set-rest.ensures.sum (split_in mesh cert) f.to f.taken) in
    let small : sum < 2 ^ n =
    subst (λ k. sum < 2 ^ k) c.args.frame.now.places
    (set_small mesh c.args.case.now.lengths.now cert c.args.place c.requires.place c.args.frame.now.signs c.args.frame.now.weights.items f sum is) in
    let inside : c.in-Some.free < n = omega (arith, c.in-Some.ensures.free.0, c.args.frame.now.places) in
    let rest : c.bits-in-Some.result ≡ bit_xor sum (2 ^ c.in-Some.free) =
    c.bits-in-Some.ensures ∙ c.add.ensures ∙ ap (bit_xor sum) (c.bits.ensures ∙ c.unit.ensures) in
    subst (λ x. x < 2 ^ n) (sym rest) (xor_lt n sum (2 ^ c.in-Some.free) small (pow_below c.in-Some.free n inside))

pub returns-in-None-clause-admitted : goal.returns-in-None-clause-admitted
returns-in-None-clause-admitted c =
    let mesh = c.args.case.now.mesh.now in
    let cert = c.args.case.now.cert.now in
    let f = c.requires.frame in
    let sum = c.cycle_set-rest.result in
    let is = set_is mesh c.args.case.now.lengths.now cert c.args.place c.requires.place c.args.frame.now.signs c.args.frame.now.weights.items f
    c.cycle_from-list.result.now sum c.cycle_from-list.ensures.cycle
    (c.cycle_set-rest.ensures.sum (split_in mesh cert) f.to f.taken) in
    none_free mesh c.args.case.now.lengths.now cert c.args.place c.requires.place c.args.frame.now.signs c.args.frame.now.weights.items f sum is
    (rw c.deref.ensures.value at c.in-None.ensures.free)

pub returns-in-Some-clause-admitted : goal.returns-in-Some-clause-admitted
returns-in-Some-clause-admitted c =
    let mesh = c.args.case.now.mesh.now in
    let lengths = c.args.case.now.lengths.now in
    let cert = c.args.case.now.cert.now in
    let f = c.requires.frame in
    let sum = c.cycle_set-rest.result in
    let is = set_is mesh lengths cert c.args.place c.requires.place c.args.frame.now.signs c.args.frame.now.weights.items f
    c.cycle_from-list.result.now sum c.cycle_from-list.ensures.cycle
    (c.cycle_set-rest.ensures.sum (split_in mesh cert) f.to f.taken) in
    let free = rw c.deref.ensures.value at c.in-Some.ensures.free in
    one_free mesh lengths cert c.args.place c.requires.place c.args.frame.now.signs c.args.frame.now.weights.items f sum c.in-Some.free
    c.bits-in-Some.result c.length_of.result c.add_where.new.self _ (record {
      sum_is = is;
      within = free.0;
      on = free.1;
      free = free.2;
      rest_is = c.bits-in-Some.ensures ∙ c.add.ensures ∙ ap (bit_xor sum) (c.bits.ensures ∙ c.unit.ensures);
      weight_is = c.length_of.ensures.length ∙ ap (walk_length mesh lengths) c.cycle_from-list.ensures.cycle;
      count = c.requires.count;
      sets = c.add_where.ensures.sets;
      weights_are = refl;
    })
