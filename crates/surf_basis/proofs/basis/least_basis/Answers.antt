use Rattle.surf_basis.proofs.Common.{first_of, as_loops, IsTheBasis, IsFirstCandidate, IsShortestCycle, subst, IfSome, IfOk-weaker, IsLoopCount, LeastSimpleBasis, lengths_positive}
use Rattle.surf_basis.proofs.First.{first_shortest}
use Rattle.surf_basis.proofs.Leading.{basis_first}
use Rattle.surf_basis.proofs.Whole.{left_count, least_of, none_basis}
use Rattle.surf_basis.proofs.basis.least_basis.Goals as goal

pub returns-then-count-eq0-clause-chosen : goal.returns-then-count-eq0-clause-chosen
returns-then-count-eq0-clause-chosen c =
    let mesh = c.args.mesh.now in
    let lengths = c.args.lengths.now in
    let positive = lengths_positive mesh lengths c.law_of_lengths.ensures.lengths c.requires.lengths in
    let full = left_count mesh c.in_ok-desk.signs c.left-count.result.now c.in_ok-desk.ensures.full c.left-count.ensures.left in
    none_basis mesh lengths c.law_of_surface.ensures.surface positive c.new.result.items c.new.ensures.items (subst (IsLoopCount mesh) c.if-count-eq0.true full)

pub returns-then-count-eq0-clause-least : goal.returns-then-count-eq0-clause-least
returns-then-count-eq0-clause-least c =
    let mesh = c.args.mesh.now in
    let lengths = c.args.lengths.now in
    let positive = lengths_positive mesh lengths c.law_of_lengths.ensures.lengths c.requires.lengths in
    least_of mesh lengths c.law_of_surface.ensures.surface positive (as_loops c.new.result.items) (returns-then-count-eq0-clause-chosen c)

pub returns-clause-least : goal.returns-clause-least
returns-clause-least c =
    let mesh = c.args.mesh.now in
    let lengths = c.args.lengths.now in
    let positive = lengths_positive mesh lengths c.law_of_lengths.ensures.lengths c.requires.lengths in
    IfOk-weaker c.basis_over.result (λ cycles. IsTheBasis mesh lengths (as_loops cycles.items)) (λ cycles. LeastSimpleBasis mesh lengths (as_loops cycles.items))
    (λ cycles is. least_of mesh lengths c.law_of_surface.ensures.surface positive (as_loops cycles.items) is) c.basis_over.ensures.chosen

pub returns-then-count-eq0-clause-first : goal.returns-then-count-eq0-clause-first
returns-then-count-eq0-clause-first c =
    let mesh = c.args.mesh.now in
    let lengths = c.args.lengths.now in
    let positive = lengths_positive mesh lengths c.law_of_lengths.ensures.lengths c.requires.lengths in
    basis_first mesh lengths c.law_of_surface.ensures.surface positive c.new.result.items (returns-then-count-eq0-clause-chosen c)

pub returns-then-count-eq0-clause-shortest : goal.returns-then-count-eq0-clause-shortest
returns-then-count-eq0-clause-shortest c =
    let mesh = c.args.mesh.now in
    let lengths = c.args.lengths.now in
    let positive = lengths_positive mesh lengths c.law_of_lengths.ensures.lengths c.requires.lengths in
    first_shortest mesh lengths c.law_of_surface.ensures.surface positive (first_of c.new.result.items) (returns-then-count-eq0-clause-first c)

pub returns-clause-first : goal.returns-clause-first
returns-clause-first c =
    let mesh = c.args.mesh.now in
    let lengths = c.args.lengths.now in
    let positive = lengths_positive mesh lengths c.law_of_lengths.ensures.lengths c.requires.lengths in
    IfOk-weaker c.basis_over.result (λ cycles. IsTheBasis mesh lengths (as_loops cycles.items)) (λ cycles. IsFirstCandidate mesh lengths (first_of cycles.items))
    (λ cycles is. basis_first mesh lengths c.law_of_surface.ensures.surface positive cycles.items is) c.basis_over.ensures.chosen

pub returns-clause-shortest : goal.returns-clause-shortest
returns-clause-shortest c =
    let mesh = c.args.mesh.now in
    let lengths = c.args.lengths.now in
    let positive = lengths_positive mesh lengths c.law_of_lengths.ensures.lengths c.requires.lengths in
    IfOk-weaker c.basis_over.result (λ cycles. IsFirstCandidate mesh lengths (first_of cycles.items))
    (λ cycles. IfSome (first_of cycles.items) (λ cycle. IsShortestCycle mesh lengths cycle))
    (λ cycles is. first_shortest mesh lengths c.law_of_surface.ensures.surface positive (first_of cycles.items) is) (returns-clause-first c)
