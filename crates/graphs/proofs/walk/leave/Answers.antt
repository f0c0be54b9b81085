use Rattle.std.proofs.Common.{◌≡◌, ◌-◌, ◌∙◌, length, vec_len, take, ap, refl, arith}
use Rattle.graphs.proofs.WalkLemmas.{leave-advances}
use Rattle.graphs.proofs.walk.leave.Goals as goal

pub returns : goal.returns
returns c =
    let long : vec_len c.args.walk.now.path ≡ length c.args.walk.now.path.items = omega arith in
    λ rows walks done.
    leave-advances rows c.args.walk.now (record c.args.walk.now { order = c.push.new.self; path = c.pop.new.self }) c.args.a refl walks c.in_ok-push.ensures.items
    (c.pop.ensures.rest ∙ ap (λ n. take (n - 1) c.args.walk.now.path.items) long) refl done
