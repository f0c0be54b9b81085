use Rattle.graphs.proofs.TurnLemmas.{goes-joined, row-read}
use Rattle.std.proofs.Common.{◌<◌, ◌++◌, ◌∷◌, [], ◌∙◌, List, ℕ, length, ap, arith}
use Rattle.graphs.proofs.turned.join.Goals as goal

pub returns-clause-goes : goal.returns-clause-goes
returns-clause-goes c =
    let inside : c.args.a < length c.args.rows.now.items = omega arith in
    let row : List ℕ = c.index_mut.result.now in
    let same = row-read c.args.rows.now.items c.args.a row inside c.index_mut.ensures.value in
    goes-joined c.args.rows.now.items c.args.a c.args.b c.push.new.self inside (c.in_ok-push.ensures.ok ∙ ap (λ (l : List ℕ). l ++ c.args.b ∷ []) same)
