use Rattle.std.proofs.Common.{Bool, ◌∙◌, ap}
use Rattle.wf_ast.specs.TypedTrees.{block_of}
use Rattle.wf_lower_stmts.specs.declared.walks.StartedNumbers.{StartedNumbers}
use Rattle.wf_lower_stmts.specs.Forms.{counts_bytes, holds_something, keeps}
use Rattle.wf_lower_stmts.proofs.StandLaws.{stands_awaited}
use Rattle.wf_lower_stmts.proofs.walks.find_started.Goals as goal

pub returns : goal.returns
returns c =
    let body = block_of c.args.t.now c.args.body.now in
    let numbers : Bool → Bool → StartedNumbers = λ held counted. record { held = held; counted = counted } in
    ap (λ held. numbers held c.stands_in_body-2.result) (c.stands_in_body.ensures ∙ stands_awaited holds_something body)
    ∙ ap (λ counted. numbers (keeps holds_something body) counted) (c.stands_in_body-2.ensures ∙ stands_awaited counts_bytes body)
