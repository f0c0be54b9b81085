use Rattle.std.proofs.Common.{◌∙◌, map}
use Rattle.wf_names_rules.proofs.ArgumentLemmas.{outside_same}
use Rattle.wf_names_rules.proofs.arguments.lacks_arg.Goals as goal

pub returns : goal.returns
returns c =
    let all = c.any_outside.ensures ∙ outside_same c.in_ok-given.given.keys (map (λ n. n.text.0) (map (λ g. g.name) c.args.args.now)) c.wanted_args-wanted.result.now c.in_ok-given.ensures in
    rw c.wanted_args-wanted.ensures at all
