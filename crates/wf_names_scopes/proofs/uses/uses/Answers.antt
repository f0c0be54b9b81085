use Rattle.std.proofs.Common.{◌∙◌, ap, None}
use Rattle.wf_text.specs.Precedence.{sooner}
use Rattle.wf_names_rules.specs.Jumps.{labels_found}
use Rattle.wf_names_scopes.proofs.UseLemmas.{whole_walk}
use Rattle.wf_names_scopes.proofs.uses.uses.Goals as goal
use Rattle.wf_names_rules.specs.Declarations.{declared_in}

pub constants-requires-clause-outside : goal.constants-requires-clause-outside
constants-requires-clause-outside c = c.outside-scope.ensures (declared_in c.args.parsed.now)

pub returns-clause-found : goal.returns-clause-found
returns-clause-found c =
    let d = declared_in c.args.parsed.now in
    let third = whole_walk d None c.constants.new.seen.found c.structs.new.seen.found c.methods.new.seen.found (rw c.nothing.ensures at c.in_ok-constants.ensures.found) c.in_ok-structs.ensures.found c.in_ok-methods.ensures.found in
    c.refuse.ensures ∙ ap (sooner c.methods.new.bodies.labels) c.first.ensures ∙ ap (λ labels. sooner labels c.methods.new.seen.found) c.in_ok-methods.ensures.labels ∙ ap (sooner (labels_found d c.args.found.now)) third
