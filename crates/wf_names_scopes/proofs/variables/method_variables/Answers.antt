use Rattle.std.proofs.Common.{List, sym, subst}
use Rattle.wf_names_rules.specs.Declarations.{Variable}
use Rattle.wf_names_scopes.specs.Agreeing.{TellsVariables}
use Rattle.wf_names_scopes.proofs.variables.method_variables.Goals as goal

pub returns : goal.returns
returns c = λ m args locals.
    let P : List Variable → Type 0 = λ vs. TellsVariables c.args.parsed.now.texts vs c.in_ok-args.args in
    let Q : List Variable → Type 0 = λ vs. TellsVariables c.args.parsed.now.texts vs c.in_ok-locals.locals in
    record { args = subst P (sym args) c.in_ok-args.ensures; locals = subst Q (sym locals) c.in_ok-locals.ensures }
