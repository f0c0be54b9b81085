use Rattle.std.proofs.Common.{sym, subst}
use Rattle.wf_names_scopes.specs.Agreeing.{TellsMethod}
use Rattle.wf_names_scopes.proofs.PackageLemmas.{on_ok}
use Rattle.wf_names_scopes.proofs.tables.add_method.Goals as goal

pub returns : goal.returns
returns c =
    on_ok c.put_method.result (λ put d m texts public owner name args locals p.
    let P : _ → Type 0 = λ ts. TellsMethod ts m c.in_ok-variables.variables in
    put d m public owner name (subst P (sym texts) (c.in_ok-variables.ensures m args locals)) p)
    c.put_method.ensures
