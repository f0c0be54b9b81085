use Rattle.std.proofs.Common.{◌∙◌, ap, codes}
use Rattle.c_text.specs.CTree.{size}
use Rattle.wf_exprs.proofs.Prefixes.{p_name}
use Rattle.wf_exprs.specs.Exprs.{io_code}
use Rattle.wf_exprs.specs.Scopes.{ScopeTree}
use Rattle.wf_lower_stmts.specs.Forms.{place_in}
use Rattle.wf_lower.proofs.LocalLaws.{local_by}
use Rattle.wf_lower.proofs.locals.place_local.Goals as goal

pub size_local-requires-clause-name : goal.size_local-requires-clause-name
size_local-requires-clause-name c = p_name c.argument_name-name.result.now c.argument_name-name.ensures.word

pub returns-clause-made : goal.returns-clause-made
returns-clause-made c =
    local_by _ size (codes "p_") _ _ _ _ c.size_local.result c.argument_name-name.ensures.is (c.in_ok-place.ensures.made.is ∙ ap (λ (s : ScopeTree). place_in (io_code s.names c.args.n) c.args.ty) c.scope.ensures) c.size_local.ensures.made
