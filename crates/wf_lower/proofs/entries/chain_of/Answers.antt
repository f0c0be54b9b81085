use Rattle.std.proofs.Common.{◌∙◌, ap, sym}
use Rattle.c_text.specs.declared.kinds.COp.TheVariants.{Either}
use Rattle.c_text.specs.CNodes.{expr_of, operands_in}
use Rattle.c_text.specs.CTree.{operation}
use Rattle.wf_exprs.proofs.Growing.{retell}
use Rattle.wf_lower.specs.Methods.{test_trees}
use Rattle.wf_lower.proofs.EntryLaws.{chain_is, operands_are}
use Rattle.wf_lower.proofs.entries.chain_of.Goals as goal

pub returns-clause-made : goal.returns-clause-made
returns-clause-made c =
    let u = c.args.u.now in
    let a = expr_of u c.args.first.0 in
    let b = expr_of u c.args.second.0 in
    let tests = ap (operands_in (expr_of u)) c.in_ok-others.ensures ∙ operands_are u c.args.others.now in
    retell _ _ _ c.put.result (ap (operation Either a b) tests ∙ sym (chain_is a b (test_trees u c.args.others.now) c.requires.apart)) c.put.ensures.made
