use Rattle.std.proofs.Common.{◌≡◌, ◌∷◌, [], Option, OnOk, subst}
use Rattle.wf_text.specs.declared.rules.Refusal.{Refusal}
use Rattle.wf_named.specs.NamedTrees.{stmt_trees, block_at}
use Rattle.wf_types_rules.specs.Parts.{whole_body, block_parts}
use Rattle.wf_types_stmts.proofs.BlockLemmas.{two_parts}
use Rattle.wf_types_decls.proofs.packages.judge_body.Goals as goal

pub returns : goal.returns
returns c =
    let n = c.args.here.now.nodes.now in
    let b = block_at (stmt_trees n.texts n.exprs n.stmts) c.args.body.now in
    let P : Option Refusal → Type 0 = λ x. OnOk c.judge_block.result (c.judge_block.new.found ≡ x) in
    subst P (two_parts c.args.here.now.around.now c.args.found.now c.judge_whole_body.new.found (whole_body b ∷ []) (block_parts b) c.judge_whole_body.ensures) c.judge_block.ensures
