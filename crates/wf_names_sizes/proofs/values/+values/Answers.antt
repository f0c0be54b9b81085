use Rattle.std.proofs.Common.{◌∙◌, length, take, Option, sym, ap, subst, arith}
use Rattle.wf_ast.specs.ParsedTrees.{expr_trees, links_at}
use Rattle.wf_ast.specs.ParsedParts.{LinksBelow}
use Rattle.wf_ast.proofs.AboveLemmas.{links_above, link_at_place}
use Rattle.wf_ast.proofs.TreeLemmas.{LinksBelow-more}
use Rattle.wf_names_rules.specs.Declarations.{bytes_of}
use Rattle.wf_names_rules.specs.ConstantValues.{Running, started, ended, run_on}
use Rattle.wf_names_sizes.specs.Capped.{sized, Runs}
use Rattle.wf_names_sizes.specs.ValuesBy.{constant_by, links_by}
use Rattle.wf_names_sizes.proofs.ValueLemmas.{links_more, take-whole}
use Rattle.wf_names_sizes.proofs.values.+values.Goals as goal

pub value-chain_value-requires : goal.value-chain_value-requires
value-chain_value-requires t c =
    let parts = rw c.in-Chain.is at c.expr-node.ensures.parts in
    let below : LinksBelow c.args.e.0 c.as_slice.result.now = rw c.as_slice.ensures parts.1 in
    (omega (arith, links_above c.args.e.0 c.as_slice.result.now below, c.decreases), LinksBelow-more c.args.e.0 (length c.args.env.now.parsed.now.exprs) (omega (arith, c.requires)) c.as_slice.result.now below)

pub value-returns-in-Chain : goal.value-returns-in-Chain
value-returns-in-Chain t c =
    let bytes = bytes_of c.args.env.now.parsed.now.texts in
    let constant = constant_by c.args.env.now in
    let ts = expr_trees c.args.env.now.parsed.now.exprs in
    let whole = (rw c.as_slice.ensures at c.chain_value.ensures) ∙ ap (λ v. ended (links_by bytes constant c.in-Chain.op (started v) (links_at ts c.in-Chain.links))) c.value-first.ensures in
    rw (c.expr-node.ensures.made, c.in-Chain.is) whole

pub chain_value-loop-link-init : goal.chain_value-loop-link-init
chain_value-loop-link-init t c = (c.started-chain.ensures.stays c.args.op, c.started-chain.ensures.runs)

pub chain_value-value-requires : goal.chain_value-value-requires
chain_value-value-requires t c =
    let place = link_at_place (length c.args.env.now.parsed.now.exprs) c.args.links.now c.loop-link.link-index _ c.loop-link-test.true c.requires in
    (omega (arith, place.0, c.decreases), place.1)

pub chain_value-run-chain-requires : goal.chain_value-run-chain-requires
chain_value-run-chain-requires t c = c.loop-link.invariant.0

pub chain_value-loop-link-preserved : goal.chain_value-loop-link-preserved
chain_value-loop-link-preserved t c =
    let bytes = bytes_of c.args.env.now.parsed.now.texts in
    let constant = constant_by c.args.env.now in
    let ts = expr_trees c.args.env.now.parsed.now.exprs in
    let first = started (sized c.args.first) in
    let r = links_by bytes constant c.args.op first (links_at ts (take c.loop-link.link-index c.args.links.now)) in
    let more = ap (run_on c.args.op r) c.value.ensures ∙ sym (links_more bytes constant c.args.op ts first c.args.links.now c.loop-link.link-index _ c.loop-link-test.true) in
    let P : Option Running → Type 0 = Runs c.run-chain.result in
    (c.run-chain.ensures.stays, subst P more (c.run-chain.ensures.runs r c.loop-link.invariant.1))

pub chain_value-returns : goal.chain_value-returns
chain_value-returns t c =
    let bytes = bytes_of c.args.env.now.parsed.now.texts in
    let constant = constant_by c.args.env.now in
    let ts = expr_trees c.args.env.now.parsed.now.exprs in
    let first = started (sized c.args.first) in
    c.ended.ensures (links_by bytes constant c.args.op first (links_at ts (take c.loop-link.link-index c.args.links.now))) c.loop-link.invariant.1
    ∙ ap (λ ls. ended (links_by bytes constant c.args.op first (links_at ts ls))) (take-whole c.args.links.now c.loop-link.link-index c.loop-link-test.false)
