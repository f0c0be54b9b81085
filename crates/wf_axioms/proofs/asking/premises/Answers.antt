use Rattle.std.proofs.Common.{◌≡◌, None, false, rules}
use Rattle.std.specs.Prelude.{Ok}
use Rattle.std.proofs.lemmas.List.Elements.{All-map}
use Rattle.wf_ast.specs.TypedTrees.{cond_in, num_in, text_of, tree_of}
use Rattle.wf_facts_exprs.specs.Demands.{num_refusal}
use Rattle.wf_axioms.specs.Matching.{given_trees, premises_for}
use Rattle.wf_axioms.specs.Items.{claim_of_item, claims_of_items, IsFine}
use Rattle.wf_axioms.proofs.Follows.{premises-fine}
use Rattle.wf_axioms.proofs.ItemLemmas.{all_turned}
use Rattle.wf_axioms.proofs.asking.premises.Goals as goal

pub returns-in-Some-items-clause-fine : goal.returns-in-Some-items-clause-fine
returns-in-Some-items-clause-fine c = λ known h all.
    let t = c.args.t.now in
    let e : premises_for c.args.a (cond_in (tree_of t c.args.goal)) (given_trees t c.args.given.now) ≡ Ok (claims_of_items t c.in-Some-items.p) = search rules in
    let given = All-map (λ g. num_refusal known false g.1 ≡ None) (λ g. (text_of t g.0, num_in (tree_of t g.1))) c.args.given.now all in
    all_turned (IsFine known) (claim_of_item t) _ (premises-fine c.args.a known (cond_in (tree_of t c.args.goal)) (given_trees t c.args.given.now) (claims_of_items t c.in-Some-items.p) h given e)
