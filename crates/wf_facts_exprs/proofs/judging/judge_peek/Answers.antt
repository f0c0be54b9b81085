use Rattle.std.proofs.Common.{◌≡◌, ◌∙◌, sym, ap, subst}
use Rattle.std.specs.Prelude.{Ok, Err}
use Rattle.wf_text.specs.declared.rules.Rule.TheVariants.{B9}
use Rattle.wf_num.specs.Ranges.{width_range}
use Rattle.wf_base.specs.BaseTable.{bits_of, bytes_of, peek_width}
use Rattle.wf_ast.specs.TypedTree.{ValueTree, reader_length, asked, number, at_least}
use Rattle.wf_ast.specs.TypedTrees.{num_in, io_in, tree_of, place_of_node}
use Rattle.wf_facts_exprs.specs.Knowledge.{told}
use Rattle.wf_facts_exprs.specs.Claims.{claims_in, single}
use Rattle.wf_facts_exprs.specs.Given.{gives_sides}
use Rattle.wf_facts_exprs.specs.Operands.{ruled}
use Rattle.wf_facts_exprs.proofs.JudgeLemmas.{peek-given, peek-ok, peek-err}
use Rattle.wf_facts_exprs.proofs.judging.judge_peek.Goals as goal

pub returns-then-gives_ranged-clause-answer : goal.returns-then-gives_ranged-clause-answer
returns-then-gives_ranged-clause-answer c =
    let fs = claims_in c.args.t.now (told c.args.facts.now) in
    let p = place_of_node c.args.t.now c.args.e.0 in
    let a = io_in (tree_of c.args.t.now c.args.on) in
    let R = λ (t : ValueTree). Ok c.of_bits.result ≡ ruled fs (num_in t) in
    let known : c.gives_ranged.result ≡ gives_sides fs (single (asked p reader_length a)) at_least (single (number p (bytes_of (peek_width c.args.form)))) =
    c.gives_ranged.ensures ∙ peek-given fs c.args.t.now c.args.on p c.bytes_in-n.result c.length_side.result.side c.length_side.result.range c.number_range.result c.requires.kind c.length_side.ensures.kind c.length_side.ensures.side c.length_side.ensures.range c.number_range.ensures.range
    ∙ ap (λ n. gives_sides fs (single (asked p reader_length a)) at_least (single (number p n))) c.bytes_in-n.ensures in
    subst R (sym c.requires.tree) (peek-ok fs p c.args.form a c.gives_ranged.result c.of_bits.result known c.if-gives_ranged.true (c.of_bits.ensures.exact ∙ ap width_range (c.bits_in.ensures.bits ∙ ap bits_of c.width.ensures)))

pub returns-else-gives_ranged-clause-answer : goal.returns-else-gives_ranged-clause-answer
returns-else-gives_ranged-clause-answer c =
    let fs = claims_in c.args.t.now (told c.args.facts.now) in
    let p = place_of_node c.args.t.now c.args.e.0 in
    let a = io_in (tree_of c.args.t.now c.args.on) in
    let R = λ (t : ValueTree). Err (record { rule = B9; at = c.expr_place.result }) ≡ ruled fs (num_in t) in
    let known : c.gives_ranged.result ≡ gives_sides fs (single (asked p reader_length a)) at_least (single (number p (bytes_of (peek_width c.args.form)))) =
    c.gives_ranged.ensures ∙ peek-given fs c.args.t.now c.args.on p c.bytes_in-n.result c.length_side.result.side c.length_side.result.range c.number_range.result c.requires.kind c.length_side.ensures.kind c.length_side.ensures.side c.length_side.ensures.range c.number_range.ensures.range
    ∙ ap (λ n. gives_sides fs (single (asked p reader_length a)) at_least (single (number p n))) c.bytes_in-n.ensures in
    subst R (sym c.requires.tree) (peek-err fs p c.expr_place.result c.args.form a c.gives_ranged.result known c.if-gives_ranged.false c.expr_place.ensures)
