-- A well formed expression is resolved to one as the grammar gives.
use Rattle.std.proofs.Common.{◌≡◌, ℕ, Bool, true, false, ◌&&◌, if◌then◌else◌, List, [], ◌∷◌, map, Option, Some, None, IfSome, bytes_eq, refl}
use Rattle.std.specs.List.{find, AllByRecursion}
use Rattle.wf_base.specs.BaseTable.{row_of}
use Rattle.wf_ast.specs.declared.operators.Op.{Op}
use Rattle.wf_ast.specs.ParsedTree as parsed
use Rattle.wf_ast.specs.ParsedTree.{ExprTree, PartTree, LinkTrees, GivenTrees}
use Rattle.wf_ast.specs.WellFormed.{has_its_operands, formed_expr, formed_part, formed_links, formed_given, formed_type}
use Rattle.wf_ast.proofs.BoolLemmas.{both, and-true}
use Rattle.wf_named.specs.NamedTree.{NamedArgTrees}
use Rattle.wf_named.specs.Grammar.{has_operands, by_grammar, end_by_grammar, links_by_grammar, args_by_grammar}
use Rattle.wf_names_rules.specs.declared.callees.Callee.{Callee}
use Rattle.wf_names_rules.specs.declared.callees.Callee.TheVariants as callees
use Rattle.wf_names_rules.specs.Declarations.{is_spelt}
use Rattle.wf_names_resolve.specs.Standing.{Standing}
use Rattle.wf_names_resolve.specs.Resolved.{NamedGiven, with_arg, args_named, args_spelt, args_for, resolved_expr, resolved_part, resolved_links, resolved_given}

-- The value is as the grammar gives.
abbrev pub GivenIsKept : NamedGiven → Type 0
GivenIsKept g = by_grammar g.value ≡ true

abbrev pub GivenAreKept : List NamedGiven → Type 0
GivenAreKept given = AllByRecursion GivenIsKept given

-- What a call takes is among what is given.
found-kept : (test : NamedGiven → Bool) (given : List NamedGiven) → GivenAreKept given → IfSome (find test given) GivenIsKept
found-kept test [] a = tt
found-kept test (g ∷ given) a = by_case (test g) (found-kept test given a.1)
  where
    by_case : (b : Bool) → IfSome (find test given) GivenIsKept → IfSome (if b then Some g else find test given) GivenIsKept
    by_case true others = a.0
    by_case false others = others

with-arg-kept : (o : Option NamedGiven) (others : NamedArgTrees) → IfSome o GivenIsKept → args_by_grammar others ≡ true → args_by_grammar (with_arg o others) ≡ true
with-arg-kept None others h k = k
with-arg-kept (Some g) others h k = and-true (by_grammar g.value) (args_by_grammar others) h k

named-kept : (given : List NamedGiven) → GivenAreKept given → (wanted : List ℕ) → args_by_grammar (args_named given wanted) ≡ true
named-kept given a [] = refl
named-kept given a (text ∷ texts) =
    with-arg-kept (find (λ g. is_spelt text g.name) given) (args_named given texts) (found-kept (λ g. is_spelt text g.name) given a) (named-kept given a texts)

spelt-kept : (bytes : ℕ → List ℕ) (given : List NamedGiven) → GivenAreKept given → (wanted : List (List ℕ)) → args_by_grammar (args_spelt bytes given wanted) ≡ true
spelt-kept bytes given a [] = refl
spelt-kept bytes given a (name ∷ names) =
    let test : NamedGiven → Bool = λ g. bytes_eq name (bytes g.name.text.0) in
    with-arg-kept (find test given) (args_spelt bytes given names) (found-kept test given a) (spelt-kept bytes given a names)

pub args-kept : (k : Standing) (callee : Callee) (given : List NamedGiven) → GivenAreKept given → args_by_grammar (args_for k callee given) ≡ true
args-kept k (callees.Own m) given a = named-kept given a (k.args m)
args-kept k (callees.Base sig) given a = spelt-kept k.bytes given a (map (λ arg. arg.0) (row_of sig).args)
args-kept k (callees.Hidden m) given a = refl
args-kept k callees.Foreign given a = refl
args-kept k callees.Missing given a = refl
args-kept k callees.Baseless given a = refl

module _ (k : Standing) where
  operands-kept : (op : Op) (links : LinkTrees) → has_its_operands op links ≡ true → has_operands op (resolved_links k links) ≡ true
  operands-kept op parsed.no_link h = absurd (cc h)
  operands-kept op (parsed.link sign e parsed.no_link) h = refl
  operands-kept op (parsed.link sign e (parsed.link sign_behind f others)) h = h

  mutual
    pub expr-kept : (e : ExprTree) → formed_expr e ≡ true → by_grammar (resolved_expr k e) ≡ true
    expr-kept (parsed.number value at) h = h
    expr-kept (parsed.own_status text) h = refl
    expr-kept (parsed.base_status text at) h = refl
    expr-kept (parsed.fine at) h = refl
    expr-kept (parsed.truth value at) h = refl
    expr-kept (parsed.path path) h = refl
    expr-kept (parsed.index base place at) h = expr-kept place h
    expr-kept (parsed.slice base from to at) h =
        let ends = both (formed_part from) (formed_part to) h in
        and-true (end_by_grammar (resolved_part k from)) (end_by_grammar (resolved_part k to)) (part-kept from ends.0) (part-kept to ends.1)
    expr-kept (parsed.answer (parsed.call on name mark given)) h = args-kept k (k.callee on name.text.0) (resolved_given k given) (given-kept given h)
    expr-kept (parsed.chain op first links at) h =
        let parts = both (has_its_operands op links) (formed_expr first && formed_links links) h in
        let operands = both (formed_expr first) (formed_links links) parts.1 in
        and-true (has_operands op (resolved_links k links)) (by_grammar (resolved_expr k first) && links_by_grammar (resolved_links k links)) (operands-kept op links parts.0)
        (and-true (by_grammar (resolved_expr k first)) (links_by_grammar (resolved_links k links)) (expr-kept first operands.0) (links-kept links operands.1))
    expr-kept (parsed.convert of to at) h = let parts = both (formed_expr of) (formed_type to) h in expr-kept of parts.0
    expr-kept (parsed.negation of at) h = expr-kept of h

    pub part-kept : (part : PartTree) → formed_part part ≡ true → end_by_grammar (resolved_part k part) ≡ true
    part-kept parsed.absent h = refl
    part-kept (parsed.present part) h = expr-kept part h

    links-kept : (links : LinkTrees) → formed_links links ≡ true → links_by_grammar (resolved_links k links) ≡ true
    links-kept parsed.no_link h = refl
    links-kept (parsed.link sign operand others) h =
        let parts = both (formed_expr operand) (formed_links others) h in
        and-true (by_grammar (resolved_expr k operand)) (links_by_grammar (resolved_links k others)) (expr-kept operand parts.0) (links-kept others parts.1)

    pub given-kept : (given : GivenTrees) → formed_given given ≡ true → GivenAreKept (resolved_given k given)
    given-kept parsed.no_given h = tt
    given-kept (parsed.more_given name value others) h =
        let parts = both (formed_expr value) (formed_given others) h in
        (expr-kept value parts.0, given-kept others parts.1)
