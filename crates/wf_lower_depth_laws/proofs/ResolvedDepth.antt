-- Resolving doesn't add brackets.
use Rattle.std.proofs.Common.{◌≡◌, ℕ, ◌-◌, Bool, true, false, ◌&&◌, if◌then◌else◌, List, [], ◌∷◌, ◌++◌, map, Option, Some, None, IfSome, bytes_eq, refl}
use Rattle.std.specs.Prelude.{nat_le}
use Rattle.std.specs.List.{list_all, find, AllByRecursion}
use Rattle.wf_base.specs.BaseTable.{row_of}
use Rattle.wf_ast.specs.declared.parsed.Name.{Name}
use Rattle.wf_ast.specs.ParsedTree as parsed
use Rattle.wf_ast.specs.ParsedTree.{ExprTree, PartTree, LinkTrees, GivenTrees, CallTree, TargetTree, StmtTree, BlockTree, ArmTrees, DeclTree}
use Rattle.wf_ast.proofs.BoolLemmas.{both, and-true}
use Rattle.wf_named.specs.NamedTree.{NamedArgTrees, NamedStmtTree, NamedBlockTree, NamedMethodTree}
use Rattle.wf_names_rules.specs.declared.callees.Callee.{Callee}
use Rattle.wf_names_rules.specs.declared.callees.Callee.TheVariants as callees
use Rattle.wf_names_rules.specs.Declarations.{Declared, Method, variables, locals_of, is_spelt}
use Rattle.wf_names_rules.specs.Uses.{method_scope}
use Rattle.wf_names_resolve.specs.Standing.{Standing, standing_at}
use Rattle.wf_names_resolve.specs.Resolved.{NamedGiven, with_arg, args_named, args_spelt, args_for, resolved_expr, resolved_part, resolved_links, resolved_given, resolved_call, resolved_target, with_stmt, resolved_stmt, resolved_block, resolved_arms}
use Rattle.wf_names_resolve.specs.Package.{resolved_methods}
use Rattle.wf_lower_depth_laws.specs.WrittenDepth.{Spot, alone, beside_sign, behind_not, boxes_sign, boxes_not, may_open, room_in, expr_opens, part_opens, links_open, given_opens, call_opens, target_opens, stmt_opens, block_opens, arms_open, decl_opens}
use Rattle.wf_lower_depth_laws.specs.NamedDepth as named
use Rattle.wf_lower_depth_laws.specs.DepthLaws.{ResolvingKeepsDepth}

-- ---- arguments

abbrev GivenOpens : ℕ → NamedGiven → Type 0
GivenOpens r g = named.expr_opens alone r g.value ≡ true

abbrev AllOpen : ℕ → List NamedGiven → Type 0
AllOpen r given = AllByRecursion (GivenOpens r) given

-- What a call takes is among what is given.
found_kept : (r : ℕ) (test : NamedGiven → Bool) (given : List NamedGiven) → AllOpen r given → IfSome (find test given) (GivenOpens r)
found_kept r test [] a = tt
found_kept r test (g ∷ given) a = by_case (test g) (found_kept r test given a.1)
  where
    by_case : (b : Bool) → IfSome (find test given) (GivenOpens r) → IfSome (if b then Some g else find test given) (GivenOpens r)
    by_case true others = a.0
    by_case false others = others

with_arg_kept : (r : ℕ) (o : Option NamedGiven) (others : NamedArgTrees) → IfSome o (GivenOpens r) → named.args_open r others ≡ true → named.args_open r (with_arg o others) ≡ true
with_arg_kept r None others h k = k
with_arg_kept r (Some g) others h k = and-true (named.expr_opens alone r g.value) (named.args_open r others) h k

named_kept : (r : ℕ) (given : List NamedGiven) → AllOpen r given → (wanted : List ℕ) → named.args_open r (args_named given wanted) ≡ true
named_kept r given a [] = refl
named_kept r given a (text ∷ texts) =
    with_arg_kept r (find (λ g. is_spelt text g.name) given) (args_named given texts) (found_kept r (λ g. is_spelt text g.name) given a) (named_kept r given a texts)

spelt_kept : (r : ℕ) (bytes : ℕ → List ℕ) (given : List NamedGiven) → AllOpen r given → (wanted : List (List ℕ)) → named.args_open r (args_spelt bytes given wanted) ≡ true
spelt_kept r bytes given a [] = refl
spelt_kept r bytes given a (name ∷ names) =
    let test : NamedGiven → Bool = λ g. bytes_eq name (bytes g.name.text.0) in
    with_arg_kept r (find test given) (args_spelt bytes given names) (found_kept r test given a) (spelt_kept r bytes given a names)

args_kept : (r : ℕ) (k : Standing) (callee : Callee) (given : List NamedGiven) → AllOpen r given → named.args_open r (args_for k callee given) ≡ true
args_kept r k (callees.Own m) given a = named_kept r given a (k.args m)
args_kept r k (callees.Base sig) given a = spelt_kept r k.bytes given a (map (λ arg. arg.0) (row_of sig).args)
args_kept r k (callees.Hidden m) given a = refl
args_kept r k callees.Foreign given a = refl
args_kept r k callees.Missing given a = refl
args_kept r k callees.Baseless given a = refl

-- The declaration of a local leaves no statement.
abbrev kept_opens : ℕ → Option NamedStmtTree → Bool
kept_opens r None = true
kept_opens r (Some s) = named.stmt_opens r s

with_stmt_kept : (r : ℕ) (o : Option NamedStmtTree) (others : NamedBlockTree) → kept_opens r o ≡ true → named.block_opens r others ≡ true → named.block_opens r (with_stmt o others) ≡ true
with_stmt_kept r None others h k = k
with_stmt_kept r (Some s) others h k = and-true (named.stmt_opens r s) (named.block_opens r others) h k

-- A block in braces.
braced : (r : ℕ) (x y : Bool) → (x ≡ true → y ≡ true) → (nat_le 1 r && x) ≡ true → (nat_le 1 r && y) ≡ true
braced r x y f h =
    let q = both (nat_le 1 r) x h in
    and-true (nat_le 1 r) y q.0 (f q.1)

module _ (k : Standing) where
  -- ---- expressions

  mutual
    expr_kept : (spot : Spot) (r : ℕ) (e : ExprTree) → expr_opens spot r e ≡ true → named.expr_opens spot r (resolved_expr k e) ≡ true
    expr_kept spot r (parsed.number value at) h = refl
    expr_kept spot r (parsed.own_status text) h = refl
    expr_kept spot r (parsed.base_status text at) h = refl
    expr_kept spot r (parsed.fine at) h = refl
    expr_kept spot r (parsed.truth value at) h = refl
    expr_kept spot r (parsed.path path) h = refl
    expr_kept spot r (parsed.index base place at) h =
        let q = both (nat_le 1 r) (expr_opens alone (r - 1) place) h in
        and-true (nat_le 1 r) (named.expr_opens alone (r - 1) (resolved_expr k place)) q.0 (expr_kept alone (r - 1) place q.1)
    expr_kept spot r (parsed.slice base from to at) h =
        let q = both (nat_le 1 r) (part_opens (r - 1) from && part_opens (r - 1) to) h in
        let ends = both (part_opens (r - 1) from) (part_opens (r - 1) to) q.1 in
        and-true (nat_le 1 r) (named.part_opens (r - 1) (resolved_part k from) && named.part_opens (r - 1) (resolved_part k to)) q.0
        (and-true (named.part_opens (r - 1) (resolved_part k from)) (named.part_opens (r - 1) (resolved_part k to)) (part_kept (r - 1) from ends.0) (part_kept (r - 1) to ends.1))
    expr_kept spot r (parsed.answer (parsed.call on name mark given)) h =
        let q = both (nat_le 1 r) (given_opens (r - 1) given) h in
        and-true (nat_le 1 r) (named.args_open (r - 1) (args_for k (k.callee on name.text.0) (resolved_given k given))) q.0
        (args_kept (r - 1) k (k.callee on name.text.0) (resolved_given k given) (given_kept (r - 1) given q.1))
    expr_kept spot r (parsed.chain op first links at) h =
        let b = boxes_sign spot in
        let n = room_in (boxes_sign spot) r in
        let q = both (may_open b r) (expr_opens beside_sign n first && links_open n links) h in
        let operands = both (expr_opens beside_sign n first) (links_open n links) q.1 in
        and-true (may_open b r) (named.expr_opens beside_sign n (resolved_expr k first) && named.links_open n (resolved_links k links)) q.0
        (and-true (named.expr_opens beside_sign n (resolved_expr k first)) (named.links_open n (resolved_links k links)) (expr_kept beside_sign n first operands.0) (links_kept n links operands.1))
    expr_kept spot r (parsed.convert of to at) h =
        let b = boxes_sign spot in
        let n = room_in (boxes_sign spot) r in
        let q = both (may_open b r) (expr_opens beside_sign n of) h in
        and-true (may_open b r) (named.expr_opens beside_sign n (resolved_expr k of)) q.0 (expr_kept beside_sign n of q.1)
    expr_kept spot r (parsed.negation of at) h =
        let b = boxes_not spot in
        let n = room_in (boxes_not spot) r in
        let q = both (may_open b r) (expr_opens behind_not n of) h in
        and-true (may_open b r) (named.expr_opens behind_not n (resolved_expr k of)) q.0 (expr_kept behind_not n of q.1)

    part_kept : (r : ℕ) (part : PartTree) → part_opens r part ≡ true → named.part_opens r (resolved_part k part) ≡ true
    part_kept r parsed.absent h = refl
    part_kept r (parsed.present part) h = expr_kept alone r part h

    links_kept : (r : ℕ) (links : LinkTrees) → links_open r links ≡ true → named.links_open r (resolved_links k links) ≡ true
    links_kept r parsed.no_link h = refl
    links_kept r (parsed.link sign operand others) h =
        let q = both (expr_opens beside_sign r operand) (links_open r others) h in
        and-true (named.expr_opens beside_sign r (resolved_expr k operand)) (named.links_open r (resolved_links k others)) (expr_kept beside_sign r operand q.0) (links_kept r others q.1)

    given_kept : (r : ℕ) (given : GivenTrees) → given_opens r given ≡ true → AllOpen r (resolved_given k given)
    given_kept r parsed.no_given h = tt
    given_kept r (parsed.more_given name value others) h =
        let q = both (expr_opens alone r value) (given_opens r others) h in
        (expr_kept alone r value q.0, given_kept r others q.1)

  -- ---- statements

  call_kept : (r : ℕ) (c : CallTree) → call_opens r c ≡ true → named.call_opens r (resolved_call k c) ≡ true
  call_kept r (parsed.call on name mark given) h =
      let q = both (nat_le 1 r) (given_opens (r - 1) given) h in
      and-true (nat_le 1 r) (named.args_open (r - 1) (args_for k (k.callee on name.text.0) (resolved_given k given))) q.0
      (args_kept (r - 1) k (k.callee on name.text.0) (resolved_given k given) (given_kept (r - 1) given q.1))

  target_kept : (r : ℕ) (t : TargetTree) → target_opens r t ≡ true → named.target_opens r (resolved_target k t) ≡ true
  target_kept r (parsed.to_path path) h = refl
  target_kept r (parsed.to_element base place at) h =
      let q = both (nat_le 1 r) (expr_opens alone (r - 1) place) h in
      and-true (nat_le 1 r) (named.expr_opens alone (r - 1) (resolved_expr k place)) q.0 (expr_kept alone (r - 1) place q.1)

  mutual
    stmt_kept : (r : ℕ) (loops : List (Option Name)) (s : StmtTree) → stmt_opens r s ≡ true → kept_opens r (resolved_stmt k loops s) ≡ true
    stmt_kept r loops (parsed.var name of at) h = refl
    stmt_kept r loops (parsed.assign target op sign value at) h =
        let q = both (target_opens r target) (expr_opens alone r value) h in
        and-true (named.target_opens r (resolved_target k target)) (named.expr_opens alone r (resolved_expr k value)) (target_kept r target q.0) (expr_kept alone r value q.1)
    stmt_kept r loops (parsed.keep target c at) h =
        let q = both (target_opens r target) (call_opens r c) h in
        and-true (named.target_opens r (resolved_target k target)) (named.call_opens r (resolved_call k c)) (target_kept r target q.0) (call_kept r c q.1)
    stmt_kept r loops (parsed.do_call c at) h = call_kept r c h
    stmt_kept r loops (parsed.branch arms at) h = arms_kept r loops arms h
    stmt_kept r loops (parsed.loop label condition clauses body at) h =
        let q = both (expr_opens alone r condition) (nat_le 1 r && block_opens (r - 1) body) h in
        let inside : List (Option Name) = loops ++ label ∷ [] in
        and-true (named.expr_opens alone r (resolved_expr k condition)) (nat_le 1 r && named.block_opens (r - 1) (resolved_block k inside body)) (expr_kept alone r condition q.0) (braced r (block_opens (r - 1) body) (named.block_opens (r - 1) (resolved_block k inside body)) (block_kept (r - 1) inside body) q.1)
    stmt_kept r loops (parsed.leave label at) h = refl
    stmt_kept r loops (parsed.again label at) h = refl
    stmt_kept r loops (parsed.back value at) h = part_kept r value h
    stmt_kept r loops (parsed.suspend value at) h = refl
    stmt_kept r loops (parsed.claim goal by at) h = refl

    pub block_kept : (r : ℕ) (loops : List (Option Name)) (b : BlockTree) → block_opens r b ≡ true → named.block_opens r (resolved_block k loops b) ≡ true
    block_kept r loops (parsed.close at) h = refl
    block_kept r loops (parsed.more_stmts first others) h =
        let q = both (stmt_opens r first) (block_opens r others) h in
        with_stmt_kept r (resolved_stmt k loops first) (resolved_block k loops others) (stmt_kept r loops first q.0) (block_kept r loops others q.1)

    arms_kept : (r : ℕ) (loops : List (Option Name)) (arms : ArmTrees) → arms_open r arms ≡ true → named.arms_open r (resolved_arms k loops arms) ≡ true
    arms_kept r loops parsed.no_else h = refl
    arms_kept r loops (parsed.otherwise body) h = braced r (block_opens (r - 1) body) (named.block_opens (r - 1) (resolved_block k loops body)) (block_kept (r - 1) loops body) h
    arms_kept r loops (parsed.arm condition body others) h =
        let q = both (expr_opens alone r condition) ((nat_le 1 r && block_opens (r - 1) body) && arms_open r others) h in
        let inner = both (nat_le 1 r && block_opens (r - 1) body) (arms_open r others) q.1 in
        and-true (named.expr_opens alone r (resolved_expr k condition)) ((nat_le 1 r && named.block_opens (r - 1) (resolved_block k loops body)) && named.arms_open r (resolved_arms k loops others)) (expr_kept alone r condition q.0)
        (and-true (nat_le 1 r && named.block_opens (r - 1) (resolved_block k loops body)) (named.arms_open r (resolved_arms k loops others)) (braced r (block_opens (r - 1) body) (named.block_opens (r - 1) (resolved_block k loops body)) (block_kept (r - 1) loops body) inner.0) (arms_kept r loops others inner.1))

-- ---- the package

abbrev method_opens : NamedMethodTree → Bool
method_opens m = named.block_opens 47 m.body

methods_kept : (d : Declared) (decls : List DeclTree) → list_all decl_opens decls ≡ true → list_all method_opens (resolved_methods d decls) ≡ true
methods_kept d [] h = refl
methods_kept d (parsed.status public text at ∷ decls) h = methods_kept d decls h
methods_kept d (parsed.constant public name of value at ∷ decls) h = methods_kept d decls h
methods_kept d (parsed.structure public name mark fields at ∷ decls) h = methods_kept d decls h
methods_kept d (parsed.method public owner name mark args result body at ∷ decls) h =
    let m : Method = record { public = public; owner = owner; name = name; args = variables args; result = result; locals = locals_of body; body = body } in
    let q = both (block_opens 47 body) (list_all decl_opens decls) h in
    and-true (named.block_opens 47 (resolved_block (standing_at d (method_scope d m)) [] body)) (list_all method_opens (resolved_methods d decls))
    (block_kept (standing_at d (method_scope d m)) 47 [] body q.0) (methods_kept d decls q.1)

pub resolving_keeps_depth : ResolvingKeepsDepth
resolving_keeps_depth d name decls order struct_order h = methods_kept d decls h
