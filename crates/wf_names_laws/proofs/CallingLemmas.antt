-- What a resolved body calls is what the parsed one calls.
use Rattle.std.proofs.Common.{◌≡◌, ℕ, Bool, true, false, ◌&&◌, if◌then◌else◌, List, [], ◌∷◌, ◌++◌, map, Option, Some, None, bytes_eq, refl}
use Rattle.std.specs.List.{list_all, find}
use Rattle.wf_base.specs.BaseTable.{row_of}
use Rattle.wf_ast.specs.declared.parsed.Name.{Name}
use Rattle.wf_ast.specs.declared.parsed.Path.{Path}
use Rattle.wf_ast.specs.declared.parsed.Receiver.{Receiver}
use Rattle.wf_ast.specs.declared.parsed.Receiver.TheVariants as receivers
use Rattle.wf_ast.specs.ParsedTree as parsed
use Rattle.wf_ast.specs.ParsedTree.{ExprTree, PartTree, LinkTrees, GivenTrees, CallTree, TargetTree, ClauseTrees, ViaTree, StmtTree, BlockTree, ArmTrees}
use Rattle.wf_named.specs.NamedTree.{NamedArgTrees, NamedStmtTree, NamedBlockTree}
use Rattle.wf_named.specs.WellNamed.{known_callee, expr_calls_only, part_calls_only, links_calls_only, args_calls_only, call_calls_only, target_calls_only, clauses_call_only, letters_call_only, via_calls_only, stmt_calls_only, block_calls_only, arms_call_only}
use Rattle.wf_names_rules.specs.declared.callees.Callee.{Callee}
use Rattle.wf_names_rules.specs.declared.callees.Callee.TheVariants as callees
use Rattle.wf_names_rules.specs.Declarations.{Declared, is_spelt}
use Rattle.wf_names_rules.specs.Uses as uses
use Rattle.wf_names_rules.specs.Uses.{Use, Scope, receiver_uses, uses_of, part_uses, link_uses, given_uses, call_uses, type_uses, target_uses, clause_uses, via_uses, stmt_uses, block_uses, arm_uses}
use Rattle.wf_names_rules.specs.Meanings.{known_at, this_callee, callee_on, callee_of}
use Rattle.wf_names_resolve.specs.Standing.{Standing, standing_at}
use Rattle.wf_names_resolve.specs.Resolved.{NamedGiven, callee_at, with_arg, args_named, args_spelt, args_for, resolved_expr, resolved_part, resolved_links, resolved_given, resolved_call, resolved_target, resolved_clauses, letters_of, resolved_via, with_stmt, resolved_stmt, resolved_block, resolved_arms}

pub both : (x y : Bool) → (x && y) ≡ true → (x ≡ true) × (y ≡ true)
both true y h = (refl, h)
both false y h = absurd (cc h)

pub both-so : (x y : Bool) → x ≡ true → y ≡ true → (x && y) ≡ true
both-so true y h k = k
both-so false y h k = absurd (cc h)

-- A callee that is known, and that may be called.
abbrev pub fine_callee : (ℕ → Bool) → Callee → Bool
fine_callee known (callees.Own m) = known m
fine_callee known (callees.Base sig) = true
fine_callee known _ = false

module _ (d : Declared) (scope : Scope) (known : ℕ → Bool) where
  abbrev pub is_fine : Use → Bool
  is_fine (uses.method c) = fine_callee known (callee_of (known_at d scope) c)
  is_fine _ = true

  abbrev pub are_fine : List Use → Bool
  are_fine us = list_all is_fine us

  abbrev k : Standing
  k = standing_at d scope

  pub fine-parts : (us vs : List Use) → are_fine (us ++ vs) ≡ true → (are_fine us ≡ true) × (are_fine vs ≡ true)
  fine-parts [] vs h = (refl, h)
  fine-parts (u ∷ us) vs h =
      let p = both (is_fine u) (are_fine (us ++ vs)) h in
      let q = fine-parts us vs p.1 in
      (both-so (is_fine u) (are_fine us) p.0 q.0, q.1)

  -- What a call resolves to.
  this-known : (at : _) (m : Option ℕ) (elsewhere : Bool) → fine_callee known (this_callee m elsewhere) ≡ true → known_callee known (callee_at k (receivers.This at) (this_callee m elsewhere)) ≡ true
  this-known at (Some m) elsewhere h = h
  this-known at None true h = absurd (cc h)
  this-known at None false h = absurd (cc h)

  path-known : (path : Path) (callee : Callee) → fine_callee known callee ≡ true → known_callee known (callee_at k (receivers.Path path) callee) ≡ true
  path-known path (callees.Own m) h = h
  path-known path (callees.Base sig) h = refl
  path-known path (callees.Hidden m) h = absurd (cc h)
  path-known path callees.Foreign h = absurd (cc h)
  path-known path callees.Missing h = absurd (cc h)
  path-known path callees.Baseless h = absurd (cc h)

  callee-known : (on : Receiver) (text : ℕ) → fine_callee known (callee_on (known_at d scope) on text) ≡ true → known_callee known (callee_at k on (callee_on (known_at d scope) on text)) ≡ true
  callee-known (receivers.This at) text h = this-known at ((known_at d scope).own_method text) ((known_at d scope).is_method text) h
  callee-known (receivers.Path path) text h = path-known path (callee_on (known_at d scope) (receivers.Path path) text) h

  -- The arguments of a call are among what is given.
  abbrev given_fine : NamedGiven → Bool
  given_fine g = expr_calls_only known g.value

  abbrev option_fine : Option NamedGiven → Bool
  option_fine None = true
  option_fine (Some g) = given_fine g

  found-fine : (test : NamedGiven → Bool) (gs : List NamedGiven) → list_all given_fine gs ≡ true → option_fine (find test gs) ≡ true
  found-fine test [] h = refl
  found-fine test (g ∷ gs) h =
      let parts = both (given_fine g) (list_all given_fine gs) h in
      by_test (test g) parts.0 (found-fine test gs parts.1)
    where
      by_test : (t : Bool) → given_fine g ≡ true → option_fine (find test gs) ≡ true → option_fine (if t then Some g else find test gs) ≡ true
      by_test true first others = first
      by_test false first others = others

  with-fine : (o : Option NamedGiven) (others : NamedArgTrees) → option_fine o ≡ true → args_calls_only known others ≡ true → args_calls_only known (with_arg o others) ≡ true
  with-fine None others h r = r
  with-fine (Some g) others h r = both-so (given_fine g) (args_calls_only known others) h r

  named-only : (gs : List NamedGiven) (texts : List ℕ) → list_all given_fine gs ≡ true → args_calls_only known (args_named gs texts) ≡ true
  named-only gs [] h = refl
  named-only gs (text ∷ texts) h =
      with-fine (find (λ g. is_spelt text g.name) gs) (args_named gs texts) (found-fine (λ g. is_spelt text g.name) gs h) (named-only gs texts h)

  spelt-only : (bytes : ℕ → List ℕ) (gs : List NamedGiven) (names : List (List ℕ)) → list_all given_fine gs ≡ true → args_calls_only known (args_spelt bytes gs names) ≡ true
  spelt-only bytes gs [] h = refl
  spelt-only bytes gs (name ∷ names) h =
      with-fine (find (λ g. bytes_eq name (bytes g.name.text.0)) gs) (args_spelt bytes gs names) (found-fine (λ g. bytes_eq name (bytes g.name.text.0)) gs h) (spelt-only bytes gs names h)

  args-only : (callee : Callee) (gs : List NamedGiven) → list_all given_fine gs ≡ true → args_calls_only known (args_for k callee gs) ≡ true
  args-only (callees.Own m) gs h = named-only gs (k.args m) h
  args-only (callees.Base sig) gs h = spelt-only k.bytes gs (map (λ arg. arg.0) (row_of sig).args) h
  args-only (callees.Hidden m) gs h = refl
  args-only callees.Foreign gs h = refl
  args-only callees.Missing gs h = refl
  args-only callees.Baseless gs h = refl

  mutual
    expr-only : (e : ExprTree) → are_fine (uses_of e) ≡ true → expr_calls_only known (resolved_expr k e) ≡ true
    expr-only (parsed.number value at) h = refl
    expr-only (parsed.own_status text) h = refl
    expr-only (parsed.base_status text at) h = refl
    expr-only (parsed.fine at) h = refl
    expr-only (parsed.truth value at) h = refl
    expr-only (parsed.path path) h = refl
    expr-only (parsed.index base place at) h = expr-only place h
    expr-only (parsed.slice base from to at) h =
        let p = fine-parts (part_uses from) (part_uses to) h in
        both-so (part_calls_only known (resolved_part k from)) (part_calls_only known (resolved_part k to)) (part-only from p.0) (part-only to p.1)
    expr-only (parsed.answer c) h = call-only c h
    expr-only (parsed.chain op first links at) h =
        let p = fine-parts (uses_of first) (link_uses links) h in
        both-so (expr_calls_only known (resolved_expr k first)) (links_calls_only known (resolved_links k links)) (expr-only first p.0) (links-only links p.1)
    expr-only (parsed.convert of to at) h = expr-only of (fine-parts (uses_of of) (type_uses to) h).0
    expr-only (parsed.negation of at) h = expr-only of h

    part-only : (p : PartTree) → are_fine (part_uses p) ≡ true → part_calls_only known (resolved_part k p) ≡ true
    part-only parsed.absent h = refl
    part-only (parsed.present part) h = expr-only part h

    links-only : (ls : LinkTrees) → are_fine (link_uses ls) ≡ true → links_calls_only known (resolved_links k ls) ≡ true
    links-only parsed.no_link h = refl
    links-only (parsed.link sign operand others) h =
        let p = fine-parts (uses_of operand) (link_uses others) h in
        both-so (expr_calls_only known (resolved_expr k operand)) (links_calls_only known (resolved_links k others)) (expr-only operand p.0) (links-only others p.1)

    given-only : (gs : GivenTrees) → are_fine (given_uses gs) ≡ true → list_all given_fine (resolved_given k gs) ≡ true
    given-only parsed.no_given h = refl
    given-only (parsed.more_given name value others) h =
        let p = fine-parts (uses_of value) (given_uses others) h in
        both-so (expr_calls_only known (resolved_expr k value)) (list_all given_fine (resolved_given k others)) (expr-only value p.0) (given-only others p.1)

    call-only : (c : CallTree) → are_fine (call_uses c) ≡ true → call_calls_only known (resolved_call k c) ≡ true
    call-only (parsed.call on name mark gs) h =
        let c = parsed.call on name mark gs in
        let callee = callee_on (known_at d scope) on name.text.0 in
        let p = fine-parts (receiver_uses on) (given_uses gs ++ uses.method c ∷ []) h in
        let q = fine-parts (given_uses gs) (uses.method c ∷ []) p.1 in
        let own : fine_callee known callee ≡ true = (both (fine_callee known callee) true q.1).0 in
        both-so (known_callee known (callee_at k on callee)) (args_calls_only known (args_for k callee (resolved_given k gs)))
        (callee-known on name.text.0 own) (args-only callee (resolved_given k gs) (given-only gs q.0))

  target-only : (t : TargetTree) → are_fine (target_uses t) ≡ true → target_calls_only known (resolved_target k t) ≡ true
  target-only (parsed.to_path path) h = refl
  target-only (parsed.to_element base place at) h = expr-only place h

  clauses-only : (cs : ClauseTrees) → are_fine (clause_uses cs) ≡ true → clauses_call_only known (resolved_clauses k cs) ≡ true
  clauses-only parsed.no_clause h = refl
  clauses-only (parsed.more_clauses kind condition at others) h =
      let p = fine-parts (uses_of condition) (clause_uses others) h in
      both-so (expr_calls_only known (resolved_expr k condition)) (clauses_call_only known (resolved_clauses k others)) (expr-only condition p.0) (clauses-only others p.1)

  letters-only : (gs : List NamedGiven) → list_all given_fine gs ≡ true → letters_call_only known (letters_of k gs) ≡ true
  letters-only [] h = refl
  letters-only (g ∷ gs) h =
      let p = both (given_fine g) (list_all given_fine gs) h in
      both-so (given_fine g) (letters_call_only known (letters_of k gs)) p.0 (letters-only gs p.1)

  via-only : (v : ViaTree) → are_fine (via_uses v) ≡ true → via_calls_only known (resolved_via k v) ≡ true
  via-only parsed.by_itself h = refl
  via-only (parsed.via axiom_name given) h = letters-only (resolved_given k given) (given-only given h)

  abbrev option_only : Option NamedStmtTree → Bool
  option_only None = true
  option_only (Some s) = stmt_calls_only known s

  with-only : (o : Option NamedStmtTree) (others : NamedBlockTree) → option_only o ≡ true → block_calls_only known others ≡ true → block_calls_only known (with_stmt o others) ≡ true
  with-only None others h r = r
  with-only (Some s) others h r = both-so (stmt_calls_only known s) (block_calls_only known others) h r

  mutual
    stmt-only : (loops : List (Option Name)) (s : StmtTree) → are_fine (stmt_uses s) ≡ true → option_only (resolved_stmt k loops s) ≡ true
    stmt-only loops (parsed.var name of at) h = refl
    stmt-only loops (parsed.assign target op sign value at) h =
        let p = fine-parts (target_uses target) (uses_of value) h in
        both-so (target_calls_only known (resolved_target k target)) (expr_calls_only known (resolved_expr k value)) (target-only target p.0) (expr-only value p.1)
    stmt-only loops (parsed.keep target c at) h =
        let p = fine-parts (target_uses target) (call_uses c) h in
        both-so (target_calls_only known (resolved_target k target)) (call_calls_only known (resolved_call k c)) (target-only target p.0) (call-only c p.1)
    stmt-only loops (parsed.do_call c at) h = call-only c h
    stmt-only loops (parsed.branch arms at) h = arms-only loops arms h
    stmt-only loops (parsed.loop label condition clauses body at) h =
        let p = fine-parts (uses_of condition) (clause_uses clauses ++ block_uses body) h in
        let q = fine-parts (clause_uses clauses) (block_uses body) p.1 in
        let inner = resolved_block k (loops ++ label ∷ []) body in
        both-so (expr_calls_only known (resolved_expr k condition)) (clauses_call_only known (resolved_clauses k clauses) && block_calls_only known inner) (expr-only condition p.0)
        (both-so (clauses_call_only known (resolved_clauses k clauses)) (block_calls_only known inner) (clauses-only clauses q.0) (block-only (loops ++ label ∷ []) body q.1))
    stmt-only loops (parsed.leave label at) h = refl
    stmt-only loops (parsed.again label at) h = refl
    stmt-only loops (parsed.back value at) h = part-only value h
    stmt-only loops (parsed.suspend value at) h = expr-only value h
    stmt-only loops (parsed.claim goal by at) h =
        let p = fine-parts (uses_of goal) (via_uses by) h in
        both-so (expr_calls_only known (resolved_expr k goal)) (via_calls_only known (resolved_via k by)) (expr-only goal p.0) (via-only by p.1)

    pub block-only : (loops : List (Option Name)) (b : BlockTree) → are_fine (block_uses b) ≡ true → block_calls_only known (resolved_block k loops b) ≡ true
    block-only loops (parsed.close at) h = refl
    block-only loops (parsed.more_stmts first others) h =
        let p = fine-parts (stmt_uses first) (block_uses others) h in
        with-only (resolved_stmt k loops first) (resolved_block k loops others) (stmt-only loops first p.0) (block-only loops others p.1)

    arms-only : (loops : List (Option Name)) (a : ArmTrees) → are_fine (arm_uses a) ≡ true → arms_call_only known (resolved_arms k loops a) ≡ true
    arms-only loops parsed.no_else h = refl
    arms-only loops (parsed.otherwise body) h = block-only loops body h
    arms-only loops (parsed.arm condition body others) h =
        let p = fine-parts (uses_of condition) (block_uses body ++ arm_uses others) h in
        let q = fine-parts (block_uses body) (arm_uses others) p.1 in
        both-so (expr_calls_only known (resolved_expr k condition)) (block_calls_only known (resolved_block k loops body) && arms_call_only known (resolved_arms k loops others)) (expr-only condition p.0)
        (both-so (block_calls_only known (resolved_block k loops body)) (arms_call_only known (resolved_arms k loops others)) (block-only loops body q.0) (arms-only loops others q.1))
