-- What statements without blocks make.
use Rattle.std.proofs.Common.{◌≡◌, ◌∙◌, refl, ap, subst, ℕ, zero, suc, Bool, true, false, List, [], ◌∷◌, length, map, Option, Some, None, nat_lt, arith}
use Rattle.std.specs.Prelude.{option_map, slice_get, unwrap_or}
use Rattle.std.specs.List.{list_all}
use Rattle.std.proofs.lemmas.Bool.Decides.{nat_tests}
use Rattle.wf_text.specs.declared.place.Place.{Place}
use Rattle.wf_base.specs.declared.marks.Mark.{Mark}
use Rattle.wf_base.specs.BaseTable.{row_of}
use Rattle.wf_ast.specs.declared.declarations.Method.{Method}
use Rattle.wf_ast.specs.declared.numbers.ExprId.{ExprId}
use Rattle.wf_ast.specs.declared.numbers.StmtId.{StmtId}
use Rattle.wf_base.specs.declared.marks.Mark.TheVariants.{Pure}
use Rattle.wf_ast.specs.declared.typed_code.Callee.{Callee}
use Rattle.wf_ast.specs.declared.typed_code.Callee.TheVariants as callees
use Rattle.wf_ast.specs.declared.typed_code.Stmt.TheVariants as stmts
use Rattle.wf_ast.specs.declared.typed_nodes.TypedNodes.{TypedNodes}
use Rattle.wf_ast.specs.TypedTree.{ValueTree, Target, break_from, continue_in, invoke, own, sub, plain}
use Rattle.wf_ast.specs.TypedTrees.{tree_of, type_of_node, target_of, optional_target, base_call, call_made}
use Rattle.wf_ast.specs.TypedInvariant.{is_expr, is_optional_expr, callee_exists, has_kind}
use Rattle.wf_ast.proofs.Arena.{both_true}
use Rattle.wf_named.specs.declared.nodes.NamedCallee.{NamedCallee}
use Rattle.wf_named.specs.declared.nodes.NamedCallee.TheVariants as named_callees
use Rattle.wf_named.specs.declared.nodes.NamedPath.{NamedPath}
use Rattle.wf_base.specs.declared.base_methods.BaseSig.{BaseSig}
use Rattle.wf_named.specs.NamedTree.{NamedExprTree, number, status, truth, path, index, slice, answer, chain, convert, negation, NamedArgTrees, NamedCallTree, call, leave, again}
use Rattle.wf_types_rules.specs.declared.settings.Setting.{Setting}
use Rattle.wf_types_rules.specs.Meanings.{variable}
use Rattle.wf_typed_tree.specs.ElaboratedExprs.{type_meant, arg_trees}
use Rattle.wf_typed_tree.specs.ElaboratedStmts.{call_tree, loop_meant, site}
use Rattle.wf_typed_tree.proofs.NumberLemmas.{and-true}
use Rattle.wf_typed_stmts.specs.Parts.{StandForArgs, call_meant, StandsForCallee, MakesSimple}
use Rattle.wf_types_exprs.specs.Paths.{path_in}
use Rattle.wf_types_stmts.specs.Targets.{call_in}
use Rattle.wf_typed_exprs.specs.Nodes.{StandsForPath}
use Rattle.wf_typed_exprs.specs.Right.{IsRight}
use Rattle.wf_typed_stmts.specs.Right.{Known, is_answer, IsRightArg, IsRightBy, IsRightValue}
use Rattle.wf_typed_stmts.specs.StmtGrowth.{loops_below, GrowsExprs, MakesStmt}
use Rattle.wf_typed_stmts.proofs.GrowthLemmas.{less, callee_more, stmts_of_exprs, tree_kept}

-- Jumps.
pub meant_below : (limit : ℕ) (loops : List ℕ) (k : ℕ) → nat_lt k (length loops) ≡ true → loops_below limit loops ≡ true → nat_lt (loop_meant loops k) limit ≡ true
meant_below limit [] k h b = absurd (grind (arith, nat_tests, h))
meant_below limit (w ∷ loops) zero h b = (both_true (nat_lt w limit) (loops_below limit loops) b).0
meant_below limit (w ∷ loops) (suc k) h b = meant_below limit loops k (grind (arith, nat_tests, h)) (both_true (nat_lt w limit) (loops_below limit loops) b).1

module _ (s : Setting) (loops : List ℕ) (p : TypedNodes) (k : ℕ) (at : Place) (w : StmtId) (h : nat_lt k (length loops) ≡ true) (is : w.0 ≡ loop_meant loops k) where
  jump_low : (limit : ℕ) → loops_below limit loops ≡ true → nat_lt w.0 limit ≡ true
  jump_low limit b = ap (λ n. nat_lt n limit) is ∙ meant_below limit loops k h b

  pub made_leave : MakesStmt s loops (length p.stmts) (leave k at) p (record { stmt = stmts.Break w; at = at; inner = at })
  made_leave = record { below = refl; jumps = jump_low; count = refl; makes = λ rest. ap (λ n. plain (site (length p.stmts) at) (break_from n) rest) is }

  pub made_again : MakesStmt s loops (length p.stmts) (again k at) p (record { stmt = stmts.Continue w; at = at; inner = at })
  made_again = record { below = refl; jumps = jump_low; count = refl; makes = λ rest. ap (λ n. plain (site (length p.stmts) at) (continue_in n) rest) is }

pub base_callee : (s : Setting) (p : TypedNodes) (mark : Mark) (on : NamedPath) (sig : BaseSig) (e : ExprId) → StandsForPath s on p e → has_kind (row_of sig).on (type_meant (variable s on.of)) ≡ true
    → StandsForCallee s (named_callees.Base on sig) mark p (callees.Base e sig)
base_callee s p mark on sig e h kind = record {
  there = and-true (is_expr p e) (has_kind (row_of sig).on (type_of_node p e.0)) (less e.0 (length p.exprs) h.there) (rw h.typed kind);
  calls = λ at target kept args. ap (λ t. base_call at target t sig args) h.tree_is;
}

pub callee_kept : (s : Setting) (callee : NamedCallee) (mark : Mark) (p q : TypedNodes) (c : Callee) → GrowsExprs p q → StandsForCallee s callee mark p c → StandsForCallee s callee mark q c
callee_kept s callee mark p q c g h =
    let methods : q.methods ≡ p.methods = ap (λ (n : TypedNodes). n.methods) g.exprs.rest in
    let texts : q.texts ≡ p.texts = ap (λ (n : TypedNodes). n.texts) g.exprs.rest in
    let statuses : q.statuses ≡ p.statuses = ap (λ (n : TypedNodes). n.statuses) g.exprs.rest in
    record {
      there = callee_more p q g.exprs.exprs methods texts statuses g.exprs.same_types c h.there;
      calls = λ at target kept args. by_callee methods c h.there at target kept args ∙ h.calls at target kept args;
    }
  where
    by_callee : q.methods ≡ p.methods → (c : Callee) → callee_exists p c ≡ true → (at : Place) (target : Target) (kept : Bool) (args : List ValueTree)
        → call_made q (tree_of q) at target kept c args ≡ call_made p (tree_of p) at target kept c args
    by_callee e (callees.Own m) k at target kept args = ap (λ ms. invoke at target kept (unwrap_or (option_map (λ (x : Method). x.mark) (slice_get ms m.0)) Pure) (own m.0) args) e
    by_callee e (callees.Sub x m) k at target kept args = ap (λ ms. invoke at target kept (unwrap_or (option_map (λ (x : Method). x.mark) (slice_get ms m.0)) Pure) (sub x.0 m.0) args) e
    by_callee e (callees.Base on sig) k at target kept args =
        ap (λ t. base_call at target t sig args) (tree_kept p q (stmts_of_exprs p q g) on (both_true (is_expr p on) (has_kind (row_of sig).on (type_of_node p on.0)) k).0)

call_is : (s : Setting) (target : Target) (kept : Bool) (callee : NamedCallee) (at : Place) (mark : Mark) (args : NamedArgTrees)
    → call_meant s target kept callee at mark (arg_trees s args) ≡ call_tree s target kept (call callee at mark args)
call_is s target kept (named_callees.Own m) at mark args = refl
call_is s target kept (named_callees.Sub x m) at mark args = refl
call_is s target kept (named_callees.Base on sig) at mark args = refl

pub target_kept : (p q : TypedNodes) → GrowsExprs p q → (t : Option ExprId) → is_optional_expr p t ≡ true → optional_target (tree_of q) t ≡ optional_target (tree_of p) t
target_kept p q g None h = refl
target_kept p q g (Some e) h = ap target_of (tree_kept p q (stmts_of_exprs p q g) e h)

pub made_call : (s : Setting) (q : TypedNodes) (target : Option ExprId) (T : Target) (kept : Bool) (callee : NamedCallee) (at : Place) (mark : Mark) (args : NamedArgTrees) (place : Place) (c : Callee) (es : List ExprId)
    → is_optional_expr q target ≡ true → optional_target (tree_of q) target ≡ T → StandsForCallee s callee mark q c → StandForArgs s args q es
    → MakesSimple (call_tree s T kept (call callee at mark args)) place q (record { stmt = stmts.Call target kept c es; at = place; inner = at })
made_call s q target T kept callee at mark args place c es there is h k = record {
  below = and-true (is_optional_expr q target) _ there (and-true (callee_exists q c) (list_all (is_expr q) es) h.there k.there);
  stays = λ limit. refl;
  makes =
      λ rest.
      let one : call_made q (tree_of q) at (optional_target (tree_of q) target) kept c (map (tree_of q) es) ≡ call_tree s T kept (call callee at mark args) =
      ap (λ t. call_made q (tree_of q) at t kept c (map (tree_of q) es)) is ∙ ap (λ ts. call_made q (tree_of q) at T kept c ts) k.trees ∙ h.calls at T kept (arg_trees s args) ∙ call_is s T kept callee at mark args in
      ap (λ x. plain (site (length q.stmts) place) x rest) one;
}

-- What an expression asks that is no path, and one that is no call or asks a pure base method.
module _ (s : Setting) (k : Known) where
  pub arg_value : (e : NamedExprTree) → path_in e ≡ None → IsRightArg s k e → IsRight s k.statuses e
  arg_value (path p) h r = absurd (cc h)
  arg_value (number v at) h r = r
  arg_value (status n at) h r = r
  arg_value (truth v at) h r = r
  arg_value (index p i at) h r = r
  arg_value (slice p from to at) h r = r
  arg_value (answer c) h r = r
  arg_value (chain op first links at) h r = r
  arg_value (convert e to at) h r = r
  arg_value (negation e at) h r = r

  pub plain_value : (e : NamedExprTree) → call_in e ≡ None → IsRightValue s k e → IsRight s k.statuses e
  plain_value (answer c) h r = absurd (cc h)
  plain_value (path p) h r = r
  plain_value (number v at) h r = r
  plain_value (status n at) h r = r
  plain_value (truth v at) h r = r
  plain_value (index p i at) h r = r
  plain_value (slice p from to at) h r = r
  plain_value (chain op first links at) h r = r
  plain_value (convert e to at) h r = r
  plain_value (negation e at) h r = r

  abbrev pub answers : Option NamedCallTree → Bool
  answers (Some (call callee at mark args)) = is_answer callee
  answers None = false

  pub answer_value : (e : NamedExprTree) (c : NamedCallTree) → call_in e ≡ Some c → answers (Some c) ≡ true → IsRightValue s k e → IsRight s k.statuses e
  answer_value (answer (call callee at mark args)) c h a r =
      let same : is_answer callee ≡ true = ap answers h ∙ a in
      let P : Bool → Type 0 = λ b. IsRightBy b s k (call callee at mark args) in
      subst P same r
  answer_value (path p) c h a r = absurd (cc h)
  answer_value (number v at) c h a r = absurd (cc h)
  answer_value (status n at) c h a r = absurd (cc h)
  answer_value (truth v at) c h a r = absurd (cc h)
  answer_value (index p i at) c h a r = absurd (cc h)
  answer_value (slice p from to at) c h a r = absurd (cc h)
  answer_value (chain op first links at) c h a r = absurd (cc h)
  answer_value (convert e to at) c h a r = absurd (cc h)
  answer_value (negation e at) c h a r = absurd (cc h)
