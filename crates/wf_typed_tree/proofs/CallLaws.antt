-- The order of a package's methods is one of its typed tree: a typed body calls only what the resolved one does.
use Rattle.std.proofs.Common.{◌≡◌, ℕ, zero, suc, ◌+◌, Bool, true, false, not, ◌&&◌, List, [], ◌∷◌, length, Option, Some, None, refl, sym, ap, subst, nat_eq}
use Rattle.std.specs.Prelude.{if◌then◌else◌, slice_get}
use Rattle.wf_text.specs.declared.place.Place.{Place}
use Rattle.wf_base.specs.declared.base_methods.BaseSig.{BaseSig}
use Rattle.wf_base.specs.declared.base_methods.BaseSig.TheVariants as sigs
use Rattle.wf_base.specs.BaseTable.{row_of}
use Rattle.wf_ast.specs.TypedTree.{ValueTree, Target, Simple, invoke, Site, Block, end, plain}
use Rattle.wf_ast.specs.TypedTree as typed
use Rattle.wf_ast.specs.TypedTrees.{answer_of, base_call}
use Rattle.wf_ast.specs.TypedPackage.{MethodTree, PackageTree}
use Rattle.wf_ast.specs.WellTyped.{is_pure, number_of, calls_only, calls_known, is_among}
use Rattle.wf_ast.specs.WellTyped as well
use Rattle.wf_named.specs.declared.nodes.NamedCallee.TheVariants as callees
use Rattle.wf_named.specs.NamedTree.{NamedExprTree, answer, NamedCallTree, call, NamedTargetTree, NamedStmtTree, assign, keep, do_call, branch, loop, leave, again, back, suspend, claim, NamedBlockTree, close, more_stmts, NamedArmTrees, no_else, otherwise, arm, NamedMethodTree, NamedPackageTree}
use Rattle.wf_named.specs.WellNamed.{expr_calls_only, args_calls_only, call_calls_only, target_calls_only, clauses_call_only, stmt_calls_only, block_calls_only, arms_call_only, method_calls_only}
use Rattle.wf_named.specs.WellNamed as names
use Rattle.wf_types_rules.specs.declared.settings.Setting.{Setting}
use Rattle.wf_types_rules.specs.DeclaredTypes.{in_method}
use Rattle.wf_typed_tree.specs.ElaboratedExprs.{path_tree, arg_trees}
use Rattle.wf_typed_tree.specs.ElaboratedStmts.{target_tree, call_tree, assigned_call, assign_tree, simple_tree, count_stmt, count_block, count_arms, site, stmt_tree, block_tree, arms_tree}
use Rattle.wf_typed_tree.specs.ElaboratedPackage.{typed_method, typed_methods, typed_package}
use Rattle.wf_typed_tree.proofs.NumberLemmas.{both, and-true}
use Rattle.wf_typed_tree.proofs.Agreement.{PackageIs}

-- What a statement without blocks calls.
abbrev simple_known : (ℕ → Bool) → Simple → Bool
simple_known known (invoke at target kept mark called args) = known (number_of called)
simple_known known s = true

plain-known : (known : ℕ → Bool) (at : Site) (s : Simple) (rest : Block) → simple_known known s ≡ true → calls_only known rest ≡ true → calls_only known (plain at s rest) ≡ true
plain-known known at (invoke call_at target kept mark called args) rest h k = and-true (known (number_of called)) (calls_only known rest) h k
plain-known known at s rest h k = k

base-known : (known : ℕ → Bool) (at : Place) (target : Target) (on : ValueTree) (sig : BaseSig) (args : List ValueTree) → simple_known known (base_call at target on sig args) ≡ true
base-known known at target on (sigs.Read form) [] = refl
base-known known at target on sigs.Skip (n ∷ []) = refl
base-known known at target on sigs.Write (a ∷ []) = refl
base-known known at target on sigs.SkipFast (actual ∷ worst_case ∷ []) = refl
base-known known at target on sigs.WriteFast (a ∷ []) = refl
base-known known at target on sigs.WriterCopy (s ∷ []) = refl
base-known known at target on (sigs.SliceCopy width) (s ∷ []) = refl
base-known known at target on sig args = refl

call-known : (known : ℕ → Bool) (s : Setting) (target : Target) (kept : Bool) (c : NamedCallTree) → call_calls_only known c ≡ true → simple_known known (call_tree s target kept c) ≡ true
call-known known s target kept (call (callees.Own m) at mark args) h = (both (known m.0) (args_calls_only known args) h).0
call-known known s target kept (call (callees.Sub x m) at mark args) h = (both (known m.0) (args_calls_only known args) h).0
call-known known s target kept (call (callees.Base on sig) at mark args) h = base-known known at target (path_tree s on) sig (arg_trees s args)

assigned-known : (known : ℕ → Bool) (s : Setting) (target : Target) (c : NamedCallTree) → call_calls_only known c ≡ true → simple_known known (assigned_call s target c) ≡ true
assigned-known known s target (call (callees.Own m) at mark args) h = call-known known s target false (call (callees.Own m) at mark args) h
assigned-known known s target (call (callees.Sub x m) at mark args) h = call-known known s target false (call (callees.Sub x m) at mark args) h
assigned-known known s target (call (callees.Base on sig) at mark args) h = by_mark (is_pure (row_of sig).mark)
  where
    by_mark : (b : Bool) → simple_known known (if b then typed.assign target None (answer_of at sig (path_tree s on)) else call_tree s target false (call (callees.Base on sig) at mark args)) ≡ true
    by_mark true = refl
    by_mark false = call-known known s target false (call (callees.Base on sig) at mark args) h

value-known : (known : ℕ → Bool) (s : Setting) (t : NamedTargetTree) (sign : Place) (e : NamedExprTree) → expr_calls_only known e ≡ true → simple_known known (assign_tree s t None sign e) ≡ true
value-known known s t sign (answer c) h = assigned-known known s (target_tree s t) c h
value-known known s t sign e h = refl

simple-known : (known : ℕ → Bool) (s : Setting) (loops : List ℕ) (st : NamedStmtTree) → stmt_calls_only known st ≡ true → simple_known known (simple_tree s loops st) ≡ true
simple-known known s loops (assign t None sign e at) h = value-known known s t sign e (both (target_calls_only known t) (expr_calls_only known e) h).1
simple-known known s loops (assign t (Some op) sign e at) h = refl
simple-known known s loops (keep t c at) h = call-known known s (target_tree s t) true c (both (target_calls_only known t) (call_calls_only known c) h).1
simple-known known s loops (do_call c at) h = call-known known s typed.to_nothing false c h
simple-known known s loops (branch arms at) h = refl
simple-known known s loops (loop e clauses body at) h = refl
simple-known known s loops (leave outwards at) h = refl
simple-known known s loops (again outwards at) h = refl
simple-known known s loops (back e at) h = refl
simple-known known s loops (suspend e at) h = refl
simple-known known s loops (claim e by at) h = refl

mutual
  stmt-calls : (known : ℕ → Bool) (s : Setting) (loops : List ℕ) (n : ℕ) (st : NamedStmtTree) (rest : Block) → stmt_calls_only known st ≡ true → calls_only known rest ≡ true
      → calls_only known (stmt_tree s loops n st rest) ≡ true
  stmt-calls known s loops n (branch arms at) rest h k = arms-call known s loops n (site (n + count_arms arms) at) false arms rest h k
  stmt-calls known s loops n (loop e clauses body at) rest h k =
      let inside = both (clauses_call_only known clauses) (block_calls_only known body) (both (expr_calls_only known e) _ h).1 in
      and-true (calls_only known (block_tree s ((n + count_block body) ∷ loops) n body)) (calls_only known rest) (block-calls known s ((n + count_block body) ∷ loops) n body inside.1) k
  stmt-calls known s loops n (assign t op sign e at) rest h k = plain-known known (site n at) (simple_tree s loops (assign t op sign e at)) rest (simple-known known s loops (assign t op sign e at) h) k
  stmt-calls known s loops n (keep t c at) rest h k = plain-known known (site n at) (simple_tree s loops (keep t c at)) rest (simple-known known s loops (keep t c at) h) k
  stmt-calls known s loops n (do_call c at) rest h k = plain-known known (site n at) (simple_tree s loops (do_call c at)) rest (simple-known known s loops (do_call c at) h) k
  stmt-calls known s loops n (leave outwards at) rest h k = k
  stmt-calls known s loops n (again outwards at) rest h k = k
  stmt-calls known s loops n (back e at) rest h k = k
  stmt-calls known s loops n (suspend e at) rest h k = k
  stmt-calls known s loops n (claim e by at) rest h k = k

  block-calls : (known : ℕ → Bool) (s : Setting) (loops : List ℕ) (n : ℕ) (b : NamedBlockTree) → block_calls_only known b ≡ true → calls_only known (block_tree s loops n b) ≡ true
  block-calls known s loops n (close at) h = refl
  block-calls known s loops n (more_stmts first others) h =
      let parts = both (stmt_calls_only known first) (block_calls_only known others) h in
      stmt-calls known s loops n first (block_tree s loops (n + count_stmt first) others) parts.0 (block-calls known s loops (n + count_stmt first) others parts.1)

  arms-call : (known : ℕ → Bool) (s : Setting) (loops : List ℕ) (n : ℕ) (of : Site) (chained : Bool) (arms : NamedArmTrees) (rest : Block) → arms_call_only known arms ≡ true
      → calls_only known rest ≡ true → calls_only known (arms_tree s loops n of chained arms rest) ≡ true
  arms-call known s loops n of chained no_else rest h k = refl
  arms-call known s loops n of chained (otherwise body) rest h k = block-calls known s loops n body h
  arms-call known s loops n of chained (arm e body others) rest h k =
      let parts = both (block_calls_only known body) (arms_call_only known others) (both (expr_calls_only known e) _ h).1 in
      and-true (calls_only known (block_tree s loops n body)) _ (block-calls known s loops n body parts.0)
      (and-true (calls_only known (arms_tree s loops (n + count_block body) of true others end)) (calls_only known rest)
      (arms-call known s loops (n + count_block body) of true others end parts.1 refl) k)

-- The typed method with a number.
pub method-at : (p : NamedPackageTree) (n : ℕ) (ms : List NamedMethodTree) (k : ℕ) (m : NamedMethodTree) → slice_get ms k ≡ Some m
    → (j : ℕ) × (slice_get (typed_methods p n ms) k ≡ Some (typed_method p j m))
method-at p n [] k m h = absurd (cc h)
method-at p n (x ∷ xs) zero m h = (n, let same : x ≡ m = cc h in ap (λ z. Some (typed_method p n z)) same)
method-at p n (x ∷ xs) (suc k) m h = method-at p (n + count_block x.body) xs k m h

known-method : (p : NamedPackageTree) (q : PackageTree) → q.methods ≡ typed_methods p 0 p.methods → (known : ℕ → Bool) (k : ℕ) → method_calls_only known (slice_get p.methods k) ≡ true
    → calls_known known (slice_get q.methods k) ≡ true
known-method p q same known k h = by_method (slice_get p.methods k) refl h
  where
    by_method : (o : Option NamedMethodTree) → slice_get p.methods k ≡ o → method_calls_only known o ≡ true → calls_known known (slice_get q.methods k) ≡ true
    by_method None e g = absurd (cc g)
    by_method (Some m) e g =
        let it = method-at p 0 p.methods k m e in
        let M : List MethodTree → Type 0 = λ ms. calls_known known (slice_get ms k) ≡ true in
        let K : Option MethodTree → Type 0 = λ o. calls_known known o ≡ true in
        subst M (sym same) (subst K (sym it.1) (block-calls known (in_method p m) [] it.0 m.body g))

in-front : (p : NamedPackageTree) (q : PackageTree) → q.methods ≡ typed_methods p 0 p.methods → (front rest : List ℕ) → names.calls_in_front p front rest ≡ true
    → well.calls_in_front q front rest ≡ true
in-front p q same front [] h = refl
in-front p q same front (k ∷ ks) h =
    let parts = both (method_calls_only (names.is_among front) (slice_get p.methods k)) _ h in
    let rest = both (not (names.is_among front k)) (names.calls_in_front p (k ∷ front) ks) parts.1 in
    and-true (calls_known (is_among front) (slice_get q.methods k)) _ (known-method p q same (is_among front) k parts.0)
    (and-true (not (is_among front k)) (well.calls_in_front q (k ∷ front) ks) rest.0 (in-front p q same (k ∷ front) ks rest.1))

count-methods : (p : NamedPackageTree) (n : ℕ) (ms : List NamedMethodTree) → length (typed_methods p n ms) ≡ length ms
count-methods p n [] = refl
count-methods p n (m ∷ ms) = ap suc (count-methods p (n + count_block m.body) ms)

pub typed-order : (p : NamedPackageTree) → PackageIs p → (nat_eq (length (typed_package p).order) (length (typed_package p).methods) && well.calls_in_front (typed_package p) [] (typed_package p).order) ≡ true
unfolding typed_package
typed-order p is =
    let N : ℕ → Type 0 = λ k. nat_eq (length p.order) k ≡ true in
    and-true (nat_eq (length p.order) (length (typed_methods p 0 p.methods))) _ (subst N (sym (count-methods p 0 p.methods)) is.ordered)
    (in-front p (typed_package p) refl [] p.order is.in_front)
