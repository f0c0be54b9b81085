-- What a block calls is called by one of its statements, and what a statement calls is told by its node.
use Rattle.std.proofs.Common.{◌≡◌, ◌∙◌, ap, sym, subst, ℕ, ◌<◌, ◌≤◌, Bool, true, false, not, ◌&&◌, ◌||◌, List, [], ◌∷◌, length, map, Option, Some, None, nat_lt, unwrap_or, refl, arith}
use Rattle.std.specs.Prelude.{slice_get, option_map}
use Rattle.std.specs.List.{list_all}
use Rattle.std.proofs.lemmas.Bool.Decides.{nat_tests}
use Rattle.std.proofs.lemmas.Option.{slice_get_within}
use Rattle.wf_text.specs.declared.place.Place.{Place}
use Rattle.wf_base.specs.declared.base_methods.BaseSig.{BaseSig}
use Rattle.wf_base.specs.declared.base_methods.BaseSig.TheVariants as sigs
use Rattle.wf_ast.specs.declared.declarations.Method.{Method}
use Rattle.wf_ast.specs.declared.numbers.StmtId.{StmtId}
use Rattle.wf_ast.specs.declared.typed_code.Arm.{Arm}
use Rattle.wf_ast.specs.declared.typed_code.Block as typed_code
use Rattle.wf_ast.specs.declared.typed_code.Callee.{Callee}
use Rattle.wf_ast.specs.declared.typed_code.Callee.TheVariants as callees
use Rattle.wf_ast.specs.declared.typed_code.Stmt.{Stmt}
use Rattle.wf_ast.specs.declared.typed_code.Stmt.TheVariants as stmts
use Rattle.wf_ast.specs.declared.typed_code.StmtNode.{StmtNode}
use Rattle.wf_ast.specs.declared.typed_nodes.TypedNodes.{TypedNodes}
use Rattle.wf_ast.specs.TypedPackage.{MethodTree, method_of, package_of}
use Rattle.wf_ast.specs.TypedTree.{ValueTree, Target, Site, Block, end}
use Rattle.wf_ast.specs.TypedTrees.{tree_of, optional_target, base_call, call_made, block_made, otherwise_made, if_made, stmt_made, onto, stmt_makers, block_of}
use Rattle.wf_ast.specs.TypedInvariant.{each_numbered, is_expr, block_below, optional_block_below, stmt_below, IsTyped}
use Rattle.wf_ast.proofs.Arena.{both_true, numbered_from_zero}
use Rattle.wf_points.proofs.StatementArena.{stmt_is}
use Rattle.wf_lower_stmts.specs.BodyNodes.{stands, stands_at, stands_among, stands_in_arms, stands_in_else, stands_in_if}
use Rattle.wf_lower_stmts.proofs.StandLaws.{ids_more, node_there}
use Rattle.wf_lower.specs.Called.{AreCalled, calls, has_entry, is_called, is_callee, node_calls}
use Rattle.wf_lower.specs.Flags.{Sets, is_set}
use Rattle.wf_lower.proofs.FlagLaws.{or_assoc, or_false}
use Rattle.wf_lower.proofs.Known.{made_there, methods_same}

lt_from : (m n : ℕ) → nat_lt m n ≡ true → m < n
lt_from m n h = grind (arith, nat_tests, h)

three : (a b c d e : Bool) → a ≡ b → c ≡ (d || e) → (a || (c || false)) ≡ ((b || d) || e)
three a b c d e p q = ap (λ x. x || (c || false)) p ∙ ap (λ x. b || x) (or_false c ∙ q) ∙ or_assoc b d e

-- A base method is no method of the package.
base_calls : (k : ℕ) (at : Place) (target : Target) (on : ValueTree) (sig : BaseSig) (ts : List ValueTree) → calls k (base_call at target on sig ts) ≡ false
base_calls k at target on (sigs.Read form) [] = refl
base_calls k at target on (sigs.Read form) (t ∷ ts) = refl
base_calls k at target on sigs.Skip [] = refl
base_calls k at target on sigs.Skip (t ∷ []) = refl
base_calls k at target on sigs.Skip (t ∷ u ∷ ts) = refl
base_calls k at target on sigs.Write [] = refl
base_calls k at target on sigs.Write (t ∷ []) = refl
base_calls k at target on sigs.Write (t ∷ u ∷ ts) = refl
base_calls k at target on sigs.SkipFast [] = refl
base_calls k at target on sigs.SkipFast (t ∷ []) = refl
base_calls k at target on sigs.SkipFast (t ∷ u ∷ []) = refl
base_calls k at target on sigs.SkipFast (t ∷ u ∷ v ∷ ts) = refl
base_calls k at target on sigs.WriteFast [] = refl
base_calls k at target on sigs.WriteFast (t ∷ []) = refl
base_calls k at target on sigs.WriteFast (t ∷ u ∷ ts) = refl
base_calls k at target on sigs.WriterCopy [] = refl
base_calls k at target on sigs.WriterCopy (t ∷ []) = refl
base_calls k at target on sigs.WriterCopy (t ∷ u ∷ ts) = refl
base_calls k at target on (sigs.SliceCopy width) [] = refl
base_calls k at target on (sigs.SliceCopy width) (t ∷ []) = refl
base_calls k at target on (sigs.SliceCopy width) (t ∷ u ∷ ts) = refl
base_calls k at target on sigs.ReaderLength ts = refl
base_calls k at target on sigs.ReaderIsClosed ts = refl
base_calls k at target on sigs.ReaderPosition ts = refl
base_calls k at target on (sigs.Peek form) ts = refl
base_calls k at target on sigs.WriterLength ts = refl
base_calls k at target on sigs.WriterPosition ts = refl
base_calls k at target on (sigs.SliceLength width) ts = refl
base_calls k at target on (sigs.ArrayLength width) ts = refl
base_calls k at target on sigs.IsOk ts = refl
base_calls k at target on sigs.IsNote ts = refl
base_calls k at target on sigs.IsSuspension ts = refl
base_calls k at target on sigs.IsError ts = refl

call_calls : (nodes : TypedNodes) (k : ℕ) (at : Place) (target : Target) (keep : Bool) (callee : Callee) (ts : List ValueTree)
    → calls k (call_made nodes (tree_of nodes) at target keep callee ts) ≡ is_callee k callee
call_calls nodes k at target keep (callees.Own m) ts = refl
call_calls nodes k at target keep (callees.Sub x m) ts = refl
call_calls nodes k at target keep (callees.Base on sig) ts = base_calls k at target (tree_of nodes on) sig ts

module _ (nodes : TypedNodes) (ordered : each_numbered (λ s node. stmt_below nodes s node.stmt) 0 nodes.stmts ≡ true) (k : ℕ) where
  module _ (n : ℕ) (at close : Place) where
    made_in_front : (st : Stmt) (rest : Block)
        → stands (calls k) (stmt_made nodes (tree_of nodes) (onto (stmt_makers nodes)) n (record { stmt = st; at = at; inner = close }) rest)
        ≡ (stands (calls k) (stmt_made nodes (tree_of nodes) (onto (stmt_makers nodes)) n (record { stmt = st; at = at; inner = close }) end) || stands (calls k) rest)
    made_in_front (stmts.Assign target op value) rest = refl
    made_in_front (stmts.Call target keep callee args) rest = ap (λ x. x || stands (calls k) rest) (sym (or_false _))
    made_in_front (stmts.If [] otherwise) rest = refl
    made_in_front (stmts.If (arm ∷ arms) otherwise) rest =
        let site : Site = record { number = n; at = at } in
        let a = stands (calls k) (block_made (onto (stmt_makers nodes)) arm.body.items) in
        let b = stands (calls k) (otherwise_made (tree_of nodes) (onto (stmt_makers nodes)) site arms otherwise) in
        join a b (stands (calls k) rest)
      where
        join : (a b c : Bool) → (a || (b || c)) ≡ ((a || (b || false)) || c)
        join a b c = or_assoc a b c ∙ ap (λ x. (a || x) || c) (sym (or_false b))
    made_in_front (stmts.While head body) rest = ap (λ x. x || stands (calls k) rest) (sym (or_false _))
    made_in_front (stmts.Break w) rest = refl
    made_in_front (stmts.Continue w) rest = refl
    made_in_front (stmts.Return None) rest = refl
    made_in_front (stmts.Return (Some e)) rest = refl
    made_in_front (stmts.Yield s) rest = refl
    made_in_front (stmts.Assert goal axiom_ref) rest = refl

  in_front : (i : StmtId) (n : StmtNode) (rest : Block) → slice_get nodes.stmts i.0 ≡ Some n
      → stands (calls k) (onto (stmt_makers nodes) i rest) ≡ (stands_at nodes (calls k) i || stands (calls k) rest)
  unfolding stands_at
  in_front i n rest is =
      let made = λ (after : Block). ap (stands (calls k)) (stmt_is nodes i n after is ordered) in
      made rest ∙ made_in_front i.0 n.at n.inner n.stmt rest ∙ ap (λ x. x || stands (calls k) rest) (sym (made end))

  -- Statements of a block.
  among : (ss : List StmtId) → list_all (λ inner. nat_lt inner.0 (length nodes.stmts)) ss ≡ true
      → stands (calls k) (block_made (onto (stmt_makers nodes)) ss) ≡ stands_among (stands_at nodes (calls k)) ss
  among [] h = refl
  among (i ∷ ss) h =
      let p = both_true (nat_lt i.0 (length nodes.stmts)) (list_all (λ inner. nat_lt inner.0 (length nodes.stmts)) ss) h in
      let n = node_there nodes.stmts i.0 (lt_from i.0 (length nodes.stmts) p.0) in
      in_front i n.0 (block_made (onto (stmt_makers nodes)) ss) n.1 ∙ ap (λ x. stands_at nodes (calls k) i || x) (among ss p.1)

  module _ (s : ℕ) (small : s ≤ length nodes.stmts) where
    block_among : (b : typed_code.Block) → block_below s b ≡ true → stands (calls k) (block_made (onto (stmt_makers nodes)) b.items) ≡ stands_among (stands_at nodes (calls k)) b.items
    block_among b h = among b.items (ids_more s (length nodes.stmts) small b.items h)

    otherwise_among : (site : Site) (arms : List Arm) (other : Option typed_code.Block) → list_all (λ a. is_expr nodes a.cond && block_below s a.body) arms ≡ true → optional_block_below s other ≡ true
        → stands (calls k) (otherwise_made (tree_of nodes) (onto (stmt_makers nodes)) site arms other) ≡ (stands_in_arms (stands_at nodes (calls k)) arms || stands_in_else (stands_at nodes (calls k)) other)
    otherwise_among site [] None h o = refl
    otherwise_among site [] (Some b) h o = block_among b o
    otherwise_among site (arm ∷ arms) other h o =
        let p = both_true (is_expr nodes arm.cond && block_below s arm.body) (list_all (λ a. is_expr nodes a.cond && block_below s a.body) arms) h in
        let q = both_true (is_expr nodes arm.cond) (block_below s arm.body) p.0 in
        three (stands (calls k) (block_made (onto (stmt_makers nodes)) arm.body.items)) (stands_among (stands_at nodes (calls k)) arm.body.items)
        (stands (calls k) (otherwise_made (tree_of nodes) (onto (stmt_makers nodes)) site arms other)) (stands_in_arms (stands_at nodes (calls k)) arms) (stands_in_else (stands_at nodes (calls k)) other)
        (block_among arm.body q.1) (otherwise_among site arms other p.1 o)

    if_among : (site : Site) (arms : List Arm) (other : Option typed_code.Block) → list_all (λ a. is_expr nodes a.cond && block_below s a.body) arms ≡ true → optional_block_below s other ≡ true
        → stands (calls k) (if_made (tree_of nodes) (onto (stmt_makers nodes)) site arms other end) ≡ stands_in_if (stands_at nodes (calls k)) arms other
    if_among site [] other h o = refl
    if_among site (arm ∷ arms) other h o =
        let p = both_true (is_expr nodes arm.cond && block_below s arm.body) (list_all (λ a. is_expr nodes a.cond && block_below s a.body) arms) h in
        let q = both_true (is_expr nodes arm.cond) (block_below s arm.body) p.0 in
        three (stands (calls k) (block_made (onto (stmt_makers nodes)) arm.body.items)) (stands_among (stands_at nodes (calls k)) arm.body.items)
        (stands (calls k) (otherwise_made (tree_of nodes) (onto (stmt_makers nodes)) site arms other)) (stands_in_arms (stands_at nodes (calls k)) arms) (stands_in_else (stands_at nodes (calls k)) other)
        (block_among arm.body q.1) (otherwise_among site arms other p.1 o)

    by_stmt : (n : ℕ) (at close : Place) (st : Stmt) → stmt_below nodes s st ≡ true
        → stands (calls k) (stmt_made nodes (tree_of nodes) (onto (stmt_makers nodes)) n (record { stmt = st; at = at; inner = close }) end) ≡ node_calls k (stands_at nodes (calls k)) st
    by_stmt n at close (stmts.Assign target op value) h = refl
    by_stmt n at close (stmts.Call target keep callee args) h = or_false _ ∙ call_calls nodes k close (optional_target (tree_of nodes) target) keep callee (map (tree_of nodes) args)
    by_stmt n at close (stmts.If arms otherwise) h =
        let p = both_true (list_all (λ a. is_expr nodes a.cond && block_below s a.body) arms) (optional_block_below s otherwise) h in
        if_among (record { number = n; at = at }) arms otherwise p.0 p.1
    by_stmt n at close (stmts.While head body) h =
        let p = both_true (is_expr nodes head.cond) (list_all (λ c. is_expr nodes c.1) head.clauses && block_below s body) h in
        let q = both_true (list_all (λ c. is_expr nodes c.1) head.clauses) (block_below s body) p.1 in
        or_false _ ∙ block_among body q.1
    by_stmt n at close (stmts.Break w) h = refl
    by_stmt n at close (stmts.Continue w) h = refl
    by_stmt n at close (stmts.Return None) h = refl
    by_stmt n at close (stmts.Return (Some e)) h = refl
    by_stmt n at close (stmts.Yield x) h = refl
    by_stmt n at close (stmts.Assert goal axiom_ref) h = refl

  by_node : (i : StmtId) (n : StmtNode) → slice_get nodes.stmts i.0 ≡ Some n → stands_at nodes (calls k) i ≡ node_calls k (stands_at nodes (calls k)) n.stmt
  unfolding stands_at
  by_node i n is =
      let below : i.0 < length nodes.stmts = slice_get_within nodes.stmts i.0 n is in
      let kept = numbered_from_zero (λ s node. stmt_below nodes s node.stmt) nodes.stmts i.0 n ordered is in
      ap (stands (calls k)) (stmt_is nodes i n end is ordered) ∙ by_stmt i.0 (omega (arith, below)) i.0 n.at n.inner n.stmt kept

-- What a statement of a package calls.
pub node_called : (nodes : TypedNodes) → IsTyped nodes → (i : StmtId) (st : Stmt) → i.0 < length nodes.stmts → option_map (λ node. node.stmt) (slice_get nodes.stmts i.0) ≡ Some st
    → (k : ℕ) → stands_at nodes (calls k) i ≡ node_calls k (stands_at nodes (calls k)) st
node_called nodes typed i st h e k =
    let n = node_there nodes.stmts i.0 h in
    let P : Option StmtNode → Type 0 = λ o. option_map (λ node. node.stmt) o ≡ Some st in
    let same : n.0.stmt ≡ st = cc (subst P n.1 e) in
    let B : Stmt → Type 0 = λ st. stands_at nodes (calls k) i ≡ node_calls k (stands_at nodes (calls k)) st in
    subst B same (by_node nodes typed.stmts_ordered k i n.0 n.1)

-- And a body.
pub body_called : (nodes : TypedNodes) → IsTyped nodes → (b : typed_code.Block) → block_below (length nodes.stmts) b ≡ true → (k : ℕ) → stands (calls k) (block_of nodes b) ≡ stands_among (stands_at nodes (calls k)) b.items
body_called nodes typed b h k = among nodes typed.stmts_ordered k b.items h

-- What a statement calls is what its form calls, or nothing.
module _ (nodes : TypedNodes) (s : StmtId) (st it : Stmt) (node : (n : ℕ) → stands_at nodes (calls n) s ≡ node_calls n (stands_at nodes (calls n)) st) (is : st ≡ it) where
  by_form : (n : ℕ) → stands_at nodes (calls n) s ≡ node_calls n (stands_at nodes (calls n)) it
  by_form n = node n ∙ ap (node_calls n (stands_at nodes (calls n))) is

  pub sets_some : (called : ℕ → Bool) (old new : List Bool) → ((n : ℕ) → called n ≡ node_calls n (stands_at nodes (calls n)) it) → Sets called old new → Sets (λ n. stands_at nodes (calls n) s) old new
  sets_some called old new same sets = λ n. sets n ∙ ap (λ b. is_set old n || b) (same n ∙ sym (by_form n))

  pub sets_none : (flags : List Bool) → ((n : ℕ) → node_calls n (stands_at nodes (calls n)) it ≡ false) → Sets (λ n. stands_at nodes (calls n) s) flags flags
  sets_none flags none = λ n. sym (ap (λ b. is_set flags n || b) (by_form n ∙ none n) ∙ or_false (is_set flags n))

-- A method has an entry by its declaration and its flag.
pub flag_there : (nodes : TypedNodes) → IsTyped nodes → (flags : List Bool) → AreCalled (package_of nodes) flags → (n : ℕ) → n < length nodes.methods → n < length flags
flag_there nodes typed flags called n h =
    let sized = called.sized in
    let same = methods_same nodes typed in
    omega (arith, sized, same, h)

pub entry_is : (nodes : TypedNodes) → IsTyped nodes → (flags : List Bool) → AreCalled (package_of nodes) flags → (n : ℕ) (m : Method) (flag : Bool) → slice_get nodes.methods n ≡ Some m → slice_get flags n ≡ Some flag
    → (it : MethodTree) → slice_get (package_of nodes).methods n ≡ Some it → (m.public || not flag) ≡ has_entry (package_of nodes) n it
entry_is nodes typed flags called n m flag is flag_is it known =
    let made = made_there nodes typed n m is in
    let e : it ≡ method_of nodes m made.0 = cc (made.1, known) in
    let f : flag ≡ is_called (package_of nodes) n = sym (ap (λ o. unwrap_or o false) flag_is) ∙ called.are n in
    ap (λ b. m.public || not b) f ∙ ap (λ (x : MethodTree). x.public || not (is_called (package_of nodes) n)) (sym e)

-- So has each public one.
pub entry_of_public : (nodes : TypedNodes) → IsTyped nodes → (n : ℕ) (m : Method) → slice_get nodes.methods n ≡ Some m → m.public ≡ true
    → (it : MethodTree) → slice_get (package_of nodes).methods n ≡ Some it → true ≡ has_entry (package_of nodes) n it
entry_of_public nodes typed n m is public it known =
    let made = made_there nodes typed n m is in
    let e : it ≡ method_of nodes m made.0 = cc (made.1, known) in
    ap (λ b. b || not (is_called (package_of nodes) n)) (sym public) ∙ ap (λ (x : MethodTree). x.public || not (is_called (package_of nodes) n)) (sym e)
