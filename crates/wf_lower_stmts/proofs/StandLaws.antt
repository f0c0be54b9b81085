-- What stands in a block stands in one of its statements, and what stands in a statement is told by its node.
use Rattle.std.proofs.Common.{◌≡◌, ℕ, zero, suc, ◌<◌, ◌≤◌, Bool, true, false, ◌&&◌, ◌||◌, List, [], ◌∷◌, length, map, Option, Some, None, nat_lt, nat_eq, refl, sym, ap, ◌∙◌, subst, arith}
use Rattle.std.specs.Prelude.{slice_get, option_map}
use Rattle.std.specs.List.{list_all}
use Rattle.std.proofs.lemmas.Bool.Decides.{nat_tests}
use Rattle.std.proofs.lemmas.List.{length-map}
use Rattle.std.proofs.lemmas.Option.{slice_get_within}
use Rattle.wf_text.specs.declared.place.Place.{Place}
use Rattle.wf_base.specs.declared.base_methods.BaseSig.{BaseSig}
use Rattle.wf_base.specs.declared.base_methods.BaseSig.TheVariants as sigs
use Rattle.wf_base.specs.declared.base_methods.ReadForm.TheVariants as reads
use Rattle.wf_ast.specs.declared.numbers.ExprId.{ExprId}
use Rattle.wf_ast.specs.declared.numbers.StmtId.{StmtId}
use Rattle.wf_ast.specs.declared.typed_code.Callee.{Callee}
use Rattle.wf_ast.specs.declared.typed_code.Callee.TheVariants as callees
use Rattle.wf_ast.specs.declared.typed_code.Arm.{Arm}
use Rattle.wf_ast.specs.declared.typed_code.Block as typed_code
use Rattle.wf_ast.specs.declared.typed_code.Stmt.{Stmt}
use Rattle.wf_ast.specs.declared.typed_code.Stmt.TheVariants as stmts
use Rattle.wf_ast.specs.declared.typed_code.StmtNode.{StmtNode}
use Rattle.wf_ast.specs.declared.typed_nodes.TypedNodes.{TypedNodes}
use Rattle.wf_ast.specs.declared.types.Ty.{Ty}
use Rattle.wf_ast.specs.declared.types.Ty.TheVariants as types
use Rattle.wf_ast.specs.TypedTree.{ValueTree, numeric, logical, state, elements, io, lost, Target, Awaited, Simple, assign, await, perform, invoke, break_from, continue_in, give_back, yield, claim, Site, Block, end, plain, choose, loop}
use Rattle.wf_ast.specs.TypedTrees.{tree_of, type_of_node, optional_target, base_call, call_made, block_made, otherwise_made, if_made, stmt_made, onto, stmt_makers, block_of}
use Rattle.wf_ast.specs.TypedInvariant.{each_numbered, is_expr, is_tree_of, block_below, optional_block_below, stmt_below, IsTyped}
use Rattle.wf_ast.specs.WellTyped.{breaks}
use Rattle.wf_ast.proofs.Arena.{both_true, numbered_from_zero}
use Rattle.wf_ast.proofs.Accessors.{tree_kind}
use Rattle.wf_points.proofs.StatementArena.{stmt_is}
use Rattle.wf_lower_stmts.specs.Forms.{holds_something, counts_bytes, awaits, keeps}
use Rattle.wf_lower_stmts.specs.Lower.{continues, is_return, returns}
use Rattle.wf_lower_stmts.specs.declared.walks.Sought.{Sought}
use Rattle.wf_lower_stmts.specs.declared.walks.Sought.TheVariants as sought
use Rattle.wf_lower_stmts.specs.BodyNodes.{stands, is_break_of, is_continue_of, is_sought, stands_at, stands_among, stands_in_arms, stands_in_else, stands_in_if, stands_of, base_holds, base_counts, call_sought}

or_false : (a : Bool) → (a || false) ≡ a
or_false true = refl
or_false false = refl

or_assoc : (a b c : Bool) → (a || (b || c)) ≡ ((a || b) || c)
or_assoc true b c = refl
or_assoc false b c = refl

-- The tests in the words of the definition.
pub stands_breaks : (w : ℕ) (b : Block) → stands (is_break_of w) b ≡ breaks w b
stands_breaks w end = refl
stands_breaks w (plain site (break_from v) rest) = ap (λ x. nat_eq v w || x) (stands_breaks w rest)
stands_breaks w (plain site (assign target op value) rest) = stands_breaks w rest
stands_breaks w (plain site (await at target a call) rest) = stands_breaks w rest
stands_breaks w (plain site (perform at target call) rest) = stands_breaks w rest
stands_breaks w (plain site (invoke at target keep mark called args) rest) = stands_breaks w rest
stands_breaks w (plain site (continue_in v) rest) = stands_breaks w rest
stands_breaks w (plain site (give_back value) rest) = stands_breaks w rest
stands_breaks w (plain site (yield n) rest) = stands_breaks w rest
stands_breaks w (plain site (claim goal ax) rest) = stands_breaks w rest
stands_breaks w (choose site chained c a b rest) = let x = stands_breaks w a in let y = stands_breaks w b in let z = stands_breaks w rest in rw (x, y, z) refl
stands_breaks w (loop site head body rest) = let x = stands_breaks w body in let z = stands_breaks w rest in rw (x, z) refl

pub stands_continues : (w : ℕ) (b : Block) → stands (is_continue_of w) b ≡ continues w b
stands_continues w end = refl
stands_continues w (plain site (continue_in v) rest) = ap (λ x. nat_eq v w || x) (stands_continues w rest)
stands_continues w (plain site (assign target op value) rest) = stands_continues w rest
stands_continues w (plain site (await at target a call) rest) = stands_continues w rest
stands_continues w (plain site (perform at target call) rest) = stands_continues w rest
stands_continues w (plain site (invoke at target keep mark called args) rest) = stands_continues w rest
stands_continues w (plain site (break_from v) rest) = stands_continues w rest
stands_continues w (plain site (give_back value) rest) = stands_continues w rest
stands_continues w (plain site (yield n) rest) = stands_continues w rest
stands_continues w (plain site (claim goal ax) rest) = stands_continues w rest
stands_continues w (choose site chained c a b rest) = let x = stands_continues w a in let y = stands_continues w b in let z = stands_continues w rest in rw (x, y, z) refl
stands_continues w (loop site head body rest) = let x = stands_continues w body in let z = stands_continues w rest in rw (x, z) refl

pub stands_returns : (b : Block) → stands is_return b ≡ returns b
stands_returns end = refl
stands_returns (plain site s rest) = ap (λ x. is_return s || x) (stands_returns rest)
stands_returns (choose site chained c a b rest) = let x = stands_returns a in let y = stands_returns b in let z = stands_returns rest in rw (x, y, z) refl
stands_returns (loop site head body rest) = let x = stands_returns body in let z = stands_returns rest in rw (x, z) refl

pub stands_awaited : (test : Awaited → Bool) (b : Block) → stands (awaits test) b ≡ keeps test b
stands_awaited test end = refl
stands_awaited test (plain site s rest) = ap (λ x. awaits test s || x) (stands_awaited test rest)
stands_awaited test (choose site chained c a b rest) = let x = stands_awaited test a in let y = stands_awaited test b in let z = stands_awaited test rest in rw (x, y, z) refl
stands_awaited test (loop site head body rest) = let x = stands_awaited test body in let z = stands_awaited test rest in rw (x, z) refl

-- Calls.
more_than_none : (n : ℕ) → false ≡ nat_eq (suc n) 0
more_than_none n = grind (arith, nat_tests)

more_than_one : (n : ℕ) → false ≡ nat_eq (suc (suc n)) 1
more_than_one n = grind (arith, nat_tests)

base_held : (nodes : TypedNodes) (at : Place) (target : Target) (on : ValueTree) (sig : BaseSig) (es : List ExprId) → awaits holds_something (base_call at target on sig (map (tree_of nodes) es)) ≡ base_holds nodes sig es
base_held nodes at target on (sigs.Read reads.ReadU8) [] = refl
base_held nodes at target on (sigs.Read reads.ReadU8) (e ∷ es) = refl
base_held nodes at target on (sigs.Read reads.ReadU16Be) [] = refl
base_held nodes at target on (sigs.Read reads.ReadU16Be) (e ∷ es) = more_than_none (length es)
base_held nodes at target on (sigs.Read reads.ReadU16Le) [] = refl
base_held nodes at target on (sigs.Read reads.ReadU16Le) (e ∷ es) = more_than_none (length es)
base_held nodes at target on (sigs.Read reads.ReadU32Be) [] = refl
base_held nodes at target on (sigs.Read reads.ReadU32Be) (e ∷ es) = more_than_none (length es)
base_held nodes at target on (sigs.Read reads.ReadU32Le) [] = refl
base_held nodes at target on (sigs.Read reads.ReadU32Le) (e ∷ es) = more_than_none (length es)
base_held nodes at target on (sigs.Read reads.ReadU64Be) [] = refl
base_held nodes at target on (sigs.Read reads.ReadU64Be) (e ∷ es) = more_than_none (length es)
base_held nodes at target on (sigs.Read reads.ReadU64Le) [] = refl
base_held nodes at target on (sigs.Read reads.ReadU64Le) (e ∷ es) = more_than_none (length es)
base_held nodes at target on sigs.Skip [] = refl
base_held nodes at target on sigs.Skip (e ∷ []) = refl
base_held nodes at target on sigs.Skip (e ∷ f ∷ es) = more_than_one (length es)
base_held nodes at target on sigs.Write [] = refl
base_held nodes at target on sigs.Write (e ∷ []) = refl
base_held nodes at target on sigs.Write (e ∷ f ∷ es) = refl
base_held nodes at target on sigs.SkipFast [] = refl
base_held nodes at target on sigs.SkipFast (e ∷ []) = refl
base_held nodes at target on sigs.SkipFast (e ∷ f ∷ []) = refl
base_held nodes at target on sigs.SkipFast (e ∷ f ∷ v ∷ es) = refl
base_held nodes at target on sigs.WriteFast [] = refl
base_held nodes at target on sigs.WriteFast (e ∷ []) = refl
base_held nodes at target on sigs.WriteFast (e ∷ f ∷ es) = refl
base_held nodes at target on sigs.WriterCopy [] = refl
base_held nodes at target on sigs.WriterCopy (e ∷ []) = refl
base_held nodes at target on sigs.WriterCopy (e ∷ f ∷ es) = refl
base_held nodes at target on (sigs.SliceCopy width) [] = refl
base_held nodes at target on (sigs.SliceCopy width) (e ∷ []) = refl
base_held nodes at target on (sigs.SliceCopy width) (e ∷ f ∷ es) = refl
base_held nodes at target on sigs.ReaderLength es = refl
base_held nodes at target on sigs.ReaderIsClosed es = refl
base_held nodes at target on sigs.ReaderPosition es = refl
base_held nodes at target on (sigs.Peek form) es = refl
base_held nodes at target on sigs.WriterLength es = refl
base_held nodes at target on sigs.WriterPosition es = refl
base_held nodes at target on (sigs.SliceLength width) es = refl
base_held nodes at target on (sigs.ArrayLength width) es = refl
base_held nodes at target on sigs.IsOk es = refl
base_held nodes at target on sigs.IsNote es = refl
base_held nodes at target on sigs.IsSuspension es = refl
base_held nodes at target on sigs.IsError es = refl

base_counted : (at : Place) (target : Target) (on : ValueTree) (sig : BaseSig) (ts : List ValueTree) → awaits counts_bytes (base_call at target on sig ts) ≡ base_counts sig (length ts)
base_counted at target on (sigs.Read reads.ReadU8) [] = refl
base_counted at target on (sigs.Read reads.ReadU8) (t ∷ ts) = refl
base_counted at target on (sigs.Read reads.ReadU16Be) [] = refl
base_counted at target on (sigs.Read reads.ReadU16Be) (t ∷ ts) = more_than_none (length ts)
base_counted at target on (sigs.Read reads.ReadU16Le) [] = refl
base_counted at target on (sigs.Read reads.ReadU16Le) (t ∷ ts) = more_than_none (length ts)
base_counted at target on (sigs.Read reads.ReadU32Be) [] = refl
base_counted at target on (sigs.Read reads.ReadU32Be) (t ∷ ts) = more_than_none (length ts)
base_counted at target on (sigs.Read reads.ReadU32Le) [] = refl
base_counted at target on (sigs.Read reads.ReadU32Le) (t ∷ ts) = more_than_none (length ts)
base_counted at target on (sigs.Read reads.ReadU64Be) [] = refl
base_counted at target on (sigs.Read reads.ReadU64Be) (t ∷ ts) = more_than_none (length ts)
base_counted at target on (sigs.Read reads.ReadU64Le) [] = refl
base_counted at target on (sigs.Read reads.ReadU64Le) (t ∷ ts) = more_than_none (length ts)
base_counted at target on sigs.Skip [] = refl
base_counted at target on sigs.Skip (t ∷ []) = refl
base_counted at target on sigs.Skip (t ∷ u ∷ ts) = refl
base_counted at target on sigs.Write [] = refl
base_counted at target on sigs.Write (t ∷ []) = refl
base_counted at target on sigs.Write (t ∷ u ∷ ts) = refl
base_counted at target on sigs.SkipFast [] = refl
base_counted at target on sigs.SkipFast (t ∷ []) = refl
base_counted at target on sigs.SkipFast (t ∷ u ∷ []) = refl
base_counted at target on sigs.SkipFast (t ∷ u ∷ v ∷ ts) = refl
base_counted at target on sigs.WriteFast [] = refl
base_counted at target on sigs.WriteFast (t ∷ []) = refl
base_counted at target on sigs.WriteFast (t ∷ u ∷ ts) = refl
base_counted at target on sigs.WriterCopy [] = refl
base_counted at target on sigs.WriterCopy (t ∷ []) = refl
base_counted at target on sigs.WriterCopy (t ∷ u ∷ ts) = refl
base_counted at target on (sigs.SliceCopy width) [] = refl
base_counted at target on (sigs.SliceCopy width) (t ∷ []) = refl
base_counted at target on (sigs.SliceCopy width) (t ∷ u ∷ ts) = refl
base_counted at target on sigs.ReaderLength ts = refl
base_counted at target on sigs.ReaderIsClosed ts = refl
base_counted at target on sigs.ReaderPosition ts = refl
base_counted at target on (sigs.Peek form) ts = refl
base_counted at target on sigs.WriterLength ts = refl
base_counted at target on sigs.WriterPosition ts = refl
base_counted at target on (sigs.SliceLength width) ts = refl
base_counted at target on (sigs.ArrayLength width) ts = refl
base_counted at target on sigs.IsOk ts = refl
base_counted at target on sigs.IsNote ts = refl
base_counted at target on sigs.IsSuspension ts = refl
base_counted at target on sigs.IsError ts = refl

-- No call is a jump or a `return`.
base_jumps : (w : ℕ) (at : Place) (target : Target) (on : ValueTree) (sig : BaseSig) (ts : List ValueTree)
    → (is_break_of w (base_call at target on sig ts) ≡ false) × ((is_continue_of w (base_call at target on sig ts) ≡ false) × (is_return (base_call at target on sig ts) ≡ false))
base_jumps w at target on (sigs.Read form) [] = (refl, (refl, refl))
base_jumps w at target on (sigs.Read form) (t ∷ ts) = (refl, (refl, refl))
base_jumps w at target on sigs.Skip [] = (refl, (refl, refl))
base_jumps w at target on sigs.Skip (t ∷ []) = (refl, (refl, refl))
base_jumps w at target on sigs.Skip (t ∷ u ∷ ts) = (refl, (refl, refl))
base_jumps w at target on sigs.Write [] = (refl, (refl, refl))
base_jumps w at target on sigs.Write (t ∷ []) = (refl, (refl, refl))
base_jumps w at target on sigs.Write (t ∷ u ∷ ts) = (refl, (refl, refl))
base_jumps w at target on sigs.SkipFast [] = (refl, (refl, refl))
base_jumps w at target on sigs.SkipFast (t ∷ []) = (refl, (refl, refl))
base_jumps w at target on sigs.SkipFast (t ∷ u ∷ []) = (refl, (refl, refl))
base_jumps w at target on sigs.SkipFast (t ∷ u ∷ v ∷ ts) = (refl, (refl, refl))
base_jumps w at target on sigs.WriteFast [] = (refl, (refl, refl))
base_jumps w at target on sigs.WriteFast (t ∷ []) = (refl, (refl, refl))
base_jumps w at target on sigs.WriteFast (t ∷ u ∷ ts) = (refl, (refl, refl))
base_jumps w at target on sigs.WriterCopy [] = (refl, (refl, refl))
base_jumps w at target on sigs.WriterCopy (t ∷ []) = (refl, (refl, refl))
base_jumps w at target on sigs.WriterCopy (t ∷ u ∷ ts) = (refl, (refl, refl))
base_jumps w at target on (sigs.SliceCopy width) [] = (refl, (refl, refl))
base_jumps w at target on (sigs.SliceCopy width) (t ∷ []) = (refl, (refl, refl))
base_jumps w at target on (sigs.SliceCopy width) (t ∷ u ∷ ts) = (refl, (refl, refl))
base_jumps w at target on sigs.ReaderLength ts = (refl, (refl, refl))
base_jumps w at target on sigs.ReaderIsClosed ts = (refl, (refl, refl))
base_jumps w at target on sigs.ReaderPosition ts = (refl, (refl, refl))
base_jumps w at target on (sigs.Peek form) ts = (refl, (refl, refl))
base_jumps w at target on sigs.WriterLength ts = (refl, (refl, refl))
base_jumps w at target on sigs.WriterPosition ts = (refl, (refl, refl))
base_jumps w at target on (sigs.SliceLength width) ts = (refl, (refl, refl))
base_jumps w at target on (sigs.ArrayLength width) ts = (refl, (refl, refl))
base_jumps w at target on sigs.IsOk ts = (refl, (refl, refl))
base_jumps w at target on sigs.IsNote ts = (refl, (refl, refl))
base_jumps w at target on sigs.IsSuspension ts = (refl, (refl, refl))
base_jumps w at target on sigs.IsError ts = (refl, (refl, refl))

call_is_sought : (nodes : TypedNodes) (s : Sought) (at : Place) (target : Target) (keep : Bool) (callee : Callee) (args : List ExprId)
    → is_sought s (call_made nodes (tree_of nodes) at target keep callee (map (tree_of nodes) args)) ≡ call_sought nodes s callee args
call_is_sought nodes (sought.Break w) at target keep (callees.Own m) args = refl
call_is_sought nodes (sought.Break w) at target keep (callees.Sub x m) args = refl
call_is_sought nodes (sought.Break w) at target keep (callees.Base on sig) args = (base_jumps w.0 at target (tree_of nodes on) sig (map (tree_of nodes) args)).0
call_is_sought nodes (sought.Continue w) at target keep (callees.Own m) args = refl
call_is_sought nodes (sought.Continue w) at target keep (callees.Sub x m) args = refl
call_is_sought nodes (sought.Continue w) at target keep (callees.Base on sig) args = (base_jumps w.0 at target (tree_of nodes on) sig (map (tree_of nodes) args)).1.0
call_is_sought nodes sought.Held at target keep (callees.Own m) args = refl
call_is_sought nodes sought.Held at target keep (callees.Sub x m) args = refl
call_is_sought nodes sought.Held at target keep (callees.Base on sig) args = base_held nodes at target (tree_of nodes on) sig args
call_is_sought nodes sought.Counted at target keep (callees.Own m) args = refl
call_is_sought nodes sought.Counted at target keep (callees.Sub x m) args = refl
call_is_sought nodes sought.Counted at target keep (callees.Base on sig) args =
    base_counted at target (tree_of nodes on) sig (map (tree_of nodes) args) ∙ ap (base_counts sig) (length-map args (tree_of nodes))
call_is_sought nodes sought.Return at target keep (callees.Own m) args = refl
call_is_sought nodes sought.Return at target keep (callees.Sub x m) args = refl
call_is_sought nodes sought.Return at target keep (callees.Base on sig) args = (base_jumps 0 at target (tree_of nodes on) sig (map (tree_of nodes) args)).1.1

-- Statements that are no jump and no `return` and wait for nothing.
idle : (s : Sought) (x : Simple) → ((w : ℕ) → is_break_of w x ≡ false) → ((w : ℕ) → is_continue_of w x ≡ false) → ((test : Awaited → Bool) → awaits test x ≡ false) → is_return x ≡ false → is_sought s x ≡ false
idle (sought.Break w) x b c m r = b w.0
idle (sought.Continue w) x b c m r = c w.0
idle sought.Held x b c m r = m holds_something
idle sought.Counted x b c m r = m counts_bytes
idle sought.Return x b c m r = r

-- A `return` is one whatever it gives: the tree of an expression is never lost.
given_back : (s : Sought) (v : ValueTree) → is_return (give_back (Some v)) ≡ true → is_sought s (give_back (Some v)) ≡ is_sought s (give_back None)
given_back (sought.Break w) v h = refl
given_back (sought.Continue w) v h = refl
given_back sought.Held v h = refl
given_back sought.Counted v h = refl
given_back sought.Return v h = h

lt_from : (m n : ℕ) → nat_lt m n ≡ true → m < n
lt_from m n h = grind (arith, nat_tests, h)

kind_given : (ty : Ty) (t : ValueTree) → is_tree_of ty t ≡ true → is_return (give_back (Some t)) ≡ true
kind_given ty (numeric t) h = refl
kind_given ty (logical t) h = refl
kind_given ty (state t) h = refl
kind_given ty (elements t) h = refl
kind_given ty (io at a) h = refl
kind_given (types.Num width lo hi) lost h = absurd (cc h)
kind_given types.Flag lost h = absurd (cc h)
kind_given types.Status lost h = absurd (cc h)
kind_given types.Reader lost h = absurd (cc h)
kind_given types.Writer lost h = absurd (cc h)
kind_given (types.Slice width) lost h = absurd (cc h)
kind_given (types.Array width lo hi count) lost h = absurd (cc h)
kind_given (types.Part part) lost h = absurd (cc h)

tree_given : (nodes : TypedNodes) → IsTyped nodes → (e : ExprId) → is_expr nodes e ≡ true → is_return (give_back (Some (tree_of nodes e))) ≡ true
tree_given nodes typed e h = kind_given (type_of_node nodes e.0) (tree_of nodes e) (tree_kind nodes typed e (lt_from e.0 (length nodes.exprs) h))

lt_more : (k m n : ℕ) → m ≤ n → nat_lt k m ≡ true → nat_lt k n ≡ true
lt_more k m n l h = grind (arith, nat_tests, l, h)

pub ids_more : (m n : ℕ) → m ≤ n → (ss : List StmtId) → list_all (λ s. nat_lt s.0 m) ss ≡ true → list_all (λ s. nat_lt s.0 n) ss ≡ true
ids_more m n l [] h = refl
ids_more m n l (s ∷ ss) h =
    let p = both_true (nat_lt s.0 m) (list_all (λ s. nat_lt s.0 m) ss) h in
    rw (lt_more s.0 m n l p.0, ids_more m n l ss p.1) refl

pub node_there : (ns : List StmtNode) (s : ℕ) → s < length ns → (n : StmtNode) × (slice_get ns s ≡ Some n)
node_there [] s h = absurd (omega (arith, h))
node_there (n ∷ ns) zero h = (n, refl)
node_there (n ∷ ns) (suc s) h = node_there ns s (omega (arith, h))

three : (a b c d e : Bool) → a ≡ b → c ≡ (d || e) → (a || (c || false)) ≡ ((b || d) || e)
three a b c d e p q = ap (λ x. x || (c || false)) p ∙ ap (λ x. b || x) (or_false c ∙ q) ∙ or_assoc b d e

module _ (nodes : TypedNodes) (ordered : each_numbered (λ s node. stmt_below nodes s node.stmt) 0 nodes.stmts ≡ true) (trees : (e : ExprId) → is_expr nodes e ≡ true → is_return (give_back (Some (tree_of nodes e))) ≡ true) (s : Sought) where
  module _ (n : ℕ) (at close : Place) where
    made_in_front : (st : Stmt) (rest : Block)
        → stands (is_sought s) (stmt_made nodes (tree_of nodes) (onto (stmt_makers nodes)) n (record { stmt = st; at = at; inner = close }) rest)
        ≡ (stands (is_sought s) (stmt_made nodes (tree_of nodes) (onto (stmt_makers nodes)) n (record { stmt = st; at = at; inner = close }) end) || stands (is_sought s) rest)
    made_in_front (stmts.Assign target op value) rest = ap (λ x. x || stands (is_sought s) rest) (sym (or_false _))
    made_in_front (stmts.Call target keep callee args) rest = ap (λ x. x || stands (is_sought s) rest) (sym (or_false _))
    made_in_front (stmts.If [] otherwise) rest = ap (λ x. x || stands (is_sought s) rest) (sym (or_false _))
    made_in_front (stmts.If (arm ∷ arms) otherwise) rest =
        let site : Site = record { number = n; at = at } in
        let a = stands (is_sought s) (block_made (onto (stmt_makers nodes)) arm.body.items) in
        let b = stands (is_sought s) (otherwise_made (tree_of nodes) (onto (stmt_makers nodes)) site arms otherwise) in
        join a b (stands (is_sought s) rest)
      where
        join : (a b c : Bool) → (a || (b || c)) ≡ ((a || (b || false)) || c)
        join a b c = or_assoc a b c ∙ ap (λ x. (a || x) || c) (sym (or_false b))
    made_in_front (stmts.While head body) rest = ap (λ x. x || stands (is_sought s) rest) (sym (or_false _))
    made_in_front (stmts.Break w) rest = ap (λ x. x || stands (is_sought s) rest) (sym (or_false _))
    made_in_front (stmts.Continue w) rest = ap (λ x. x || stands (is_sought s) rest) (sym (or_false _))
    made_in_front (stmts.Return None) rest = ap (λ x. x || stands (is_sought s) rest) (sym (or_false _))
    made_in_front (stmts.Return (Some e)) rest = ap (λ x. x || stands (is_sought s) rest) (sym (or_false _))
    made_in_front (stmts.Yield k) rest = ap (λ x. x || stands (is_sought s) rest) (sym (or_false _))
    made_in_front (stmts.Assert goal axiom_ref) rest = ap (λ x. x || stands (is_sought s) rest) (sym (or_false _))

  in_front : (i : StmtId) (n : StmtNode) (rest : Block) → slice_get nodes.stmts i.0 ≡ Some n
      → stands (is_sought s) (onto (stmt_makers nodes) i rest) ≡ (stands_at nodes (is_sought s) i || stands (is_sought s) rest)
  unfolding stands_at
  in_front i n rest is =
      let made = λ (after : Block). ap (stands (is_sought s)) (stmt_is nodes i n after is ordered) in
      made rest ∙ made_in_front i.0 n.at n.inner n.stmt rest ∙ ap (λ x. x || stands (is_sought s) rest) (sym (made end))

  -- Statements of a block.
  pub among : (ss : List StmtId) → list_all (λ inner. nat_lt inner.0 (length nodes.stmts)) ss ≡ true
      → stands (is_sought s) (block_made (onto (stmt_makers nodes)) ss) ≡ stands_among (stands_at nodes (is_sought s)) ss
  among [] h = refl
  among (i ∷ ss) h =
      let p = both_true (nat_lt i.0 (length nodes.stmts)) (list_all (λ inner. nat_lt inner.0 (length nodes.stmts)) ss) h in
      let n = node_there nodes.stmts i.0 (lt_from i.0 (length nodes.stmts) p.0) in
      in_front i n.0 (block_made (onto (stmt_makers nodes)) ss) n.1 ∙ ap (λ x. stands_at nodes (is_sought s) i || x) (among ss p.1)

  module _ (k : ℕ) (small : k ≤ length nodes.stmts) where
    block_among : (b : typed_code.Block) → block_below k b ≡ true → stands (is_sought s) (block_made (onto (stmt_makers nodes)) b.items) ≡ stands_among (stands_at nodes (is_sought s)) b.items
    block_among b h = among b.items (ids_more k (length nodes.stmts) small b.items h)

    otherwise_among : (site : Site) (arms : List Arm) (other : Option typed_code.Block) → list_all (λ a. is_expr nodes a.cond && block_below k a.body) arms ≡ true → optional_block_below k other ≡ true
        → stands (is_sought s) (otherwise_made (tree_of nodes) (onto (stmt_makers nodes)) site arms other) ≡ (stands_in_arms (stands_at nodes (is_sought s)) arms || stands_in_else (stands_at nodes (is_sought s)) other)
    otherwise_among site [] None h o = refl
    otherwise_among site [] (Some b) h o = block_among b o
    otherwise_among site (arm ∷ arms) other h o =
        let p = both_true (is_expr nodes arm.cond && block_below k arm.body) (list_all (λ a. is_expr nodes a.cond && block_below k a.body) arms) h in
        let q = both_true (is_expr nodes arm.cond) (block_below k arm.body) p.0 in
        three (stands (is_sought s) (block_made (onto (stmt_makers nodes)) arm.body.items)) (stands_among (stands_at nodes (is_sought s)) arm.body.items)
        (stands (is_sought s) (otherwise_made (tree_of nodes) (onto (stmt_makers nodes)) site arms other)) (stands_in_arms (stands_at nodes (is_sought s)) arms) (stands_in_else (stands_at nodes (is_sought s)) other)
        (block_among arm.body q.1) (otherwise_among site arms other p.1 o)

    if_among : (site : Site) (arms : List Arm) (other : Option typed_code.Block) → list_all (λ a. is_expr nodes a.cond && block_below k a.body) arms ≡ true → optional_block_below k other ≡ true
        → stands (is_sought s) (if_made (tree_of nodes) (onto (stmt_makers nodes)) site arms other end) ≡ stands_in_if (stands_at nodes (is_sought s)) arms other
    if_among site [] other h o = or_false _ ∙ idle s _ (λ w. refl) (λ w. refl) (λ test. refl) refl
    if_among site (arm ∷ arms) other h o =
        let p = both_true (is_expr nodes arm.cond && block_below k arm.body) (list_all (λ a. is_expr nodes a.cond && block_below k a.body) arms) h in
        let q = both_true (is_expr nodes arm.cond) (block_below k arm.body) p.0 in
        three (stands (is_sought s) (block_made (onto (stmt_makers nodes)) arm.body.items)) (stands_among (stands_at nodes (is_sought s)) arm.body.items)
        (stands (is_sought s) (otherwise_made (tree_of nodes) (onto (stmt_makers nodes)) site arms other)) (stands_in_arms (stands_at nodes (is_sought s)) arms) (stands_in_else (stands_at nodes (is_sought s)) other)
        (block_among arm.body q.1) (otherwise_among site arms other p.1 o)

    by_stmt : (n : ℕ) (at close : Place) (st : Stmt) → stmt_below nodes k st ≡ true
        → stands (is_sought s) (stmt_made nodes (tree_of nodes) (onto (stmt_makers nodes)) n (record { stmt = st; at = at; inner = close }) end) ≡ stands_of nodes (stands_at nodes (is_sought s)) s st
    by_stmt n at close (stmts.Assign target op value) h = or_false _ ∙ idle s _ (λ w. refl) (λ w. refl) (λ test. refl) refl
    by_stmt n at close (stmts.Call target keep callee args) h = or_false _ ∙ call_is_sought nodes s close (optional_target (tree_of nodes) target) keep callee args
    by_stmt n at close (stmts.If arms otherwise) h =
        let p = both_true (list_all (λ a. is_expr nodes a.cond && block_below k a.body) arms) (optional_block_below k otherwise) h in
        if_among (record { number = n; at = at }) arms otherwise p.0 p.1
    by_stmt n at close (stmts.While head body) h =
        let p = both_true (is_expr nodes head.cond) (list_all (λ c. is_expr nodes c.1) head.clauses && block_below k body) h in
        let q = both_true (list_all (λ c. is_expr nodes c.1) head.clauses) (block_below k body) p.1 in
        or_false _ ∙ block_among body q.1
    by_stmt n at close (stmts.Break w) h = or_false _
    by_stmt n at close (stmts.Continue w) h = or_false _
    by_stmt n at close (stmts.Return None) h = or_false _
    by_stmt n at close (stmts.Return (Some e)) h = or_false _ ∙ given_back s (tree_of nodes e) (trees e h)
    by_stmt n at close (stmts.Yield k) h = or_false _ ∙ idle s _ (λ w. refl) (λ w. refl) (λ test. refl) refl
    by_stmt n at close (stmts.Assert goal axiom_ref) h = or_false _ ∙ idle s _ (λ w. refl) (λ w. refl) (λ test. refl) refl

  by_node : (i : StmtId) (n : StmtNode) → slice_get nodes.stmts i.0 ≡ Some n → stands_at nodes (is_sought s) i ≡ stands_of nodes (stands_at nodes (is_sought s)) s n.stmt
  unfolding stands_at
  by_node i n is =
      let below : i.0 < length nodes.stmts = slice_get_within nodes.stmts i.0 n is in
      let kept = numbered_from_zero (λ s node. stmt_below nodes s node.stmt) nodes.stmts i.0 n ordered is in
      ap (stands (is_sought s)) (stmt_is nodes i n end is ordered) ∙ by_stmt i.0 (omega arith) i.0 n.at n.inner n.stmt kept

-- What stands in a statement of a package.
pub node_stands : (nodes : TypedNodes) → IsTyped nodes → (s : Sought) (i : StmtId) (st : Stmt) → i.0 < length nodes.stmts → option_map (λ node. node.stmt) (slice_get nodes.stmts i.0) ≡ Some st
    → stands_at nodes (is_sought s) i ≡ stands_of nodes (stands_at nodes (is_sought s)) s st
node_stands nodes typed s i st h e =
    let n = node_there nodes.stmts i.0 h in
    let P : Option StmtNode → Type 0 = λ o. option_map (λ node. node.stmt) o ≡ Some st in
    let same : n.0.stmt ≡ st = cc (subst P n.1 e) in
    let B : Stmt → Type 0 = λ st. stands_at nodes (is_sought s) i ≡ stands_of nodes (stands_at nodes (is_sought s)) s st in
    subst B same (by_node nodes typed.stmts_ordered (tree_given nodes typed) s i n.0 n.1)

-- And in a body.
pub body_stands : (nodes : TypedNodes) → IsTyped nodes → (s : Sought) (b : typed_code.Block) → block_below (length nodes.stmts) b ≡ true → stands (is_sought s) (block_of nodes b) ≡ stands_among (stands_at nodes (is_sought s)) b.items
body_stands nodes typed s b h = among nodes typed.stmts_ordered (tree_given nodes typed) s b.items h
