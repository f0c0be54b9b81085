-- Typing leaves at most two parts for each bracket.
use Rattle.std.proofs.Common.{◌≡◌, ℕ, ◌+◌, ◌-◌, ◌*◌, ◌≤◌, Bool, true, false, not, ◌&&◌, List, [], ◌∷◌, Option, Some, None, refl, arith}
use Rattle.std.specs.Prelude.{nat_le, if◌then◌else◌}
use Rattle.std.specs.List.{list_all}
use Rattle.wf_text.specs.declared.place.Place.{Place}
use Rattle.wf_base.specs.declared.base_methods.BaseSig.{BaseSig}
use Rattle.wf_base.specs.declared.marks.Mark.{Mark}
use Rattle.wf_base.specs.BaseTable.{row_of}
use Rattle.wf_ast.specs.WellTyped.{is_pure}
use Rattle.wf_ast.specs.declared.operators.Op.{Op}
use Rattle.wf_ast.specs.declared.types.Ty.{Ty}
use Rattle.wf_ast.specs.TypedTree.{CondTree, ValueTree, Target, to_nothing, Simple, Site, Block, end}
use Rattle.wf_ast.specs.TypedTree as typed
use Rattle.wf_ast.specs.TypedTrees.{OperatorKind, arithmetic, ordering, joining, operator_kind, num_in, cond_in, slice_in, chain_of, answer_of}
use Rattle.wf_ast.specs.OperatorForms.{updates, is_arithmetic}
use Rattle.wf_ast.proofs.BoolLemmas.{both, and-true}
use Rattle.wf_named.specs.declared.nodes.NamedCallee.{NamedCallee}
use Rattle.wf_named.specs.declared.nodes.NamedCallee.TheVariants as callees
use Rattle.wf_named.specs.NamedTree.{NamedExprTree, number, status, truth, path, index, slice, answer, chain, convert, negation, NamedPartTree, absent, present, NamedLinkTrees, no_link, link, NamedArgTrees, no_arg, more_args, NamedCallTree, call}
use Rattle.wf_named.specs.NamedTree.{NamedTargetTree, to_path, to_element, NamedStmtTree, assign, keep, do_call, branch, loop, leave, again, back, suspend, claim, NamedBlockTree, close, more_stmts, NamedArmTrees, no_else, otherwise, arm, NamedMethodTree, NamedPackageTree}
use Rattle.wf_named.specs.Grammar.{has_operands, by_grammar, end_by_grammar, links_by_grammar, args_by_grammar, call_by_grammar, target_by_grammar, clauses_by_grammar, has_condition, stmt_by_grammar, block_by_grammar, arms_by_grammar}
use Rattle.wf_types_rules.specs.declared.settings.Setting.{Setting}
use Rattle.wf_types_rules.specs.DeclaredTypes.{in_method}
use Rattle.wf_types_rules.specs.ExprTypes.{number_of}
use Rattle.wf_typed_tree.specs.ElaboratedExprs.{path_tree, type_of, signs_in, expr_tree, end_tree, link_trees, arg_trees}
use Rattle.wf_typed_tree.specs.ElaboratedStmts.{type_of_update, written_to, target_tree, call_tree, assigned_call, assign_tree, returned_tree, count_stmt, count_block, count_arms, site, stmt_tree, block_tree, arms_tree}
use Rattle.wf_typed_tree.specs.ElaboratedPackage.{typed_methods, typed_package}
use Rattle.wf_lower_laws.specs.BracketLaw.{num_within, slice_within, end_within, cond_within, value_within, target_within, simple_within, is_chained, block_within}
use Rattle.wf_lower_depth_laws.specs.WrittenDepth.{Spot, alone, beside_sign, behind_not, boxes_sign, boxes_not, may_open, room_in}
use Rattle.wf_lower_depth_laws.specs.NamedDepth.{expr_opens, part_opens, links_open, args_open, call_opens, target_opens, stmt_opens, block_opens, arms_open}
use Rattle.wf_lower_depth_laws.specs.DepthLaws.{TypingKeepsDepth}
use Rattle.wf_lower_depth_laws.proofs.Room.{one_left, has_one}
use Rattle.wf_lower_depth_laws.proofs.TypedParts.{within, num_levels, cond_levels, num_of, slice_of, cond_of, value_of, target_of_value, path_within, number_or_within, MayRepeat, op_repeats, Operands, chain_within, answer_within, AllWithin, base_call_within}

-- ---- how many levels there are

at_least : (spot : Spot) (r : ℕ) → 2 * r ≤ num_levels spot r
at_least alone r = omega arith
at_least beside_sign r = omega arith
at_least behind_not r = omega arith

sign_levels : (spot : Spot) (r : ℕ) → may_open (boxes_sign spot) r ≡ true → (2 * room_in (boxes_sign spot) r + 1 ≤ num_levels spot r) × (2 * room_in (boxes_sign spot) r + 3 ≤ cond_levels spot r)
sign_levels alone r h = (omega arith, omega arith)
sign_levels beside_sign r h = let l = has_one r h in (omega (arith, l), omega (arith, l))
sign_levels behind_not r h = let l = has_one r h in (omega (arith, l), omega (arith, l))

not_levels : (spot : Spot) (r : ℕ) → may_open (boxes_not spot) r ≡ true → 2 * room_in (boxes_not spot) r + 2 ≤ cond_levels spot r
not_levels alone r h = omega arith
not_levels beside_sign r h = omega arith
not_levels behind_not r h = let l = has_one r h in omega (arith, l)

module _ (s : Setting) where
  -- ---- expressions

  operands_repeat : (op : Op) (links : NamedLinkTrees) → has_operands op links ≡ true → MayRepeat (operator_kind op) (link_trees s links)
  operands_repeat op no_link h = tt
  operands_repeat op (link sign e no_link) h = tt
  operands_repeat op (link sign e (link sign_behind f others)) h = op_repeats op h

  mutual
    pub expr_within : (spot : Spot) (r : ℕ) (e : NamedExprTree) → by_grammar e ≡ true → expr_opens spot r e ≡ true
        → (n c : ℕ) → num_levels spot r ≤ n → cond_levels spot r ≤ c → within n c (expr_tree s e) ≡ true
    expr_within spot r (number value at) g h n c l m = refl
    expr_within spot r (status x at) g h n c l m = refl
    expr_within spot r (truth value at) g h n c l m = refl
    expr_within spot r (path p) g h n c l m = path_within s p n c
    expr_within spot r (index p i at) g h n c l m =
        let q = both (nat_le 1 r) (expr_opens alone (r - 1) i) h in
        let one = has_one r q.0 in
        let low = at_least spot r in
        let cells = slice_of (n - 1) c (path_tree s p) (path_within s p (n - 1) c) in
        let place = num_of (n - 1) (2 * r + 3) (expr_tree s i) (expr_within alone (r - 1) i g q.1 (n - 1) (2 * r + 3) (omega (arith, l, one, low)) (omega (arith, one))) in
        and-true (nat_le 1 n) (slice_within (n - 1) (slice_in (path_tree s p)) && num_within (n - 1) (num_in (expr_tree s i))) (one_left n (omega (arith, l, one, low)))
        (and-true (slice_within (n - 1) (slice_in (path_tree s p))) (num_within (n - 1) (num_in (expr_tree s i))) cells place)
    expr_within spot r (slice p from to at) g h n c l m =
        let q = both (nat_le 1 r) (part_opens (r - 1) from && part_opens (r - 1) to) h in
        let ends = both (part_opens (r - 1) from) (part_opens (r - 1) to) q.1 in
        let k = both (end_by_grammar from) (end_by_grammar to) g in
        let one = has_one r q.0 in
        let low = at_least spot r in
        let cells = slice_of (n - 1) c (path_tree s p) (path_within s p (n - 1) c) in
        let first = part_within (r - 1) from k.0 ends.0 (n - 1) (omega (arith, l, one, low)) in
        let last = part_within (r - 1) to k.1 ends.1 (n - 1) (omega (arith, l, one, low)) in
        and-true (nat_le 1 n) (slice_within (n - 1) (slice_in (path_tree s p)) && (end_within (n - 1) (end_tree s from) && end_within (n - 1) (end_tree s to))) (one_left n (omega (arith, l, one, low)))
        (and-true (slice_within (n - 1) (slice_in (path_tree s p))) (end_within (n - 1) (end_tree s from) && end_within (n - 1) (end_tree s to)) cells
        (and-true (end_within (n - 1) (end_tree s from)) (end_within (n - 1) (end_tree s to)) first last))
    expr_within spot r (answer (call (callees.Base on sig) at mark args)) g h n c l m = answer_within at sig (path_tree s on) n c (slice_of n c (path_tree s on) (path_within s on n c))
    expr_within spot r (answer (call (callees.Own o) at mark args)) g h n c l m = refl
    expr_within spot r (answer (call (callees.Sub x o) at mark args)) g h n c l m = refl
    expr_within spot r (chain op first links at) g h n c l m =
        let b = room_in (boxes_sign spot) r in
        let q = both (may_open (boxes_sign spot) r) (expr_opens beside_sign b first && links_open b links) h in
        let operands = both (expr_opens beside_sign b first) (links_open b links) q.1 in
        let k = both (has_operands op links) (by_grammar first && links_by_grammar links) g in
        let each = both (by_grammar first) (links_by_grammar links) k.1 in
        let levels = sign_levels spot r q.0 in
        let low = levels.0 in
        let high = levels.1 in
        number_or_within n c at (number_of s (chain op first links at)) _
        (chain_within b at (signs_in links) (type_of s (chain op first links at)) (operator_kind op) (expr_tree s first) (link_trees s links) n c (omega (arith, l, low)) (omega (arith, m, high))
        (expr_within beside_sign b first each.0 operands.0) (links_within b links each.1 operands.1) (operands_repeat op links k.0))
    expr_within spot r (convert e t at) g h n c l m =
        let b = room_in (boxes_sign spot) r in
        let q = both (may_open (boxes_sign spot) r) (expr_opens beside_sign b e) h in
        let levels = sign_levels spot r q.0 in
        let low = levels.0 in
        let inner = num_of (n - 1) (2 * b + 2) (expr_tree s e) (expr_within beside_sign b e g q.1 (n - 1) (2 * b + 2) (omega (arith, l, low)) (omega arith)) in
        number_or_within n c at (number_of s (convert e t at)) _ (and-true (nat_le 1 n) (num_within (n - 1) (num_in (expr_tree s e))) (one_left n (omega (arith, l, low))) inner)
    expr_within spot r (negation e at) g h n c l m =
        let b = room_in (boxes_not spot) r in
        let q = both (may_open (boxes_not spot) r) (expr_opens behind_not b e) h in
        let high = not_levels spot r q.0 in
        let inner = cond_of (2 * b) (c - 1) (expr_tree s e) (omega (arith, m, high)) (expr_within behind_not b e g q.1 (2 * b) (c - 1) (omega arith) (omega (arith, m, high))) in
        and-true (nat_le 1 c) (cond_within (c - 1) (cond_in (expr_tree s e))) (one_left c (omega (arith, m, high))) inner

    part_within : (r : ℕ) (part : NamedPartTree) → end_by_grammar part ≡ true → part_opens r part ≡ true → (n : ℕ) → 2 * r + 1 ≤ n → end_within n (end_tree s part) ≡ true
    part_within r absent g h n l = refl
    part_within r (present e) g h n l = num_of n (2 * r + 3) (expr_tree s e) (expr_within alone r e g h n (2 * r + 3) l (omega arith))

    links_within : (r : ℕ) (links : NamedLinkTrees) → links_by_grammar links ≡ true → links_open r links ≡ true → Operands r (link_trees s links)
    links_within r no_link g h = tt
    links_within r (link sign e others) g h =
        let k = both (by_grammar e) (links_by_grammar others) g in
        let q = both (expr_opens beside_sign r e) (links_open r others) h in
        (expr_within beside_sign r e k.0 q.0, links_within r others k.1 q.1)

  -- By itself, with as many parts for a number as for a condition.
  whole_within : (r : ℕ) (e : NamedExprTree) → by_grammar e ≡ true → expr_opens alone r e ≡ true → (d : ℕ) → 2 * r + 3 ≤ d → within d d (expr_tree s e) ≡ true
  whole_within r e g h d l = expr_within alone r e g h d d (omega (arith, l)) l

  condition_within : (r : ℕ) (e : NamedExprTree) → by_grammar e ≡ true → expr_opens alone r e ≡ true → (d : ℕ) → 2 * r + 3 ≤ d → cond_within d (cond_in (expr_tree s e)) ≡ true
  condition_within r e g h d l = cond_of d d (expr_tree s e) (omega (arith, l)) (whole_within r e g h d l)

  -- ---- statements without blocks

  args_within : (r : ℕ) (args : NamedArgTrees) → args_by_grammar args ≡ true → args_open r args ≡ true → (d : ℕ) → 2 * r + 3 ≤ d → AllWithin d (arg_trees s args)
  args_within r no_arg g h d l = refl
  args_within r (more_args e others) g h d l =
      let k = both (by_grammar e) (args_by_grammar others) g in
      let q = both (expr_opens alone r e) (args_open r others) h in
      and-true (value_within d (expr_tree s e)) (list_all (value_within d) (arg_trees s others)) (value_of d (expr_tree s e) (whole_within r e k.0 q.0 d l)) (args_within r others k.1 q.1 d l)

  written_within : (r : ℕ) (t : NamedTargetTree) → target_by_grammar t ≡ true → target_opens r t ≡ true → (n c : ℕ) → 2 * r ≤ n → 2 * r + 2 ≤ c → within n c (written_to s t) ≡ true
  written_within r (to_path p) g h n c l m = path_within s p n c
  written_within r (to_element p i at) g h n c l m = expr_within beside_sign r (index p i at) g h n c l m

  place_within : (r : ℕ) (t : NamedTargetTree) → target_by_grammar t ≡ true → target_opens r t ≡ true → (d : ℕ) → 2 * r + 3 ≤ d → target_within d (target_tree s t) ≡ true
  place_within r t g h d l = target_of_value d (2 * r + 2) (written_to s t) (written_within r t g h d (2 * r + 2) (omega (arith, l)) (omega arith))

  call_args : (r : ℕ) (args : NamedArgTrees) → args_by_grammar args ≡ true → (nat_le 1 r && args_open (r - 1) args) ≡ true → (d : ℕ) → 2 * r + 3 ≤ d → AllWithin d (arg_trees s args)
  call_args r args g h d l =
      let q = both (nat_le 1 r) (args_open (r - 1) args) h in
      args_within (r - 1) args g q.1 d (omega (arith, l))

  call_within : (r : ℕ) (target : Target) (kept : Bool) (callee : NamedCallee) (at : Place) (mark : Mark) (args : NamedArgTrees) → args_by_grammar args ≡ true → (nat_le 1 r && args_open (r - 1) args) ≡ true
      → (d : ℕ) → 2 * r + 3 ≤ d → target_within d target ≡ true → simple_within d (call_tree s target kept (call callee at mark args)) ≡ true
  call_within r target kept (callees.Own o) at mark args g h d l t = and-true (target_within d target) (list_all (value_within d) (arg_trees s args)) t (call_args r args g h d l)
  call_within r target kept (callees.Sub x o) at mark args g h d l t = and-true (target_within d target) (list_all (value_within d) (arg_trees s args)) t (call_args r args g h d l)
  call_within r target kept (callees.Base on sig) at mark args g h d l t =
      base_call_within d at target (path_tree s on) sig (arg_trees s args) t (slice_of d d (path_tree s on) (path_within s on d d)) (call_args r args g h d l)

  call_alone : (r : ℕ) (target : Target) (kept : Bool) (c : NamedCallTree) → call_by_grammar c ≡ true → call_opens r c ≡ true → (d : ℕ) → 2 * r + 3 ≤ d → target_within d target ≡ true
      → simple_within d (call_tree s target kept c) ≡ true
  call_alone r target kept (call callee at mark args) g h d l t = call_within r target kept callee at mark args (both (not (is_pure mark)) (args_by_grammar args) g).1 h d l t

  assigned_answer : (pure : Bool) (d : ℕ) (at : Place) (target : Target) (sig : BaseSig) (on : ValueTree) (other : Simple) → target_within d target ≡ true → slice_within d (slice_in on) ≡ true → simple_within d other ≡ true
      → simple_within d (if pure then typed.assign target None (answer_of at sig on) else other) ≡ true
  assigned_answer true d at target sig on other t k h = and-true (target_within d target) (value_within d (answer_of at sig on)) t (value_of d (answer_of at sig on) (answer_within at sig on d d k))
  assigned_answer false d at target sig on other t k h = h

  assigned_call_within : (r : ℕ) (target : Target) (c : NamedCallTree) → by_grammar (answer c) ≡ true → expr_opens alone r (answer c) ≡ true → (d : ℕ) → 2 * r + 3 ≤ d → target_within d target ≡ true
      → simple_within d (assigned_call s target c) ≡ true
  assigned_call_within r target (call (callees.Own o) at mark args) g h d l t = call_within r target false (callees.Own o) at mark args g h d l t
  assigned_call_within r target (call (callees.Sub x o) at mark args) g h d l t = call_within r target false (callees.Sub x o) at mark args g h d l t
  assigned_call_within r target (call (callees.Base on sig) at mark args) g h d l t =
      assigned_answer (is_pure (row_of sig).mark) d at target sig (path_tree s on) (call_tree s target false (call (callees.Base on sig) at mark args)) t
      (slice_of d d (path_tree s on) (path_within s on d d)) (call_within r target false (callees.Base on sig) at mark args g h d l t)

  -- The operator of an `op=` is one part more, round the value.
  update_within : (sort : OperatorKind) (at sign : Place) (ty : Ty) (a b : ValueTree) (d : ℕ) → is_arithmetic sort ≡ true → 1 ≤ d → num_within (d - 1) (num_in a) ≡ true → num_within (d - 1) (num_in b) ≡ true
      → value_within d (chain_of at (sign ∷ []) ty sort (a ∷ b ∷ [])) ≡ true
  update_within (arithmetic op) at sign ty a b d g l h k =
      and-true (nat_le 1 d) (num_within (d - 1) (num_in a) && num_within (d - 1) (num_in b)) (one_left d l) (and-true (num_within (d - 1) (num_in a)) (num_within (d - 1) (num_in b)) h k)
  update_within (ordering op) at sign ty a b d g l h k = absurd (cc g)
  update_within (joining both_hold) at sign ty a b d g l h k = absurd (cc g)

  plain_assign : (r : ℕ) (t : NamedTargetTree) (e : NamedExprTree) → target_by_grammar t ≡ true → target_opens r t ≡ true → by_grammar e ≡ true → expr_opens alone r e ≡ true → (d : ℕ) → 2 * r + 3 ≤ d
      → simple_within d (typed.assign (target_tree s t) None (expr_tree s e)) ≡ true
  plain_assign r t e g h k j d l =
      and-true (target_within d (target_tree s t)) (value_within d (expr_tree s e)) (place_within r t g h d l) (value_of d (expr_tree s e) (whole_within r e k j d l))

  assign_within : (r : ℕ) (t : NamedTargetTree) (op : Option Op) (sign : Place) (e : NamedExprTree) → updates op ≡ true → target_by_grammar t ≡ true → target_opens r t ≡ true → by_grammar e ≡ true → expr_opens alone r e ≡ true
      → (d : ℕ) → 2 * r + 3 ≤ d → simple_within d (assign_tree s t op sign e) ≡ true
  assign_within r t (Some op) sign e u g h k j d l =
      let left = num_of (d - 1) (2 * r + 2) (written_to s t) (written_within r t g h (d - 1) (2 * r + 2) (omega (arith, l)) (omega arith)) in
      let right = num_of (d - 1) (2 * r + 3) (expr_tree s e) (expr_within alone r e k j (d - 1) (2 * r + 3) (omega (arith, l)) (omega arith)) in
      and-true (target_within d (target_tree s t)) _ (place_within r t g h d l) (update_within (operator_kind op) sign sign (type_of_update s t) (written_to s t) (expr_tree s e) d u (omega (arith, l)) left right)
  assign_within r t None sign (answer c) u g h k j d l = assigned_call_within r (target_tree s t) c k j d l (place_within r t g h d l)
  assign_within r t None sign (number value at) u g h k j d l = plain_assign r t (number value at) g h k j d l
  assign_within r t None sign (status x at) u g h k j d l = plain_assign r t (status x at) g h k j d l
  assign_within r t None sign (truth value at) u g h k j d l = plain_assign r t (truth value at) g h k j d l
  assign_within r t None sign (path p) u g h k j d l = plain_assign r t (path p) g h k j d l
  assign_within r t None sign (index p i at) u g h k j d l = plain_assign r t (index p i at) g h k j d l
  assign_within r t None sign (slice p from to at) u g h k j d l = plain_assign r t (slice p from to at) g h k j d l
  assign_within r t None sign (chain op first links at) u g h k j d l = plain_assign r t (chain op first links at) g h k j d l
  assign_within r t None sign (convert e to at) u g h k j d l = plain_assign r t (convert e to at) g h k j d l
  assign_within r t None sign (negation e at) u g h k j d l = plain_assign r t (negation e at) g h k j d l

  returned_within : (r : ℕ) (part : NamedPartTree) → end_by_grammar part ≡ true → part_opens r part ≡ true → (d : ℕ) → 2 * r + 3 ≤ d → simple_within d (typed.give_back (returned_tree s part)) ≡ true
  returned_within r absent g h d l = refl
  returned_within r (present e) g h d l = value_of d (expr_tree s e) (whole_within r e g h d l)

  -- ---- blocks

  plain_within : (d : ℕ) (at : Site) (st : Simple) (rest : Block) → simple_within d st ≡ true → block_within d rest ≡ true → block_within d (typed.plain at st rest) ≡ true
  plain_within d at st rest h k = and-true (simple_within d st) (block_within d rest) h k

  -- A block in braces.
  inside : (r d : ℕ) (x : Bool) (block : Block) → (x ≡ true → (e : ℕ) → 2 * (r - 1) + 3 ≤ e → block_within e block ≡ true) → (nat_le 1 r && x) ≡ true → 2 * r + 3 ≤ d
      → (block_within d block ≡ true) × (block_within (d - 1) block ≡ true)
  inside r d x block f h l =
      let q = both (nat_le 1 r) x h in
      let one = has_one r q.0 in
      (f q.1 d (omega (arith, l)), f q.1 (d - 1) (omega (arith, l, one)))

  chosen : (b : Bool) (d : ℕ) (block : Block) → (block_within d block ≡ true) × (block_within (d - 1) block ≡ true) → block_within (if b then d else d - 1) block ≡ true
  chosen true d block h = h.0
  chosen false d block h = h.1

  choice : (d : ℕ) (at : Site) (chained : Bool) (c : CondTree) (a b rest : Block) → 1 ≤ d → cond_within d c ≡ true → block_within (d - 1) a ≡ true → block_within (if is_chained b then d else d - 1) b ≡ true
      → block_within d rest ≡ true → block_within d (typed.choose at chained c a b rest) ≡ true
  choice d at chained c a b rest l h i j k =
      and-true (nat_le 1 d) (cond_within d c && (block_within (d - 1) a && (block_within (if is_chained b then d else d - 1) b && block_within d rest))) (one_left d l)
      (and-true (cond_within d c) (block_within (d - 1) a && (block_within (if is_chained b then d else d - 1) b && block_within d rest)) h
      (and-true (block_within (d - 1) a) (block_within (if is_chained b then d else d - 1) b && block_within d rest) i (and-true (block_within (if is_chained b then d else d - 1) b) (block_within d rest) j k)))

  mutual
    stmt_within : (r : ℕ) (loops : List ℕ) (n : ℕ) (st : NamedStmtTree) (rest : Block) → stmt_by_grammar st ≡ true → stmt_opens r st ≡ true → (d : ℕ) → 2 * r + 3 ≤ d → block_within d rest ≡ true
        → block_within d (stmt_tree s loops n st rest) ≡ true
    stmt_within r loops n (assign t op sign e at) rest g h d l w =
        let k = both (updates op) (target_by_grammar t && by_grammar e) g in
        let sides = both (target_by_grammar t) (by_grammar e) k.1 in
        let q = both (target_opens r t) (expr_opens alone r e) h in
        plain_within d (site n at) (assign_tree s t op sign e) rest (assign_within r t op sign e k.0 sides.0 q.0 sides.1 q.1 d l) w
    stmt_within r loops n (keep t c at) rest g h d l w =
        let k = both (target_by_grammar t) (call_by_grammar c) g in
        let q = both (target_opens r t) (call_opens r c) h in
        plain_within d (site n at) (call_tree s (target_tree s t) true c) rest (call_alone r (target_tree s t) true c k.1 q.1 d l (place_within r t k.0 q.0 d l)) w
    stmt_within r loops n (do_call c at) rest g h d l w = plain_within d (site n at) (call_tree s to_nothing false c) rest (call_alone r to_nothing false c g h d l refl) w
    stmt_within r loops n (branch arms at) rest g h d l w =
        let k = both (has_condition arms) (arms_by_grammar arms) g in
        branch_within r loops n (site (n + count_arms arms) at) arms rest k.0 k.1 h d l w
    stmt_within r loops n (loop e clauses body at) rest g h d l w =
        let k = both (by_grammar e) (clauses_by_grammar clauses && block_by_grammar body) g in
        let inner = both (clauses_by_grammar clauses) (block_by_grammar body) k.1 in
        let q = both (expr_opens alone r e) (nat_le 1 r && block_opens (r - 1) body) h in
        let b = block_tree s ((n + count_block body) ∷ loops) n body in
        let done = inside r d (block_opens (r - 1) body) b (body_within (r - 1) ((n + count_block body) ∷ loops) n body inner.1) q.1 l in
        and-true (nat_le 1 d) (cond_within d (cond_in (expr_tree s e)) && (block_within (d - 1) b && block_within d rest)) (one_left d (omega (arith, l)))
        (and-true (cond_within d (cond_in (expr_tree s e))) (block_within (d - 1) b && block_within d rest) (condition_within r e k.0 q.0 d l)
        (and-true (block_within (d - 1) b) (block_within d rest) done.1 w))
    stmt_within r loops n (leave outwards at) rest g h d l w = w
    stmt_within r loops n (again outwards at) rest g h d l w = w
    stmt_within r loops n (back e at) rest g h d l w = plain_within d (site n at) (typed.give_back (returned_tree s e)) rest (returned_within r e g h d l) w
    stmt_within r loops n (suspend e at) rest g h d l w = w
    stmt_within r loops n (claim e by at) rest g h d l w = w

    pub body_within : (r : ℕ) (loops : List ℕ) (n : ℕ) (body : NamedBlockTree) → block_by_grammar body ≡ true → block_opens r body ≡ true → (d : ℕ) → 2 * r + 3 ≤ d → block_within d (block_tree s loops n body) ≡ true
    body_within r loops n (close at) g h d l = refl
    body_within r loops n (more_stmts first others) g h d l =
        let k = both (stmt_by_grammar first) (block_by_grammar others) g in
        let q = both (stmt_opens r first) (block_opens r others) h in
        stmt_within r loops n first (block_tree s loops (n + count_stmt first) others) k.0 q.0 d l (body_within r loops (n + count_stmt first) others k.1 q.1 d l)

    -- An `if` with what follows it.
    branch_within : (r : ℕ) (loops : List ℕ) (n : ℕ) (of : Site) (arms : NamedArmTrees) (rest : Block) → has_condition arms ≡ true → arms_by_grammar arms ≡ true → arms_open r arms ≡ true
        → (d : ℕ) → 2 * r + 3 ≤ d → block_within d rest ≡ true → block_within d (arms_tree s loops n of false arms rest) ≡ true
    branch_within r loops n of no_else rest c g h d l w = absurd (cc c)
    branch_within r loops n of (otherwise body) rest c g h d l w = absurd (cc c)
    branch_within r loops n of (arm e body others) rest c g h d l w =
        let k = both (by_grammar e) (block_by_grammar body && arms_by_grammar others) g in
        let inner = both (block_by_grammar body) (arms_by_grammar others) k.1 in
        let q = both (expr_opens alone r e) ((nat_le 1 r && block_opens (r - 1) body) && arms_open r others) h in
        let more = both (nat_le 1 r && block_opens (r - 1) body) (arms_open r others) q.1 in
        let a = block_tree s loops n body in
        let done = inside r d (block_opens (r - 1) body) a (body_within (r - 1) loops n body inner.0) more.0 l in
        choice d of false (cond_in (expr_tree s e)) a (arms_tree s loops (n + count_block body) of true others end) rest (omega (arith, l)) (condition_within r e k.0 q.0 d l) done.1
        (others_within r loops (n + count_block body) of others inner.1 more.1 d l) w

    others_within : (r : ℕ) (loops : List ℕ) (n : ℕ) (of : Site) (arms : NamedArmTrees) → arms_by_grammar arms ≡ true → arms_open r arms ≡ true → (d : ℕ) → 2 * r + 3 ≤ d
        → block_within (if is_chained (arms_tree s loops n of true arms end) then d else d - 1) (arms_tree s loops n of true arms end) ≡ true
    others_within r loops n of no_else g h d l = refl
    others_within r loops n of (otherwise body) g h d l =
        let a = block_tree s loops n body in
        chosen (is_chained a) d a (inside r d (block_opens (r - 1) body) a (body_within (r - 1) loops n body g) h l)
    others_within r loops n of (arm e body others) g h d l =
        let k = both (by_grammar e) (block_by_grammar body && arms_by_grammar others) g in
        let inner = both (block_by_grammar body) (arms_by_grammar others) k.1 in
        let q = both (expr_opens alone r e) ((nat_le 1 r && block_opens (r - 1) body) && arms_open r others) h in
        let more = both (nat_le 1 r && block_opens (r - 1) body) (arms_open r others) q.1 in
        let a = block_tree s loops n body in
        let done = inside r d (block_opens (r - 1) body) a (body_within (r - 1) loops n body inner.0) more.0 l in
        choice d of true (cond_in (expr_tree s e)) a (arms_tree s loops (n + count_block body) of true others end) end (omega (arith, l)) (condition_within r e k.0 q.0 d l) done.1
        (others_within r loops (n + count_block body) of others inner.1 more.1 d l) refl

-- ---- the package

methods_within : (p : NamedPackageTree) (n : ℕ) (ms : List NamedMethodTree) → list_all (λ m. block_by_grammar m.body) ms ≡ true → list_all (λ m. block_opens 47 m.body) ms ≡ true
    → list_all (λ m. block_within 97 m.body) (typed_methods p n ms) ≡ true
methods_within p n [] g h = refl
methods_within p n (m ∷ ms) g h =
    let k = both (block_by_grammar m.body) (list_all (λ (o : NamedMethodTree). block_by_grammar o.body) ms) g in
    let q = both (block_opens 47 m.body) (list_all (λ (o : NamedMethodTree). block_opens 47 o.body) ms) h in
    and-true (block_within 97 (block_tree (in_method p m) [] n m.body)) _ (body_within (in_method p m) 47 [] n m.body k.0 q.0 97 (omega arith)) (methods_within p (n + count_block m.body) ms k.1 q.1)

pub typing_keeps_depth : TypingKeepsDepth
unfolding typed_package
typing_keeps_depth p g h = methods_within p 0 p.methods g h
