-- Statements of a block and arms of an `if`, one after the other.
use Rattle.std.proofs.Common.{◌≡◌, ◌∙◌, refl, sym, ap, subst, ℕ, ◌+◌, ◌<◌, ◌≤◌, Bool, true, false, List, [], ◌∷◌, ◌++◌, length, drop, slice_index_or, Option, Some, None, nat_lt, arith, length-append}
use Rattle.std.specs.List.{list_all}
use Rattle.wf_text.specs.declared.place.Place.{Place}
use Rattle.wf_ast.specs.declared.numbers.ExprId.{ExprId}
use Rattle.wf_ast.specs.declared.numbers.StmtId.{StmtId}
use Rattle.wf_ast.specs.declared.parsed.Arm as parsed
use Rattle.wf_ast.specs.declared.parsed.Block as parsed_block
use Rattle.wf_ast.specs.declared.typed_code.Arm.{Arm}
use Rattle.wf_ast.specs.declared.typed_code.Block as typed_code
use Rattle.wf_ast.specs.declared.typed_nodes.TypedNodes.{TypedNodes}
use Rattle.wf_ast.specs.TypedTree.{ValueTree, Site, Block, end, choose}
use Rattle.wf_ast.specs.TypedTrees.{cond_in, tree_of, block_made, otherwise_made, if_made, stmt_makers, onto}
use Rattle.wf_ast.specs.TypedInvariant.{is_expr, block_below}
use Rattle.wf_ast.proofs.Arena.{both_true}
use Rattle.wf_named.specs.NamedParts.{NamedParts}
use Rattle.wf_named.specs.NamedTree.{NamedExprTree, NamedStmtTree, NamedArmTrees, no_else}
use Rattle.wf_named.specs.NamedTrees.{expr_at, stmt_at, items_at, block_at, else_at, arms_at}
use Rattle.wf_named.specs.Grammar.{has_condition}
use Rattle.wf_types_rules.specs.declared.settings.Setting.{Setting}
use Rattle.wf_types_exprs.proofs.ListLemmas.{drop-one}
use Rattle.wf_typed_tree.specs.ElaboratedExprs.{expr_tree}
use Rattle.wf_typed_tree.specs.ElaboratedStmts.{count_stmt, count_block, count_arms, stmt_tree, block_tree, arms_tree}
use Rattle.wf_typed_tree.proofs.NumberLemmas.{and-true}
use Rattle.wf_typed_tree.specs.Entries.{expr_entries, stmt_entries, block_entries, arms_entries}
use Rattle.wf_typed_exprs.specs.Growth.{AddsEntries}
use Rattle.wf_typed_exprs.specs.Right.{IsRight}
use Rattle.wf_typed_stmts.specs.Blocks.{arms_onto, arm_exists, StandsForArm, StandForArms, else_made}
use Rattle.wf_typed_stmts.specs.Right.{Known, IsRightStmt, IsRightBlock, AreRightArms}
use Rattle.wf_typed_stmts.specs.StmtGrowth.{GrowsStmts, Adds, IsBegun, StandsForStmt, StandsForBlock}
use Rattle.wf_typed_stmts.proofs.EntryLemmas.{EntriesTo, entries_to_next, entries_to_end}
use Rattle.wf_typed_stmts.proofs.GrowthLemmas.{below, less, all_more, expr_more, tree_kept, maker_kept, adds_more}
use Rattle.wf_typed_stmts.proofs.ListLemmas.{all_push}

-- Numbers of statements that are there.
pub ids_more : (m n : ℕ) → m ≤ n → (ss : List StmtId) → list_all (λ s. nat_lt s.0 m) ss ≡ true → list_all (λ s. nat_lt s.0 n) ss ≡ true
ids_more m n l ss h = all_more (λ (s : StmtId). nat_lt s.0 m) (λ s. nat_lt s.0 n) ss (λ s k. less s.0 n (let b = below s.0 m k in omega (arith, b, l))) h

-- Statements before a block.
abbrev pub onto_all : (StmtId → Block → Block) → List StmtId → Block → Block
onto_all look [] rest = rest
onto_all look (s ∷ ss) rest = look s (onto_all look ss rest)

onto_end : (look : StmtId → Block → Block) (ss : List StmtId) → block_made look ss ≡ onto_all look ss end
onto_end look [] = refl
onto_end look (s ∷ ss) = ap (look s) (onto_end look ss)

onto_push : (look : StmtId → Block → Block) (ss : List StmtId) (s : StmtId) (rest : Block) → onto_all look (ss ++ s ∷ []) rest ≡ onto_all look ss (look s rest)
onto_push look [] s rest = refl
onto_push look (x ∷ ss) s rest = ap (look x) (onto_push look ss s rest)

module _ (p q : TypedNodes) (g : GrowsStmts p q) where
  onto_kept : (ss : List StmtId) (rest : Block) → list_all (λ s. nat_lt s.0 (length p.stmts)) ss ≡ true → onto_all (onto (stmt_makers q)) ss rest ≡ onto_all (onto (stmt_makers p)) ss rest
  onto_kept [] rest h = refl
  onto_kept (s ∷ ss) rest h =
      let k = both_true (nat_lt s.0 (length p.stmts)) (list_all (λ s. nat_lt s.0 (length p.stmts)) ss) h in
      maker_kept p q g s k.0 (onto_all (onto (stmt_makers q)) ss rest) ∙ ap (onto (stmt_makers p) s) (onto_kept ss rest k.1)

  pub made_kept : (ss : List StmtId) → list_all (λ s. nat_lt s.0 (length p.stmts)) ss ≡ true → block_made (onto (stmt_makers q)) ss ≡ block_made (onto (stmt_makers p)) ss
  made_kept ss h = onto_end (onto (stmt_makers q)) ss ∙ onto_kept ss end h ∙ sym (onto_end (onto (stmt_makers p)) ss)

  pub arms_kept : (of : Site) (behind : Bool → Block → Block) (chained : Bool) (arms : List Arm) (rest : Block) → list_all (arm_exists p) arms ≡ true
      → arms_onto (tree_of q) (onto (stmt_makers q)) of chained arms behind rest ≡ arms_onto (tree_of p) (onto (stmt_makers p)) of chained arms behind rest
  arms_kept of behind chained [] rest h = refl
  arms_kept of behind chained (a ∷ arms) rest h =
      let k = both_true (arm_exists p a) (list_all (arm_exists p) arms) h in
      let l = both_true (is_expr p a.cond) (block_below (length p.stmts) a.body) k.0 in
      let c : cond_in (tree_of q a.cond) ≡ cond_in (tree_of p a.cond) = ap cond_in (tree_kept p q g a.cond l.0) in
      let b = made_kept a.body.items l.1 in
      let o = arms_kept of behind true arms end k.1 in
      ap (λ x. choose of chained x (block_made (onto (stmt_makers q)) a.body.items) (arms_onto (tree_of q) (onto (stmt_makers q)) of true arms behind end) rest) c
      ∙ ap (λ x. choose of chained (cond_in (tree_of p a.cond)) x (arms_onto (tree_of q) (onto (stmt_makers q)) of true arms behind end) rest) b
      ∙ ap (λ x. choose of chained (cond_in (tree_of p a.cond)) (block_made (onto (stmt_makers p)) a.body.items) x rest) o

  pub arms_exist : (arms : List Arm) → list_all (arm_exists p) arms ≡ true → list_all (arm_exists q) arms ≡ true
  arms_exist arms h =
      all_more (arm_exists p) (arm_exists q) arms
      (λ a k.
      let l = both_true (is_expr p a.cond) (block_below (length p.stmts) a.body) k in
      and-true (is_expr q a.cond) (block_below (length q.stmts) a.body) (expr_more p q g.exprs a.cond l.0) (ids_more (length p.stmts) (length q.stmts) g.stmts a.body.items l.1)) h

-- What the loop keeps over the statements of a block.
pub record StmtsMade (s : Setting) (k : Known) (loops : List ℕ) (named : NamedParts) (ts : List NamedStmtTree) (at : Place) (items : List StmtId) (i : ℕ) (p q : TypedNodes) (made : List StmtId) : Type 0 where
  pub adds : Adds loops p q
  pub begun : IsBegun named q
  pub there : list_all (λ s. nat_lt s.0 (length q.stmts)) made ≡ true
  pub count : length q.stmts + count_block (items_at ts (drop i items) at) ≡ length p.stmts + count_block (items_at ts items at)
  pub trees : onto_all (onto (stmt_makers q)) made (block_tree s loops (length q.stmts) (items_at ts (drop i items) at)) ≡ block_tree s loops (length p.stmts) (items_at ts items at)
  pub right : IsRightBlock s k (length loops) (items_at ts (drop i items) at)
  pub entries : EntriesTo p q (block_entries s (items_at ts (drop i items) at)) (block_entries s (items_at ts items at))

module _ (s : Setting) (k : Known) (loops : List ℕ) (named : NamedParts) (ts : List NamedStmtTree) (at : Place) where
  pub stmt_right : (items : List StmtId) (i : ℕ) (d : StmtId) → i < length items → IsRightBlock s k (length loops) (items_at ts (drop i items) at)
      → IsRightStmt s k (length loops) (stmt_at ts (slice_index_or items i d)) × IsRightBlock s k (length loops) (items_at ts (drop (i + 1) items) at)
  stmt_right items i d h r = let P : List StmtId → Type 0 = λ xs. IsRightBlock s k (length loops) (items_at ts xs at) in subst P (drop-one items i d h) r

  pub stmts_added : (items : List StmtId) (i : ℕ) (p q r : TypedNodes) (made : List StmtId) (d id : StmtId) → i < length items → StmtsMade s k loops named ts at items i p q made
      → Adds loops q r → IsBegun named r → StandsForStmt s loops (length q.stmts) (stmt_at ts (slice_index_or items i d)) r id → AddsEntries q r (stmt_entries s (stmt_at ts (slice_index_or items i d)))
      → StmtsMade s k loops named ts at items (i + 1) p r (made ++ id ∷ [])
  stmts_added items i p q r made d id h m g b is one =
      let x = stmt_at ts (slice_index_or items i d) in
      let others = items_at ts (drop (i + 1) items) at in
      let Q = onto (stmt_makers q) in
      let R = onto (stmt_makers r) in
      let rest = block_tree s loops (length q.stmts + count_stmt x) others in
      let split : count_block (items_at ts (drop i items) at) ≡ count_stmt x + count_block others = ap (λ xs. count_block (items_at ts xs at)) (drop-one items i d h) in
      let trees : onto_all R (made ++ id ∷ []) (block_tree s loops (length r.stmts) others) ≡ block_tree s loops (length p.stmts) (items_at ts items at) =
      ap (λ n. onto_all R (made ++ id ∷ []) (block_tree s loops n others)) is.count
      ∙ onto_push R made id rest
      ∙ ap (onto_all R made) (is.makes rest)
      ∙ onto_kept q r g.grows made (stmt_tree s loops (length q.stmts) x rest) m.there
      ∙ sym (ap (λ xs. onto_all Q made (block_tree s loops (length q.stmts) (items_at ts xs at))) (drop-one items i d h))
      ∙ m.trees in
      record {
        adds = adds_more loops p q r m.adds g;
        begun = b;
        there =
            all_push (λ (s : StmtId). nat_lt s.0 (length r.stmts)) made id (ids_more (length q.stmts) (length r.stmts) g.grows.stmts made m.there) (less id.0 (length r.stmts) is.there);
        count = omega (arith, is.count, m.count, split);
        trees = trees;
        right = (stmt_right items i d h m.right).1;
        entries =
            entries_to_next p q r (stmt_entries s x) (block_entries s others) (block_entries s (items_at ts (drop i items) at)) (block_entries s (items_at ts items at)) m.entries
            (ap (λ xs. block_entries s (items_at ts xs at)) (drop-one items i d h)) one;
      }

  pub stmts_entries : (items : List StmtId) (i : ℕ) (p q : TypedNodes) (made : List StmtId) → drop i items ≡ [] → StmtsMade s k loops named ts at items i p q made
      → AddsEntries p q (block_entries s (items_at ts items at))
  stmts_entries items i p q made over m =
      entries_to_end p q (block_entries s (items_at ts (drop i items) at)) (block_entries s (items_at ts items at)) m.entries (ap (λ xs. block_entries s (items_at ts xs at)) over)

  pub stmts_all_made : (items : List StmtId) (i : ℕ) (p q : TypedNodes) (made : List StmtId) → drop i items ≡ [] → StmtsMade s k loops named ts at items i p q made
      → StandsForBlock s loops (length p.stmts) (items_at ts items at) q (record { items = made })
  stmts_all_made items i p q made over m =
      let none : count_block (items_at ts (drop i items) at) ≡ 0 = ap (λ xs. count_block (items_at ts xs at)) over in
      record {
        below = m.there;
        count = omega (arith, m.count, none);
        makes =
            onto_end (onto (stmt_makers q)) made ∙ sym (ap (λ xs. onto_all (onto (stmt_makers q)) made (block_tree s loops (length q.stmts) (items_at ts xs at))) over)
            ∙ m.trees;
      }

-- Arms before what stands after them.
module _ (look : ExprId → ValueTree) (inner : StmtId → Block → Block) (of : Site) where
  arms_push : (behind : Bool → Block → Block) (a : Arm) (chained : Bool) (arms : List Arm) (rest : Block)
      → arms_onto look inner of chained (arms ++ a ∷ []) behind rest ≡ arms_onto look inner of chained arms (λ b m. choose of b (cond_in (look a.cond)) (block_made inner a.body.items) (behind true end) m) rest
  arms_push behind a chained [] rest = refl
  arms_push behind a chained (x ∷ arms) rest =
      ap (λ o. choose of chained (cond_in (look x.cond)) (block_made inner x.body.items) o rest) (arms_push behind a true arms end)

  pub arms_same : (f g : Bool → Block → Block) → ((b : Bool) (m : Block) → f b m ≡ g b m) → (chained : Bool) (arms : List Arm) (rest : Block)
      → arms_onto look inner of chained arms f rest ≡ arms_onto look inner of chained arms g rest
  arms_same f g each chained [] rest = each chained rest
  arms_same f g each chained (x ∷ arms) rest = ap (λ o. choose of chained (cond_in (look x.cond)) (block_made inner x.body.items) o rest) (arms_same f g each true arms end)

  otherwise_onto : (arms : List Arm) (other : Option typed_code.Block) → otherwise_made look inner of arms other ≡ arms_onto look inner of true arms (λ b m. else_made inner other) end
  otherwise_onto [] None = refl
  otherwise_onto [] (Some b) = refl
  otherwise_onto (a ∷ arms) other = ap (λ o. choose of true (cond_in (look a.cond)) (block_made inner a.body.items) o end) (otherwise_onto arms other)

  pub if_onto : (arms : List Arm) (other : Option typed_code.Block) (rest : Block) → 0 < length arms → if_made look inner of arms other rest ≡ arms_onto look inner of false arms (λ b m. else_made inner other) rest
  if_onto [] other rest h = absurd (omega (arith, h))
  if_onto (a ∷ arms) other rest h = ap (λ o. choose of false (cond_in (look a.cond)) (block_made inner a.body.items) o rest) (otherwise_onto arms other)

-- What the loop keeps over the arms of an `if`.
pub record ArmsMade (s : Setting) (k : Known) (loops : List ℕ) (named : NamedParts) (es : List NamedExprTree) (ts : List NamedStmtTree) (arms : List parsed.Arm) (i : ℕ) (p q : TypedNodes) (made : List Arm) : Type 0 where
  pub adds : Adds loops p q
  pub begun : IsBegun named q
  pub there : list_all (arm_exists q) made ≡ true
  pub count : (last : NamedArmTrees) → length q.stmts + count_arms (arms_at es ts (drop i arms) last) ≡ length p.stmts + count_arms (arms_at es ts arms last)
  pub makes : (of : Site) (chained : Bool) (last : NamedArmTrees) (rest : Block)
      → arms_onto (tree_of q) (onto (stmt_makers q)) of chained made (λ behind more. arms_tree s loops (length q.stmts) of behind (arms_at es ts (drop i arms) last) more) rest
      ≡ arms_tree s loops (length p.stmts) of chained (arms_at es ts arms last) rest
  pub right : AreRightArms s k (length loops) (arms_at es ts (drop i arms) no_else)
  pub entries : EntriesTo p q (arms_entries s (arms_at es ts (drop i arms) no_else)) (arms_entries s (arms_at es ts arms no_else))
  pub long : length made ≡ i

module _ (s : Setting) (k : Known) (loops : List ℕ) (named : NamedParts) (es : List NamedExprTree) (ts : List NamedStmtTree) where
  module _ (arms : List parsed.Arm) (i : ℕ) (x : parsed.Arm) (item : x ≡ slice_index_or arms i x) (h : i < length arms) where
    split : drop i arms ≡ x ∷ drop (i + 1) arms
    split = drop-one arms i x h ∙ ap (λ y. y ∷ drop (i + 1) arms) (sym item)

    pub arm_right : AreRightArms s k (length loops) (arms_at es ts (drop i arms) no_else)
        → IsRight s k.statuses (expr_at es x.condition) × (IsRightBlock s k (length loops) (block_at ts x.body) × AreRightArms s k (length loops) (arms_at es ts (drop (i + 1) arms) no_else))
    arm_right r = let P : List parsed.Arm → Type 0 = λ xs. AreRightArms s k (length loops) (arms_at es ts xs no_else) in subst P split r

    pub arms_added : (p q r : TypedNodes) (made : List Arm) (a : Arm) → ArmsMade s k loops named es ts arms i p q made → Adds loops q r → IsBegun named r
        → StandsForArm s loops (length q.stmts) (expr_at es x.condition) (block_at ts x.body) r a
        → AddsEntries q r (expr_entries s (expr_at es x.condition) ++ block_entries s (block_at ts x.body)) → ArmsMade s k loops named es ts arms (i + 1) p r (made ++ a ∷ [])
    arms_added p q r made a m g b is added =
        let Q = onto (stmt_makers q) in
        let R = onto (stmt_makers r) in
        let here : (last : NamedArmTrees) → count_arms (arms_at es ts (drop i arms) last) ≡ count_block (block_at ts x.body) + count_arms (arms_at es ts (drop (i + 1) arms) last) =
        λ last. ap (λ xs. count_arms (arms_at es ts xs last)) split in
        let makes : (of : Site) (chained : Bool) (last : NamedArmTrees) (rest : Block)
        → arms_onto (tree_of r) R of chained (made ++ a ∷ []) (λ behind more. arms_tree s loops (length r.stmts) of behind (arms_at es ts (drop (i + 1) arms) last) more) rest
        ≡ arms_tree s loops (length p.stmts) of chained (arms_at es ts arms last) rest =
        λ of chained last rest.
        let others = arms_at es ts (drop (i + 1) arms) last in
        let F : Bool → Block → Block = λ behind more. arms_tree s loops (length q.stmts) of behind (arms_at es ts (drop i arms) last) more in
        let K : Bool → Block → Block = λ behind more. arms_tree s loops (length r.stmts) of behind others more in
        let one : (b : Bool) (m : Block) → choose of b (cond_in (tree_of r a.cond)) (block_made R a.body.items) (K true end) m ≡ F b m =
        λ b m.
        ap (λ t. choose of b (cond_in t) (block_made R a.body.items) (K true end) m) is.cond
        ∙ ap (λ t. choose of b (cond_in (expr_tree s (expr_at es x.condition))) t (K true end) m) is.block
        ∙ ap (λ n. choose of b (cond_in (expr_tree s (expr_at es x.condition))) (block_tree s loops (length q.stmts) (block_at ts x.body)) (arms_tree s loops n of true others end) m) is.count
        ∙ sym (ap (λ xs. arms_tree s loops (length q.stmts) of b (arms_at es ts xs last) m) split) in
        arms_push (tree_of r) R of K a chained made rest
        ∙ arms_same (tree_of r) R of (λ b m. choose of b (cond_in (tree_of r a.cond)) (block_made R a.body.items) (K true end) m) F one chained made rest
        ∙ arms_kept q r g.grows of F chained made rest m.there
        ∙ m.makes of chained last rest in
        record {
          adds = adds_more loops p q r m.adds g;
          begun = b;
          there = all_push (arm_exists r) made a (arms_exist q r g.grows made m.there) is.below;
          count = λ last. let e = m.count last in let f = here last in omega (arith, e, f, is.count);
          makes = makes;
          right = (arm_right m.right).1.1;
          entries =
              entries_to_next p q r (expr_entries s (expr_at es x.condition) ++ block_entries s (block_at ts x.body)) (arms_entries s (arms_at es ts (drop (i + 1) arms) no_else))
              (arms_entries s (arms_at es ts (drop i arms) no_else)) (arms_entries s (arms_at es ts arms no_else)) m.entries (ap (λ xs. arms_entries s (arms_at es ts xs no_else)) split) added;
          long = omega (arith, m.long, length-append made (a ∷ []));
        }

  pub arms_entries_made : (arms : List parsed.Arm) (i : ℕ) (p q : TypedNodes) (made : List Arm) → drop i arms ≡ [] → ArmsMade s k loops named es ts arms i p q made
      → AddsEntries p q (arms_entries s (arms_at es ts arms no_else))
  arms_entries_made arms i p q made over m =
      entries_to_end p q (arms_entries s (arms_at es ts (drop i arms) no_else)) (arms_entries s (arms_at es ts arms no_else)) m.entries (ap (λ xs. arms_entries s (arms_at es ts xs no_else)) over)

  pub arms_all_made : (arms : List parsed.Arm) (i : ℕ) (p q : TypedNodes) (made : List Arm) → drop i arms ≡ [] → i ≡ length arms → ArmsMade s k loops named es ts arms i p q made
      → StandForArms s loops (length p.stmts) es ts arms q made
  arms_all_made arms i p q made over count m = record {
    below = m.there;
    count = λ last. sym (ap (λ xs. length q.stmts + count_arms (arms_at es ts xs last)) over) ∙ m.count last;
    makes =
        λ of chained last rest.
        sym (ap (λ xs. arms_onto (tree_of q) (onto (stmt_makers q)) of chained made (λ behind more. arms_tree s loops (length q.stmts) of behind (arms_at es ts xs last) more) rest) over)
        ∙ m.makes of chained last rest;
    some = omega (arith, m.long, count);
  }

-- An `if` has an arm.
pub has_arm : (es : List NamedExprTree) (ts : List NamedStmtTree) (arms : List parsed.Arm) (other : Option parsed_block.Block) → has_condition (arms_at es ts arms (else_at ts other)) ≡ true → 0 < length arms
has_arm es ts [] None h = absurd (cc h)
has_arm es ts [] (Some b) h = absurd (cc h)
has_arm es ts (a ∷ arms) other h = omega arith
