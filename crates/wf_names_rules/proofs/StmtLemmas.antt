-- Walks over statements.
use Rattle.std.proofs.Common.{◌≡◌, ℕ, ◌+◌, ◌<◌, List, ◌∷◌, ◌++◌, length, drop, slice_index_or, Result, OnOk, sym, ap, ◌∙◌}
use Rattle.wf_text.specs.declared.faults.NoMemory.{NoMemory}
use Rattle.wf_text.specs.declared.place.Place.{Place}
use Rattle.wf_ast.specs.declared.numbers.StmtId.{StmtId}
use Rattle.wf_ast.specs.declared.parsed.Arm.{Arm}
use Rattle.wf_ast.specs.declared.parsed.LoopClause.{LoopClause}
use Rattle.wf_ast.specs.ParsedTree.{ExprTree, StmtTree, ArmTrees}
use Rattle.wf_ast.specs.ParsedTrees.{expr_at, stmt_at, items_at, block_at, arms_at, clauses_at}
use Rattle.wf_names_rules.specs.declared.seen.Seen.{Seen}
use Rattle.wf_names_rules.specs.Uses.{Use, uses_of, stmt_uses, block_uses, arm_uses, clause_uses}
use Rattle.wf_names_rules.specs.Meanings.{Known}
use Rattle.wf_names_rules.specs.Judged.{walked}
use Rattle.wf_names_rules.proofs.WalkLemmas.{walked-append, ok_same, drop-one}

-- What was seen after two walks, and after three.
module _ {X : Type 0} (k : Known) (seen next : Seen) where
  pub ok_append : (us vs : List Use) (r : Result X NoMemory) (x : Seen) → next ≡ walked k seen us
      → OnOk r (x ≡ walked k next vs) → OnOk r (x ≡ walked k seen (us ++ vs))
  ok_append us vs r x e h = ok_same r x (walked k next vs) (walked k seen (us ++ vs)) (ap (λ s. walked k s vs) e ∙ sym (walked-append k seen us vs)) h

  pub ok_append_more : (us vs ws : List Use) (r : Result X NoMemory) (x : Seen) → next ≡ walked k seen (us ++ vs)
      → OnOk r (x ≡ walked k next ws) → OnOk r (x ≡ walked k seen (us ++ (vs ++ ws)))
  ok_append_more us vs ws r x e h =
      let way : walked k next ws ≡ walked k seen (us ++ (vs ++ ws)) =
      ap (λ s. walked k s ws) (e ∙ walked-append k seen us vs) ∙ sym (walked-append k (walked k seen us) vs ws) ∙ sym (walked-append k seen us (vs ++ ws)) in
      ok_same r x (walked k next ws) (walked k seen (us ++ (vs ++ ws))) way h

module _ (k : Known) (seen next : Seen) where
  pub clause_step : (ts : List ExprTree) (cs : List LoopClause) (i : ℕ) (d : LoopClause) → i < length cs → next ≡ walked k seen (uses_of (expr_at ts (slice_index_or cs i d).condition))
      → walked k next (clause_uses (clauses_at ts (drop (i + 1) cs))) ≡ walked k seen (clause_uses (clauses_at ts (drop i cs)))
  clause_step ts cs i d h e =
      ap (λ s. walked k s (clause_uses (clauses_at ts (drop (i + 1) cs)))) e
      ∙ sym (walked-append k seen (uses_of (expr_at ts (slice_index_or cs i d).condition)) (clause_uses (clauses_at ts (drop (i + 1) cs))))
      ∙ sym (ap (λ xs. walked k seen (clause_uses (clauses_at ts xs))) (drop-one cs i d h))

  pub stmt_step : (ts : List StmtTree) (ss : List StmtId) (close : Place) (i : ℕ) (d : StmtId) → i < length ss → next ≡ walked k seen (stmt_uses (stmt_at ts (slice_index_or ss i d)))
      → walked k next (block_uses (items_at ts (drop (i + 1) ss) close)) ≡ walked k seen (block_uses (items_at ts (drop i ss) close))
  stmt_step ts ss close i d h e =
      ap (λ s. walked k s (block_uses (items_at ts (drop (i + 1) ss) close))) e
      ∙ sym (walked-append k seen (stmt_uses (stmt_at ts (slice_index_or ss i d))) (block_uses (items_at ts (drop (i + 1) ss) close)))
      ∙ sym (ap (λ xs. walked k seen (block_uses (items_at ts xs close))) (drop-one ss i d h))

  pub arm_step : (es : List ExprTree) (ts : List StmtTree) (arms : List Arm) (last : ArmTrees) (i : ℕ) (x : Arm) → x ≡ slice_index_or arms i x → i < length arms
      → next ≡ walked k seen (uses_of (expr_at es x.condition) ++ block_uses (block_at ts x.body))
      → walked k next (arm_uses (arms_at es ts (drop (i + 1) arms) last)) ≡ walked k seen (arm_uses (arms_at es ts (drop i arms) last))
  arm_step es ts arms last i x is h e =
      let rest = arm_uses (arms_at es ts (drop (i + 1) arms) last) in
      let condition = uses_of (expr_at es x.condition) in
      let body = block_uses (block_at ts x.body) in
      let split : drop i arms ≡ x ∷ drop (i + 1) arms = drop-one arms i x h ∙ ap (λ y. y ∷ drop (i + 1) arms) (sym is) in
      ap (λ s. walked k s rest) (e ∙ walked-append k seen condition body)
      ∙ sym (walked-append k (walked k seen condition) body rest) ∙ sym (walked-append k seen condition (body ++ rest))
      ∙ sym (ap (λ xs. walked k seen (arm_uses (arms_at es ts xs last))) split)
