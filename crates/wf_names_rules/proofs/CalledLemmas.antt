-- Walks that collect calls: what a walk past one list of uses and then another comes to.
use Rattle.std.proofs.Common.{◌≡◌, ℕ, ◌+◌, ◌<◌, List, [], ◌∷◌, ◌++◌, length, drop, slice_index_or, Result, OnOk, refl, sym, ap, ◌∙◌, subst}
use Rattle.std.specs.List.{flat_map}
use Rattle.wf_text.specs.declared.faults.NoMemory.{NoMemory}
use Rattle.wf_text.specs.declared.place.Place.{Place}
use Rattle.wf_ast.specs.declared.numbers.StmtId.{StmtId}
use Rattle.wf_ast.specs.declared.parsed.Arm.{Arm}
use Rattle.wf_ast.specs.declared.parsed.Given.{Given}
use Rattle.wf_ast.specs.declared.parsed.Link.{Link}
use Rattle.wf_ast.specs.declared.parsed.LoopClause.{LoopClause}
use Rattle.wf_ast.specs.declared.parsed.Name.{Name}
use Rattle.wf_ast.specs.declared.parsed.Prefix.{Prefix}
use Rattle.wf_ast.specs.declared.parsed.Prefix.TheVariants as prefixes
use Rattle.wf_ast.specs.declared.parsed.Receiver.{Receiver}
use Rattle.wf_ast.specs.declared.parsed.Receiver.TheVariants as receivers
use Rattle.wf_ast.specs.declared.parsed.WrittenMark.{WrittenMark}
use Rattle.wf_ast.specs.ParsedTree.{ExprTree, GivenTrees, TypeTree, StmtTree, ArmTrees, call}
use Rattle.wf_ast.specs.ParsedTrees.{expr_at, given_at, links_at, prefixed, all_prefixed, stmt_at, items_at, block_at, arms_at, clauses_at}
use Rattle.wf_names_rules.specs.Uses.{Use, method, uses_of, given_uses, link_uses, receiver_uses, type_uses, stmt_uses, block_uses, arm_uses, clause_uses}
use Rattle.wf_names_rules.specs.NodeUses.{prefix_uses}
use Rattle.wf_names_rules.specs.Meanings.{Known, callee_of}
use Rattle.wf_names_rules.proofs.WalkLemmas.{drop-one}
use Rattle.wf_names_rules.specs.Called.{with_callee, with_call, with_calls}

pub with_calls-append : (k : Known) (row : List ℕ) (us vs : List Use) → with_calls k row (us ++ vs) ≡ with_calls k (with_calls k row us) vs
with_calls-append k row [] vs = refl
with_calls-append k row (u ∷ us) vs = with_calls-append k (with_call k row u) us vs

-- A row that is the same.
pub ok_row : {X : Type 0} (r : Result X NoMemory) (x s t : List ℕ) → s ≡ t → OnOk r (x ≡ s) → OnOk r (x ≡ t)
ok_row r x s t e h = let P : List ℕ → Type 0 = λ u. OnOk r (x ≡ u) in subst P e h

module _ (k : Known) (row next : List ℕ) where
  -- A row after two walks, and after three.
  pub rows_append : (us vs : List Use) → next ≡ with_calls k row us → with_calls k next vs ≡ with_calls k row (us ++ vs)
  rows_append us vs e = ap (λ s. with_calls k s vs) e ∙ sym (with_calls-append k row us vs)

  pub row_append : {X : Type 0} (us vs : List Use) (r : Result X NoMemory) (x : List ℕ) → next ≡ with_calls k row us
      → OnOk r (x ≡ with_calls k next vs) → OnOk r (x ≡ with_calls k row (us ++ vs))
  row_append us vs r x e h = ok_row r x (with_calls k next vs) (with_calls k row (us ++ vs)) (rows_append us vs e) h

  pub row_append_more : {X : Type 0} (us vs ws : List Use) (r : Result X NoMemory) (x : List ℕ) → next ≡ with_calls k row (us ++ vs)
      → OnOk r (x ≡ with_calls k next ws) → OnOk r (x ≡ with_calls k row (us ++ (vs ++ ws)))
  row_append_more us vs ws r x e h =
      let way : with_calls k next ws ≡ with_calls k row (us ++ (vs ++ ws)) =
      ap (λ s. with_calls k s ws) (e ∙ with_calls-append k row us vs) ∙ sym (with_calls-append k (with_calls k row us) vs ws) ∙ sym (with_calls-append k row us (vs ++ ws)) in
      ok_row r x (with_calls k next ws) (with_calls k row (us ++ (vs ++ ws))) way h

  -- A call: its values, then its method. What it is made on calls nothing.
  pub row_call : (on : Receiver) (name : Name) (mark : WrittenMark) (gs : GivenTrees) (last : List ℕ) → next ≡ with_calls k row (given_uses gs)
      → last ≡ with_callee next (callee_of k (call on name mark gs)) → last ≡ with_calls k row (receiver_uses on ++ (given_uses gs ++ method (call on name mark gs) ∷ []))
  row_call on name mark gs last e own =
      let c = call on name mark gs in
      own ∙ rows_append (given_uses gs) (method c ∷ []) e ∙ on_nothing on (given_uses gs ++ method c ∷ [])
    where
      on_nothing : (on : Receiver) (us : List Use) → with_calls k row us ≡ with_calls k row (receiver_uses on ++ us)
      on_nothing (receivers.This at) us = refl
      on_nothing (receivers.Path path) us = refl

  -- Parts by their place in a list.
  pub row_given_step : (ts : List ExprTree) (gs : List Given) (i : ℕ) (d : Given) → i < length gs → next ≡ with_calls k row (uses_of (expr_at ts (slice_index_or gs i d).value))
      → with_calls k next (given_uses (given_at ts (drop (i + 1) gs))) ≡ with_calls k row (given_uses (given_at ts (drop i gs)))
  row_given_step ts gs i d h e =
      rows_append (uses_of (expr_at ts (slice_index_or gs i d).value)) (given_uses (given_at ts (drop (i + 1) gs))) e
      ∙ sym (ap (λ xs. with_calls k row (given_uses (given_at ts xs))) (drop-one gs i d h))

  pub row_link_step : (ts : List ExprTree) (ls : List Link) (i : ℕ) (d : Link) → i < length ls → next ≡ with_calls k row (uses_of (expr_at ts (slice_index_or ls i d).operand))
      → with_calls k next (link_uses (links_at ts (drop (i + 1) ls))) ≡ with_calls k row (link_uses (links_at ts (drop i ls)))
  row_link_step ts ls i d h e =
      rows_append (uses_of (expr_at ts (slice_index_or ls i d).operand)) (link_uses (links_at ts (drop (i + 1) ls))) e
      ∙ sym (ap (λ xs. with_calls k row (link_uses (links_at ts xs))) (drop-one ls i d h))

  pub row_prefix_step : (ts : List ExprTree) (ps : List Prefix) (i : ℕ) (d : Prefix) → i < length ps → next ≡ with_calls k row (prefix_uses ts (slice_index_or ps i d))
      → with_calls k next (flat_map (prefix_uses ts) (drop (i + 1) ps)) ≡ with_calls k row (flat_map (prefix_uses ts) (drop i ps))
  row_prefix_step ts ps i d h e =
      rows_append (prefix_uses ts (slice_index_or ps i d)) (flat_map (prefix_uses ts) (drop (i + 1) ps)) e
      ∙ sym (ap (λ xs. with_calls k row (flat_map (prefix_uses ts) xs)) (drop-one ps i d h))

  pub row_clause_step : (ts : List ExprTree) (cs : List LoopClause) (i : ℕ) (d : LoopClause) → i < length cs → next ≡ with_calls k row (uses_of (expr_at ts (slice_index_or cs i d).condition))
      → with_calls k next (clause_uses (clauses_at ts (drop (i + 1) cs))) ≡ with_calls k row (clause_uses (clauses_at ts (drop i cs)))
  row_clause_step ts cs i d h e =
      rows_append (uses_of (expr_at ts (slice_index_or cs i d).condition)) (clause_uses (clauses_at ts (drop (i + 1) cs))) e
      ∙ sym (ap (λ xs. with_calls k row (clause_uses (clauses_at ts xs))) (drop-one cs i d h))

  pub row_stmt_step : (ts : List StmtTree) (ss : List StmtId) (close : Place) (i : ℕ) (d : StmtId) → i < length ss → next ≡ with_calls k row (stmt_uses (stmt_at ts (slice_index_or ss i d)))
      → with_calls k next (block_uses (items_at ts (drop (i + 1) ss) close)) ≡ with_calls k row (block_uses (items_at ts (drop i ss) close))
  row_stmt_step ts ss close i d h e =
      rows_append (stmt_uses (stmt_at ts (slice_index_or ss i d))) (block_uses (items_at ts (drop (i + 1) ss) close)) e
      ∙ sym (ap (λ xs. with_calls k row (block_uses (items_at ts xs close))) (drop-one ss i d h))

  pub row_arm_step : (es : List ExprTree) (ts : List StmtTree) (arms : List Arm) (last : ArmTrees) (i : ℕ) (x : Arm) → x ≡ slice_index_or arms i x → i < length arms
      → next ≡ with_calls k row (uses_of (expr_at es x.condition) ++ block_uses (block_at ts x.body))
      → with_calls k next (arm_uses (arms_at es ts (drop (i + 1) arms) last)) ≡ with_calls k row (arm_uses (arms_at es ts (drop i arms) last))
  row_arm_step es ts arms last i x is h e =
      let rest = arm_uses (arms_at es ts (drop (i + 1) arms) last) in
      let condition = uses_of (expr_at es x.condition) in
      let body = block_uses (block_at ts x.body) in
      let split : drop i arms ≡ x ∷ drop (i + 1) arms = drop-one arms i x h ∙ ap (λ y. y ∷ drop (i + 1) arms) (sym is) in
      ap (λ s. with_calls k s rest) (e ∙ with_calls-append k row condition body)
      ∙ sym (with_calls-append k (with_calls k row condition) body rest) ∙ sym (with_calls-append k row condition (body ++ rest))
      ∙ sym (ap (λ xs. with_calls k row (arm_uses (arms_at es ts xs last))) split)

-- A type: what stands before its core, then the core.
prefixed_calls : (k : Known) (ts : List ExprTree) (row : List ℕ) (p : Prefix) (of : TypeTree)
    → with_calls k row (type_uses (prefixed ts p of)) ≡ with_calls k (with_calls k row (prefix_uses ts p)) (type_uses of)
prefixed_calls k ts row (prefixes.Slice at) of = refl
prefixed_calls k ts row (prefixes.Array length at) of = with_calls-append k row (uses_of (expr_at ts length)) (type_uses of)

pub type_calls : (k : Known) (ts : List ExprTree) (row : List ℕ) (ps : List Prefix) (core : TypeTree)
    → with_calls k (with_calls k row (flat_map (prefix_uses ts) ps)) (type_uses core) ≡ with_calls k row (type_uses (all_prefixed ts ps core))
type_calls k ts row [] core = refl
type_calls k ts row (p ∷ ps) core =
    ap (λ s. with_calls k s (type_uses core)) (with_calls-append k row (prefix_uses ts p) (flat_map (prefix_uses ts) ps))
    ∙ type_calls k ts (with_calls k row (prefix_uses ts p)) ps core ∙ sym (prefixed_calls k ts row p (all_prefixed ts ps core))
