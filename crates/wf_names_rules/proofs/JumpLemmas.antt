-- A walk past many jumps is a walk past the first of them, and then past the others.
use Rattle.std.proofs.Common.{◌≡◌, ℕ, ◌+◌, ◌<◌, List, [], ◌∷◌, ◌++◌, length, drop, slice_index_or, Option, refl, sym, ap, ◌∙◌}
use Rattle.wf_text.specs.declared.rules.Refusal.{Refusal}
use Rattle.wf_text.specs.declared.place.Place.{Place}
use Rattle.wf_ast.specs.declared.numbers.StmtId.{StmtId}
use Rattle.wf_ast.specs.declared.parsed.Arm.{Arm}
use Rattle.wf_ast.specs.declared.parsed.Name.{Name}
use Rattle.wf_ast.specs.ParsedTree.{ExprTree, StmtTree, ArmTrees}
use Rattle.wf_ast.specs.ParsedTrees.{stmt_at, items_at, block_at, arms_at}
use Rattle.wf_names_rules.specs.Jumps.{Jump, stmt_jumps, block_jumps, arm_jumps, jump_judged, jumped}
use Rattle.wf_names_rules.proofs.WalkLemmas.{drop-one}

pub jumped-append : (texts : List (List ℕ)) (found : Option Refusal) (js ks : List Jump) → jumped texts found (js ++ ks) ≡ jumped texts (jumped texts found js) ks
jumped-append texts found [] ks = refl
jumped-append texts found (j ∷ js) ks = jumped-append texts (jump_judged texts found j) js ks

module _ (texts : List (List ℕ)) (found next : Option Refusal) (loops : List (Option Name)) where
  pub stmt_jumps_step : (ts : List StmtTree) (ss : List StmtId) (close : Place) (i : ℕ) (d : StmtId) → i < length ss → next ≡ jumped texts found (stmt_jumps loops (stmt_at ts (slice_index_or ss i d)))
      → jumped texts next (block_jumps loops (items_at ts (drop (i + 1) ss) close)) ≡ jumped texts found (block_jumps loops (items_at ts (drop i ss) close))
  stmt_jumps_step ts ss close i d h e =
      ap (λ f. jumped texts f (block_jumps loops (items_at ts (drop (i + 1) ss) close))) e
      ∙ sym (jumped-append texts found (stmt_jumps loops (stmt_at ts (slice_index_or ss i d))) (block_jumps loops (items_at ts (drop (i + 1) ss) close)))
      ∙ sym (ap (λ xs. jumped texts found (block_jumps loops (items_at ts xs close))) (drop-one ss i d h))

  pub arm_jumps_step : (es : List ExprTree) (ts : List StmtTree) (arms : List Arm) (last : ArmTrees) (i : ℕ) (x : Arm) → x ≡ slice_index_or arms i x → i < length arms
      → next ≡ jumped texts found (block_jumps loops (block_at ts x.body))
      → jumped texts next (arm_jumps loops (arms_at es ts (drop (i + 1) arms) last)) ≡ jumped texts found (arm_jumps loops (arms_at es ts (drop i arms) last))
  arm_jumps_step es ts arms last i x is h e =
      let rest = arm_jumps loops (arms_at es ts (drop (i + 1) arms) last) in
      let split : drop i arms ≡ x ∷ drop (i + 1) arms = drop-one arms i x h ∙ ap (λ y. y ∷ drop (i + 1) arms) (sym is) in
      ap (λ f. jumped texts f rest) e ∙ sym (jumped-append texts found (block_jumps loops (block_at ts x.body)) rest)
      ∙ sym (ap (λ xs. jumped texts found (arm_jumps loops (arms_at es ts xs last))) split)
